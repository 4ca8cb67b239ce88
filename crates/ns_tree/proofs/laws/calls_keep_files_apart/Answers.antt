use Rattle.ns_tree.proofs.CallLaws.{HasNoFileBelowAFile-step}
use Rattle.ns_tree.proofs.laws.calls_keep_files_apart.Goals as goal

pub returns : goal.returns
returns c = HasNoFileBelowAFile-step
