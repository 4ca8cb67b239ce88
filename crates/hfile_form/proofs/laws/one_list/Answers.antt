use Rattle.hfile_form.proofs.FileLaws.{one_list}
use Rattle.hfile_form.proofs.laws.one_list.Goals as goal

pub returns : goal.returns
returns c = one_list
