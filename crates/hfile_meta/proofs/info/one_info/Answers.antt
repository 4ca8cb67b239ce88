use Rattle.hfile_meta.proofs.Infos.{one_info}
use Rattle.hfile_meta.proofs.info.one_info.Goals as goal

pub returns : goal.returns
returns c = one_info
