use Rattle.std.proofs.Common.{refl}
use Rattle.hfile_meta.proofs.info.read_info.Goals as goal

pub returns-in_default : goal.returns-in_default
returns-in_default c = (refl, λ pairs is. c.in_ok-pairs.ensures.none c.in_default.is pairs is)
