use Rattle.core_sound.proofs.HoldsFound.{holds_apart}
use Rattle.core_sound.proofs.laws.holds_stand_apart.Goals as goal

pub returns : goal.returns
returns c = λ s a b h k i x y n. holds_apart s.plain.live a b h k i.apart x y n
