use Rattle.core_bytes.proofs.SizesKept.{sized_kept}
use Rattle.core_bytes.proofs.laws.files_have_their_sizes.Goals as goal

pub returns : goal.returns
returns c = sized_kept
