use Rattle.std.proofs.Common.{sym, subst}
use Rattle.hb_names.specs.Place.{IsPlace}
use Rattle.hb_layout.specs.Spot.{Live}
use Rattle.hb_layout.proofs.LawfulLemmas.{IsPlace-place_text}
use Rattle.hb_layout.proofs.base.live.Goals as goal

pub from_blob-requires : goal.from_blob-requires
from_blob-requires c = subst IsPlace (sym c.in_ok-text_below.ensures.text) (IsPlace-place_text (Live c.args.base.now) c.in_ok-text_below.ensures.spelled)
