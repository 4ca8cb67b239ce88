use Rattle.std.proofs.Common.{sym, subst}
use Rattle.hb_names.specs.Place.{IsPlace}
use Rattle.hb_layout.specs.Spot.{Tmp}
use Rattle.hb_layout.proofs.LawfulLemmas.{IsPlace-place_text}
use Rattle.core_places.proofs.texts.tmp_place.Goals as goal

pub from_blob-requires : goal.from_blob-requires
from_blob-requires c = subst IsPlace (sym c.in_ok-tmp_text.ensures.text) (IsPlace-place_text (Tmp c.args.name.now) c.in_ok-tmp_text.ensures.spelled)
