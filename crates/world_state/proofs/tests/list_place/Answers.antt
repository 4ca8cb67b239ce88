use Rattle.std.proofs.Common.{◌∙◌, sym, subst}
use Rattle.hb_names.specs.Place.{IsPlace}
use Rattle.hb_layout.specs.Spot as layout
use Rattle.hb_layout.proofs.LawfulLemmas.{IsPlace-place_text}
use Rattle.core_model.specs.Site.{StoreList}
use Rattle.world_state.proofs.tests.list_place.Goals as goal

pub from_blob-requires : goal.from_blob-requires
from_blob-requires c = subst IsPlace (sym c.in_ok-list_text.ensures.text) (IsPlace-place_text (layout.StoreList c.args.region.now.table c.args.region.now.region 1) c.in_ok-list_text.ensures.spelled)

pub returns : goal.returns
returns c = record { site = StoreList c.args.region.now.table c.args.region.now.region 1; spelled = c.in_ok-list_text.ensures.spelled; text = sym (c.from_blob.ensures ∙ c.in_ok-list_text.ensures.text) }
