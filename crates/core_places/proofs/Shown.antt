-- The places of what a tree shows are those of the tree's files.
use Rattle.std.proofs.Common.{◌≡◌, Bool, true, false, ℕ, List, refl, sym, ap, ◌∙◌}
use Rattle.std.specs.Prelude.{is_some}
use Rattle.std.specs.FinMap.{contains_key, get}
use Rattle.ns_tree.specs.Tree.{Tree}
use Rattle.core_model.specs.Disk.{Disk}
use Rattle.core_sites.specs.Shows.{HasSite, Shows}
use Rattle.core_sites.proofs.Regular.{spelled_regular}
use Rattle.core_sites.proofs.Shown.{shown}
use Rattle.core_places.specs.Laws.{ShowsPlaces}
use Rattle.core_places.specs.Places.{ArePlaces, Places}

at_site : (t : Tree) (d : Disk) (m : Places) → Shows t d → ArePlaces m d → (place : List ℕ) → HasSite place → contains_key m place ≡ contains_key t place
at_site t d m s h place w =
    let k = spelled_regular w.site w.spelled in
    ap (contains_key m) (sym w.text) ∙ h.at w.site k ∙ ap is_some (sym (s.at w.site) ∙ shown t w.site k) ∙ ap (λ x. is_some (get t x)) w.text

pub places_shown : (t : Tree) (d : Disk) (m : Places) → ShowsPlaces t d m
places_shown t d m s h place = by (contains_key m place) (contains_key t place) refl refl
  where
    by : (a b : Bool) → contains_key m place ≡ a → contains_key t place ≡ b → contains_key m place ≡ contains_key t place
    by true b e i = at_site t d m s h place (h.sites place e)
    by false true e i = at_site t d m s h place (s.sites place i)
    by false false e i = e ∙ sym i
