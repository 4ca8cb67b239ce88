-- What a core is made of.
use Rattle.std.specs.Prelude.{◌≡◌, ◌↔◌, ℕ, true, List, map, unwrap_or}
use Rattle.std.specs.FinMap.{contains_key, from_entries}
use Rattle.cell_sight.specs.Member.{Member}
use Rattle.ns_tree.specs.Tree.{Tree}
use Rattle.core_model.specs.declared.found.Found.{Found}
use Rattle.core_model.specs.declared.opening.Opening.{Opening}
use Rattle.core_model.specs.Opened.{blank}
use Rattle.core_sites.specs.Shows.{HasSite}
use Rattle.core_places.specs.Places.{Places}

-- the tree of an opening: what the store tells, else empty files at the places that were found
abbrev pub tree_of : Opening → Tree
tree_of o = unwrap_or o.tree (blank o.found.places)

abbrev pub places_in : List (List ℕ) → Places
places_in places = from_entries (map (λ (place : List ℕ). (place, tt)) places)

-- what was found is the opening's; its places are those of all files, each that of a site
pub record HasFound (o : Opening) (f : Found) : Type 0 where
  pub same : o.found ≡ f
  pub places : (place : List ℕ) → (contains_key (tree_of o) place ≡ true) ↔ Member place f.places
  pub sites : (place : List ℕ) → Member place f.places → HasSite place
