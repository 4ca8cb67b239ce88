-- Files in the directories of a region, by their places.
use Rattle.std.specs.Prelude.{◌≡◌, ◌⊎◌, ℕ, true, List, [], ◌∷◌, ◌++◌, codes}
use Rattle.std.specs.List.{join_with_byte}
use Rattle.std.specs.FinMap.{contains_key}
use Rattle.ns_tree.specs.Places.{is_below}
use Rattle.plain_model.specs.declared.region_key.RegionKey.{RegionKey}
use Rattle.core_sites.specs.Shows.{HasSite}
use Rattle.core_places.specs.Places.{Places}

-- the directories of a region: of the files that it uses, and in the archive
abbrev pub data_place : RegionKey → List ℕ
data_place r = join_with_byte 47 (codes "data" ∷ codes "default" ∷ r.table ∷ r.region ∷ [])

abbrev pub archive_place : RegionKey → List ℕ
archive_place r = join_with_byte 47 (codes "archive" ∷ codes "data" ∷ codes "default" ∷ r.table ∷ r.region ∷ [])

-- each place is that of a site
abbrev pub AreOfSites : Places → Type 0
AreOfSites places = (place : List ℕ) → contains_key places place ≡ true → HasSite place

-- a file stands below a directory
pub record HasBelow (places : Places) (dir : List ℕ) : Type 0 where
  pub place : List ℕ
  pub stands : contains_key places place ≡ true
  pub below : is_below dir place ≡ true

-- a file stands below one of a region's directories
abbrev pub HasFilesOf : Places → RegionKey → Type 0
HasFilesOf places r = HasBelow places (data_place r) ⊎ HasBelow places (archive_place r)

-- the least text that a place below a directory may have: no byte of a place's components is less than -
abbrev pub least_below : List ℕ → List ℕ
least_below dir = dir ++ codes "/-"
