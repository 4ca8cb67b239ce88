-- What holds of the places of files.
use Rattle.std.specs.Prelude.{◌≡◌, ◌↔◌, ℕ, List}
use Rattle.std.specs.FinMap.{contains_key}
use Rattle.ns_tree.specs.Tree.{Tree}
use Rattle.plain_model.specs.declared.region_key.RegionKey.{RegionKey}
use Rattle.core_model.specs.Disk.{Disk, Op, disk_after}
use Rattle.core_model.specs.Entries.{IsKey}
use Rattle.core_model.specs.StartGuards.{StandsBelow}
use Rattle.core_sites.specs.Shows.{MakesSpelled, Shows, WorksOn}
use Rattle.core_places.specs.Below.{HasFilesOf}
use Rattle.core_places.specs.Places.{ArePlaces, IsOfFiles, Places, places_by}

abbrev pub KeepsPlaces : Op → Disk → Places → Type 0
KeepsPlaces o disk places = IsOfFiles o → MakesSpelled o → WorksOn o disk → ArePlaces places disk → ArePlaces (places_by o places) (disk_after o disk)

-- a place has a file by the places where it has one in the tree
abbrev pub ShowsPlaces : Tree → Disk → Places → Type 0
ShowsPlaces tree disk places = Shows tree disk → ArePlaces places disk → (place : List ℕ) → contains_key places place ≡ contains_key tree place

-- the files of a region stand at the places below its directories, and no others do
abbrev pub TellsRegion : RegionKey → Disk → Places → Type 0
TellsRegion r disk places = IsKey r → ArePlaces places disk → (HasFilesOf places r ↔ StandsBelow disk r)
