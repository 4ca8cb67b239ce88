-- The files of a store as the core tells them apart: what stands in the directory of a family, a file, a link or a reference,
-- is told by its directory and its name.
use Rattle.std.specs.Prelude.{ℕ, Bool, not, ◌||◌, ◌==◌, cond, List}
use Rattle.std.specs.List.{list_any}
use Rattle.hb_layout.specs.declared.base.Base.{Base}
use Rattle.hb_layout.specs.Spot as layout

pub data Site : Type 0 where
  -- the empty file of an opening
  Epoch : ℕ → Site
  -- work in progress, by its file name
  Tmp : List ℕ → Site
  -- a table's region set of this number
  RegionSet : List ℕ → ℕ → Site
  -- a table's region's store list of this number
  StoreList : List ℕ → List ℕ → ℕ → Site
  -- a file, a link or a reference in the directory of its family
  Live : Base → Site
  -- a file in the archive
  Archived : Base → Site
  -- the back reference to a file, by its text
  BackRefTo : Base → List ℕ → Site
  -- the two files of a completed snapshot, by its name
  Info : List ℕ → Site
  Manifest : List ℕ → Site
  -- the same while it is made
  WorkInfo : List ℕ → Site
  WorkManifest : List ℕ → Site
  -- a file that waits in a folder to be loaded into a family
  Staged : List ℕ → List ℕ → List ℕ → Site

-- whether a name in a family's directory is a store file's: neither a link's, which has =, nor a reference's, which has a dot
abbrev pub is_store_name : List ℕ → Bool
is_store_name name = not (list_any (λ byte. (byte == 61) || (byte == 46)) name)

-- a link or a reference, by where it stands
abbrev pub pointer_at : Base → layout.Pointer
pointer_at b = record { table = b.table; region = b.region; family = b.family; name = b.name }

-- where the layout of a store has it
abbrev pub spot_of : Site → layout.Spot
spot_of (Epoch n) = layout.Epoch n
spot_of (Tmp name) = layout.Tmp name
spot_of (RegionSet table n) = layout.RegionSet table n
spot_of (StoreList table region n) = layout.StoreList table region n
spot_of (Live b) = cond (is_store_name b.name) (layout.Live b) (layout.Pointing (pointer_at b))
spot_of (Archived b) = layout.Archived b
spot_of (BackRefTo b text) = layout.BackRefTo b text
spot_of (Info name) = layout.Info name
spot_of (Manifest name) = layout.Manifest name
spot_of (WorkInfo name) = layout.WorkInfo name
spot_of (WorkManifest name) = layout.WorkManifest name
spot_of (Staged folder family name) = layout.Staged folder family name

-- the components of its place, and the place's text
abbrev pub site_path : Site → List (List ℕ)
site_path p = layout.path (spot_of p)

abbrev pub site_text : Site → List ℕ
site_text p = layout.place_text (spot_of p)
