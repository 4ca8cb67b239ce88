use Rattle.std.specs.Prelude.{ℕ, List, [], ◌∷◌, ◌++◌, codes}
use Rattle.std.specs.Fmt.{decimal}
use Rattle.std.specs.List.{join_with_byte}
use Rattle.hb_file_names.specs.FileParts.{sixteen_digits}
use Rattle.hb_layout.specs.declared.base.Base.{Base}

-- a link or a reference, by where it stands: a table, a region, a family, and its name
pub record Pointer : Type 0 where
  pub table : List ℕ
  pub region : List ℕ
  pub family : List ℕ
  pub name : List ℕ

-- a file of the store by what it is
pub data Spot : Type 0 where
  -- the empty file of an opening
  Epoch : ℕ → Spot
  -- work in progress, by its file name
  Tmp : List ℕ → Spot
  -- a table's region set of this number
  RegionSet : List ℕ → ℕ → Spot
  -- a table's region's store list of this number
  StoreList : List ℕ → List ℕ → ℕ → Spot
  -- a file in the directory of its family
  Live : Base → Spot
  -- a link or a reference there
  Pointing : Pointer → Spot
  -- a file in the archive
  Archived : Base → Spot
  -- the back reference to a file, by its text
  BackRefTo : Base → List ℕ → Spot
  -- the two files of a completed snapshot, by its name
  Info : List ℕ → Spot
  Manifest : List ℕ → Spot
  -- the same while it is made
  WorkInfo : List ℕ → Spot
  WorkManifest : List ℕ → Spot
  -- a file that waits in a folder to be loaded into a family
  Staged : List ℕ → List ℕ → List ℕ → Spot

-- the components of a base below its root
abbrev pub base_path : Base → List (List ℕ)
base_path base = base.table ∷ base.region ∷ base.family ∷ base.name ∷ []

-- the components of a spot's place
abbrev pub path : Spot → List (List ℕ)
path (Epoch number) = codes ".epoch" ∷ sixteen_digits number ∷ []
path (Tmp name) = codes ".tmp" ∷ name ∷ []
path (RegionSet table number) = codes "data" ∷ codes "default" ∷ table ∷ codes ".regions" ∷ decimal number ∷ []
path (StoreList table region number) = codes "data" ∷ codes "default" ∷ table ∷ region ∷ codes ".filelist" ∷ decimal number ∷ []
path (Live base) = codes "data" ∷ codes "default" ∷ base_path base
path (Pointing pointer) =
    codes "data" ∷ codes "default" ∷ pointer.table ∷ pointer.region ∷ pointer.family ∷ pointer.name ∷ []
path (Archived base) = codes "archive" ∷ codes "data" ∷ codes "default" ∷ base_path base
path (BackRefTo base text) =
    codes "archive" ∷ codes "data" ∷ codes "default" ∷ base.table ∷ base.region ∷ base.family ∷ (codes ".links-" ++ base.name) ∷ text ∷ []
path (Info name) = codes ".hbase-snapshot" ∷ name ∷ codes ".snapshotinfo" ∷ []
path (Manifest name) = codes ".hbase-snapshot" ∷ name ∷ codes "data.manifest" ∷ []
path (WorkInfo name) = codes ".hbase-snapshot" ∷ codes ".tmp" ∷ name ∷ codes ".snapshotinfo" ∷ []
path (WorkManifest name) = codes ".hbase-snapshot" ∷ codes ".tmp" ∷ name ∷ codes "data.manifest" ∷ []
path (Staged folder family name) = codes "staging" ∷ folder ∷ family ∷ name ∷ []

-- a spot's place as a text: its components with / between each two, whose code is 47
abbrev pub place_text : Spot → List ℕ
place_text spot = join_with_byte 47 (path spot)
