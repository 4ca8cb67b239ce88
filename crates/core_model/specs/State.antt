-- The state that the entries of a journal lead to, by its parts.
use Rattle.std.specs.Prelude.{ℕ, Bool, List, [], Option}
use Rattle.hb_cell.specs.declared.cell.Cell.{Cell}
use Rattle.hb_layout.specs.declared.base.Base.{Base}
use Rattle.region_set.specs.declared.region_set.RegionSet.{RegionSet}
use Rattle.plain_model.specs.declared.region_key.RegionKey.{RegionKey}
use Rattle.plain_model.specs.Names.{Names}
use Rattle.plain_model.specs.Plain.{Plain}
use Rattle.core_model.specs.declared.entry.Entry.{Entry}
use Rattle.core_model.specs.declared.plan.Plan.{Plan}
use Rattle.core_model.specs.declared.recipe.Recipe.{Recipe}
use Rattle.core_model.specs.declared.region_files.RegionFiles.{RegionFiles}
use Rattle.core_model.specs.declared.snapshot.Snapshot.{Snapshot}
use Rattle.core_model.specs.declared.targets.MoveFrom.{MoveFrom}
use Rattle.core_model.specs.Disk.{Disk}
use Rattle.core_model.specs.Entries.{Made}

-- by which actor a temporary file was written, of what, and with which cells
pub record Written : Type 0 where
  pub by : ℕ
  pub recipe : Recipe
  pub cells : List Cell

-- the entries that an actor pinned of a region, and whether it has committed no list there since
pub record Pinned : Type 0 where
  pub region : RegionKey
  pub entries : List Entry
  pub fresh : Bool

-- the cells of the files that wait to be loaded, by folder, family and name
abbrev pub StagedCells : Type 0
StagedCells = List ℕ → List ℕ → List ℕ → Option (List Cell)

-- a file that an actor placed, and where it came from
pub record Placed : Type 0 where
  pub base : Base
  pub from : MoveFrom

-- the parts of its snapshot's manifest that an actor has written, and whether it has completed the snapshot
pub record Parted : Type 0 where
  pub info : Bool
  pub manifest : Bool
  pub done : Bool

-- a cleaner's pass: its actor and moment, the snapshots still to be read, the bases of those that were read, and those that
-- gained a name since it began
pub record Pass : Type 0 where
  pub actor : ℕ
  pub moment : ℕ
  pub unread : List (List ℕ)
  pub read : Base → Bool
  pub touched : Base → Bool

-- a plan of nothing
abbrev pub no_plan : Plan
no_plan = record { regions = []; entries = [] }

pub record Parts : Type 0 where
  -- whether the store tells its tree; what stands where in it (of a store that does not tell: empty files where files stand),
  -- and what stood there at the opening
  pub told : Bool
  pub disk : Disk
  pub opened : Disk
  -- the cells of the files that waited then to be loaded
  pub staged : StagedCells
  -- the number of the opening, and the time to live of archived files
  pub epoch : ℕ
  pub ttl : ℕ
  -- how many file names and region ids were drawn, and how many actors have begun
  pub files : ℕ
  pub ids : ℕ
  pub begun : ℕ
  -- the regions whose names were drawn
  pub drawn : List RegionKey
  -- the cells of each base's file, which longer journals do not change
  pub made : Made
  -- the size of each base's file
  pub sizes : Base → Option ℕ
  -- what each temporary file was written of
  pub written : List ℕ → Option Written
  -- the newest list of each region, and the entries that compactions have dropped from it
  pub lists : RegionKey → RegionFiles
  pub compacted : RegionKey → List Entry
  -- the newest set of each table that has one
  pub sets : Names RegionSet
  -- the snapshots that are complete
  pub snapshots : Names Snapshot
  -- by actor: its worker, what it builds, what it pinned (the last first), what it stamped, the staged files that it loads, what it
  -- placed, what it captured, of which tables it has made its change, and how far its snapshot's manifest is
  pub owners : ℕ → Option ℕ
  pub plans : ℕ → Plan
  pub pins : ℕ → List Pinned
  pub stamps : ℕ → Base → Bool
  pub loads : ℕ → List (List ℕ × List ℕ)
  pub placed : ℕ → List Placed
  pub captures : ℕ → RegionKey → Option RegionFiles
  pub changed : ℕ → List ℕ → Bool
  pub parted : ℕ → Parted
  -- the actor that placed a base and has not committed a list with it yet
  pub waiting : Base → Option ℕ
  pub pass : Option Pass
  -- the plain machine's state: tables, unflushed cells, actors with their jobs and holds
  pub plain : Plain

-- the state, and what it would be with the operation of a failed entry done too; the number of the entry that failed
pub record State : Type 0 where
  pub now : Parts
  pub other : Parts
  pub closed : Option ℕ
