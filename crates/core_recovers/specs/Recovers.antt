-- What a store's tree gives back: the plain state that a stop leaves.
use Rattle.std.specs.Prelude.{◌≡◌, ℕ, List, [], take, Option, Some, None}
use Rattle.std.specs.FinMap.{get}
use Rattle.std.specs.List.{AllZip}
use Rattle.cell_sight.specs.Same.{Same}
use Rattle.ns_tree.specs.Tree.{Tree}
use Rattle.plain_model.specs.declared.parts.PlainSnapshot.{PlainSnapshot}
use Rattle.plain_model.specs.declared.parts.RegionCopy.{RegionCopy}
use Rattle.plain_model.specs.declared.region_key.RegionKey.{RegionKey}
use Rattle.plain_model.specs.After.{stopped}
use Rattle.plain_model.specs.Keys.{key_of}
use Rattle.plain_model.specs.Plain.{Plain}
use Rattle.core_model.specs.declared.journal.JournalEntry.{JournalEntry}
use Rattle.core_model.specs.declared.opening.Opening.{Opening}
use Rattle.core_model.specs.Actors.{IsRegion}
use Rattle.core_model.specs.Disk.{Disk, disk_of}
use Rattle.core_model.specs.Entries.{cells_in}
use Rattle.core_model.specs.Opened.{opened}
use Rattle.core_model.specs.Replay.{replay}
use Rattle.core_model.specs.Sound.{IsSound}
use Rattle.core_model.specs.State.{Parts}
use Rattle.core_trees.specs.Trees.{trees_after}
use Rattle.core_bytes.specs.Stored.{table_in_set}
use Rattle.core_contents.specs.ContentFacts.{Copies}
use Rattle.core_contents.specs.Faithful.{IsFaithful}
use Rattle.core_points.specs.Points.{IsPointed}
use Rattle.core_reads.specs.Laws.{IsShown, IsLife}
use Rattle.core_recovers.specs.Reading.{Reading, IsReading}

-- ---- what a tree gives back

-- nothing is unflushed, and nobody is at work
pub record IsStopped (p : Plain) : Type 0 where
  pub mem : (r : RegionKey) → p.mem r ≡ []
  pub frozen : (r : RegionKey) → p.frozen r ≡ 0
  pub seq : (r : RegionKey) → p.seq r ≡ p.kept r
  pub live : p.live ≡ []
  pub captures : (a : ℕ) (r : RegionKey) → p.captures a r ≡ None
  pub noted : (a : ℕ) (r : RegionKey) → p.noted a r ≡ None

-- a region as its newest list and the bytes at the places of its entries give it
pub record RecoversRegion (x : Reading) (p : Plain) (r : RegionKey) : Type 0 where
  pub same : Same (cells_in x.made (x.lists r).entries) (p.stable r)
  pub kept : (x.lists r).seq ≡ p.kept r

-- tables by their newest sets, regions by their newest lists, snapshots by their manifests
pub record RecoversDisk (d : Disk) (p : Plain) : Type 0 where
  pub says : Reading
  pub reading : IsReading d says
  pub tables : (table : List ℕ) → get p.tables table ≡ table_in_set (says.sets table)
  pub regions : (r : RegionKey) → IsRegion p.tables r → RecoversRegion says p r
  pub snapshots : (name : List ℕ) → Copies says.made (says.snapshots name) (get p.snapshots name)
  pub stop : IsStopped p

abbrev pub Recovers : Tree → Plain → Type 0
Recovers tree p = RecoversDisk (disk_of tree) p

-- ---- it is one state

-- copies of one region, with the same cells, each as often, and one number
pub record AreSameCopies (c d : RegionCopy) : Type 0 where
  pub region : key_of c.region ≡ key_of d.region
  pub same : Same c.cells d.cells
  pub number : c.number ≡ d.number

abbrev pub AreSameSnapshots : Option PlainSnapshot → Option PlainSnapshot → Type 0
AreSameSnapshots None None = Unit {0}
AreSameSnapshots (Some x) (Some y) = (x.schema.families ≡ y.schema.families) × AllZip AreSameCopies x.regions y.regions
AreSameSnapshots _ _ = ⊥

-- a region's cells and number
pub record AreSameRegions (p q : Plain) (r : RegionKey) : Type 0 where
  pub stable : Same (p.stable r) (q.stable r)
  pub kept : p.kept r ≡ q.kept r

-- stopped states with the same tables, cells and numbers of their regions, and snapshots
pub record AreSame (p q : Plain) : Type 0 where
  pub tables : (table : List ℕ) → get p.tables table ≡ get q.tables table
  pub regions : (r : RegionKey) → IsRegion p.tables r → AreSameRegions p q r
  pub snapshots : (name : List ℕ) → AreSameSnapshots (get p.snapshots name) (get q.snapshots name)
  pub one : IsStopped p
  pub other : IsStopped q

abbrev pub RecoversOne : Tree → Plain → Plain → Type 0
RecoversOne tree p q = Recovers tree p → Recovers tree q → AreSame p q

-- ---- after a journal

-- a tree shows a state of which all is known: its files, what they were written of, the cells that they have, and what halves say
pub record IsTold (tree : Tree) (s : Parts) : Type 0 where
  pub shown : IsShown tree s
  pub sound : IsSound s
  pub faithful : IsFaithful s
  pub pointed : IsPointed s

abbrev pub RecoversStopped : Tree → Parts → Type 0
RecoversStopped tree s = IsTold tree s → Recovers tree (stopped s.plain)

-- what holds of an opened state, beside what a life begins with
pub record BeginsTold (o : Opening) : Type 0 where
  pub faithful : IsFaithful (opened o)
  pub pointed : IsPointed (opened o)

-- the tree that a front of a life's journal leaves gives back what a stop leaves of the state there; and where an operation
-- failed, each of the two trees does, of its own state
abbrev pub RecoversAfter : Opening → Tree → List JournalEntry → ℕ → Type 0
RecoversAfter o tree es k =
    IsLife o tree es → BeginsTold o
    → Recovers (trees_after tree (take k es)).now (stopped (replay o (take k es)).now.plain) × Recovers (trees_after tree (take k es)).other (stopped (replay o (take k es)).other.plain)
