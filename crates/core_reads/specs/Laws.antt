-- What the tree of a store tells, each as a clause of a law.
use Rattle.std.specs.Prelude.{◌≡◌, ℕ, List, take, Some, is_some}
use Rattle.std.specs.FinMap.{get}
use Rattle.std.specs.List.{AllZip}
use Rattle.ns_tree.specs.Tree.{Tree}
use Rattle.plain_model.specs.declared.region_key.RegionKey.{RegionKey}
use Rattle.core_model.specs.declared.journal.JournalEntry.{JournalEntry}
use Rattle.core_model.specs.declared.opening.Opening.{Opening}
use Rattle.core_model.specs.declared.snapshot.CopiedRegion.{CopiedRegion}
use Rattle.core_model.specs.declared.snapshot.Snapshot.{Snapshot}
use Rattle.core_model.specs.Actors.{Counts}
use Rattle.core_model.specs.Allows.{AllowsAll}
use Rattle.core_model.specs.Opened.{opened}
use Rattle.core_model.specs.Replay.{begun, replay}
use Rattle.core_model.specs.Entries.{region_list}
use Rattle.core_model.specs.State.{Parts}
use Rattle.core_sites.specs.Shows.{Shows}
use Rattle.core_trees.specs.Filed.{IsFiled}
use Rattle.core_trees.specs.Trees.{HaveNames, trees_after, BeginsWith}
use Rattle.core_bytes.specs.Laws.{WriteFrom}
use Rattle.core_bytes.specs.Recorded.{entries_in}
use Rattle.core_bytes.specs.Written.{IsWritten}

-- a tree shows the files of a state, which are the newest and what they were written of
pub record IsShown (tree : Tree) (s : Parts) : Type 0 where
  pub shows : Shows tree s.disk
  pub filed : IsFiled s
  pub written : IsWritten s

abbrev pub TellsTables : Tree → Parts → Parts → List ℕ → Type 0
TellsTables tree s o table = IsShown tree s → IsShown tree o → get s.plain.tables table ≡ get o.plain.tables table

-- the newest list of a region that counts in both, by its lines
abbrev pub TellsLists : Tree → Parts → Parts → RegionKey → Type 0
TellsLists tree s o r = IsShown tree s → IsShown tree o → Counts s.plain.tables s.plans r → Counts o.plain.tables o.plans r → region_list (s.lists r) ≡ region_list (o.lists r)

abbrev pub TellsSnapshots : Tree → Parts → Parts → List ℕ → Type 0
TellsSnapshots tree s o name = IsShown tree s → IsShown tree o → is_some (get s.snapshots name) ≡ is_some (get o.snapshots name)

-- the same region with the same number and the same files, by their names and halves
pub record IsAlike (r q : CopiedRegion) : Type 0 where
  pub region : r.info ≡ q.info
  pub number : r.seq ≡ q.seq
  pub files : (family : List ℕ) → entries_in family r.entries ≡ entries_in family q.entries

abbrev pub TellsManifests : Tree → Parts → Parts → List ℕ → Type 0
TellsManifests tree s o name =
    (x y : Snapshot) → IsShown tree s → IsShown tree o → get s.snapshots name ≡ Some x → get o.snapshots name ≡ Some y → (x.schema ≡ y.schema) × AllZip IsAlike x.regions y.regions

-- a life: a journal of allowed entries over a store that tells its tree, whose steps write files of what they say
pub record IsLife (o : Opening) (tree : Tree) (es : List JournalEntry) : Type 0 where
  pub begins : BeginsWith o tree
  pub begins_written : IsWritten (opened o)
  pub names : HaveNames es
  pub allowed : AllowsAll o es
  pub writes : WriteFrom 0 (begun o) es

-- the next opening, of the tree that a front of it left, has the tables that its state had: with a failed operation not done,
-- or with it done
abbrev pub TellsNext : Opening → Opening → Tree → List JournalEntry → ℕ → List ℕ → Type 0
TellsNext o next tree es k table =
    IsLife o tree es → BeginsWith next (trees_after tree (take k es)).now → IsWritten (opened next)
    → get (replay o (take k es)).now.plain.tables table ≡ get (opened next).plain.tables table

abbrev pub TellsFailed : Opening → Opening → Tree → List JournalEntry → ℕ → List ℕ → Type 0
TellsFailed o next tree es k table =
    IsLife o tree es → BeginsWith next (trees_after tree (take k es)).other → IsWritten (opened next)
    → get (replay o (take k es)).other.plain.tables table ≡ get (opened next).plain.tables table
