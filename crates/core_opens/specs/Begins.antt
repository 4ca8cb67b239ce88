-- What an opening reads of a tree, and openings that journals may begin with.
use Rattle.std.specs.Prelude.{◌≡◌, ◌⊎◌, ℕ, true, List, [], ◌∷◌, Some, None}
use Rattle.std.specs.FinMap.{empty}
use Rattle.cell_sight.specs.Member.{Member}
use Rattle.hb_cell.specs.declared.cell.Cell.{Cell}
use Rattle.hb_layout.specs.declared.base.Base.{Base}
use Rattle.ns_tree.specs.declared.file.FileState.{FileState}
use Rattle.ns_tree.specs.Tree.{Tree, IsTree}
use Rattle.plain_model.specs.declared.region_key.RegionKey.{RegionKey}
use Rattle.plain_model.specs.After.{stopped}
use Rattle.plain_model.specs.Plain.{Plain}
use Rattle.region_set.specs.declared.region_set.RegionSet.{RegionSet}
use Rattle.core_model.specs.declared.found.Found.{Found}
use Rattle.core_model.specs.declared.journal.Journal.{Journal}
use Rattle.core_model.specs.declared.opening.Opening.{Opening}
use Rattle.core_model.specs.declared.snapshot.Snapshot.{Snapshot}
use Rattle.core_model.specs.Allows.{AllowsAll}
use Rattle.core_model.specs.Disk.{Disk, HasPlace, disk_of, live_of, archived_of}
use Rattle.core_model.specs.FileFacts.{IsDrawn}
use Rattle.core_model.specs.Opened.{found_list, opened, read_base}
use Rattle.core_model.specs.Replay.{begun, replay}
use Rattle.core_model.specs.Site.{Tmp, is_store_name}
use Rattle.core_sound.specs.Laws.{bare_opening}
use Rattle.core_bytes.specs.Laws.{WriteFrom}
use Rattle.core_bytes.specs.Written.{IsWritten}
use Rattle.core_recovers.specs.Reading.{Reading}
use Rattle.core_recovers.specs.Recovers.{AreSame, BeginsTold, Recovers}
use Rattle.core_trees.specs.Trees.{BeginsWith, HaveNames, trees_after}
use Rattle.core_opens.specs.Valid.{IsValid}

-- what was found is what the tree says; cells were found of files that stand
pub record IsFound (d : Disk) (f : Found) (says : Reading) : Type 0 where
  pub sets : (table : List ℕ) (s : RegionSet) → Member (table, s) f.sets → says.sets table ≡ Some s
  pub all_sets : (table : List ℕ) (s : RegionSet) → says.sets table ≡ Some s → Member (table, s) f.sets
  pub snapshots : (name : List ℕ) (x : Snapshot) → Member (name, x) f.snapshots → says.snapshots name ≡ Some x
  pub all_snapshots : (name : List ℕ) (x : Snapshot) → says.snapshots name ≡ Some x → Member (name, x) f.snapshots
  pub lists : (r : RegionKey) → found_list f.lists r ≡ says.lists r
  pub made : (b : Base) → read_base f.cells b ≡ says.made b
  pub there : (b : Base) (cells : List Cell) → says.made b ≡ Some cells → is_store_name b.name ≡ true → HasPlace (live_of d) (archived_of d) b

-- no name of a file is one that this opening may draw
pub record HasNewEpoch (d : Disk) (epoch : ℕ) : Type 0 where
  pub live_file : (b : Base) (f : FileState) → live_of d b ≡ Some f → is_store_name b.name ≡ true → IsDrawn epoch 0 b.name
  pub archived_file : (b : Base) (f : FileState) → archived_of d b ≡ Some f → IsDrawn epoch 0 b.name

-- a journal may begin so, over a store that tells this tree: it is valid, without work in progress, and was read
pub record CanBegin (o : Opening) (tree : Tree) : Type 0 where
  pub told : o.tree ≡ Some tree
  pub files : IsTree tree
  pub valid : IsValid tree
  pub found : IsFound (disk_of tree) o.found valid.complete.says
  pub swept : (name : List ℕ) → disk_of tree (Tmp name) ≡ None
  pub epoch : HasNewEpoch (disk_of tree) o.epoch

-- then it begins with a state of which all is known, which is what the tree gives back
pub record BeginsWell (o : Opening) (tree : Tree) : Type 0 where
  pub begins : BeginsWith o tree
  pub written : IsWritten (opened o)
  pub told : BeginsTold o
  pub recovers : Recovers tree (opened o).plain

abbrev pub BeginsValid : Opening → Tree → Type 0
BeginsValid o tree = CanBegin o tree → BeginsWell o tree

-- over a store without files
abbrev pub BeginsBare : ℕ → ℕ → Type 0
BeginsBare epoch ttl = CanBegin (bare_opening epoch ttl) empty

-- ---- lives

-- a journal of allowed entries that write what they say, over a store that tells the tree
pub record IsJournal (j : Journal) (tree : Tree) : Type 0 where
  pub begins : CanBegin j.opening tree
  pub names : HaveNames j.entries
  pub allowed : AllowsAll j.opening j.entries
  pub writes : WriteFrom 0 (begun j.opening) j.entries

-- the tree of the next opening gives back what one of the trees does that the journal left: the one that the store had
pub record Follows (j : Journal) (tree next : Tree) : Type 0 where
  pub back : Plain
  pub recovers : Recovers next back
  pub from : Recovers (trees_after tree j.entries).now back ⊎ Recovers (trees_after tree j.entries).other back

-- journals over one store, one after another, each with the tree of its opening
abbrev pub IsLife : List (Journal × Tree) → Type 0
IsLife [] = Unit {0}
IsLife (j ∷ []) = IsJournal j.0 j.1
IsLife (j ∷ k ∷ js) = IsJournal j.0 j.1 × Follows j.0 j.1 k.1 × IsLife (k ∷ js)

-- each opening but the first begins with a stop of the state before it, with an operation that failed last not done, or done
abbrev pub BeginsWithStop : Journal → Opening → Type 0
BeginsWithStop j next = AreSame (stopped (replay j.opening j.entries).now.plain) (opened next).plain ⊎ AreSame (stopped (replay j.opening j.entries).other.plain) (opened next).plain

abbrev pub GoesOn : List (Journal × Tree) → Type 0
GoesOn [] = Unit {0}
GoesOn (j ∷ []) = Unit {0}
GoesOn (j ∷ k ∷ js) = BeginsWithStop j.0 k.0.opening × GoesOn (k ∷ js)

abbrev pub LivesGoOn : List (Journal × Tree) → Type 0
LivesGoOn js = IsLife js → GoesOn js
