-- When a file may be written, placed, archived or deleted.
use Rattle.std.specs.Prelude.{◌≡◌, ◌≢◌, ◌⊎◌, ℕ, ◌+◌, ◌<◌, true, false, List, [], ◌++◌, Option, Some, None}
use Rattle.std.specs.List.{AllByRecursion}
use Rattle.std.specs.FinMap.{get}
use Rattle.hb_cell.specs.declared.cell.Cell.{Cell}
use Rattle.hb_layout.specs.declared.base.Base.{Base}
use Rattle.core_model.specs.Site.{Tmp, Live, Staged}
use Rattle.hb_file_names.specs.FileParts.{file_text, suffix_text}
use Rattle.hb_records.specs.declared.region_info.RegionInfo.{RegionInfo}
use Rattle.ns_tree.specs.declared.file.FileState.{FileState}
use Rattle.region_set.specs.declared.region_set.RegionSet.{RegionSet}
use Rattle.region_set.specs.declared.set_state.SetState.TheVariants as states
use Rattle.plain_model.specs.declared.hold.Hold.TheVariants as holds
use Rattle.plain_model.specs.declared.job.Job.TheVariants as jobs
use Rattle.plain_model.specs.declared.region_key.RegionKey.{RegionKey}
use Rattle.plain_model.specs.Keys.{key_of}
use Rattle.plain_model.specs.declared.put_cell.TheConstants.{MAX_NUMBER}
use Rattle.core_model.specs.declared.entry.Entry.{Entry}
use Rattle.core_model.specs.declared.recipe.Recipe.{Recipe}
use Rattle.core_model.specs.declared.recipe.Recipe.TheVariants as recipes
use Rattle.core_model.specs.declared.targets.MoveFrom.{MoveFrom}
use Rattle.core_model.specs.declared.targets.MoveFrom.TheVariants as moves
use Rattle.core_model.specs.declared.targets.OldFile.{OldFile}
use Rattle.core_model.specs.declared.targets.OldFile.TheVariants as old
use Rattle.cell_sight.specs.Member.{Member}
use Rattle.core_model.specs.Keys.{home}
use Rattle.core_model.specs.Disk.{Disk, live_of, backs_of}
use Rattle.core_model.specs.Entries.{base_of, file_of, is_own, is_half, IsBase, IsEntryIn}
use Rattle.core_model.specs.Ops.{old_site}
use Rattle.core_model.specs.Actors.{IsLive, HasJob, HasHold, IsRegion, IsPinned, IsFree, IsToBuild, Plans}
use Rattle.core_model.specs.BulkParts.{AllCommitted}
use Rattle.core_model.specs.Recipes.{HasCells, staged_cells}
use Rattle.core_model.specs.FileChanges.{set_number}
use Rattle.core_model.specs.State.{Parts, Written}

-- the next file name of an opening, with or without a sequence number
abbrev pub next_name : ℕ → ℕ → Option ℕ → List ℕ
next_name epoch files seq = file_text (record { epoch = epoch; counter = files + 1; seq = seq })

-- ---- writing

pub record CanWrite (a : ℕ) (recipe : Recipe) (name : List ℕ) (cells : List Cell) (s : Parts) : Type 0 where
  pub live : IsLive s.plain.live a
  pub new : name ≡ next_name s.epoch s.files None
  pub gives : HasCells recipe s.plain s.made s.staged cells

-- ---- placing

-- the recipe of a written file that goes to a family: frozen cells of it, or a merge of its entries
abbrev pub IsFor : Recipe → Base → Type 0
IsFor (recipes.Frozen r family) b = (r ≡ home b) × (family ≡ b.family)
IsFor (recipes.Merge r inputs major) b = (r ≡ home b) × AllByRecursion (λ e. (base_of e).family ≡ b.family) inputs
IsFor _ b = ⊥

-- a piece of a staged file
abbrev pub IsPieceRecipe : Recipe → Type 0
IsPieceRecipe (recipes.Piece source start end) = Unit {0}
IsPieceRecipe _ = ⊥

-- a temporary file that the actor wrote
pub record Wrote (a : ℕ) (name : List ℕ) (recipe : Recipe) (disk : Disk) (written : List ℕ → Option Written) : Type 0 where
  pub file : FileState
  pub stands : disk (Tmp name) ≡ Some file
  pub cells : List Cell
  pub known : written name ≡ Some (record { by = a; recipe = recipe; cells = cells })

-- a file that a load moves whole
pub record MovesStaged (a : ℕ) (folder name : List ℕ) (b : Base) (cells : List Cell) (s : Parts) : Type 0 where
  pub file : FileState
  pub stands : s.disk (Staged folder b.family name) ≡ Some file
  pub same : cells ≡ staged_cells s.staged folder b.family name
  pub named : b.name ≡ next_name s.epoch s.files (Some (s.plain.seq (home b) + 1))
  pub load : HasHold s.plain.live a (holds.Load b.table)

-- a piece that a load wrote
pub record MovesPiece (a : ℕ) (name : List ℕ) (b : Base) (cells : List Cell) (s : Parts) : Type 0 where
  pub recipe : Recipe
  pub wrote : Wrote a name recipe s.disk s.written
  pub piece : IsPieceRecipe recipe
  pub named : b.name ≡ name ++ suffix_text (Some (s.plain.seq (home b) + 1))
  pub load : HasHold s.plain.live a (holds.Load b.table)
  pub none : cells ≡ []

-- a file of frozen or merged cells
pub record MovesWritten (a : ℕ) (name : List ℕ) (b : Base) (cells : List Cell) (s : Parts) : Type 0 where
  pub recipe : Recipe
  pub wrote : Wrote a name recipe s.disk s.written
  pub fits : IsFor recipe b
  pub named : b.name ≡ name
  pub none : cells ≡ []

abbrev pub Moves : ℕ → MoveFrom → Base → List Cell → Parts → Type 0
Moves a (moves.Written name) b cells s = MovesWritten a name b cells s
Moves a (moves.WrittenBulk name) b cells s = MovesPiece a name b cells s
Moves a (moves.StagedBulk folder name) b cells s = MovesStaged a folder name b cells s

-- a bulk kind draws a sequence number, which must not be spent
abbrev pub DrawsNumber : MoveFrom → ℕ → Type 0
DrawsNumber (moves.Written name) seq = Unit {0}
DrawsNumber _ seq = seq < MAX_NUMBER

pub record CanPlace (a : ℕ) (source : MoveFrom) (b : Base) (cells : List Cell) (s : Parts) : Type 0 where
  pub live : IsLive s.plain.live a
  pub region : IsRegion s.plain.tables (home b)
  pub names : IsBase b
  pub moved : Moves a source b cells s
  pub number : DrawsNumber source (s.plain.seq (home b))

-- ---- archiving

pub record CanStamp (a : ℕ) (b : Base) (s : Parts) : Type 0 where
  pub live : IsLive s.plain.live a
  pub names : IsBase b
  pub file : FileState
  pub stands : s.disk (Live b) ≡ Some file
  pub free : IsFree b s.plain.tables s.lists s.pins s.waiting

pub record CanArchive (a : ℕ) (b : Base) (s : Parts) : Type 0 where
  pub live : IsLive s.plain.live a
  pub names : IsBase b
  pub file : FileState
  pub stands : s.disk (Live b) ≡ Some file
  pub stamped : s.stamps a b ≡ true
  pub free : IsFree b s.plain.tables s.lists s.pins s.waiting

-- ---- links and halves

-- plans know an entry's region by its encoded name; that it is one to be built here, of this table, is asked beside it
pub record CanBackRef (a : ℕ) (b : Base) (r : RegionKey) (s : Parts) : Type 0 where
  pub live : IsLive s.plain.live a
  pub built : IsToBuild s.plans a r
  pub entry : Entry
  pub planned : Plans s.plans a r entry
  pub reads : base_of entry ≡ b
  pub refers : is_own entry ≡ false
  -- one that stands is not made again
  pub new : backs_of s.disk b r ≡ None

-- the entry is planned, its back reference stands, its file does not
pub record CanRefer (a : ℕ) (e : Entry) (r : RegionKey) (s : Parts) : Type 0 where
  pub live : IsLive s.plain.live a
  pub built : IsToBuild s.plans a r
  pub planned : Plans s.plans a r e
  pub names : IsEntryIn r e
  pub back : FileState
  pub referred : backs_of s.disk (base_of e) r ≡ Some back
  pub new : live_of s.disk (file_of r e) ≡ None

pub record CanHalf (a : ℕ) (e : Entry) (r : RegionKey) (s : Parts) : Type 0 where
  pub refer : CanRefer a e r s
  pub half : is_half e ≡ true

pub record CanUnlink (a : ℕ) (e : Entry) (r : RegionKey) (s : Parts) : Type 0 where
  pub live : IsLive s.plain.live a
  pub names : IsEntryIn r e
  pub refers : is_own e ≡ false
  pub file : FileState
  pub stands : live_of s.disk (file_of r e) ≡ Some file
  -- no list that counts, and no plan, has an entry with this file
  pub unlisted : IsRegion s.plain.tables r → (x : Entry) → Member x (s.lists r).entries → file_of r x ≡ file_of r e → ⊥
  pub unpinned : IsPinned s.pins (base_of e) → ⊥
  pub unplanned : (actor : ℕ) (x : Entry) → Plans s.plans actor r x → file_of r x ≡ file_of r e → ⊥

-- ---- deleting what is old

-- no region that counts or is built has the list
pub record IsNoRegion (r : RegionKey) (s : Parts) : Type 0 where
  pub out : IsRegion s.plain.tables r → ⊥
  pub unplanned : (actor : ℕ) (i : RegionInfo) → Member i (s.plans actor).regions → key_of i ≡ r → ⊥

-- the only set of a table, which is dropped
pub record IsLastSet (table : List ℕ) (n : ℕ) (s : Parts) : Type 0 where
  pub newest : RegionSet
  pub stands : get s.sets table ≡ Some newest
  pub number : newest.number ≡ n
  pub dropped : newest.state ≡ states.Dropped
  pub only : (m : ℕ) → m ≢ n → s.disk (old_site (old.Set table m)) ≡ None

-- every part of a staged source that the load has placed is listed
pub record IsLoaded (a : ℕ) (folder family name : List ℕ) (s : Parts) : Type 0 where
  pub table : List ℕ
  pub job : HasJob s.plain.live a (jobs.Bulk table folder)
  pub loads : Member (family, name) (s.loads a)
  pub committed : AllCommitted a table folder (family, name) s

abbrev pub IsOld : ℕ → OldFile → Parts → Type 0
IsOld a (old.List r n) s = (n < (s.lists r).number) ⊎ IsNoRegion r s
IsOld a (old.Set table n) s = (n < set_number (get s.sets table)) ⊎ IsLastSet table n s
IsOld a (old.Tmp name) s = (recipe : Recipe) × Wrote a name recipe s.disk s.written
IsOld a (old.Work snapshot part) s = HasHold s.plain.live a (holds.Erase snapshot) ⊎ ((t : List ℕ) × HasHold s.plain.live a (holds.Take snapshot t))
IsOld a (old.Staged folder family name) s = IsLoaded a folder family name s

pub record CanDropOld (a : ℕ) (file : OldFile) (s : Parts) : Type 0 where
  pub live : IsLive s.plain.live a
  pub state : FileState
  pub stands : s.disk (old_site file) ≡ Some state
  pub old : IsOld a file s
