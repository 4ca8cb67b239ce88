-- That the cells of regions lie within them, and differ.
use Rattle.std.specs.Prelude.{◌≡◌, ◌≢◌, ℕ, ◌≤◌, Bool, true, not, ◌&&◌, List, count_by, take, Option, Some}
use Rattle.std.specs.List.{AllZip}
use Rattle.std.specs.FinMap.{get}
use Rattle.std.specs.Ordering.{eq_by_cmp}
use Rattle.cell_sight.specs.Member.{Member}
use Rattle.hb_cell.specs.declared.cell.Cell.{Cell}
use Rattle.hb_cell.specs.Order.{is_below, key_cmp}
use Rattle.hb_layout.specs.declared.base.Base.{Base}
use Rattle.hb_records.specs.declared.region_info.RegionInfo.{RegionInfo}
use Rattle.ns_tree.specs.Tree.{Tree}
use Rattle.plain_model.specs.declared.hold.Hold.TheVariants as holds
use Rattle.plain_model.specs.declared.parts.Live.{Live}
use Rattle.plain_model.specs.declared.parts.PlainSnapshot.{PlainSnapshot}
use Rattle.plain_model.specs.declared.parts.PlainTable.{PlainTable}
use Rattle.plain_model.specs.declared.parts.RegionCopy.{RegionCopy}
use Rattle.plain_model.specs.declared.region_key.RegionKey.{RegionKey}
use Rattle.plain_model.specs.Keys.{key_of}
use Rattle.plain_model.specs.Names.{Names}
use Rattle.plain_model.specs.Rows.{holds_row, is_before_end}
use Rattle.core_model.specs.declared.journal.JournalEntry.{JournalEntry}
use Rattle.core_model.specs.declared.opening.Opening.{Opening}
use Rattle.core_model.specs.declared.recipe.Recipe.TheVariants as recipes
use Rattle.core_model.specs.declared.snapshot.CopiedRegion.{CopiedRegion}
use Rattle.core_model.specs.declared.snapshot.Snapshot.{Snapshot}
use Rattle.core_model.specs.declared.step.Step.{Step}
use Rattle.core_model.specs.declared.targets.MoveFrom.TheVariants as moves
use Rattle.core_model.specs.Actors.{HasHold, IsRegion}
use Rattle.core_model.specs.Allows.{Allows, AllowsAll}
use Rattle.core_model.specs.Entries.{Made, seq_of, stem}
use Rattle.core_model.specs.Keys.{home}
use Rattle.core_model.specs.Replay.{after, begun, replay}
use Rattle.core_model.specs.Recipes.{staged_cells}
use Rattle.core_model.specs.Sound.{IsSound}
use Rattle.core_model.specs.State.{Parts, Placed, StagedCells, State, Written}
use Rattle.core_bytes.specs.Laws.{WriteFrom}
use Rattle.core_bytes.specs.Written.{IsWritten}
use Rattle.core_contents.specs.Faithful.{IsFaithful}
use Rattle.core_beside.specs.Apart.{IsBeside}
use Rattle.core_opens.specs.Begins.{CanBegin}
use Rattle.core_opens.specs.Fits.{EachTwo}
use Rattle.core_regions.specs.Cover.{HaveLimits, HasLimits, IsCovered}

-- ---- cells of a region

-- a cell is of a family of the table, in a row of the region, with a number not above this
pub record IsCellOf (i : RegionInfo) (families : List (List ℕ × ℕ)) (seq : ℕ) (c : Cell) : Type 0 where
  pub versions : ℕ
  pub known : Member (c.family, versions) families
  pub row : holds_row i c.row ≡ true
  pub number : c.seq ≤ seq

-- no two of the cells are equal
abbrev pub AreOnce : List Cell → Type 0
AreOnce cells = (c : Cell) → count_by (eq_by_cmp key_cmp c) cells ≤ 1

pub record AreCellsOf (i : RegionInfo) (families : List (List ℕ × ℕ)) (seq : ℕ) (cells : List Cell) : Type 0 where
  pub each : (c : Cell) → Member c cells → IsCellOf i families seq c
  pub once : AreOnce cells

-- the cells of a region's files, and the unflushed ones; no two numbers of the latter are equal, nor to one of the former
pub record HoldsCells (i : RegionInfo) (families : List (List ℕ × ℕ)) (stable mem : List Cell) (kept seq : ℕ) : Type 0 where
  pub files : AreCellsOf i families kept stable
  pub waits : (c : Cell) → Member c mem → IsCellOf i families seq c
  pub below : kept ≤ seq
  pub differ : EachTwo (λ (c d : Cell). c.seq ≢ d.seq) mem
  pub apart : (c d : Cell) → Member c stable → Member d mem → c.seq ≢ d.seq

pub record RegionsHold (tables : Names PlainTable) (stable mem : RegionKey → List Cell) (kept seq : RegionKey → ℕ) : Type 0 where
  pub at : (t : List ℕ) (table : PlainTable) (i : RegionInfo) (split : Bool) → get tables t ≡ Some table → Member (i, split) table.regions
      → HoldsCells i table.schema.families (stable (key_of i)) (mem (key_of i)) (kept (key_of i)) (seq (key_of i))

-- ---- captures and snapshots

pub record CapturesHold (tables : Names PlainTable) (captures : ℕ → RegionKey → Option RegionCopy) : Type 0 where
  pub at : (a : ℕ) (r : RegionKey) (c : RegionCopy) (table : PlainTable) (i : RegionInfo) (split : Bool) → captures a r ≡ Some c → get tables r.table ≡ Some table → Member (i, split) table.regions → key_of i ≡ r
      → AreCellsOf i table.schema.families c.number c.cells

-- a copied region and its plain copy
abbrev pub CopyHolds : List (List ℕ × ℕ) → CopiedRegion → RegionCopy → Type 0
CopyHolds families r c = AreCellsOf r.info families c.number c.cells

pub record SnapshotsHold (snapshots : Names Snapshot) (copies : Names PlainSnapshot) : Type 0 where
  pub at : (name : List ℕ) (x : Snapshot) (y : PlainSnapshot) → get snapshots name ≡ Some x → get copies name ≡ Some y → AllZip (CopyHolds x.schema.families) x.regions y.regions

-- ---- files of loads that wait to be listed

-- the file was placed by a load of its table; its number was drawn of its region, and no cell has it
pub record IsNumbered (b : Base) (a n : ℕ) (live : List Live) (tables : Names PlainTable) (stable mem : List Cell) (seq : ℕ) : Type 0 where
  pub load : HasHold live a (holds.Load b.table)
  pub region : IsRegion tables (home b)
  pub drawn : n ≤ seq
  pub no_file : (c : Cell) → Member c stable → c.seq ≢ n
  pub no_wait : (c : Cell) → Member c mem → c.seq ≢ n

pub record LoadsNumbered (waiting : Base → Option ℕ) (live : List Live) (tables : Names PlainTable) (stable mem : RegionKey → List Cell) (seq : RegionKey → ℕ) : Type 0 where
  pub at : (b : Base) (a n : ℕ) → waiting b ≡ Some a → seq_of b.name ≡ Some n → IsNumbered b a n live tables (stable (home b)) (mem (home b)) (seq (home b))
  pub apart : (b c : Base) (a e n : ℕ) → waiting b ≡ Some a → waiting c ≡ Some e → home b ≡ home c → seq_of b.name ≡ Some n → seq_of c.name ≡ Some n → b ≡ c

-- the name of a file that was placed for a load has a number
pub record BulkNumbered (placed : ℕ → List Placed) : Type 0 where
  pub whole : (a : ℕ) (b : Base) (folder name : List ℕ) → Member (record { base = b; from = moves.StagedBulk folder name }) (placed a) → (n : ℕ) × (seq_of b.name ≡ Some n)
  pub cut : (a : ℕ) (b : Base) (name : List ℕ) → Member (record { base = b; from = moves.WrittenBulk name }) (placed a) → (n : ℕ) × (seq_of b.name ≡ Some n)

-- it has the cells of the staged file, or the digits of the piece that was written
pub record BulkFilled (placed : ℕ → List Placed) (staged : StagedCells) (made : Made) : Type 0 where
  pub whole : (a : ℕ) (b : Base) (folder name : List ℕ) → Member (record { base = b; from = moves.StagedBulk folder name }) (placed a) → made b ≡ Some (staged_cells staged folder b.family name)
  pub cut : (a : ℕ) (b : Base) (name : List ℕ) → Member (record { base = b; from = moves.WrittenBulk name }) (placed a) → stem b.name ≡ name

-- a written piece has cells of its rows alone
pub record PiecesCut (written : List ℕ → Option Written) : Type 0 where
  pub at : (name : List ℕ) (w : Written) (source start : List ℕ) (end : Option (List ℕ)) → written name ≡ Some w → w.recipe ≡ recipes.Piece source start end
      → (c : Cell) → Member c w.cells → (not (is_below c.row start) && is_before_end c.row end) ≡ true

pub record HasCells (s : Parts) : Type 0 where
  pub regions : RegionsHold s.plain.tables s.plain.stable s.plain.mem s.plain.kept s.plain.seq
  pub captures : CapturesHold s.plain.tables s.plain.captures
  pub snapshots : SnapshotsHold s.snapshots s.plain.snapshots
  pub loads : LoadsNumbered s.waiting s.plain.live s.plain.tables s.plain.stable s.plain.mem s.plain.seq
  pub bulk : BulkNumbered s.placed
  pub filled : BulkFilled s.placed s.staged s.made
  pub pieces : PiecesCut s.written

-- so it is in both states after a failed operation
pub record HasCellsState (s : State) : Type 0 where
  pub now : HasCells s.now
  pub other : HasCells s.other

-- ---- laws

abbrev pub KeepsCells : Step → Parts → Type 0
KeepsCells p s = s.files ≤ 4_194_304 → HasLimits p → Allows p s → IsSound s → IsWritten s → IsFaithful s → IsBeside s → IsCovered s → HasCells s → HasCells (after p s)

abbrev pub LeadsToCells : Opening → Tree → List JournalEntry → ℕ → Type 0
LeadsToCells o tree es k = CanBegin o tree → HaveLimits es → AllowsAll o es → WriteFrom 0 (begun o) es → HasCellsState (replay o (take k es))
