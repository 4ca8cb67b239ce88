-- What holds of the plain machine, each as the contract of a law of its own.
use Rattle.std.specs.Prelude.{◌≡◌, ℕ, Bool, true, false, not, ◌&&◌, List, [], ◌∷◌, ◌++◌, map, take, drop, filter, Some}
use Rattle.std.specs.List.{list_any}
use Rattle.hb_cell.specs.Order.{is_below}
use Rattle.hb_cell.specs.declared.cell.Cell.{Cell}
use Rattle.hb_records.specs.declared.region_info.RegionInfo.{RegionInfo}
use Rattle.cell_sight.specs.Same.{Same}
use Rattle.plain_model.specs.declared.event.Event.{Event}
use Rattle.plain_model.specs.declared.event.Event.TheVariants.{Put, Draw, Freeze, Flush, MajorStart, Major, Bulk, Capture, Complete, Delete, Create, Enable, Disable, Drop, Split, Clone, Restore, Remove, At, Stop}
use Rattle.plain_model.specs.declared.hold.Hold.{Hold}
use Rattle.plain_model.specs.declared.hold.Hold.TheVariants.{Pass, Take}
use Rattle.plain_model.specs.declared.region_key.RegionKey.{RegionKey}
use Rattle.plain_model.specs.After.{after, stopped}
use Rattle.plain_model.specs.CanHappen.{AreHalves}
use Rattle.plain_model.specs.CellEvents.{under, from, compacted}
use Rattle.plain_model.specs.Conflicts.{conflicts, waits_for_take}
use Rattle.plain_model.specs.Keys.{key_of, same_key}
use Rattle.plain_model.specs.Plain.{Plain}
use Rattle.plain_model.specs.Rows.{holds_row, open_of, region_of, CoverAll}

-- ---- what an event leaves alone

-- the regions whose cells or numbers an event sets, but for a stop, which sets all
abbrev pub named : Event → List RegionKey
named (Put k c) = k ∷ []
named (Draw k) = k ∷ []
named (Freeze k) = k ∷ []
named (Flush k) = k ∷ []
named (Major a k) = k ∷ []
named (Bulk k cells) = k ∷ []
named (Create schema regions) = map key_of regions
named (Split t parent low high) = key_of low ∷ key_of high ∷ []
named (Clone s t regions) = map key_of regions
named (Restore s regions) = map key_of regions
named _ = []

abbrev pub is_stop : Event → Bool
is_stop Stop = true
is_stop _ = false

-- a region that an event doesn't name keeps its cells and numbers
pub record LeavesRegion (e : Event) (s : Plain) (k : RegionKey) : Type 0 where
  pub stable : (after e s).stable k ≡ s.stable k
  pub mem : (after e s).mem k ≡ s.mem k
  pub frozen : (after e s).frozen k ≡ s.frozen k
  pub seq : (after e s).seq k ≡ s.seq k
  pub kept : (after e s).kept k ≡ s.kept k

abbrev pub LeavesOthers : Event → Plain → RegionKey → Type 0
LeavesOthers e s k = is_stop e ≡ false → list_any (same_key k) (named e) ≡ false → LeavesRegion e s k

abbrev pub changes_tables : Event → Bool
changes_tables (Create schema regions) = true
changes_tables (Enable t) = true
changes_tables (Disable t) = true
changes_tables (Drop t) = true
changes_tables (Split t parent low high) = true
changes_tables (Clone s t regions) = true
changes_tables (Restore s regions) = true
changes_tables (Remove t regions) = true
changes_tables _ = false

-- the other events leave the tables alone
abbrev pub LeavesTables : Event → Plain → Type 0
LeavesTables e s = changes_tables e ≡ false → (after e s).tables ≡ s.tables

abbrev pub changes_snapshots : Event → Bool
changes_snapshots (Complete a) = true
changes_snapshots (Delete name) = true
changes_snapshots _ = false

-- only a completion and a deletion change the snapshots: what is captured is a copy
abbrev pub LeavesSnapshots : Event → Plain → Type 0
LeavesSnapshots e s = changes_snapshots e ≡ false → (after e s).snapshots ≡ s.snapshots

abbrev pub changes_live : Event → Bool
changes_live (At a job holds) = true
changes_live Stop = true
changes_live _ = false

-- activities join, leave, and end with a stop
abbrev pub LeavesLive : Event → Plain → Type 0
LeavesLive e s = changes_live e ≡ false → (after e s).live ≡ s.live

-- ---- rows and regions

-- where the regions cover all rows, the open region of a row is found, and no other holds the row
abbrev pub HasOneRegion : List (RegionInfo × Bool) → List ℕ → Type 0
HasOneRegion regions row = CoverAll (open_of regions)
    → (r : RegionInfo) × (region_of regions row ≡ Some r) × (filter (λ q. holds_row q row) (open_of regions) ≡ r ∷ [])

-- of the rows of a region that is split, the lower half holds those below the row, the upper one the others
pub record SplitsRow (whole low high : RegionInfo) (row : List ℕ) : Type 0 where
  pub lower : holds_row low row ≡ (holds_row whole row && is_below row high.start)
  pub upper : holds_row high row ≡ (holds_row whole row && not (is_below row high.start))

abbrev pub SplitsRows : RegionInfo → RegionInfo → RegionInfo → List ℕ → Type 0
SplitsRows whole low high row = AreHalves whole low high → SplitsRow whole low high row

-- ---- the same cells

-- what events make of lists of cells, they make the same cells of the same cells
pub record StaySame (row : List ℕ) (xs ys us vs : List Cell) : Type 0 where
  -- a flush and a load put cells behind
  pub joined : Same (xs ++ us) (ys ++ vs)
  -- a split parts them at a row
  pub below : Same (under row xs) (under row ys)
  pub above : Same (from row xs) (from row ys)

abbrev pub SameStay : List ℕ → List Cell → List Cell → List Cell → List Cell → Type 0
SameStay row xs ys us vs = Same xs ys → Same us vs → StaySame row xs ys us vs

-- a major compaction does, where what it began with and what came later are the same cells
abbrev pub SameCompacted : List (List ℕ × ℕ) → ℕ → ℕ → List Cell → List Cell → Type 0
SameCompacted families n m xs ys = Same (take n xs) (take m ys) → Same (drop n xs) (drop m ys) → Same (compacted families n xs) (compacted families m ys)

-- ---- stops

-- what a stop loses: events after which a stop leaves what it left before them
abbrev pub is_lost : Event → Bool
is_lost (Put k c) = true
is_lost (Draw k) = true
is_lost (Freeze k) = true
is_lost (MajorStart a k) = true
is_lost (Capture a k) = true
is_lost (At a job holds) = true
is_lost Stop = true
is_lost _ = false

abbrev pub StopsAlike : Event → Plain → Type 0
StopsAlike e s = is_lost e ≡ true → stopped (after e s) ≡ stopped s

-- ---- conflicts

-- conflicts are symmetric but between a pass and a take
abbrev pub IsSymmetric : Hold → Hold → Type 0
IsSymmetric a b = waits_for_take a b ≡ false → waits_for_take b a ≡ false → conflicts a b ≡ conflicts b a

-- a pass that is asked for waits for a snapshot being taken, and not the other way
abbrev pub WaitsForTake : List ℕ → List ℕ → Type 0
WaitsForTake name t = (conflicts Pass (Take name t) ≡ true) × (conflicts (Take name t) Pass ≡ false)
