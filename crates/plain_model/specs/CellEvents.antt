-- What an event makes of the cells of regions and of their numbers.
use Rattle.std.specs.Prelude.{ℕ, ◌+◌, max, not, List, [], ◌∷◌, ◌++◌, length, take, drop, map, filter, Option, Some, None, unwrap_or}
use Rattle.std.specs.FinMap.{get}
use Rattle.hb_cell.specs.declared.cell.Cell.{Cell}
use Rattle.hb_records.specs.declared.region_info.RegionInfo.{RegionInfo}
use Rattle.plain_model.specs.declared.event.Event.{Event}
use Rattle.plain_model.specs.declared.event.Event.TheVariants.{Put, Draw, Freeze, Flush, Major, Bulk, Create, Split, Clone, Restore, Stop}
use Rattle.plain_model.specs.declared.region_key.RegionKey.{RegionKey}
use Rattle.hb_cell.specs.Order.{is_below}
use Rattle.plain_model.specs.Names.{Names}
use Rattle.plain_model.specs.Keys.{key_of, key_at, set_at, set_each}
use Rattle.plain_model.specs.declared.parts.PlainTable.{PlainTable}
use Rattle.plain_model.specs.declared.parts.PlainSnapshot.{PlainSnapshot}
use Rattle.plain_model.specs.declared.parts.RegionCopy.{RegionCopy}
use Rattle.cell_sight.specs.Visible.{visible}

-- these regions, each with this value
abbrev pub each_with : {A : Type 0} → A → List RegionInfo → List (RegionKey × A)
each_with value regions = map (λ r. (key_of r, value)) regions

-- the copies of a snapshot
abbrev pub copies_of : Option PlainSnapshot → List RegionCopy
copies_of None = []
copies_of (Some s) = s.regions

-- these regions, in order each with the cells of its copy
abbrev pub cells_by_key : List RegionInfo → List RegionCopy → List (RegionKey × List Cell)
cells_by_key [] copies = []
cells_by_key (r ∷ rs) [] = []
cells_by_key (r ∷ rs) (c ∷ cs) = (key_of r, c.cells) ∷ cells_by_key rs cs

-- and with its number
abbrev pub numbers_by_key : List RegionInfo → List RegionCopy → List (RegionKey × ℕ)
numbers_by_key [] copies = []
numbers_by_key (r ∷ rs) [] = []
numbers_by_key (r ∷ rs) (c ∷ cs) = (key_of r, c.number) ∷ numbers_by_key rs cs

-- the cells of rows below one, and of the others
abbrev pub under : List ℕ → List Cell → List Cell
under row cells = filter (λ c. is_below c.row row) cells

abbrev pub from : List ℕ → List Cell → List Cell
from row cells = filter (λ c. not (is_below c.row row)) cells

-- the greatest of a number and those of the cells
abbrev pub greatest : ℕ → List Cell → ℕ
greatest n [] = n
greatest n (c ∷ cs) = greatest (max n c.seq) cs

-- the families of a table
abbrev pub families_in : Option PlainTable → List (List ℕ × ℕ)
families_in None = []
families_in (Some t) = t.schema.families

-- with so many cells at the front replaced by the visible ones among them
abbrev pub compacted : List (List ℕ × ℕ) → ℕ → List Cell → List Cell
compacted families n cells = visible families (take n cells) ++ drop n cells

-- ---- the cells of files, and the unflushed ones

abbrev pub stable_on : Event → Names PlainTable → Names PlainSnapshot → (RegionKey → List Cell) → (RegionKey → ℕ) → (ℕ → RegionKey → Option ℕ)
    → (RegionKey → List Cell) → RegionKey → List Cell
stable_on (Flush k) tables snapshots mem frozen noted stable = set_at k (stable k ++ take (frozen k) (mem k)) stable
stable_on (Major a k) tables snapshots mem frozen noted stable =
    set_at k (compacted (families_in (get tables k.table)) (unwrap_or (noted a.0 k) 0) (stable k)) stable
stable_on (Bulk k cells) tables snapshots mem frozen noted stable = set_at k (stable k ++ cells) stable
stable_on (Create schema regions) tables snapshots mem frozen noted stable = set_each (each_with [] regions) stable
stable_on (Split t parent low high) tables snapshots mem frozen noted stable =
    set_at (key_of low) (under high.start (stable (key_at t parent))) (set_at (key_of high) (from high.start (stable (key_at t parent))) stable)
stable_on (Clone s t regions) tables snapshots mem frozen noted stable = set_each (cells_by_key regions (copies_of (get snapshots s))) stable
stable_on (Restore s regions) tables snapshots mem frozen noted stable = set_each (cells_by_key regions (copies_of (get snapshots s))) stable
stable_on _ tables snapshots mem frozen noted stable = stable

abbrev pub mem_on : Event → (RegionKey → ℕ) → (RegionKey → List Cell) → RegionKey → List Cell
mem_on (Put k c) frozen mem = set_at k (mem k ++ c ∷ []) mem
mem_on (Flush k) frozen mem = set_at k (drop (frozen k) (mem k)) mem
mem_on (Create schema regions) frozen mem = set_each (each_with [] regions) mem
mem_on (Split t parent low high) frozen mem = set_each (each_with [] (low ∷ high ∷ [])) mem
mem_on (Clone s t regions) frozen mem = set_each (each_with [] regions) mem
mem_on (Restore s regions) frozen mem = set_each (each_with [] regions) mem
mem_on Stop frozen mem = λ k. []
mem_on _ frozen mem = mem

abbrev pub frozen_on : Event → (RegionKey → List Cell) → (RegionKey → ℕ) → RegionKey → ℕ
frozen_on (Freeze k) mem frozen = set_at k (length (mem k)) frozen
frozen_on (Flush k) mem frozen = set_at k 0 frozen
frozen_on (Create schema regions) mem frozen = set_each (each_with 0 regions) frozen
frozen_on (Split t parent low high) mem frozen = set_each (each_with 0 (low ∷ high ∷ [])) frozen
frozen_on (Clone s t regions) mem frozen = set_each (each_with 0 regions) frozen
frozen_on (Restore s regions) mem frozen = set_each (each_with 0 regions) frozen
frozen_on Stop mem frozen = λ k. 0
frozen_on _ mem frozen = frozen

-- ---- their numbers

abbrev pub seq_on : Event → Names PlainSnapshot → (RegionKey → ℕ) → (RegionKey → ℕ) → RegionKey → ℕ
seq_on (Put k c) snapshots kept seq = set_at k (seq k + 1) seq
seq_on (Draw k) snapshots kept seq = set_at k (seq k + 1) seq
seq_on (Create schema regions) snapshots kept seq = set_each (each_with 0 regions) seq
seq_on (Split t parent low high) snapshots kept seq = set_each (each_with (kept (key_at t parent)) (low ∷ high ∷ [])) seq
seq_on (Clone s t regions) snapshots kept seq = set_each (numbers_by_key regions (copies_of (get snapshots s))) seq
seq_on (Restore s regions) snapshots kept seq = set_each (numbers_by_key regions (copies_of (get snapshots s))) seq
seq_on Stop snapshots kept seq = kept
seq_on _ snapshots kept seq = seq

abbrev pub kept_on : Event → Names PlainSnapshot → (RegionKey → List Cell) → (RegionKey → ℕ) → (RegionKey → ℕ) → RegionKey → ℕ
kept_on (Flush k) snapshots mem frozen kept = set_at k (greatest (kept k) (take (frozen k) (mem k))) kept
kept_on (Bulk k cells) snapshots mem frozen kept = set_at k (greatest (kept k) cells) kept
kept_on (Create schema regions) snapshots mem frozen kept = set_each (each_with 0 regions) kept
kept_on (Split t parent low high) snapshots mem frozen kept = set_each (each_with (kept (key_at t parent)) (low ∷ high ∷ [])) kept
kept_on (Clone s t regions) snapshots mem frozen kept = set_each (numbers_by_key regions (copies_of (get snapshots s))) kept
kept_on (Restore s regions) snapshots mem frozen kept = set_each (numbers_by_key regions (copies_of (get snapshots s))) kept
kept_on _ snapshots mem frozen kept = kept
