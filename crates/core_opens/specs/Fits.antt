-- When the parts of a set, of a list and of a manifest fit together. Own: HBase's checker, hbck, asks no less of regions.
use Rattle.std.specs.Prelude.{◌≡◌, ◌≢◌, ◌⊎◌, ℕ, ◌≤◌, ◌<◌, Bool, true, List, [], ◌∷◌, length, map}
use Rattle.std.specs.List.{AllByRecursion}
use Rattle.cell_sight.specs.Member.{Member}
use Rattle.hb_cell.specs.declared.cell.Cell.{Cell}
use Rattle.hb_records.specs.declared.region_info.RegionInfo.{RegionInfo}
use Rattle.region_set.specs.declared.region_set.RegionSet.{RegionSet}
use Rattle.region_set.specs.declared.set_state.SetState.{SetState}
use Rattle.region_set.specs.declared.set_state.SetState.TheVariants as states
use Rattle.plain_model.specs.Keys.{encoded}
use Rattle.plain_model.specs.Rows.{CoverAll, holds_row, open_of}
use Rattle.core_model.specs.declared.entry.Entry.{Entry}
use Rattle.core_model.specs.declared.entry.Entry.TheVariants.{Half}
use Rattle.core_model.specs.declared.snapshot.CopiedRegion.{CopiedRegion}
use Rattle.core_model.specs.declared.snapshot.Snapshot.{Snapshot}
use Rattle.core_model.specs.Entries.{Made, base_of, cells_of, cells_in}

-- each two of a list, in their order
abbrev pub EachTwo : {X : Type 0} → (X → X → Type 0) → List X → Type 0
EachTwo R [] = Unit {0}
EachTwo R (x ∷ xs) = AllByRecursion (R x) xs × EachTwo R xs

-- regions that cover all rows, at most 1,000 of them, with ids of epochs up to 2 ^ 31 - 1
pub record AreRegions (regions : List RegionInfo) : Type 0 where
  pub cover : CoverAll regions
  pub few : length regions ≤ 1000
  pub ids : AllByRecursion (λ (i : RegionInfo). i.id < 9_223_372_036_854_775_808) regions

-- 1 to 16 families, which differ
pub record AreFamilies (families : List (List ℕ × ℕ)) : Type 0 where
  pub some : 1 ≤ length families
  pub few : length families ≤ 16
  pub differ : EachTwo (λ (f g : List ℕ × ℕ). f.0 ≢ g.0) families

-- a set that is not dropped: its open regions cover all rows, and its regions have different encoded names
pub record FitsTable (set : RegionSet) : Type 0 where
  pub regions : AreRegions (open_of set.regions)
  pub few : length set.regions ≤ 1000
  pub families : AreFamilies set.schema.families
  pub differ : EachTwo (λ (i j : RegionInfo × Bool). encoded i.0 ≢ encoded j.0) set.regions

abbrev pub FitsSet : SetState → RegionSet → Type 0
FitsSet states.Dropped set = Unit {0}
FitsSet _ set = FitsTable set

-- two entries of a region have different bases, but for a half beside an entry that is none, and for halves of different parents
abbrev pub MayStandBeside : Entry → Entry → Type 0
MayStandBeside (Half b l p r t) (Half c m q s u) = (b ≢ c) ⊎ (p ≢ q)
MayStandBeside (Half b l p r t) f = Unit {0}
MayStandBeside e (Half c m q s u) = Unit {0}
MayStandBeside e f = base_of e ≢ base_of f

-- a cell is of its entry's family, which the schema has; its row is the region's; its number is not above the region's
pub record FitsCell (e : Entry) (info : RegionInfo) (families : List (List ℕ × ℕ)) (seq : ℕ) (c : Cell) : Type 0 where
  pub family : c.family ≡ (base_of e).family
  pub versions : ℕ
  pub known : Member (c.family, versions) families
  pub row : holds_row info c.row ≡ true
  pub number : c.seq ≤ seq

-- the entries of a region, with their cells, no two of which are equal
pub record FitsEntries (made : Made) (info : RegionInfo) (families : List (List ℕ × ℕ)) (seq : ℕ) (entries : List Entry) : Type 0 where
  pub beside : EachTwo MayStandBeside entries
  pub cells : (e : Entry) (c : Cell) → Member e entries → Member c (cells_of made e) → FitsCell e info families seq c
  pub differ : EachTwo (λ (c d : Cell). c ≢ d) (cells_in made entries)

pub record FitsSnapshot (made : Made) (x : Snapshot) : Type 0 where
  pub regions : AreRegions (map (λ (r : CopiedRegion). r.info) x.regions)
  pub families : AreFamilies x.schema.families
  pub table : (r : CopiedRegion) → Member r x.regions → r.info.table ≡ x.schema.table
  pub entries : (r : CopiedRegion) → Member r x.regions → FitsEntries made r.info x.schema.families r.seq r.entries
