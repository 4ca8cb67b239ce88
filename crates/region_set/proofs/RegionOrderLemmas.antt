use Rattle.std.proofs.Common.{◌≡◌, ◌≢◌, ℕ, ◌<◌, ◌≤◌, ◌^◌, nat_lt, cond, List, Bool, true, false, Option, Some, None, IfSome, option_map, refl, sym, subst, ap, arith, is_gt, true≢false}
use Rattle.std.specs.Ordering.{nat_cmp, ordering_then, is_le, is_lt}
use Rattle.std.specs.declared.cmp.Ordering.{Ordering}
use Rattle.std.specs.declared.cmp.Ordering.TheVariants.{Less, Equal, Greater}
use Rattle.std.specs.Cmp.Lexicographic.{slice_cmp}
use Rattle.std.proofs.lemmas.Bool.Decides.{nat_tests}
use Rattle.hex.specs.Hex.{IsBytes}
use Rattle.hb_grammar.specs.AtLeast.{IsAtLeast}
use Rattle.hb_records.specs.declared.region_info.RegionInfo.{RegionInfo}
use Rattle.hb_row_text.specs.RowText.{row_text}
use Rattle.hb_row_text.specs.NextRow.{next_row, IsNext}
use Rattle.hb_row_text.specs.NextRow
use Rattle.hb_row_text.proofs.OrderLemmas.{nat_cmp-above, slice_cmp-row_text}
use Rattle.hb_row_text.proofs.LeastLemmas.{IsNext-next_row}
use Rattle.region_set.specs.RegionLine.{IsRow, IsRegion, IsRegionBehind}
use Rattle.region_set.specs.RegionParts.{id_unless, least_id, start_bound, bound_text, IsId, IsStart}

-- an order that is less or equal is not greater
not_greater : (o : Ordering) → is_le o ≡ true → o ≢ Greater
not_greater Less e f = true≢false (sym (ap is_gt f))
not_greater Equal e f = true≢false (sym (ap is_gt f))
not_greater Greater e f = true≢false (sym e)

-- an order that is not greater is less or equal
is_le-not_greater : (o : Ordering) → o ≢ Greater → is_le o ≡ true
is_le-not_greater Less n = refl
is_le-not_greater Equal n = refl
is_le-not_greater Greater n = absurd (n refl)

-- a row is not below a bound, if there is one
abbrev IsFromRow : Option (List ℕ) → List ℕ → Type 0
IsFromRow None row = Unit {0}
IsFromRow (Some bound) row = IsAtLeast bound row

-- a region of a lower id has a start above: from the next row on
above_start : (next : Option (List ℕ)) (row : List ℕ) → NextRow.IsFrom next row → IsFromRow next row
above_start None row from = absurd from
above_start (Some next) row from = not_greater (slice_cmp nat_cmp next row) from

-- and the next row is there
least_above : (next : Option (List ℕ)) (row : List ℕ) (id : ℕ) → NextRow.IsFrom next row → id_unless next id ≡ 0
least_above None row id from = absurd from
least_above (Some next) row id from = refl

-- by the order of the starts: where the ids descend, the start is above
less_start : (o : Ordering) (i j : ℕ) → j < i → ordering_then o (nat_cmp i j) ≢ Greater → o ≡ Less
less_start Less i j below n = refl
less_start Equal i j below n = absurd (n (nat_cmp-above i j below))
less_start Greater i j below n = absurd (n refl)

-- and else it is not below
le_start : (o : Ordering) (i j : ℕ) → ordering_then o (nat_cmp i j) ≢ Greater → o ≢ Greater
le_start Less i j n e = true≢false (sym (ap is_gt e))
le_start Equal i j n e = true≢false (sym (ap is_gt e))
le_start Greater i j n e = n refl

-- ids that ascend keep the order of the starts
then_le : (o : Ordering) (i j : ℕ) → i ≤ j → o ≢ Greater → ordering_then o (nat_cmp i j) ≢ Greater
then_le Less i j le n e = n e
then_le Equal i j le n e = grind (arith, nat_tests)
then_le Greater i j le n e = n refl

-- a start that is above keeps it, whatever the ids are
then_less : (o : Ordering) (i j : ℕ) → o ≡ Less → ordering_then o (nat_cmp i j) ≢ Greater
then_less Less i j e f = true≢false (sym (ap is_gt f))
then_less Equal i j e f = true≢false (sym (ap is_lt e))
then_less Greater i j e f = true≢false (sym (ap is_lt e))

-- the least id is not above the one before
id_unless-le : (next : Option (List ℕ)) (id : ℕ) → id_unless next id ≤ id
id_unless-le None id = omega arith
id_unless-le (Some next) id = omega arith

-- a start and an id that are not below another's are from the least id and the least start on
from_bounds : (s t : List ℕ) (i j : ℕ) → IsRow t → ordering_then (slice_cmp nat_cmp s t) (nat_cmp i j) ≢ Greater → (b : Bool) → nat_lt j i ≡ b →
    (id_unless (next_row 32767 s) i ≤ j) × IsFromRow (cond b (next_row 32767 s) (Some s)) t
from_bounds s t i j row n true e =
    let below : j < i = grind (arith, nat_tests) in
    let from = (IsNext-next_row 32767 s).forth t row.small row.limit (less_start (slice_cmp nat_cmp s t) i j below n) in
    let none = least_above (next_row 32767 s) t i from in
    (omega arith, above_start (next_row 32767 s) t from)
from_bounds s t i j row n false e =
    let le : i ≤ j = grind (arith, nat_tests) in
    let least = id_unless-le (next_row 32767 s) i in
    (omega arith, le_start (slice_cmp nat_cmp s t) i j n)

-- a start from the next row on is above, where there is one or the ids ascend
above_next : (next : Option (List ℕ)) (t : List ℕ) (i j : ℕ) → j < i → id_unless next i ≤ j → IsFromRow next t → NextRow.IsFrom next t
above_next None t i j below least from = absurd (omega arith)
above_next (Some next) t i j below least from = is_le-not_greater (slice_cmp nat_cmp next t) from

-- and those from them on are not below it
to_order : (s t : List ℕ) (i j : ℕ) → (b : Bool) → nat_lt j i ≡ b → id_unless (next_row 32767 s) i ≤ j → IsFromRow (cond b (next_row 32767 s) (Some s)) t →
    ordering_then (slice_cmp nat_cmp s t) (nat_cmp i j) ≢ Greater
to_order s t i j true e least from =
    let below : j < i = grind (arith, nat_tests) in
    then_less (slice_cmp nat_cmp s t) i j ((IsNext-next_row 32767 s).back t (above_next (next_row 32767 s) t i j below least from))
to_order s t i j false e least from = let le : i ≤ j = grind (arith, nat_tests) in then_le (slice_cmp nat_cmp s t) i j le from

-- a row key is from a row on where its text is from that one's on
IsStart-IsFromRow : (bound : Option (List ℕ)) (row : List ℕ) → ((b : List ℕ) → bound ≡ Some b → IsBytes b) → IsRow row → IsFromRow bound row →
    IsStart (option_map row_text bound) row
IsStart-IsFromRow None row small ok from = ok
IsStart-IsFromRow (Some bound) row small ok from =
    (ok, subst (λ o. o ≢ Greater) (sym (slice_cmp-row_text bound row (small bound refl) ok.small)) from)

-- and only there
IsFromRow-IsStart : (bound : Option (List ℕ)) (row : List ℕ) → ((b : List ℕ) → bound ≡ Some b → IsBytes b) → IsStart (option_map row_text bound) row →
    IsFromRow bound row
IsFromRow-IsStart None row small start = tt
IsFromRow-IsStart (Some bound) row small start =
    subst (λ o. o ≢ Greater) (slice_cmp-row_text bound row (small bound refl) start.0.small) start.1

-- a start from a bound on is a row key
pub IsRow-IsStart : (bound : Option (List ℕ)) (row : List ℕ) → IsStart bound row → IsRow row
IsRow-IsStart None row start = start
IsRow-IsStart (Some bound) row start = start.0

-- the next row is a row key
IsRow-next_row : (row next : List ℕ) → IsRow row → next_row 32767 row ≡ Some next → IsRow next
IsRow-next_row row next ok e = let is_next = IsNext-next_row 32767 row in record { small = is_next.small next e ok.small; limit = is_next.limit next e }

-- so is each bound
IsRow-bound : (b : Bool) (row bound : List ℕ) → IsRow row → cond b (next_row 32767 row) (Some row) ≡ Some bound → IsRow bound
IsRow-bound true row bound ok e = IsRow-next_row row bound ok e
IsRow-bound false row bound ok e = let same : row ≡ bound = cc in subst IsRow same ok

-- the least start behind a region is a row key
pub IsRow-start_bound : (last : Option (RegionInfo × Bool)) (id : ℕ) → IfSome last (λ region. IsRow region.0.start) → (bound : List ℕ) →
    start_bound last id ≡ Some bound → IsRow bound
IsRow-start_bound None id ok bound e = cc
IsRow-start_bound (Some last) id ok bound e = IsRow-bound (nat_lt id last.0.id) last.0.start bound ok e

-- the bytes of it are bytes
small_bound : (last : Option (RegionInfo × Bool)) (id : ℕ) → IfSome last (λ region. IsRow region.0.start) → (bound : List ℕ) → start_bound last id ≡ Some bound → IsBytes bound
small_bound last id ok bound e = (IsRow-start_bound last id ok bound e).small

-- a region that may stand behind another has its least id
pub IsId-IsRegionBehind : (table : List ℕ) (last : Option (RegionInfo × Bool)) (region : RegionInfo × Bool) → IsRegionBehind table last region → IsId (least_id last) region.0.id
IsId-IsRegionBehind table None region ok = (omega arith, ok.id)
IsId-IsRegionBehind table (Some last) region ok =
    ((from_bounds last.0.start region.0.start last.0.id region.0.id ok.0.start ok.1 (nat_lt region.0.id last.0.id) refl).0, ok.0.id)

-- and a start from the least one on
pub IsStart-IsRegionBehind : (table : List ℕ) (last : Option (RegionInfo × Bool)) (region : RegionInfo × Bool) → IfSome last (λ region. IsRow region.0.start) →
    IsRegionBehind table last region → IsStart (bound_text last region.0.id) region.0.start
IsStart-IsRegionBehind table None region row ok = ok.start
IsStart-IsRegionBehind table (Some last) region row ok =
    IsStart-IsFromRow (start_bound (Some last) region.0.id) region.0.start (small_bound (Some last) region.0.id row) ok.0.start
    (from_bounds last.0.start region.0.start last.0.id region.0.id ok.0.start ok.1 (nat_lt region.0.id last.0.id) refl).1

-- a region with both may stand behind it
pub IsRegionBehind-IsStart : (table : List ℕ) (last : Option (RegionInfo × Bool)) (region : RegionInfo × Bool) → IfSome last (λ region. IsRow region.0.start) →
    IsRegion table region → IsId (least_id last) region.0.id → IsStart (bound_text last region.0.id) region.0.start → IsRegionBehind table last region
IsRegionBehind-IsStart table None region row ok id start = ok
IsRegionBehind-IsStart table (Some last) region row ok id start =
    let from = IsFromRow-IsStart (start_bound (Some last) region.0.id) region.0.start (small_bound (Some last) region.0.id row) start in
    (ok, to_order last.0.start region.0.start last.0.id region.0.id (nat_lt region.0.id last.0.id) refl id.0 from)

-- the least id behind a region is one
pub least_id-small : (table : List ℕ) (last : Option (RegionInfo × Bool)) → IfSome last (IsRegion table) → least_id last < 2 ^ 64
least_id-small table None ok = omega arith
least_id-small table (Some last) ok = let small = ok.id in let least = id_unless-le (next_row 32767 last.0.start) last.0.id in omega arith

-- no id is needed where there is a next row
pub id_unless-some : (next : Option (List ℕ)) (id : ℕ) → next ≢ None → 0 ≡ id_unless next id
id_unless-some None id some = absurd (some refl)
id_unless-some (Some next) id some = refl

-- it is where there is none
pub id_unless-none : (next : Option (List ℕ)) (id : ℕ) → (next ≢ None → ⊥) → id ≡ id_unless next id
id_unless-none None id none = refl
id_unless-none (Some next) id none = absurd (none (λ e. cc))
