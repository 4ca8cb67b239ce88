-- What holds of the plain machine.
use Rattle.std.proofs.Common.{◌≡◌, ℕ, ◌+◌, Bool, true, false, cond, not, ◌&&◌, ◌||◌, List, [], ◌∷◌, ◌++◌, map, take, drop, filter, find, count_by, Option, Some, None, refl, sym, ap, ◌∙◌, arith}
use Rattle.std.specs.List.{list_any}
use Rattle.std.specs.Ordering.{is_lt}
use Rattle.std.specs.declared.cmp.Ordering.TheVariants.{Less, Equal, Greater}
use Rattle.std.specs.Cmp.Lexicographic.{nat_list_cmp_total}
use Rattle.hb_cell.specs.Order.{bytes_cmp, is_below}
use Rattle.hb_cell.specs.declared.cell.Cell.{Cell}
use Rattle.hb_records.specs.declared.region_info.RegionInfo.{RegionInfo}
use Rattle.cell_sight.specs.Same.{Same}
use Rattle.cell_sight.proofs.Counts.{count-cons, same-append, same-filter, same-equal}
use Rattle.cell_sight.proofs.SeenParts.{same_seen}
use Rattle.plain_model.specs.declared.event.Event.{Event}
use Rattle.plain_model.specs.declared.event.Event.TheVariants.{Put, Draw, Freeze, Flush, MajorStart, Major, Bulk, Capture, Complete, Delete, Create, Enable, Disable, Drop, Split, Clone, Restore, Remove, At, Stop}
use Rattle.plain_model.specs.declared.hold.Hold.{Hold}
use Rattle.plain_model.specs.declared.parts.RegionCopy.{RegionCopy}
use Rattle.plain_model.specs.declared.region_key.RegionKey.{RegionKey}
use Rattle.plain_model.specs.Conflicts.{excludes, conflicts, waits_for_take}
use Rattle.plain_model.specs.CellEvents.{each_with, cells_by_key, numbers_by_key, compacted, under, from}
use Rattle.plain_model.specs.CanHappen.{AreHalves}
use Rattle.plain_model.specs.Keys.{key_of, same_key, set_at, set_each}
use Rattle.plain_model.specs.Plain.{Plain}
use Rattle.plain_model.specs.Rows.{holds_row, is_before_end, open_of, region_of, CoverAll}
use Rattle.plain_model.specs.Laws.{named, LeavesOthers, LeavesTables, LeavesSnapshots, LeavesLive, HasOneRegion, SplitsRows, SplitsRow, SameStay, SameCompacted, StopsAlike, IsSymmetric}

-- ---- what an event leaves alone

first_false : (a b : Bool) → (a || b) ≡ false → a ≡ false
first_false true b h = absurd (cc)
first_false false b h = refl

second_false : (a b : Bool) → (a || b) ≡ false → b ≡ false
second_false true b h = absurd (cc)
second_false false b h = h

other_at : {A : Type 0} (k q : RegionKey) (v : A) (f : RegionKey → A) → same_key q k ≡ false → set_at k v f q ≡ f q
other_at k q v f h = ap (λ b. cond b v (f q)) h

other_one : {A : Type 0} (k q : RegionKey) (v : A) (f : RegionKey → A) → list_any (same_key q) (k ∷ []) ≡ false → set_at k v f q ≡ f q
other_one k q v f h = other_at k q v f (first_false (same_key q k) false h)

other_each : {A : Type 0} (value : A) (regions : List RegionInfo) (f : RegionKey → A) (q : RegionKey) → list_any (same_key q) (map key_of regions) ≡ false → set_each (each_with value regions) f q ≡ f q
other_each value [] f q h = refl
other_each value (r ∷ rs) f q h =
    other_at (key_of r) q value (set_each (each_with value rs) f) (first_false (same_key q (key_of r)) (list_any (same_key q) (map key_of rs)) h)
    ∙ other_each value rs f q (second_false (same_key q (key_of r)) (list_any (same_key q) (map key_of rs)) h)

other_cells : (regions : List RegionInfo) (copies : List RegionCopy) (f : RegionKey → List Cell) (q : RegionKey) → list_any (same_key q) (map key_of regions) ≡ false → set_each (cells_by_key regions copies) f q ≡ f q
other_cells [] copies f q h = refl
other_cells (r ∷ rs) [] f q h = refl
other_cells (r ∷ rs) (c ∷ cs) f q h =
    other_at (key_of r) q c.cells (set_each (cells_by_key rs cs) f) (first_false (same_key q (key_of r)) (list_any (same_key q) (map key_of rs)) h)
    ∙ other_cells rs cs f q (second_false (same_key q (key_of r)) (list_any (same_key q) (map key_of rs)) h)

other_numbers : (regions : List RegionInfo) (copies : List RegionCopy) (f : RegionKey → ℕ) (q : RegionKey) → list_any (same_key q) (map key_of regions) ≡ false → set_each (numbers_by_key regions copies) f q ≡ f q
other_numbers [] copies f q h = refl
other_numbers (r ∷ rs) [] f q h = refl
other_numbers (r ∷ rs) (c ∷ cs) f q h =
    other_at (key_of r) q c.number (set_each (numbers_by_key rs cs) f) (first_false (same_key q (key_of r)) (list_any (same_key q) (map key_of rs)) h)
    ∙ other_numbers rs cs f q (second_false (same_key q (key_of r)) (list_any (same_key q) (map key_of rs)) h)

other_two : {A : Type 0} (k l q : RegionKey) (v w : A) (f : RegionKey → A) → list_any (same_key q) (k ∷ l ∷ []) ≡ false → set_at k v (set_at l w f) q ≡ f q
other_two k l q v w f h =
    other_at k q v (set_at l w f) (first_false (same_key q k) (same_key q l || false) h)
    ∙ other_at l q w f (first_false (same_key q l) false (second_false (same_key q k) (same_key q l || false) h))

pub leaves_others : (e : Event) (s : Plain) (k : RegionKey) → LeavesOthers e s k
leaves_others (Put k c) s q e h = record { stable = refl; mem = other_one k q _ s.mem h; frozen = refl; seq = other_one k q _ s.seq h; kept = refl }
leaves_others (Draw k) s q e h = record { stable = refl; mem = refl; frozen = refl; seq = other_one k q _ s.seq h; kept = refl }
leaves_others (Freeze k) s q e h = record { stable = refl; mem = refl; frozen = other_one k q _ s.frozen h; seq = refl; kept = refl }
leaves_others (Flush k) s q e h = record { stable = other_one k q _ s.stable h; mem = other_one k q _ s.mem h; frozen = other_one k q _ s.frozen h; seq = refl; kept = other_one k q _ s.kept h }
leaves_others (Major a k) s q e h = record { stable = other_one k q _ s.stable h; mem = refl; frozen = refl; seq = refl; kept = refl }
leaves_others (Bulk k cells) s q e h = record { stable = other_one k q _ s.stable h; mem = refl; frozen = refl; seq = refl; kept = other_one k q _ s.kept h }
leaves_others (Create schema rs) s q e h = record { stable = other_each _ rs s.stable q h; mem = other_each _ rs s.mem q h; frozen = other_each _ rs s.frozen q h; seq = other_each _ rs s.seq q h; kept = other_each _ rs s.kept q h }
leaves_others (Split t parent low high) s q e h = record {
  stable = other_two (key_of low) (key_of high) q _ _ s.stable h;
  mem = other_two (key_of low) (key_of high) q _ _ s.mem h;
  frozen = other_two (key_of low) (key_of high) q _ _ s.frozen h;
  seq = other_two (key_of low) (key_of high) q _ _ s.seq h;
  kept = other_two (key_of low) (key_of high) q _ _ s.kept h;
}
leaves_others (Clone n t rs) s q e h = record { stable = other_cells rs _ s.stable q h; mem = other_each _ rs s.mem q h; frozen = other_each _ rs s.frozen q h; seq = other_numbers rs _ s.seq q h; kept = other_numbers rs _ s.kept q h }
leaves_others (Restore n rs) s q e h = record { stable = other_cells rs _ s.stable q h; mem = other_each _ rs s.mem q h; frozen = other_each _ rs s.frozen q h; seq = other_numbers rs _ s.seq q h; kept = other_numbers rs _ s.kept q h }
leaves_others Stop s q e h = absurd (cc)
leaves_others _ s q e h = record { stable = refl; mem = refl; frozen = refl; seq = refl; kept = refl }

pub leaves_tables : (e : Event) (s : Plain) → LeavesTables e s
leaves_tables (Create schema regions) s h = absurd (cc)
leaves_tables (Enable t) s h = absurd (cc)
leaves_tables (Disable t) s h = absurd (cc)
leaves_tables (Drop t) s h = absurd (cc)
leaves_tables (Split t parent low high) s h = absurd (cc)
leaves_tables (Clone n t regions) s h = absurd (cc)
leaves_tables (Restore n regions) s h = absurd (cc)
leaves_tables (Remove t regions) s h = absurd (cc)
leaves_tables _ s h = refl

pub leaves_snapshots : (e : Event) (s : Plain) → LeavesSnapshots e s
leaves_snapshots (Complete a) s h = absurd (cc)
leaves_snapshots (Delete name) s h = absurd (cc)
leaves_snapshots _ s h = refl

pub leaves_live : (e : Event) (s : Plain) → LeavesLive e s
leaves_live (At a job holds) s h = absurd (cc)
leaves_live Stop s h = absurd (cc)
leaves_live _ s h = refl

-- ---- stops

pub stops_alike : (e : Event) (s : Plain) → StopsAlike e s
stops_alike (Put k c) s h = refl
stops_alike (Draw k) s h = refl
stops_alike (Freeze k) s h = refl
stops_alike (MajorStart a k) s h = refl
stops_alike (Capture a k) s h = refl
stops_alike (At a job holds) s h = refl
stops_alike Stop s h = refl
stops_alike _ s h = absurd (cc)

-- ---- conflicts

pub symmetric : (a b : Hold) → IsSymmetric a b
symmetric a b p q = or_forms (excludes a b) (excludes b a) (waits_for_take a b) (waits_for_take b a) p q
  where
    or_forms : (x y u v : Bool) → u ≡ false → v ≡ false → (x || y || u) ≡ (y || x || v)
    or_forms true true u v p q = refl
    or_forms true false u v p q = refl
    or_forms false true u v p q = refl
    or_forms false false u v p q = p ∙ sym q

-- ---- the same cells

pub same_stay : (row : List ℕ) (xs ys us vs : List Cell) → SameStay row xs ys us vs
same_stay row xs ys us vs h k = record {
  joined = same-append h k;
  below = same-filter (λ c. is_below c.row row) h;
  above = same-filter (λ c. not (is_below c.row row)) h;
}

pub same_compacted : (families : List (List ℕ × ℕ)) (n m : ℕ) (xs ys : List Cell) → SameCompacted families n m xs ys
same_compacted families n m xs ys h k = same-append (same-equal (same_seen families (take n xs) (take m ys) h)) k

-- ---- rows and regions

-- what is counted once is found, and alone
counted_once : {X : Type 0} (p : X → Bool) (xs : List X) → count_by p xs ≡ 1 → (x : X) × (find p xs ≡ Some x) × (filter p xs ≡ x ∷ [])
counted_once p [] h = absurd (omega arith)
counted_once {X} p (x ∷ xs) h = elim (p x) as (λ b. p x ≡ b → (y : X) × (cond b (Some x) (find p xs) ≡ Some y) × (cond b (x ∷ filter p xs) (filter p xs) ≡ y ∷ [])) [
  | true ↦ λ e. (x, refl, ap (λ ys. x ∷ ys) (counted_none p xs (let k : 1 + count_by p xs ≡ 1 = ap (λ b. cond b 1 0 + count_by p xs) (sym e) ∙ sym (count-cons p x xs) ∙ h in omega arith)))
  | false ↦ λ e. counted_once p xs (let k : 0 + count_by p xs ≡ 1 = ap (λ b. cond b 1 0 + count_by p xs) (sym e) ∙ sym (count-cons p x xs) ∙ h in omega arith)
] refl
  where
    counted_none : {X : Type 0} (p : X → Bool) (xs : List X) → count_by p xs ≡ 0 → filter p xs ≡ []
    counted_none p [] h = refl
    counted_none p (x ∷ xs) h = elim (p x) as (λ b. p x ≡ b → cond b (x ∷ filter p xs) (filter p xs) ≡ []) [
      | true ↦ λ e. let k : 1 + count_by p xs ≡ 0 = ap (λ b. cond b 1 0 + count_by p xs) (sym e) ∙ sym (count-cons p x xs) ∙ h in absurd (omega arith)
      | false ↦ λ e. counted_none p xs (let k : 0 + count_by p xs ≡ 0 = ap (λ b. cond b 1 0 + count_by p xs) (sym e) ∙ sym (count-cons p x xs) ∙ h in omega arith)
    ] refl

pub has_one_region : (regions : List (RegionInfo × Bool)) (row : List ℕ) → HasOneRegion regions row
has_one_region regions row h = counted_once (λ r. holds_row r row) (open_of regions) (h row)

less_of : (a b : List ℕ) → is_below a b ≡ true → bytes_cmp a b ≡ Less
less_of a b h = elim (bytes_cmp a b) as (λ o. is_lt o ≡ true → o ≡ Less) [
  | Less ↦ λ e. refl
  | Equal ↦ λ e. absurd (cc)
  | Greater ↦ λ e. absurd (cc)
] h

below_trans : (a b c : List ℕ) → is_below a b ≡ true → is_below b c ≡ true → is_below a c ≡ true
below_trans a b c h k = ap is_lt (nat_list_cmp_total.trans a b c (less_of a b h) (less_of b c k))

before_end : (a b : List ℕ) (end : Option (List ℕ)) → is_below a b ≡ true → is_before_end b end ≡ true → is_before_end a end ≡ true
before_end a b None h k = refl
before_end a b (Some end) h k = below_trans a b end h k

low_form : (a b e : Bool) → (b ≡ true → e ≡ true) → (not a && b) ≡ ((not a && e) && b)
low_form true b e h = refl
low_form false true true h = refl
low_form false true false h = absurd (let k : false ≡ true = h refl in cc)
low_form false false true h = refl
low_form false false false h = refl

high_form : (a b e : Bool) → (a ≡ true → b ≡ true) → (not b && e) ≡ ((not a && e) && not b)
high_form true true e h = refl
high_form true false e h = absurd (let k : false ≡ true = h refl in cc)
high_form false true true h = refl
high_form false true false h = refl
high_form false false true h = refl
high_form false false false h = refl

within_end : (a b : Bool) → (not a && b) ≡ true → b ≡ true
within_end true b h = absurd (cc)
within_end false b h = h

pub splits_rows : (whole low high : RegionInfo) (row : List ℕ) → SplitsRows whole low high row
splits_rows whole low high row h = record {
  lower = ap (λ start. not (is_below row start) && is_before_end row low.end) h.start ∙ ap (λ end. not (is_below row whole.start) && is_before_end row end) h.border
      ∙ low_form (is_below row whole.start) (is_below row high.start) (is_before_end row whole.end) (λ b. before_end row high.start whole.end b (within_end (is_below high.start whole.start) (is_before_end high.start whole.end) h.within));
  upper = ap (λ end. not (is_below row high.start) && is_before_end row end) h.end
      ∙ high_form (is_below row whole.start) (is_below row high.start) (is_before_end row whole.end) (λ b. below_trans row whole.start high.start b h.above);
}
