-- How many open regions hold a row, when a set changes.
use Rattle.std.proofs.Common.{◌≡◌, ◌≢◌, ◌⊎◌, ℕ, ◌+◌, ◌&&◌, ◌||◌, Bool, true, false, not, cond, List, [], ◌∷◌, Some, None, refl, sym, ap, ◌∙◌, subst, inl, inr, arith, zero-add}
use Rattle.std.specs.Prelude.{count_by, filter, map}
use Rattle.std.specs.List.{AllByRecursion}
use Rattle.std.specs.Ordering.{is_gt}
use Rattle.cell_sight.specs.Member.{Member}
use Rattle.cell_sight.proofs.Counts.{count-cons}
use Rattle.hb_cell.specs.Order.{is_below, same_bytes}
use Rattle.hb_records.specs.declared.region_info.RegionInfo.{RegionInfo}
use Rattle.region_set.specs.RegionLine.{region_cmp}
use Rattle.plain_model.specs.CanHappen.{AreHalves}
use Rattle.plain_model.specs.Keys.{encoded}
use Rattle.plain_model.specs.Replies.{ascend_from}
use Rattle.plain_model.specs.Rows.{CoverAll, holds_row, open_of}
use Rattle.plain_model.specs.TableEvents.{is_one_of, with_region, with_split, without_regions}
use Rattle.plain_model.proofs.PlainLaws.{splits_rows}
use Rattle.core_model.specs.declared.snapshot.CopiedRegion.{CopiedRegion}
use Rattle.core_model.specs.Plans.{copied_regions, region_of, split_regions}
use Rattle.core_sound.proofs.Sources.{each-member}
use Rattle.core_sound.proofs.Tests.{same_bytes-self, same_bytes-true}
use Rattle.core_opens.specs.Fits.{EachTwo}
use Rattle.core_beside.proofs.Loaded.{below_trans}
use Rattle.core_beside.proofs.Pairs.{each-from, two-filter, two-map}
use Rattle.core_regions.specs.Cover.{Differ, infos_in}

-- how many of some regions hold a row, and how many open ones of a set
abbrev holders : List ℕ → List RegionInfo → ℕ
holders row regions = count_by (λ r. holds_row r row) regions

abbrev opens : List ℕ → List (RegionInfo × Bool) → ℕ
opens row rs = holders row (open_of rs)

abbrev one : List ℕ → RegionInfo → ℕ
one row i = cond (holds_row i row) 1 0

opens-cons : (row : List ℕ) (x : RegionInfo × Bool) (rs : List (RegionInfo × Bool)) → opens row (x ∷ rs) ≡ cond x.1 0 (one row x.0) + opens row rs
opens-cons row x rs = elim x.1 as (λ b. holders row (map (λ (r : RegionInfo × Bool). r.0) (cond (not b) (x ∷ filter (λ (r : RegionInfo × Bool). not r.1) rs) (filter (λ (r : RegionInfo × Bool). not r.1) rs))) ≡ cond b 0 (one row x.0) + opens row rs) [
  | true ↦ sym (zero-add (opens row rs))
  | false ↦ count-cons (λ r. holds_row r row) x.0 (open_of rs)
]

-- ---- a region is put in

pub opens-put : (row : List ℕ) (i : RegionInfo) (rs : List (RegionInfo × Bool)) → opens row (with_region i rs) ≡ one row i + opens row rs
opens-put row i [] = opens-cons row (i, false) []
opens-put row i (s ∷ ss) = elim (is_gt (region_cmp i s.0)) as (λ b. opens row (cond b (s ∷ with_region i ss) ((i, false) ∷ s ∷ ss)) ≡ one row i + opens row (s ∷ ss)) [
  | true ↦ (let a = opens-cons row s (with_region i ss) in let b = opens-cons row s ss in let h = opens-put row i ss in omega (arith, a, b, h))
  | false ↦ opens-cons row (i, false) (s ∷ ss)
]

pub in_put : (new : RegionInfo) (rs : List (RegionInfo × Bool)) → Member (new, false) (with_region new rs)
in_put new [] = inl refl
in_put new (s ∷ ss) = elim (is_gt (region_cmp new s.0)) as (λ b. Member (new, false) (cond b (s ∷ with_region new ss) ((new, false) ∷ s ∷ ss))) [ true ↦ inr (in_put new ss) | false ↦ inl refl ]

pub still_put : (new : RegionInfo) (y : RegionInfo × Bool) (rs : List (RegionInfo × Bool)) → Member y rs → Member y (with_region new rs)
still_put new y [] m = absurd m
still_put new y (s ∷ ss) m = elim (is_gt (region_cmp new s.0)) as (λ b. Member y (cond b (s ∷ with_region new ss) ((new, false) ∷ s ∷ ss))) [
  | true ↦ elim m [ inl e ↦ inl e | inr n ↦ inr (still_put new y ss n) ]
  | false ↦ inr m
]

pub of_put : (new : RegionInfo) (y : RegionInfo × Bool) (rs : List (RegionInfo × Bool)) → Member y (with_region new rs) → ((new, false) ≡ y) ⊎ Member y rs
of_put new y [] (inl e) = inl e
of_put new y [] (inr m) = absurd m
of_put new y (s ∷ ss) m = (elim (is_gt (region_cmp new s.0)) as (λ b. Member y (cond b (s ∷ with_region new ss) ((new, false) ∷ s ∷ ss)) → ((new, false) ≡ y) ⊎ Member y (s ∷ ss)) [
  | true ↦ λ k. elim k [ inl e ↦ inr (inl e) | inr n ↦ elim (of_put new y ss n) [ inl e ↦ inl e | inr j ↦ inr (inr j) ] ]
  | false ↦ λ k. elim k [ inl e ↦ inl e | inr n ↦ inr n ]
]) m

abbrev Apart : RegionInfo × Bool → RegionInfo × Bool → Type 0
Apart x y = encoded x.0 ≢ encoded y.0

pub differ_put : (i : RegionInfo) (rs : List (RegionInfo × Bool)) → Differ rs → ((x : RegionInfo × Bool) → Member x rs → encoded x.0 ≢ encoded i) → Differ (with_region i rs)
differ_put i [] h n = (tt, tt)
differ_put i (s ∷ ss) h n = elim (is_gt (region_cmp i s.0)) as (λ b. Differ (cond b (s ∷ with_region i ss) ((i, false) ∷ s ∷ ss))) [
  | true ↦ (
    each-from (Apart s) (with_region i ss) (λ y m. elim (of_put i y ss m) [
      | inl e ↦ λ k. n s (inl refl) (k ∙ ap (λ (x : RegionInfo × Bool). encoded x.0) (sym e))
      | inr j ↦ each-member (Apart s) ss y h.0 j
    ]),
    differ_put i ss h.1 (λ x m. n x (inr m)),
  )
  | false ↦ (each-from (Apart (i, false)) (s ∷ ss) (λ y m k. n y m (sym k)), h)
]

-- members with one encoded name are one
pub differ_same : (rs : List (RegionInfo × Bool)) (x y : RegionInfo × Bool) → Differ rs → Member x rs → Member y rs → encoded x.0 ≡ encoded y.0 → x ≡ y
differ_same [] x y h m n e = absurd m
differ_same (r ∷ rs) x y h (inl i) (inl j) e = sym i ∙ j
differ_same (r ∷ rs) x y h (inl i) (inr n) e = absurd (each-member (Apart r) rs y h.0 n (ap (λ (v : RegionInfo × Bool). encoded v.0) i ∙ e))
differ_same (r ∷ rs) x y h (inr m) (inl j) e = absurd (each-member (Apart r) rs x h.0 m (ap (λ (v : RegionInfo × Bool). encoded v.0) j ∙ sym e))
differ_same (r ∷ rs) x y h (inr m) (inr n) e = differ_same rs x y h.1 m n e

-- ---- a region is marked as split

abbrev marked : List ℕ → RegionInfo × Bool → RegionInfo × Bool
marked name x = (x.0, x.1 || is_one_of (name ∷ []) x)

other_name : (name other : List ℕ) → name ≢ other → (same_bytes name other || false) ≡ false
other_name name other n = (elim (same_bytes name other) as (λ b. same_bytes name other ≡ b → (b || false) ≡ false) [ true ↦ λ d. absurd (n (same_bytes-true name other d)) | false ↦ λ d. refl ]) refl

kept_bit : (a b : Bool) → b ≡ false → (a || b) ≡ a
kept_bit true b e = refl
kept_bit false b e = e

unmarked : (name : List ℕ) (x : RegionInfo × Bool) → name ≢ encoded x.0 → marked name x ≡ x
unmarked name x n = λ j. (x.0, kept_bit x.1 (is_one_of (name ∷ []) x) (other_name name (encoded x.0) n) j)

unsplit : (name : List ℕ) (rs : List (RegionInfo × Bool)) → AllByRecursion (λ (y : RegionInfo × Bool). name ≢ encoded y.0) rs → with_split (name ∷ []) rs ≡ rs
unsplit name [] h = refl
unsplit name (x ∷ rs) h = ap (λ y. y ∷ with_split (name ∷ []) rs) (unmarked name x h.0) ∙ ap (λ ys. x ∷ ys) (unsplit name rs h.1)

is_marked : (i : RegionInfo) → marked (encoded i) (i, false) ≡ (i, true)
is_marked i = λ j. (i, (ap (λ b. b || false) (same_bytes-self (encoded i))) j)

pub opens-split : (row : List ℕ) (whole : RegionInfo) (rs : List (RegionInfo × Bool)) → Differ rs → Member (whole, false) rs → opens row rs ≡ one row whole + opens row (with_split (encoded whole ∷ []) rs)
opens-split row whole [] h m = absurd m
opens-split row whole (x ∷ rs) h (inl e) = subst (λ y. Differ (y ∷ rs) → opens row (y ∷ rs) ≡ one row whole + opens row (with_split (encoded whole ∷ []) (y ∷ rs))) (sym e) (λ k.
    let a = opens-cons row (whole, false) rs in
    let b = ap (λ y. opens row (y ∷ with_split (encoded whole ∷ []) rs)) (is_marked whole) ∙ opens-cons row (whole, true) (with_split (encoded whole ∷ []) rs) ∙ ap (λ ys. 0 + opens row ys) (unsplit (encoded whole) rs k.0) in
    omega (arith, a, b)) h
opens-split row whole (x ∷ rs) h (inr m) =
    let a = opens-cons row x rs in
    let n : encoded whole ≢ encoded x.0 = λ e. each-member (Apart x) rs (whole, false) h.0 m (sym e) in
    let b = ap (λ y. opens row (y ∷ with_split (encoded whole ∷ []) rs)) (unmarked (encoded whole) x n) ∙ opens-cons row x (with_split (encoded whole ∷ []) rs) in
    let k = opens-split row whole rs h.1 m in omega (arith, a, b, k)

pub differ_split : (names : List (List ℕ)) (rs : List (RegionInfo × Bool)) → Differ rs → Differ (with_split names rs)
differ_split names rs h = two-map Apart Apart (λ (x : RegionInfo × Bool). (x.0, x.1 || is_one_of names x)) rs (λ x y m n k. k) h

-- both halves hold what the whole held
abbrev bit : Bool → ℕ
bit b = cond b 1 0

both_halves : (a b x y : Bool) → x ≡ (a && b) → y ≡ (a && not b) → bit x + bit y ≡ bit a
both_halves true true x y e f = (let u : bit x ≡ 1 = ap bit e in let v : bit y ≡ 0 = ap bit f in omega (arith, u, v))
both_halves true false x y e f = (let u : bit x ≡ 0 = ap bit e in let v : bit y ≡ 1 = ap bit f in omega (arith, u, v))
both_halves false b x y e f = (let u : bit x ≡ 0 = ap bit e in let v : bit y ≡ 0 = ap bit f in omega (arith, u, v))

pub split_covers : (whole low high : RegionInfo) (rs : List (RegionInfo × Bool)) → AreHalves whole low high → Differ rs → Member (whole, false) rs → CoverAll (open_of rs)
    → CoverAll (open_of (with_region low (with_region high (with_split (encoded whole ∷ []) rs))))
split_covers whole low high rs k d m h row =
    let w = splits_rows whole low high row k in
    let a = opens-put row low (with_region high (with_split (encoded whole ∷ []) rs)) in
    let b = opens-put row high (with_split (encoded whole ∷ []) rs) in
    let c = opens-split row whole rs d m in
    let e = both_halves (holds_row whole row) (is_below row high.start) (holds_row low row) (holds_row high row) w.lower w.upper in
    omega (arith, a, b, c, e, h row)

-- ---- regions are taken out

taken_open : (names : List (List ℕ)) (x : RegionInfo × Bool) → is_one_of names x ≡ true → (x.1 ≡ false → is_one_of names x ≡ false) → x.1 ≡ true
taken_open names x e n = (elim x.1 as (λ b. x.1 ≡ b → b ≡ true) [ true ↦ λ d. refl | false ↦ λ d. let z : true ≡ false = sym e ∙ n d in absurd (cc) ]) refl

pub opens-without : (row : List ℕ) (names : List (List ℕ)) (rs : List (RegionInfo × Bool)) → ((i : RegionInfo) → Member (i, false) rs → is_one_of names (i, false) ≡ false) → opens row (without_regions names rs) ≡ opens row rs
opens-without row names [] n = refl
opens-without row names (x ∷ rs) n = let k = opens-without row names rs (λ i m. n i (inr m)) in let a = opens-cons row x rs in
    (elim (is_one_of names x) as (λ b. is_one_of names x ≡ b → opens row (cond (not b) (x ∷ without_regions names rs) (without_regions names rs)) ≡ opens row (x ∷ rs)) [
      | true ↦ λ e. let c = ap (λ b. cond b 0 (one row x.0)) (taken_open names x e (λ d. n x.0 (inl (λ j. (x.0, d j))))) in omega (arith, a, c, k)
      | false ↦ λ e. let b = opens-cons row x (without_regions names rs) in omega (arith, a, b, k)
    ]) refl

pub differ_without : (names : List (List ℕ)) (rs : List (RegionInfo × Bool)) → Differ rs → Differ (without_regions names rs)
differ_without names rs h = two-filter Apart (λ (r : RegionInfo × Bool). not (is_one_of names r)) rs h

-- ---- a table is made

abbrev all_open : List RegionInfo → List (RegionInfo × Bool)
all_open regions = map (λ (r : RegionInfo). (r, false)) regions

pub open-all : (regions : List RegionInfo) → open_of (all_open regions) ≡ regions
open-all [] = refl
open-all (r ∷ rs) = ap (λ is. r ∷ is) (open-all rs)

pub differ_new : (regions : List RegionInfo) → EachTwo (λ (i j : RegionInfo). encoded i ≢ encoded j) regions → Differ (all_open regions)
differ_new regions h = two-map (λ (i j : RegionInfo). encoded i ≢ encoded j) Apart (λ (r : RegionInfo). (r, false)) regions (λ i j m n k. k) h

-- ---- splits of all rows

step_on : (a b : Bool) → (a ≡ true → b ≡ true) → cond (not a && b) 1 0 + cond (not b) 1 0 ≡ cond (not a) 1 0
step_on true true h = refl
step_on true false h = let z : false ≡ true = h refl in absurd (cc)
step_on false true h = refl
step_on false false h = refl

last_one : (a : Bool) → cond (not a && true) 1 0 + 0 ≡ cond (not a) 1 0
last_one true = refl
last_one false = refl

ascends_left : (a b : Bool) → (a && b) ≡ true → a ≡ true
ascends_left true b e = refl
ascends_left false b e = e

ascends_right : (a b : Bool) → (a && b) ≡ true → b ≡ true
ascends_right true b e = e
ascends_right false b e = absurd (cc)

split_holders : (row t : List ℕ) (id : ℕ) (start : List ℕ) (splits : List (List ℕ)) → ascend_from start splits ≡ true → holders row (split_regions t id start splits) ≡ cond (not (is_below row start)) 1 0
split_holders row t id start [] h = count-cons (λ r. holds_row r row) (region_of t id start None) [] ∙ last_one (is_below row start)
split_holders row t id start (r ∷ rs) h =
    let a = count-cons (λ r. holds_row r row) (region_of t id start (Some r)) (split_regions t (id + 1) r rs) in
    let k = split_holders row t (id + 1) r rs (ascends_right (is_below start r) (ascend_from r rs) h) in
    let e = step_on (is_below row start) (is_below row r) (λ d. below_trans row start r d (ascends_left (is_below start r) (ascend_from r rs) h)) in
    omega (arith, a, k, e)

not_below_none : (row : List ℕ) → is_below row [] ≡ false
not_below_none [] = refl
not_below_none (b ∷ row) = refl

pub splits_cover : (t : List ℕ) (id : ℕ) (splits : List (List ℕ)) → ascend_from [] splits ≡ true → CoverAll (split_regions t id [] splits)
splits_cover t id splits h row = split_holders row t id [] splits h ∙ ap (λ b. cond (not b) 1 0) (not_below_none row)

pub copies_cover : (t : List ℕ) (id : ℕ) (rs : List CopiedRegion) (row : List ℕ) → holders row (copied_regions t id rs) ≡ holders row (infos_in rs)
copies_cover t id [] row = refl
copies_cover t id (r ∷ rs) row =
    let a = count-cons (λ i. holds_row i row) (region_of t id r.info.start r.info.end) (copied_regions t (id + 1) rs) in
    let b = count-cons (λ i. holds_row i row) r.info (infos_in rs) in
    let k = copies_cover t (id + 1) rs row in omega (arith, a, b, k)
