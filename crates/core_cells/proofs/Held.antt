-- What events make of the cells of one region.
use Rattle.std.proofs.Common.{◌≡◌, ◌≢◌, ◌⊎◌, ◌≤◌, ℕ, zero, suc, ◌+◌, ◌&&◌, max, Bool, true, false, not, cond, List, [], ◌∷◌, ◌++◌, take, drop, refl, sym, ap, ◌∙◌, subst, inl, inr, arith}
use Rattle.std.specs.Prelude.{count_by, filter}
use Rattle.std.specs.Ordering.{eq_by_cmp, is_eq, is_lt}
use Rattle.std.specs.declared.cmp.Ordering.{Ordering}
use Rattle.std.specs.declared.cmp.Ordering.TheVariants.{Less, Equal, Greater}
use Rattle.std.specs.List.{AllByRecursion, list_all}
use Rattle.cell_sight.specs.Member.{Member}
use Rattle.cell_sight.specs.Same.{Same}
use Rattle.cell_sight.specs.Visible.{visible}
use Rattle.cell_sight.proofs.Counts.{count-append, count-cons}
use Rattle.cell_sight.proofs.Members.{of_filter}
use Rattle.cell_sight.specs.VisibleLaws.{Rises}
use Rattle.cell_sight.proofs.ShownExactly.{ascends}
use Rattle.hb_cell.specs.declared.cell.Cell.{Cell}
use Rattle.hb_cell.specs.Order.{is_below, key_cmp}
use Rattle.hb_cell.proofs.SameKeys.{key_cmp-itself, key_cmp-same}
use Rattle.hb_records.specs.declared.region_info.RegionInfo.{RegionInfo}
use Rattle.plain_model.specs.CanHappen.{AreHalves}
use Rattle.plain_model.specs.CellEvents.{compacted, from, greatest, under}
use Rattle.plain_model.specs.Rows.{holds_row}
use Rattle.plain_model.proofs.PlainLaws.{splits_rows}
use Rattle.core_sound.proofs.Lists.{member-append}
use Rattle.core_sound.proofs.Sources.{each-member}
use Rattle.core_sound.proofs.Tests.{both_left, both_right}
use Rattle.core_contents.proofs.SeenFacts.{seen_laws}
use Rattle.core_opens.specs.Fits.{EachTwo}
use Rattle.core_beside.proofs.Pairs as pairs
use Rattle.core_beside.proofs.Pairs.{two-append}
use Rattle.core_cells.specs.Cells.{AreCellsOf, AreOnce, HoldsCells, IsCellOf}

-- ---- fronts and backs

pub of_take : {X : Type 0} (n : ℕ) (x : X) (xs : List X) → Member x (take n xs) → Member x xs
of_take zero x xs m = absurd m
of_take (suc n) x [] m = absurd m
of_take (suc n) x (y ∷ xs) (inl e) = inl e
of_take (suc n) x (y ∷ xs) (inr m) = inr (of_take n x xs m)

pub of_drop : {X : Type 0} (n : ℕ) (x : X) (xs : List X) → Member x (drop n xs) → Member x xs
of_drop zero x xs m = m
of_drop (suc n) x [] m = m
of_drop (suc n) x (y ∷ xs) m = inr (of_drop n x xs m)

two-drop : {X : Type 0} (R : X → X → Type 0) (n : ℕ) (xs : List X) → EachTwo R xs → EachTwo R (drop n xs)
two-drop R zero xs h = h
two-drop R (suc n) [] h = h
two-drop R (suc n) (x ∷ xs) h = two-drop R n xs h.1

two-take : {X : Type 0} (R : X → X → Type 0) (n : ℕ) (xs : List X) → EachTwo R xs → EachTwo R (take n xs)
two-take R zero xs h = tt
two-take R (suc n) [] h = h
two-take {X} R (suc n) (x ∷ xs) h = (front n xs h.0, two-take R n xs h.1)
  where
    front : (m : ℕ) (ys : List X) → AllByRecursion (R x) ys → AllByRecursion (R x) (take m ys)
    front zero ys a = tt
    front (suc m) [] a = tt
    front (suc m) (y ∷ ys) a = (a.0, front m ys a.1)

-- those in front differ from those behind
two-parts : {X : Type 0} (R : X → X → Type 0) (n : ℕ) (xs : List X) (x y : X) → EachTwo R xs → Member x (take n xs) → Member y (drop n xs) → R x y
two-parts R zero xs x y h m k = absurd m
two-parts R (suc n) [] x y h m k = absurd m
two-parts R (suc n) (z ∷ xs) x y h (inl e) k = subst (λ v. R v y) e (each-member (R z) xs y h.0 (of_drop n y xs k))
two-parts R (suc n) (z ∷ xs) x y h (inr m) k = two-parts R n xs x y h.1 m k

-- ---- cells that stand once

same_cell : (c d : Cell) → eq_by_cmp key_cmp c d ≡ true → c ≡ d
same_cell c d e = key_cmp-same c d (tied (key_cmp c d) e)
  where
    tied : (o : Ordering) → is_eq o ≡ true → o ≡ Equal
    tied Less i = absurd (cc)
    tied Equal i = refl
    tied Greater i = absurd (cc)

itself : (c : Cell) → eq_by_cmp key_cmp c c ≡ true
itself c = ap is_eq (key_cmp-itself c c refl)

absent-count : (c : Cell) (xs : List Cell) → (Member c xs → ⊥) → count_by (eq_by_cmp key_cmp c) xs ≡ 0
absent-count c [] n = refl
absent-count c (x ∷ xs) n = let k = absent-count c xs (λ m. n (inr m)) in
    (elim (eq_by_cmp key_cmp c x) as (λ b. eq_by_cmp key_cmp c x ≡ b → count_by (eq_by_cmp key_cmp c) (x ∷ xs) ≡ 0) [
      | true ↦ λ e. absurd (n (inl (sym (same_cell c x e))))
      | false ↦ λ e. let z = count-cons (eq_by_cmp key_cmp c) x xs ∙ ap (λ b. cond b 1 0 + count_by (eq_by_cmp key_cmp c) xs) e in omega (arith, z, k)
    ]) refl

-- a cell stands in a list, or it does not
is_there : (c : Cell) (xs : List Cell) → Member c xs ⊎ (Member c xs → ⊥)
is_there c [] = inr (λ m. m)
is_there c (x ∷ xs) = (elim (eq_by_cmp key_cmp c x) as (λ b. eq_by_cmp key_cmp c x ≡ b → Member c (x ∷ xs) ⊎ (Member c (x ∷ xs) → ⊥)) [
  | true ↦ λ e. inl (inl (sym (same_cell c x e)))
  | false ↦ λ e. elim (is_there c xs) [
    | inl m ↦ inl (inr m)
    | inr n ↦ inr (λ m. elim m [ inl i ↦ (let z : true ≡ false = sym (itself c) ∙ ap (eq_by_cmp key_cmp c) (sym i) ∙ e in absurd (cc)) | inr k ↦ n k ])
  ]
]) refl

pub once-append : (xs ys : List Cell) → AreOnce xs → AreOnce ys → ((c : Cell) → Member c xs → Member c ys → ⊥) → AreOnce (xs ++ ys)
once-append xs ys h k n c = let a = count-append (eq_by_cmp key_cmp c) xs ys in elim (is_there c xs) [
  | inl m ↦ (let z = absent-count c ys (n c m) in omega (arith, a, z, h c))
  | inr m ↦ (let z = absent-count c xs m in omega (arith, a, z, k c))
]

once-filter : (p : Cell → Bool) (xs : List Cell) → AreOnce xs → AreOnce (filter p xs)
once-filter p xs h c = let k = fewer xs in omega (arith, k, h c)
  where
    fewer : (ys : List Cell) → count_by (eq_by_cmp key_cmp c) (filter p ys) ≤ count_by (eq_by_cmp key_cmp c) ys
    fewer [] = omega arith
    fewer (y ∷ ys) = let k = fewer ys in let a = count-cons (eq_by_cmp key_cmp c) y ys in elim (p y) as (λ b. count_by (eq_by_cmp key_cmp c) (cond b (y ∷ filter p ys) (filter p ys)) ≤ count_by (eq_by_cmp key_cmp c) (y ∷ ys)) [
      | true ↦ (let z = count-cons (eq_by_cmp key_cmp c) y (filter p ys) in omega (arith, k, a, z))
      | false ↦ omega (arith, k, a)
    ]

pub once-same : (xs ys : List Cell) → Same xs ys → AreOnce ys → AreOnce xs
once-same xs ys e h c = let k = e.at (eq_by_cmp key_cmp c) in omega (arith, k, h c)

-- cells with different numbers stand once
once-numbers : (xs : List Cell) → EachTwo (λ (c d : Cell). c.seq ≢ d.seq) xs → AreOnce xs
once-numbers [] h c = omega arith
once-numbers (x ∷ xs) h c = let a = count-cons (eq_by_cmp key_cmp c) x xs in let k = once-numbers xs h.1 c in
    (elim (eq_by_cmp key_cmp c x) as (λ b. eq_by_cmp key_cmp c x ≡ b → count_by (eq_by_cmp key_cmp c) (x ∷ xs) ≤ 1) [
      | true ↦ λ e.
          let z = absent-count c xs (λ m. each-member (λ (d : Cell). x.seq ≢ d.seq) xs c h.0 m (ap (λ (d : Cell). d.seq) (sym (same_cell c x e)))) in
          let y = a ∙ ap (λ b. cond b 1 0 + count_by (eq_by_cmp key_cmp c) xs) e in omega (arith, y, z)
      | false ↦ λ e. let y = a ∙ ap (λ b. cond b 1 0 + count_by (eq_by_cmp key_cmp c) xs) e in omega (arith, y, k)
    ]) refl

once-back : (n : ℕ) (xs : List Cell) → AreOnce xs → AreOnce (drop n xs)
once-back n xs h c = let k = fewer n xs in omega (arith, k, h c)
  where
    fewer : (m : ℕ) (ys : List Cell) → count_by (eq_by_cmp key_cmp c) (drop m ys) ≤ count_by (eq_by_cmp key_cmp c) ys
    fewer zero ys = omega arith
    fewer (suc m) [] = omega arith
    fewer (suc m) (y ∷ ys) = let k = fewer m ys in let a = count-cons (eq_by_cmp key_cmp c) y ys in omega (arith, k, a)

-- a cell that stands once stands in front, or behind
parts_apart : (n : ℕ) (c : Cell) (xs : List Cell) → AreOnce xs → Member c (take n xs) → Member c (drop n xs) → ⊥
parts_apart zero c xs h m k = m
parts_apart (suc n) c [] h m k = m
parts_apart (suc n) c (x ∷ xs) h (inl e) k =
    let a = count-cons (eq_by_cmp key_cmp c) x xs ∙ ap (λ b. cond b 1 0 + count_by (eq_by_cmp key_cmp c) xs) (ap (eq_by_cmp key_cmp c) e ∙ itself c) in
    let z = some-count c xs (of_drop n c xs k) in absurd (omega (arith, a, z, h c))
  where
    some-count : (c : Cell) (ys : List Cell) → Member c ys → 1 ≤ count_by (eq_by_cmp key_cmp c) ys
    some-count c [] m = absurd m
    some-count c (y ∷ ys) (inl i) = let b = count-cons (eq_by_cmp key_cmp c) y ys ∙ ap (λ b. cond b 1 0 + count_by (eq_by_cmp key_cmp c) ys) (ap (eq_by_cmp key_cmp c) i ∙ itself c) in omega (arith, b)
    some-count c (y ∷ ys) (inr m) = let b = count-cons (eq_by_cmp key_cmp c) y ys in let z = some-count c ys m in omega (arith, b, z)
parts_apart (suc n) c (x ∷ xs) h (inr m) k = parts_apart n c xs (λ d. let a = count-cons (eq_by_cmp key_cmp d) x xs in omega (arith, a, h d)) m k

-- ---- numbers

pub greatest-above : (n : ℕ) (xs : List Cell) → n ≤ greatest n xs
greatest-above n [] = omega arith
greatest-above n (x ∷ xs) = let k = greatest-above (max n x.seq) xs in omega (arith, k)

pub greatest-each : (n : ℕ) (xs : List Cell) (c : Cell) → Member c xs → c.seq ≤ greatest n xs
greatest-each n [] c m = absurd m
greatest-each n (x ∷ xs) c (inl e) = let k = greatest-above (max n x.seq) xs in let z = ap (λ (d : Cell). d.seq) e in omega (arith, k, z)
greatest-each n (x ∷ xs) c (inr m) = greatest-each (max n x.seq) xs c m

pub greatest-below : (n m : ℕ) (xs : List Cell) → n ≤ m → ((c : Cell) → Member c xs → c.seq ≤ m) → greatest n xs ≤ m
greatest-below n m [] h k = h
greatest-below n m (x ∷ xs) h k = let z = k x (inl refl) in greatest-below (max n x.seq) m xs (omega (arith, h, z)) (λ c i. k c (inr i))

higher : (i : RegionInfo) (families : List (List ℕ × ℕ)) (m n : ℕ) (c : Cell) → m ≤ n → IsCellOf i families m c → IsCellOf i families n c
higher i families m n c e h = let z = h.number in record { versions = h.versions; known = h.known; row = h.row; number = omega (arith, z, e) }

-- ---- the cells of a region

pub no_cells : (i : RegionInfo) (families : List (List ℕ × ℕ)) (n : ℕ) → HoldsCells i families [] [] n n
no_cells i families n = record { files = record { each = λ c m. absurd m; once = λ c. omega arith }; waits = λ c m. absurd m; below = omega arith; differ = tt; apart = λ c d m. absurd m }

pub copied_cells : (i : RegionInfo) (families : List (List ℕ × ℕ)) (n : ℕ) (cells : List Cell) → AreCellsOf i families n cells → HoldsCells i families cells [] n n
copied_cells i families n cells h = record { files = h; waits = λ c m. absurd m; below = omega arith; differ = tt; apart = λ c d m k. absurd k }

pub put_cells : (i : RegionInfo) (families : List (List ℕ × ℕ)) (stable mem : List Cell) (kept seq : ℕ) (c : Cell) → IsCellOf i families (seq + 1) c → c.seq ≡ seq + 1 → HoldsCells i families stable mem kept seq → HoldsCells i families stable (mem ++ c ∷ []) kept (seq + 1)
put_cells i families stable mem kept seq c x e h = record {
  files = h.files;
  waits = λ d m. elim (member-append d mem (c ∷ []) m) [ inl k ↦ higher i families seq (seq + 1) d (omega arith) (h.waits d k) | inr k ↦ elim k [ inl z ↦ subst (IsCellOf i families (seq + 1)) z x | inr z ↦ absurd z ] ];
  below = let z = h.below in omega (arith, z);
  differ = two-append (λ (a b : Cell). a.seq ≢ b.seq) mem (c ∷ []) h.differ (tt, tt) (λ a b m k z. let n = (h.waits a m).number in elim k [
    | inl q ↦ (let y = ap (λ (v : Cell). v.seq) q in absurd (omega (arith, n, z, y, e)))
    | inr q ↦ absurd q
  ]);
  apart = λ a d m k z. elim (member-append d mem (c ∷ []) k) [
    | inl q ↦ h.apart a d m q z
    | inr q ↦ elim q [
      | inl w ↦ (let y = ap (λ (v : Cell). v.seq) w in let n = (h.files.each a m).number in let b = h.below in absurd (omega (arith, n, z, y, e, b)))
      | inr w ↦ absurd w
    ]
  ];
}

pub draw_cells : (i : RegionInfo) (families : List (List ℕ × ℕ)) (stable mem : List Cell) (kept seq : ℕ) → HoldsCells i families stable mem kept seq → HoldsCells i families stable mem kept (seq + 1)
draw_cells i families stable mem kept seq h = record {
  files = h.files;
  waits = λ d m. higher i families seq (seq + 1) d (omega arith) (h.waits d m);
  below = let z = h.below in omega (arith, z);
  differ = h.differ;
  apart = h.apart;
}

pub flush_cells : (i : RegionInfo) (families : List (List ℕ × ℕ)) (stable mem : List Cell) (kept seq n : ℕ) → HoldsCells i families stable mem kept seq
    → HoldsCells i families (stable ++ take n mem) (drop n mem) (greatest kept (take n mem)) seq
flush_cells i families stable mem kept seq n h = record {
  files = record {
    each = λ c m. elim (member-append c stable (take n mem) m) [
      | inl k ↦ higher i families kept (greatest kept (take n mem)) c (greatest-above kept (take n mem)) (h.files.each c k)
      | inr k ↦ (let x = h.waits c (of_take n c mem k) in record { versions = x.versions; known = x.known; row = x.row; number = greatest-each kept (take n mem) c k })
    ];
    once = once-append stable (take n mem) h.files.once (once-numbers (take n mem) (two-take (λ (a b : Cell). a.seq ≢ b.seq) n mem h.differ)) (λ c m k. h.apart c c m (of_take n c mem k) refl);
  };
  waits = λ d m. h.waits d (of_drop n d mem m);
  below = greatest-below kept seq (take n mem) h.below (λ c m. (h.waits c (of_take n c mem m)).number);
  differ = two-drop (λ (a b : Cell). a.seq ≢ b.seq) n mem h.differ;
  apart = λ c d m k. elim (member-append c stable (take n mem) m) [
    | inl q ↦ h.apart c d q (of_drop n d mem k)
    | inr q ↦ two-parts (λ (a b : Cell). a.seq ≢ b.seq) n mem c d h.differ q k
  ];
}

pub load_cells : (i : RegionInfo) (families : List (List ℕ × ℕ)) (stable mem : List Cell) (kept seq : ℕ) (cells : List Cell) → ((c : Cell) → Member c cells → IsCellOf i families seq c) → AreOnce cells
    → ((c d : Cell) → Member c cells → Member d stable → d.seq ≢ c.seq) → ((c d : Cell) → Member c cells → Member d mem → d.seq ≢ c.seq) → HoldsCells i families stable mem kept seq → HoldsCells i families (stable ++ cells) mem (greatest kept cells) seq
load_cells i families stable mem kept seq cells x o u v h = record {
  files = record {
    each = λ c m. elim (member-append c stable cells m) [
      | inl k ↦ higher i families kept (greatest kept cells) c (greatest-above kept cells) (h.files.each c k)
      | inr k ↦ (let y = x c k in record { versions = y.versions; known = y.known; row = y.row; number = greatest-each kept cells c k })
    ];
    once = once-append stable cells h.files.once o (λ c m k. u c c k m refl);
  };
  waits = h.waits;
  below = greatest-below kept seq cells h.below (λ c m. (x c m).number);
  differ = h.differ;
  apart = λ c d m k. elim (member-append c stable cells m) [ inl q ↦ h.apart c d q k | inr q ↦ λ e. v c d q k (sym e) ];
}

-- visible cells stand once
visible_once : (families : List (List ℕ × ℕ)) (xs : List Cell) → AreOnce (visible families xs)
visible_once families xs = rising (visible families xs) (ascends families xs)
  where
    least : (x : Cell) (ys : List Cell) → list_all (λ d. is_lt (key_cmp x d)) ys ≡ true → Member x ys → ⊥
    least x [] h m = m
    least x (y ∷ ys) h (inl e) = let z = ap (λ d. is_lt (key_cmp x d)) (sym e) ∙ both_left (is_lt (key_cmp x y)) _ h in let w : false ≡ true = sym (ap is_lt (key_cmp-itself x x refl)) ∙ ap (λ d. is_lt (key_cmp x d)) (sym e) ∙ both_left (is_lt (key_cmp x y)) _ h in absurd (cc)
    least x (y ∷ ys) h (inr m) = least x ys (both_right (is_lt (key_cmp x y)) _ h) m

    rising : (ys : List Cell) → Rises ys → AreOnce ys
    rising [] h c = omega arith
    rising (y ∷ ys) h c = let a = count-cons (eq_by_cmp key_cmp c) y ys in let k = rising ys h.1 c in
        (elim (eq_by_cmp key_cmp c y) as (λ b. eq_by_cmp key_cmp c y ≡ b → count_by (eq_by_cmp key_cmp c) (y ∷ ys) ≤ 1) [
          | true ↦ λ e.
              let z = absent-count c ys (λ m. least y ys h.0 (subst (λ d. Member d ys) (same_cell c y e) m)) in
              let w = a ∙ ap (λ b. cond b 1 0 + count_by (eq_by_cmp key_cmp c) ys) e in omega (arith, w, z)
          | false ↦ λ e. let w = a ∙ ap (λ b. cond b 1 0 + count_by (eq_by_cmp key_cmp c) ys) e in omega (arith, w, k)
        ]) refl

-- a compacted cell stood there
pub compacted_of : (families : List (List ℕ × ℕ)) (n : ℕ) (xs : List Cell) (c : Cell) → Member c (compacted families n xs) → Member c xs
compacted_of families n xs c m = elim (member-append c (visible families (take n xs)) (drop n xs) m) [ inl k ↦ of_take n c xs ((seen_laws families).shown (take n xs) c k) | inr k ↦ of_drop n c xs k ]

pub major_cells : (i : RegionInfo) (families fs : List (List ℕ × ℕ)) (stable mem : List Cell) (kept seq n : ℕ) → HoldsCells i families stable mem kept seq → HoldsCells i families (compacted fs n stable) mem kept seq
major_cells i families fs stable mem kept seq n h = record {
  files = record {
    each = λ c m. h.files.each c (compacted_of fs n stable c m);
    once = once-append (visible fs (take n stable)) (drop n stable) (visible_once fs (take n stable)) (once-back n stable h.files.once)
        (λ c m k. parts_apart n c stable h.files.once ((seen_laws fs).shown (take n stable) c m) k);
  };
  waits = h.waits;
  below = h.below;
  differ = h.differ;
  apart = λ c d m k. h.apart c d (compacted_of fs n stable c m) k;
}

-- ---- halves

in_row : (i : RegionInfo) (families : List (List ℕ × ℕ)) (n : ℕ) (c : Cell) (j : RegionInfo) → IsCellOf i families n c → holds_row j c.row ≡ true → IsCellOf j families n c
in_row i families n c j h e = record { versions = h.versions; known = h.known; row = e; number = h.number }

both_are : (a b : Bool) → a ≡ true → b ≡ true → (a && b) ≡ true
both_are true b e f = f
both_are false b e f = absurd (cc)

pub low_cells : (whole low high : RegionInfo) (families : List (List ℕ × ℕ)) (n : ℕ) (cells : List Cell) → AreHalves whole low high → AreCellsOf whole families n cells → AreCellsOf low families n (under high.start cells)
low_cells whole low high families n cells k h = record {
  each = λ c m. let w = of_filter (λ (x : Cell). is_below x.row high.start) c cells m in let x = h.each c w.0 in
      in_row whole families n c low x ((splits_rows whole low high c.row k).lower ∙ both_are (holds_row whole c.row) (is_below c.row high.start) x.row w.1);
  once = once-filter (λ (x : Cell). is_below x.row high.start) cells h.once;
}

pub high_cells : (whole low high : RegionInfo) (families : List (List ℕ × ℕ)) (n : ℕ) (cells : List Cell) → AreHalves whole low high → AreCellsOf whole families n cells → AreCellsOf high families n (from high.start cells)
high_cells whole low high families n cells k h = record {
  each = λ c m. let w = of_filter (λ (x : Cell). not (is_below x.row high.start)) c cells m in let x = h.each c w.0 in
      in_row whole families n c high x ((splits_rows whole low high c.row k).upper ∙ both_are (holds_row whole c.row) (not (is_below c.row high.start)) x.row w.1);
  once = once-filter (λ (x : Cell). not (is_below x.row high.start)) cells h.once;
}

-- ---- once, and each two

-- cells of which each two differ stand once
pub once-two : (xs : List Cell) → EachTwo (λ (c d : Cell). c ≢ d) xs → AreOnce xs
once-two [] h c = omega arith
once-two (x ∷ xs) h c = let a = count-cons (eq_by_cmp key_cmp c) x xs in let k = once-two xs h.1 c in
    (elim (eq_by_cmp key_cmp c x) as (λ b. eq_by_cmp key_cmp c x ≡ b → count_by (eq_by_cmp key_cmp c) (x ∷ xs) ≤ 1) [
      | true ↦ λ e.
          let z = absent-count c xs (λ m. each-member (λ (d : Cell). x ≢ d) xs c h.0 m (sym (same_cell c x e))) in
          let y = a ∙ ap (λ b. cond b 1 0 + count_by (eq_by_cmp key_cmp c) xs) e in omega (arith, y, z)
      | false ↦ λ e. let y = a ∙ ap (λ b. cond b 1 0 + count_by (eq_by_cmp key_cmp c) xs) e in omega (arith, y, k)
    ]) refl

-- and the other way
pub two-once : (xs : List Cell) → AreOnce xs → EachTwo (λ (c d : Cell). c ≢ d) xs
two-once xs h = pairs.two-once (eq_by_cmp key_cmp) xs itself h

-- lists with the same cells have the same members
pub same-member : (xs ys : List Cell) (c : Cell) → Same xs ys → Member c xs → Member c ys
same-member xs ys c e m = elim (is_there c ys) [
  | inl k ↦ k
  | inr n ↦ (let z = absent-count c ys n in let y = e.at (eq_by_cmp key_cmp c) in let x = there xs m in absurd (omega (arith, x, y, z)))
]
  where
    there : (us : List Cell) → Member c us → 1 ≤ count_by (eq_by_cmp key_cmp c) us
    there [] i = absurd i
    there (u ∷ us) (inl i) = let b = count-cons (eq_by_cmp key_cmp c) u us ∙ ap (λ b. cond b 1 0 + count_by (eq_by_cmp key_cmp c) us) (ap (eq_by_cmp key_cmp c) i ∙ itself c) in omega (arith, b)
    there (u ∷ us) (inr i) = let b = count-cons (eq_by_cmp key_cmp c) u us in let z = there us i in omega (arith, b, z)
