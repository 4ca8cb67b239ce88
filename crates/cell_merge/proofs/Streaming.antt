-- What shows of cells in key order, as they come: the markers of a column stand before what they hide.
use Rattle.std.proofs.Common.{◌≡◌, ℕ, Bool, true, false, cond, not, ◌&&◌, ◌||◌, List, [], ◌∷◌, ◌++◌, inl, inr, refl, ap, ◌∙◌, arith}
use Rattle.std.specs.Prelude.{filter, nat_le, nat_eq}
use Rattle.std.specs.Cmp.Lexicographic.{pointwise}
use Rattle.std.specs.List.{list_any}
use Rattle.std.proofs.lemmas.Bool.{ltb-true, leb-true, le-leb}
use Rattle.hb_cell.specs.declared.cell.Cell.{Cell}
use Rattle.hb_cell.specs.declared.kind.Kind.{Kind}
use Rattle.hb_cell.specs.declared.kind.Kind.TheVariants.{Put, Delete, DeleteColumn, DeleteFamily}
use Rattle.hb_cell.specs.Hiding.{hides, hides_as, same_family, same_column}
use Rattle.cell_sight.specs.Member.{Member}
use Rattle.cell_sight.specs.Same.{sorted}
use Rattle.cell_sight.specs.Visible.{is_put, same_version, is_newer, unhidden, firsts, newest, visible}
use Rattle.cell_sight.proofs.SeenParts.{firsts-filter, newest-filter}
use Rattle.cell_sight.proofs.Versions.{alike, Alike}
use Rattle.cell_merge.proofs.Places.{column_family, family_on}
use Rattle.cell_sight.proofs.Truths.{left, right, both, turn}

-- ---- lists

pub filter-same : {X : Type 0} (f g : X → Bool) (xs : List X) → ((x : X) → Member x xs → f x ≡ g x) → filter f xs ≡ filter g xs
filter-same f g [] h = refl
filter-same f g (x ∷ xs) h = let i = filter-same f g xs (λ y m. h y (inr m)) in let e = h x (inl refl) in
    ap (λ b. cond b (x ∷ filter f xs) (filter f xs)) e ∙ ap (λ ys. cond (g x) (x ∷ ys) ys) i

filter-both : {X : Type 0} (f g : X → Bool) (xs : List X) → filter (λ x. f x && g x) xs ≡ filter g (filter f xs)
filter-both f g [] = refl
filter-both f g (x ∷ xs) = let i = filter-both f g xs in elim (f x) as (λ b. cond (b && g x) (x ∷ filter (λ x. f x && g x) xs) (filter (λ x. f x && g x) xs) ≡ filter g (cond b (x ∷ filter f xs) (filter f xs))) [
  | true ↦ ap (λ ys. cond (g x) (x ∷ ys) ys) i
  | false ↦ i
]

or_split : (a b c d : Bool) → ((a || b) || (c || d)) ≡ ((a || c) || (b || d))
or_split true b c d = refl
or_split false true true d = refl
or_split false true false d = refl
or_split false false true d = refl
or_split false false false d = refl

any-or : {X : Type 0} (f g : X → Bool) (xs : List X) → list_any (λ x. f x || g x) xs ≡ (list_any f xs || list_any g xs)
any-or f g [] = refl
any-or f g (x ∷ xs) = ap (λ b. (f x || g x) || b) (any-or f g xs) ∙ or_split (f x) (g x) (list_any f xs) (list_any g xs)

any-same : {X : Type 0} (f g : X → Bool) (xs : List X) → ((x : X) → f x ≡ g x) → list_any f xs ≡ list_any g xs
any-same f g [] h = refl
any-same f g (x ∷ xs) h = let i = any-same f g xs h in ap (λ b. b || list_any f xs) (h x) ∙ ap (λ b. g x || b) i

pub any-push : {X : Type 0} (f : X → Bool) (xs : List X) (y : X) → list_any f (xs ++ y ∷ []) ≡ (list_any f xs || f y)
any-push f [] y = elim (f y) as (λ b. (b || false) ≡ b) [ true ↦ refl | false ↦ refl ]
any-push f (x ∷ xs) y = ap (λ b. f x || b) (any-push f xs y) ∙ (elim (f x) as (λ b. (b || (list_any f xs || f y)) ≡ ((b || list_any f xs) || f y)) [ true ↦ refl | false ↦ refl ])

-- a test that none of a list passes
pub any-none : {X : Type 0} (f : X → Bool) (xs : List X) → ((x : X) → Member x xs → f x ≡ false) → list_any f xs ≡ false
any-none f [] h = refl
any-none f (x ∷ xs) h = ap (λ b. b || list_any f xs) (h x (inl refl)) ∙ any-none f xs (λ y m. h y (inr m))

-- ---- markers of a family and of a column

abbrev pub is_wide : Kind → Bool
is_wide Put = false
is_wide Delete = false
is_wide DeleteColumn = false
is_wide DeleteFamily = true

abbrev pub by_family : Cell → Cell → Bool
by_family m c = is_wide m.kind && hides m c

abbrev pub by_column : Cell → Cell → Bool
by_column m c = not (is_wide m.kind) && hides m c

either : (w h : Bool) → h ≡ ((not w && h) || (w && h))
either true h = refl
either false true = refl
either false false = refl

any_hides : (cells : List Cell) (c : Cell) → list_any (λ m. hides m c) cells ≡ (list_any (λ m. by_column m c) cells || list_any (λ m. by_family m c) cells)
any_hides cells c = any-same (λ m. hides m c) (λ m. by_column m c || by_family m c) cells (λ m. either (is_wide m.kind) (hides m c))
    ∙ any-or (λ m. by_column m c) (λ m. by_family m c) cells

-- a put that no marker of its column hides
abbrev pub is_candidate : List Cell → Cell → Bool
is_candidate cells c = is_put c.kind && not (list_any (λ m. by_column m c) cells)

abbrev pub candidates : List Cell → List Cell
candidates cells = filter (is_candidate cells) cells

-- no marker of its family hides it
abbrev pub survives : List Cell → Cell → Bool
survives cells c = not (list_any (λ m. by_family m c) cells)

abbrev pub winners : List Cell → List Cell
winners cells = firsts (candidates cells)

and_not : (p x y : Bool) → (p && not (x || y)) ≡ ((p && not x) && not y)
and_not true true y = refl
and_not true false y = refl
and_not false x y = refl

unhidden-survives : (cells : List Cell) → unhidden cells ≡ filter (survives cells) (candidates cells)
unhidden-survives cells =
    filter-same _ (λ c. is_candidate cells c && survives cells c) cells
    (λ c m. ap (λ b. is_put c.kind && not b) (any_hides cells c) ∙ and_not (is_put c.kind) (list_any (λ m. by_column m c) cells) (list_any (λ m. by_family m c) cells))
    ∙ filter-both (is_candidate cells) (survives cells) cells

wide_alike : (k : Kind) (m a b : Cell) → Alike a b → (is_wide k && hides_as k m a) ≡ (is_wide k && hides_as k m b)
wide_alike Put m a b h = refl
wide_alike Delete m a b h = refl
wide_alike DeleteColumn m a b h = refl
wide_alike DeleteFamily m a b h =
    λ i. (pointwise nat_eq m.row (h.row i) && pointwise nat_eq m.family (h.family i)) && nat_le (h.ts i) m.ts

survives_alike : (cells : List Cell) (a b : Cell) → same_version a b ≡ true → survives cells a ≡ survives cells b
survives_alike cells a b h = ap not (any-same (λ m. by_family m a) (λ m. by_family m b) cells (λ m. wide_alike m.kind m a b (alike a b h)))

-- what hides a put by its family hides the older ones of its column
wide_older : (k : Kind) (m d c : Cell) → is_newer d c ≡ true → (is_wide k && hides_as k m d) ≡ true → (is_wide k && hides_as k m c) ≡ true
wide_older Put m d c n h = h
wide_older Delete m d c n h = h
wide_older DeleteColumn m d c n h = h
wide_older DeleteFamily m d c n h =
    let less = ltb-true c.ts d.ts (right (same_column d c) _ n) in
    let upto = leb-true d.ts m.ts (right (same_family m d) _ h) in
    both _ _ (family_on m d c (left (same_family m d) _ h) (column_family d c (left (same_column d c) _ n))) (le-leb c.ts m.ts (omega (arith, less, upto)))

any-then : {X : Type 0} (f g : X → Bool) (xs : List X) → ((x : X) → f x ≡ true → g x ≡ true) → list_any g xs ≡ false → list_any f xs ≡ false
any-then f g [] h k = refl
any-then f g (x ∷ xs) h k = by (f x) (g x) (h x) (λ e. any-then f g xs h e) k
  where
    by : (a b : Bool) → (a ≡ true → b ≡ true) → (list_any g xs ≡ false → list_any f xs ≡ false) → (b || list_any g xs) ≡ false → (a || list_any f xs) ≡ false
    by true true i r e = absurd (cc)
    by true false i r e = let j = i refl in absurd (cc)
    by false true i r e = absurd (cc)
    by false false i r e = r e

survives_newer : (cells : List Cell) (d c : Cell) → is_newer d c ≡ true → survives cells c ≡ true → survives cells d ≡ true
survives_newer cells d c n h = ap not (any-then (λ m. by_family m d) (λ m. by_family m c) cells (λ m k. wide_older m.kind m d c n k) (turn _ h))

-- the markers of families may be judged last
pub visible-survives : (families : List (List ℕ × ℕ)) (cells : List Cell) → sorted cells ≡ cells → visible families cells ≡ filter (survives cells) (newest families (winners cells))
visible-survives families cells o =
    ap (λ cs. newest families (firsts (unhidden cs))) o
    ∙ ap (λ cs. newest families (firsts cs)) (unhidden-survives cells)
    ∙ ap (newest families) (firsts-filter (survives cells) (survives_alike cells) (candidates cells))
    ∙ newest-filter (survives cells) (survives_newer cells) families (winners cells)
