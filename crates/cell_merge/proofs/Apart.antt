-- What is visible of cells of different families, one lot behind the other, is what is visible of each.
use Rattle.std.proofs.Common.{◌≡◌, ℕ, ◌+◌, Bool, true, false, cond, not, List, [], ◌∷◌, ◌++◌, inl, inr, refl, sym, ap, ◌∙◌, arith}
use Rattle.std.specs.Prelude.{filter, count_by}
use Rattle.std.specs.List.{list_any}
use Rattle.std.specs.Ordering.{is_gt}
use Rattle.std.proofs.lemmas.List.Elements.{filter-append}
use Rattle.hb_cell.specs.declared.cell.Cell.{Cell}
use Rattle.hb_cell.specs.Hiding.{same_family}
use Rattle.hb_cell.specs.Order.{key_cmp}
use Rattle.cell_sight.specs.Member.{Member}
use Rattle.cell_sight.specs.Same.{sorted}
use Rattle.cell_sight.specs.Visible.{visible}
use Rattle.cell_sight.proofs.Counts.{count-append, count-cons}
use Rattle.cell_sight.proofs.InOrder.{ordered_from, same_order}
use Rattle.cell_sight.proofs.Least.{all-append}
use Rattle.cell_sight.proofs.Members.{of_all, all_by}
use Rattle.cell_sight.proofs.SeenAgain.{ordered_rises}
use Rattle.cell_sight.proofs.SeenParts.{seen_by}
use Rattle.cell_sight.proofs.ShownExactly.{shows_exactly, ascends}
use Rattle.cell_sight.proofs.Sorting.{Ordered}
use Rattle.cell_merge.proofs.Places.{Ahead, family_back, family_on, family_own}
use Rattle.cell_sight.proofs.Truths.{any_some, some_any}
use Rattle.cell_sight.proofs.Truths.{turn, never, equal}

filter-none : {X : Type 0} (p : X → Bool) (xs : List X) → ((x : X) → Member x xs → p x ≡ false) → filter p xs ≡ []
filter-none p [] h = refl
filter-none p (x ∷ xs) h = ap (λ b. cond b (x ∷ filter p xs) (filter p xs)) (h x (inl refl)) ∙ filter-none p xs (λ y m. h y (inr m))

filter-all : {X : Type 0} (p : X → Bool) (xs : List X) → ((x : X) → Member x xs → p x ≡ true) → filter p xs ≡ xs
filter-all p [] h = refl
filter-all p (x ∷ xs) h = ap (λ b. cond b (x ∷ filter p xs) (filter p xs)) (h x (inl refl)) ∙ ap (λ ys. x ∷ ys) (filter-all p xs (λ y m. h y (inr m)))

append-none : {X : Type 0} (xs : List X) → xs ++ [] ≡ xs
append-none [] = refl
append-none (x ∷ xs) = ap (λ ys. x ∷ ys) (append-none xs)

-- the cells that pass and those that don't are all
count-halves : {X : Type 0} (p q : X → Bool) (xs : List X) → count_by p xs ≡ count_by p (filter q xs) + count_by p (filter (λ x. not (q x)) xs)
count-halves p q [] = refl
count-halves p q (x ∷ xs) = let i = count-halves p q xs in let c = count-cons p x xs in
    elim (q x) as (λ b. count_by p (x ∷ xs) ≡ count_by p (cond b (x ∷ filter q xs) (filter q xs)) + count_by p (cond (not b) (x ∷ filter (λ x. not (q x)) xs) (filter (λ x. not (q x)) xs))) [
      | true ↦ let e = count-cons p x (filter q xs) in omega arith
      | false ↦ let e = count-cons p x (filter (λ x. not (q x)) xs) in omega arith
    ]

-- two lots in order, the first before the second
pub in_order_before : (xs ys : List Cell) → Ordered key_cmp (xs ++ ys) → (x y : Cell) → Member x xs → Member y ys → Ahead x y
in_order_before [] ys o x y m n = absurd m
in_order_before (z ∷ zs) ys o x y (inl e) n = turn _ (ap (λ w. not (is_gt (key_cmp w y))) (sym e) ∙ of_all (λ d. not (is_gt (key_cmp z d))) y (zs ++ ys) o.0 (behind zs n))
  where
    behind : (ws : List Cell) → Member y ys → Member y (ws ++ ys)
    behind [] k = k
    behind (w ∷ ws) k = inr (behind ws k)
in_order_before (z ∷ zs) ys o x y (inr m) n = in_order_before zs ys o.1 x y m n

order-append : (xs ys : List Cell) → Ordered key_cmp xs → Ordered key_cmp ys → ((x y : Cell) → Member x xs → Member y ys → Ahead x y) → Ordered key_cmp (xs ++ ys)
order-append [] ys o p h = p
order-append (x ∷ xs) ys o p h = (
  all-append (λ d. not (is_gt (key_cmp x d))) xs ys o.0 (all_by (λ d. not (is_gt (key_cmp x d))) ys (λ y m. ap not (h x y (inl refl) m))),
  order-append xs ys o.1 p (λ a b m n. h a b (inr m) n),
)

visible_in : (families : List (List ℕ × ℕ)) (cells : List Cell) (c : Cell) → Member c (visible families cells) → Member c cells
visible_in families cells c m = let k = (shows_exactly families cells c).0 m in let w = k.0 in w.unhidden.0

visible_order : (families : List (List ℕ × ℕ)) (cells : List Cell) → Ordered key_cmp (visible families cells)
visible_order families cells = ordered_rises (visible families cells) (ascends families cells)

-- of a family of the cells
abbrev of : List Cell → Cell → Bool
of xs c = list_any (λ x. same_family x c) xs

respects : (xs : List Cell) (a b : Cell) → same_family a b ≡ true → of xs a ≡ of xs b
respects xs a b s = equal _ _
    (λ k. let x = any_some (λ x. same_family x a) xs k in some_any (λ x. same_family x b) xs x.0 x.1 (family_on x.0 a b x.2 s))
    (λ k. let x = any_some (λ x. same_family x b) xs k in some_any (λ x. same_family x a) xs x.0 x.1 (family_on x.0 b a x.2 (family_back a b s)))

module _ (xs ys : List Cell) (h : (x y : Cell) → Member x xs → Member y ys → same_family x y ≡ false) where
  own : (c : Cell) → Member c xs → of xs c ≡ true
  own c m = some_any (λ x. same_family x c) xs c m (family_own c)

  other : (c : Cell) → Member c ys → of xs c ≡ false
  other c m = never (of xs c) (λ k. let x = any_some (λ x. same_family x c) xs k in let e = h x.0 c x.1 m in let f = x.2 in absurd (cc))

  front : filter (of xs) (xs ++ ys) ≡ xs
  front = filter-append (of xs) xs ys ∙ ap (λ zs. zs ++ filter (of xs) ys) (filter-all (of xs) xs own) ∙ ap (λ zs. xs ++ zs) (filter-none (of xs) ys other) ∙ append-none xs

  back : filter (λ c. not (of xs c)) (xs ++ ys) ≡ ys
  back = filter-append (λ c. not (of xs c)) xs ys ∙ ap (λ zs. zs ++ filter (λ c. not (of xs c)) ys) (filter-none (λ c. not (of xs c)) xs (λ c m. ap not (own c m)))
      ∙ filter-all (λ c. not (of xs c)) ys (λ c m. ap not (other c m))

  pub visible-apart : (families : List (List ℕ × ℕ)) → sorted (xs ++ ys) ≡ xs ++ ys → visible families (xs ++ ys) ≡ visible families xs ++ visible families ys
  visible-apart families o = same_order _ _ (visible_order families (xs ++ ys))
      (order-append (visible families xs) (visible families ys) (visible_order families xs) (visible_order families ys)
      (λ x y m n. in_order_before xs ys (ordered_from (xs ++ ys) o) x y (visible_in families xs x m) (visible_in families ys y n)))
      (record {
        at = λ p.
            let e : count_by p (visible families (xs ++ ys)) ≡ count_by p (filter (of xs) (visible families (xs ++ ys))) + count_by p (filter (λ c. not (of xs c)) (visible families (xs ++ ys)))
            = count-halves p (of xs) (visible families (xs ++ ys)) in
            let a : count_by p (visible families xs) ≡ count_by p (filter (of xs) (visible families (xs ++ ys)))
            = ap (count_by p) (ap (visible families) (sym front) ∙ seen_by (of xs) (respects xs) families (xs ++ ys)) in
            let b : count_by p (visible families ys) ≡ count_by p (filter (λ c. not (of xs c)) (visible families (xs ++ ys)))
            = ap (count_by p) (ap (visible families) (sym back) ∙ seen_by (λ c. not (of xs c)) (λ c d s. ap not (respects xs c d s)) families (xs ++ ys)) in
            omega (arith, count-append p (visible families xs) (visible families ys));
      })
