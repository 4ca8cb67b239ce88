-- Filters one behind another, and tests over some of a list.
use Rattle.std.proofs.Common.{◌≡◌, ◌+◌, Bool, true, false, cond, ◌||◌, List, [], ◌∷◌, refl, sym, ap, ◌∙◌, zero-add}
use Rattle.std.specs.Prelude.{count_by, filter}
use Rattle.std.specs.List.{list_any}
use Rattle.cell_sight.proofs.Counts.{count-cons}

module _ {X : Type 0} where
  -- a filter before or behind another, where the first test may change for what the second drops
  pub filter-swap : (t u q : X → Bool) (xs : List X) → ((c : X) → q c ≡ true → t c ≡ u c) → filter t (filter q xs) ≡ filter q (filter u xs)
  filter-swap t u q [] h = refl
  filter-swap t u q (x ∷ xs) h = let i = filter-swap t u q xs h in
      elim (q x) as (λ b. q x ≡ b → filter t (cond b (x ∷ filter q xs) (filter q xs)) ≡ filter q (cond (u x) (x ∷ filter u xs) (filter u xs))) [
        | true ↦ λ e. ap (λ b. cond b (x ∷ filter t (filter q xs)) (filter t (filter q xs))) (h x e) ∙
            (elim (u x) as (λ b. cond b (x ∷ filter t (filter q xs)) (filter t (filter q xs)) ≡ filter q (cond b (x ∷ filter u xs) (filter u xs))) [
              | true ↦ ap (λ ys. x ∷ ys) i ∙ sym (ap (λ b. cond b (x ∷ filter q (filter u xs)) (filter q (filter u xs))) e)
              | false ↦ i
            ])
        | false ↦ λ e. i ∙ (elim (u x) as (λ b. filter q (filter u xs) ≡ filter q (cond b (x ∷ filter u xs) (filter u xs))) [
          | true ↦ sym (ap (λ b. cond b (x ∷ filter q (filter u xs)) (filter q (filter u xs))) e)
          | false ↦ refl
        ])
      ] refl

  -- a filter that drops nothing of what the other keeps
  pub filter-kept : (t q : X → Bool) (xs : List X) → ((c : X) → q c ≡ true → t c ≡ true) → filter q (filter t xs) ≡ filter q xs
  filter-kept t q [] h = refl
  filter-kept t q (x ∷ xs) h = let i = filter-kept t q xs h in
      elim (q x) as (λ b. q x ≡ b → filter q (cond (t x) (x ∷ filter t xs) (filter t xs)) ≡ cond b (x ∷ filter q xs) (filter q xs)) [
        | true ↦ λ e. ap (λ b. filter q (cond b (x ∷ filter t xs) (filter t xs))) (h x e)
            ∙ ap (λ b. cond b (x ∷ filter q (filter t xs)) (filter q (filter t xs))) e ∙ ap (λ ys. x ∷ ys) i
        | false ↦ λ e. (elim (t x) as (λ b. filter q (cond b (x ∷ filter t xs) (filter t xs)) ≡ filter q (filter t xs)) [
          | true ↦ ap (λ b. cond b (x ∷ filter q (filter t xs)) (filter q (filter t xs))) e
          | false ↦ refl
        ]) ∙ i
      ] refl

  -- what passes one test passes the other, so it is found among those that pass the other
  pub any-filter : (p q : X → Bool) (xs : List X) → ((c : X) → p c ≡ true → q c ≡ true) → list_any p (filter q xs) ≡ list_any p xs
  any-filter p q [] h = refl
  any-filter p q (x ∷ xs) h = let i = any-filter p q xs h in
      elim (p x) as (λ b. p x ≡ b → list_any p (cond (q x) (x ∷ filter q xs) (filter q xs)) ≡ (b || list_any p xs)) [
        | true ↦ λ e. ap (λ b. list_any p (cond b (x ∷ filter q xs) (filter q xs))) (h x e) ∙ ap (λ b. b || list_any p (filter q xs)) e
        | false ↦ λ e. (elim (q x) as (λ b. list_any p (cond b (x ∷ filter q xs) (filter q xs)) ≡ list_any p (filter q xs)) [
          | true ↦ ap (λ b. b || list_any p (filter q xs)) e
          | false ↦ refl
        ]) ∙ i
      ] refl

  pub count-kept : (p q : X → Bool) (xs : List X) → ((c : X) → p c ≡ true → q c ≡ true) → count_by p (filter q xs) ≡ count_by p xs
  count-kept p q [] h = refl
  count-kept p q (x ∷ xs) h = let i = count-kept p q xs h in
      (elim (p x) as (λ b. p x ≡ b → count_by p (cond (q x) (x ∷ filter q xs) (filter q xs)) ≡ cond b 1 0 + count_by p xs) [
        | true ↦ λ e. ap (λ b. count_by p (cond b (x ∷ filter q xs) (filter q xs))) (h x e) ∙ count-cons p x (filter q xs)
            ∙ ap (λ b. cond b 1 0 + count_by p (filter q xs)) e ∙ ap (λ n. 1 + n) i
        | false ↦ λ e. (elim (q x) as (λ b. count_by p (cond b (x ∷ filter q xs) (filter q xs)) ≡ 0 + count_by p (filter q xs)) [
          | true ↦ count-cons p x (filter q xs) ∙ ap (λ b. cond b 1 0 + count_by p (filter q xs)) e
          | false ↦ sym (zero-add _)
        ]) ∙ ap (λ n. 0 + n) i
      ] refl) ∙ sym (count-cons p x xs)
