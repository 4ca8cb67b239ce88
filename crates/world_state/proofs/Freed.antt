-- A list whose items are changed in place, one after another.
use Rattle.std.proofs.Common.{◌≡◌, ℕ, ◌+◌, ◌<◌, ◌≤◌, zero, suc, List, [], ◌∷◌, ◌++◌, length, map, take, drop, get_or, refl, ap, ◌∙◌, arith}
use Rattle.std.proofs.Math.ListN.{set}
use Rattle.std.proofs.lemmas.List.{append-nil, drop_all, take_all}

module _ {X : Type 0} (f : X → X) where
  freed_next : (xs : List X) (i : ℕ) (d : X) → i < length xs → set (map f (take i xs) ++ drop i xs) i (f (get_or (map f (take i xs) ++ drop i xs) i d)) ≡ map f (take (suc i) xs) ++ drop (suc i) xs
  freed_next [] i d l = absurd (omega arith)
  freed_next (x ∷ xs) zero d l = refl
  freed_next (x ∷ xs) (suc i) d l = let less : i < length xs = omega arith in ap (λ zs. f x ∷ zs) (freed_next xs i d less)

  -- one item more
  pub freed_more : (xs ys : List X) (i : ℕ) (v d : X) → i < length xs → ys ≡ map f (take i xs) ++ drop i xs → v ≡ f (get_or ys i d) → set ys i v ≡ map f (take (i + 1) xs) ++ drop (i + 1) xs
  freed_more xs ys i v d l e is =
      let next : suc i ≡ i + 1 = omega arith in
      ap (set ys i) is ∙ ap (λ zs. set zs i (f (get_or zs i d))) e ∙ freed_next xs i d l ∙ ap (λ k. map f (take k xs) ++ drop k xs) next

  -- all of them
  pub all_freed : (xs ys : List X) (i n : ℕ) → n ≡ length xs → length ys ≡ length xs → length xs ≤ i → ys ≡ map f (take i xs) ++ drop i xs → take n (ys ++ drop (length ys) xs) ≡ map f xs
  all_freed xs ys i n e k l is =
      ap (λ zs. take n (ys ++ zs)) (drop_all (length ys) xs (omega (arith, k)))
      ∙ ap (take n) (append-nil ys)
      ∙ take_all n ys (omega (arith, e, k))
      ∙ is
      ∙ ap (λ zs. map f zs ++ drop i xs) (take_all i xs l)
      ∙ ap (λ zs. map f xs ++ zs) (drop_all i xs l)
      ∙ append-nil (map f xs)
