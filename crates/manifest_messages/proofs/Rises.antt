-- Lists that ascend strictly, with one more behind.
use Rattle.std.proofs.Common.{◌≡◌, List, [], ◌∷◌, ◌++◌}
use Rattle.std.specs.List.{AllByRecursion}
use Rattle.std.specs.List.Sorted.{IsStrictlySortedBy}
use Rattle.std.specs.declared.cmp.Ordering.{Ordering}
use Rattle.std.specs.declared.cmp.Ordering.TheVariants.{Less}
use Rattle.std.specs.Cmp.{IsTotalOrder}

module _ {A : Type 0} (R : A → A → Ordering) where
  All-push : (p : A → Type 0) (xs : List A) (v : A) → AllByRecursion p xs → p v → AllByRecursion p (xs ++ v ∷ [])
  All-push p [] v all is = (is, tt)
  All-push p (x ∷ xs) v all is = (all.0, All-push p xs v all.1 is)

  All-last : (p : A → Type 0) (xs : List A) (v : A) → AllByRecursion p (xs ++ v ∷ []) → p v
  All-last p [] v all = all.0
  All-last p (x ∷ xs) v all = All-last p xs v all.1

  All-front : (p : A → Type 0) (xs : List A) (v : A) → AllByRecursion p (xs ++ v ∷ []) → AllByRecursion p xs
  All-front p [] v all = tt
  All-front p (x ∷ xs) v all = (all.0, All-front p xs v all.1)

  -- above the last of them is above all
  pub rising-push : IsTotalOrder R → (xs : List A) (last v : A) → R last v ≡ Less → IsStrictlySortedBy R (xs ++ last ∷ []) → IsStrictlySortedBy R ((xs ++ last ∷ []) ++ v ∷ [])
  unfolding IsStrictlySortedBy
  rising-push order [] last v above rising = ((above, tt), (tt, tt))
  rising-push order (x ∷ xs) last v above rising =
      let below = order.trans x last v (All-last (λ y. R x y ≡ Less) xs last rising.0) above in
      (All-push (λ y. R x y ≡ Less) (xs ++ last ∷ []) v rising.0 below, rising-push order xs last v above rising.1)

  -- the last stands above the one before it
  pub rising-last : (xs : List A) (last v : A) → IsStrictlySortedBy R ((xs ++ last ∷ []) ++ v ∷ []) → R last v ≡ Less
  unfolding IsStrictlySortedBy
  rising-last [] last v rising = rising.0.0
  rising-last (x ∷ xs) last v rising = rising-last xs last v rising.1

  -- so do those in front of others
  pub rising-front : (xs ys : List A) → IsStrictlySortedBy R (xs ++ ys) → IsStrictlySortedBy R xs
  unfolding IsStrictlySortedBy
  rising-front [] ys rising = tt
  rising-front (x ∷ xs) ys rising = (front_all (λ y. R x y ≡ Less) xs ys rising.0, rising-front xs ys rising.1) where
    front_all : (p : A → Type 0) (front back : List A) → AllByRecursion p (front ++ back) → AllByRecursion p front
    front_all p [] back all = tt
    front_all p (a ∷ front) back all = (all.0, front_all p front back all.1)

  pub rising-one : (v : A) → IsStrictlySortedBy R (v ∷ [])
  unfolding IsStrictlySortedBy
  rising-one v = (tt, tt)
