-- Products of counts that stop at the last value of their type.
use Rattle.std.proofs.Common.{ℕ, zero, suc, ◌≡◌, ◌+◌, ◌*◌, ◌≤◌, min, arith, ap, ◌∙◌, inl, inr}
use Rattle.std.proofs.lemmas.Bool.{cases_lt}
use Rattle.std.proofs.Math.Nat.{mul-le-mul_right, le-mul_of_pos_right}

-- past m, a product by n stops at m as the product by m does
past : (a n m : ℕ) → m ≤ a → min (m * n) m ≡ min (a * n) m
past a zero m h = omega arith
past a (suc n) m h =
    let less : m * suc n ≤ a * suc n = mul-le-mul_right (suc n) h in
    let own : m ≤ m * suc n = le-mul_of_pos_right m (omega arith) in
    omega arith

-- a product with a count that stops at m, where the product stops there too
saturated_product : (a n m : ℕ) → min (min a m * n) m ≡ min (a * n) m
saturated_product a n m =
    elim (cases_lt a m) [
      | inl h ↦ (let e : min a m ≡ a = omega arith in ap (λ k. min (k * n) m) e)
      | inr h ↦ (let e : min a m ≡ m = omega arith in ap (λ k. min (k * n) m) e ∙ past a n m h)
    ]

-- the moment of a call whose number was counted up to m, and multiplied up to m
pub counted_product : (calls given number moment tick m : ℕ) → calls ≡ min given m → number ≡ min (calls + 1) m → moment ≡ min (number * tick) m → moment ≡ min ((given + 1) * tick) m
counted_product calls given number moment tick m a b e =
    let f : number ≡ min (given + 1) m = omega arith in
    e ∙ ap (λ k. min (k * tick) m) f ∙ saturated_product (given + 1) tick m
