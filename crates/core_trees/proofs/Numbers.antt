-- Numbers, and choices.
use Rattle.std.proofs.Common.{◌≡◌, ℕ, ◌+◌, ◌<◌, ◌==◌, ◌&&◌, Bool, true, false, cond, Option, Some, None, refl, arith}
use Rattle.std.proofs.lemmas.Bool.Decides.{nat_tests}

pub not_equal : (m n : ℕ) → n < m → (m == n) ≡ false
not_equal m n e = grind (arith, nat_tests)

pub equal : (m n : ℕ) → m ≡ n → (m == n) ≡ true
equal m n e = grind (arith, nat_tests)

pub differ : (m n : ℕ) → (m == n) ≡ false → m ≡ n → ⊥
differ m n d e = grind (arith, nat_tests)

-- behind the next number lies what is behind the number itself
pub behind_next : {x n y m : ℕ} → x ≡ n → y ≡ n + 1 → y < m → x < m
behind_next e k u = omega (arith, e, k, u)

pub below_next : {x n y : ℕ} → x ≡ n → y ≡ n + 1 → x < y
below_next e k = omega (arith, e, k)

pub other_key : (a b c : Bool) → (a && b) ≡ false → (a && (b && c)) ≡ false
other_key true true c e = absurd (cc)
other_key true false c e = refl
other_key false b c e = refl

pub other_number : (a b c : Bool) → c ≡ false → (a && (b && c)) ≡ false
other_number true true c e = e
other_number true false c e = refl
other_number false b c e = refl

pub none_left : {X : Type 0} (b : Bool) (o : Option X) → o ≡ None → cond b None o ≡ None
none_left true o e = refl
none_left false o e = e

pub absent : {X : Type 0} (o : Option X) → ((f : X) → o ≡ Some f → ⊥) → o ≡ None
absent None k = refl
absent (Some f) k = absurd (k f refl)
