-- Choices between equal values.
use Rattle.std.proofs.Common.{◌≡◌, Bool, true, false, cond, refl}

pub chosen : {A : Type 0} (b : Bool) (x y : A) → y ≡ x → cond b x y ≡ x
chosen true x y e = refl
chosen false x y e = e

-- the same of one that is made three times
pub chosen_each : {A : Type 0} (b : Bool) (x v w y : A) → y ≡ x → cond b x (cond b v (cond b w y)) ≡ x
chosen_each true x v w y e = refl
chosen_each false x v w y e = e
