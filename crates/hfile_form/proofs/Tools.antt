-- The steps of reading.
use Rattle.std.proofs.Common.{◌≡◌, ℕ, ◌+◌, ◌<◌, ◌≤◌, Bool, true, false, cond, List, [], ◌∷◌, length, Result, Ok, Err, refl, ◌⊎◌, inl, inr, arith}
use Rattle.hfile_block.specs.declared.fault.HFileError.{HFileError}
use Rattle.hfile_form.specs.Blocks.{◌>>=◌}

pub bind_ok : {A B : Type 0} (r : Result A HFileError) (f : A → Result B HFileError) (y : B) → (r >>= f) ≡ Ok y → (x : A) × (r ≡ Ok x) × (f x ≡ Ok y)
bind_ok (Ok x) f y e = (x, refl, e)
bind_ok (Err d) f y e = absurd cc

pub then_ok : {A : Type 0} (b : Bool) (e : HFileError) (r : Result A HFileError) (x : A) → cond b r (Err e) ≡ Ok x → (b ≡ true) × (r ≡ Ok x)
then_ok true e r x h = (refl, h)
then_ok false e r x h = absurd cc

pub else_ok : {A : Type 0} (b : Bool) (e : HFileError) (r : Result A HFileError) (x : A) → cond b (Err e) r ≡ Ok x → (b ≡ false) × (r ≡ Ok x)
else_ok true e r x h = absurd cc
else_ok false e r x h = (refl, h)

abbrev pub ok : {A : Type 0} → A → Result A HFileError
ok x = Ok x

pub ok_is : {A : Type 0} (x y : A) → ok x ≡ ok y → x ≡ y
ok_is x y e = cc

pub length-zero : {A : Type 0} (xs : List A) → length xs ≡ 0 → xs ≡ []
length-zero [] e = refl
length-zero (x ∷ xs) e = absurd (omega arith)

pub chosen : {A : Type 0} (b : Bool) (x y z : A) → cond b x y ≡ z → ((b ≡ true) × (x ≡ z)) ⊎ ((b ≡ false) × (y ≡ z))
chosen true x y z e = inl (refl, e)
chosen false x y z e = inr (refl, e)

pub on_both : {A B : Type 0} (r : Result A HFileError) (f g : A → Result B HFileError) → ((x : A) → f x ≡ g x) → (r >>= f) ≡ (r >>= g)
on_both (Ok x) f g same = same x
on_both (Err e) f g same = refl
