use Rattle.std.proofs.Common.{◌≡◌, ℕ, ◌+◌, ◌*◌, ◌-◌, ◌<◌, ◌≤◌, ◌^◌, List, [], ◌∷◌, true, false, Option, Some, None, IfSome, unwrap_or, filter, length, drop, get_or, sym, ap, ◌∙◌, arith}
use Rattle.std.proofs.lemmas.List.{drop_more, drop_all}
use Rattle.hb_grammar.specs.Class.{is_digit}
use Rattle.shell_text.specs.TextLaws.{cond_false, cond_true}
use Rattle.shell_value.specs.Quotes.{number_after, number_of}

-- digits behind a number make no smaller one
not_smaller : (digits : List ℕ) (v w : ℕ) → number_after (Some v) digits ≡ Some w → v ≤ w
not_smaller [] v w e = let same : v ≡ w = cc in omega arith
not_smaller (digit ∷ digits) v w e = let more = not_smaller digits (v * 10 + (digit - 48)) w e in omega arith

always_some : (v : ℕ) (digits : List ℕ) → number_after (Some v) digits ≡ None → ⊥
always_some v [] e = absurd (cc)
always_some v (digit ∷ digits) e = always_some (v * 10 + (digit - 48)) digits e

fits_some : (o : Option ℕ) (v : ℕ) (digits : List ℕ) → number_after (Some v) digits ≡ o → IfSome o (λ n. n < 2 ^ 64) → v < 2 ^ 64
fits_some None v digits e fits = absurd (always_some v digits e)
fits_some (Some w) v digits e fits = let least = not_smaller digits v w e in omega arith

filter-digit : (x : ℕ) (xs : List ℕ) → is_digit x ≡ true → filter is_digit (x ∷ xs) ≡ x ∷ filter is_digit xs
filter-digit x xs e = cond_true (is_digit x) _ _ e

filter-other : (x : ℕ) (xs : List ℕ) → is_digit x ≡ false → filter is_digit (x ∷ xs) ≡ filter is_digit xs
filter-other x xs e = cond_false (is_digit x) _ _ e

-- a digit more
pub number-digit : (bytes : List ℕ) (i : ℕ) (number : Option ℕ) → i < length bytes → is_digit (get_or bytes i 0) ≡ true →
    number_after number (filter is_digit (drop i bytes)) ≡ number_of bytes →
    number_after (Some (unwrap_or number 0 * 10 + (get_or bytes i 0 - 48))) (filter is_digit (drop (i + 1) bytes)) ≡ number_of bytes
number-digit bytes i number below digit so_far =
    let x = get_or bytes i 0 in
    let step : filter is_digit (drop i bytes) ≡ x ∷ filter is_digit (drop (i + 1) bytes) =
    ap (filter is_digit) (drop_more bytes i 0 below) ∙ filter-digit x (drop (i + 1) bytes) digit in
    sym (ap (number_after number) step) ∙ so_far

-- another byte
pub number-other : (bytes : List ℕ) (i : ℕ) (number : Option ℕ) → i < length bytes → is_digit (get_or bytes i 0) ≡ false →
    number_after number (filter is_digit (drop i bytes)) ≡ number_of bytes → number_after number (filter is_digit (drop (i + 1) bytes)) ≡ number_of bytes
number-other bytes i number below other so_far =
    let x = get_or bytes i 0 in
    let step : filter is_digit (drop i bytes) ≡ filter is_digit (drop (i + 1) bytes) =
    ap (filter is_digit) (drop_more bytes i 0 below) ∙ filter-other x (drop (i + 1) bytes) other in
    sym (ap (number_after number) step) ∙ so_far

-- the number so far fits where the whole does
pub number-fits : (bytes : List ℕ) (i : ℕ) (number : Option ℕ) → i < length bytes → is_digit (get_or bytes i 0) ≡ true →
    number_after number (filter is_digit (drop i bytes)) ≡ number_of bytes → IfSome (number_of bytes) (λ n. n < 2 ^ 64) →
    unwrap_or number 0 * 10 + (get_or bytes i 0 - 48) < 2 ^ 64
number-fits bytes i number below digit so_far fits =
    fits_some (number_of bytes) (unwrap_or number 0 * 10 + (get_or bytes i 0 - 48)) (filter is_digit (drop (i + 1) bytes))
    (number-digit bytes i number below digit so_far) fits

pub number-all : (bytes : List ℕ) (i : ℕ) (number : Option ℕ) → length bytes ≤ i → number_after number (filter is_digit (drop i bytes)) ≡ number_of bytes →
    number ≡ number_of bytes
number-all bytes i number past so_far = sym (ap (λ (l : List ℕ). number_after number (filter is_digit l)) (drop_all i bytes past)) ∙ so_far
