-- The number in the name of a file that was placed for a load.
use Rattle.std.proofs.Common.{◌≡◌, ◌≢◌, ◌<◌, ◌^◌, ℕ, ◌+◌, ◌-◌, ◌*◌, ◌==◌, true, false, cond, List, [], ◌∷◌, ◌++◌, length, drop, Option, Some, None, refl, sym, ap, ◌∙◌, subst, arith}
use Rattle.std.specs.Prelude.{codes}
use Rattle.std.specs.Fmt.{decimal}
use Rattle.std.proofs.lemmas.Bool.Decides.{nat_tests}
use Rattle.std.proofs.lemmas.Fmt.{digits_decimal, digits_value-decimal}
use Rattle.std.proofs.lemmas.List.{append_assoc, length-append}
use Rattle.hb_grammar.specs.Class.{is_digit}
use Rattle.hb_grammar.proofs.NumberLemmas.{AllDigits, digits_model, value_after}
use Rattle.hb_file_names.specs.FileParts.{sixteen_digits, suffix_text}
use Rattle.hb_file_names.proofs.DigitsLemmas.{IsExactly-sixteen_digits}
use Rattle.core_model.specs.Entries.{digits_value, seq_of}
use Rattle.core_model.specs.FileGuards.{next_name}

-- ---- digits up to the mark behind them

no_mark : (d : ℕ) → is_digit d ≡ true → (d == 95) ≡ false
no_mark d e = grind (arith, nat_tests)

value_before : (n : ℕ) (ds : List ℕ) → AllDigits ds → digits_value n (ds ++ 95 ∷ []) ≡ value_after n ds
value_before n [] h = refl
value_before n (d ∷ ds) h =
    let e : 10 * n + (d - 48) ≡ n * 10 + (d - 48) = omega arith in
    ap (λ b. cond b n (digits_value (10 * n + (d - 48)) (ds ++ 95 ∷ []))) (no_mark d h.0) ∙ ap (λ m. digits_value m (ds ++ 95 ∷ [])) e ∙ value_before (n * 10 + (d - 48)) ds h.1

behind : (xs ys : List ℕ) → drop (length xs) (xs ++ ys) ≡ ys
behind [] ys = refl
behind (x ∷ xs) ys = behind xs ys

drop_front : (n : ℕ) (xs ys : List ℕ) → length xs ≡ n → drop n (xs ++ ys) ≡ ys
drop_front n xs ys e = subst (λ m. drop m (xs ++ ys) ≡ ys) e (behind xs ys)

-- ---- names

other_length : (m n : ℕ) → m ≢ n → (m == n) ≡ false
other_length m n d = grind (arith, nat_tests)

same_length : (m n : ℕ) → m ≡ n → (m == n) ≡ true
same_length m n d = grind (arith, nat_tests)

-- the digits that a name begins with
front : ℕ → ℕ → List ℕ
front epoch k = sixteen_digits epoch ++ sixteen_digits (k + 1)

front-length : (epoch k : ℕ) → length (front epoch k) ≡ 32
unfolding front
front-length epoch k =
    let m = (IsExactly-sixteen_digits epoch).long in
    let n = (IsExactly-sixteen_digits (k + 1)).long in
    let l = length-append (sixteen_digits epoch) (sixteen_digits (k + 1)) in omega (arith, m, n, l)

name-parts : (epoch k : ℕ) (o : Option ℕ) → next_name epoch k o ≡ front epoch k ++ suffix_text o
unfolding front
name-parts epoch k o = sym (append_assoc (sixteen_digits epoch) (sixteen_digits (k + 1)) (suffix_text o))

pub numbered : (epoch k m : ℕ) → m < 2 ^ 64 → seq_of (next_name epoch k (Some m)) ≡ Some m
numbered epoch k m small =
    let digits : List ℕ = decimal m ++ 95 ∷ [] in
    let name : next_name epoch k (Some m) ≡ (front epoch k ++ codes "_SeqId_") ++ digits = name-parts epoch k (Some m) ∙ sym (append_assoc (front epoch k) (codes "_SeqId_") digits) in
    let a : length (front epoch k ++ codes "_SeqId_") ≡ 39 = (let l = length-append (front epoch k) (codes "_SeqId_") in let f = front-length epoch k in let s : length (codes "_SeqId_") ≡ 7 = refl in omega (arith, l, f, s)) in
    let b = length-append (front epoch k ++ codes "_SeqId_") digits in
    let long : length (next_name epoch k (Some m)) ≢ 32 = λ e. (let z = ap length name in omega (arith, e, z, a, b)) in
    ap (λ c. cond c None (Some (digits_value 0 (drop 39 (next_name epoch k (Some m)))))) (other_length (length (next_name epoch k (Some m))) 32 long)
    ∙ ap (λ v. Some (digits_value 0 (drop 39 v))) name ∙ ap (λ v. Some (digits_value 0 v)) (drop_front 39 (front epoch k ++ codes "_SeqId_") digits a)
    ∙ ap Some (value_before 0 (decimal m) (digits_decimal digits_model m small) ∙ digits_value-decimal digits_model m small)

pub unnumbered : (epoch k : ℕ) → seq_of (next_name epoch k None) ≡ None
unnumbered epoch k =
    let name = name-parts epoch k None in
    let l = length-append (front epoch k) [] in
    let f = front-length epoch k in
    let short : length (next_name epoch k None) ≡ 32 = (let z = ap length name in omega (arith, z, l, f)) in
    ap (λ c. cond c None (Some (digits_value 0 (drop 39 (next_name epoch k None))))) (same_length (length (next_name epoch k None)) 32 short)
