use Rattle.std.proofs.Common.{◌≡◌, ℕ, ◌-◌, ◌+◌, ◌<◌, ◌≤◌, List, [], ◌∷◌, ◌++◌, length, take, drop, ap, ◌∙◌, sym, subst, arith, codes, inl, inr}
use Rattle.std.proofs.Math.Seq.{take-append_seam}
use Rattle.std.proofs.lemmas.List.{length-append}
use Rattle.hb_grammar.specs.Numeral.{IsNumeral}
use Rattle.hb_file_names.specs.FileName.{IsSeqSuffix, IsSuffix}

-- the digits within a suffix, with what stands round them
pub record HasDigits (bytes : List ℕ) : Type 0 where
  pub long : 8 ≤ length bytes
  pub numeral : IsNumeral 0 9_223_372_036_854_775_807 (take (length bytes - 1 - 7) (drop 7 bytes))
  pub text : codes "_SeqId_" ++ (take (length bytes - 1 - 7) (drop 7 bytes) ++ 95 ∷ []) ≡ bytes

-- a suffix that is not empty has digits
HasDigits-IsSeqSuffix : (bytes : List ℕ) → IsSeqSuffix bytes → HasDigits bytes
HasDigits-IsSeqSuffix bytes suffix =
    let word : List ℕ = codes "_SeqId_" in
    let behind = suffix.in_second in
    let seven : length suffix.front ≡ 7 = ap length suffix.in_first in
    let whole : bytes ≡ word ++ (behind.front ++ 95 ∷ []) =
    suffix.whole ∙ ap (λ (x : List ℕ). x ++ suffix.back) suffix.in_first ∙ ap (λ (x : List ℕ). word ++ x) behind.whole in
    let long : length bytes ≡ 8 + length behind.front =
    ap length whole ∙ omega (arith, length-append word (behind.front ++ 95 ∷ []), length-append behind.front (95 ∷ [])) in
    let count : length bytes - 1 - 7 ≡ length behind.front = omega arith in
    let left : drop 7 bytes ≡ behind.front ++ 95 ∷ [] = ap (drop 7) whole in
    let digits : take (length bytes - 1 - 7) (drop 7 bytes) ≡ behind.front =
    ap (λ n. take n (drop 7 bytes)) count ∙ ap (take (length behind.front)) left ∙ take-append_seam behind.front (95 ∷ []) in
    record {
      long = omega arith;
      numeral = subst (IsNumeral 0 9_223_372_036_854_775_807) (sym digits) behind.in_inner;
      text = ap (λ (x : List ℕ). word ++ (x ++ 95 ∷ [])) digits ∙ sym whole;
    }

-- so has a suffix of any bytes
pub HasDigits-IsSuffix : (bytes : List ℕ) → IsSuffix bytes → 0 < length bytes → HasDigits bytes
HasDigits-IsSuffix bytes suffix some = elim suffix as (λ _. HasDigits bytes) [
  | inl none ↦ let long = ap length none in absurd (omega arith)
  | inr seq ↦ HasDigits-IsSeqSuffix bytes seq
]
