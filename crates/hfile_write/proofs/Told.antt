-- What is told of cells, one by one.
use Rattle.std.proofs.Common.{◌≡◌, ℕ, ◌+◌, ◌*◌, ◌/◌, ◌≤◌, eqb, max, List, [], ◌∷◌, ◌++◌, length, Option, Some, None, refl, sym, subst, ap, ◌∙◌, arith}
use Rattle.std.specs.List.{sum_by}
use Rattle.std.proofs.lemmas.List.{length-append}
use Rattle.std.proofs.lemmas.List.Sums.{sum_by-append}
use Rattle.std.proofs.lemmas.Bool.{cond_both}
use Rattle.std.proofs.Math.Nat.{div-le_of_le-mul, mul_comm}
use Rattle.hb_cell.specs.declared.cell.Cell.{Cell}
use Rattle.hb_cell.specs.Limits.{IsCell}
use Rattle.hb_cell.specs.Stored.{key}
use Rattle.hfile_form.specs.DataCells.{last_or}
use Rattle.hfile_write.specs.declared.summary.Summary.{Summary}
use Rattle.hfile_write.specs.Summary.{greatest_seq, summary_of, with_summary, average, IsLow, IsLast, IsTold}
use Rattle.hfile_write.proofs.FirstKeys.{key_short}

greatest_seq-push : (cells : List Cell) (c : Cell) → greatest_seq (cells ++ c ∷ []) ≡ max (greatest_seq cells) c.seq
greatest_seq-push [] c = omega arith
greatest_seq-push (x ∷ cells) c = ap (λ (n : ℕ). max x.seq n) (greatest_seq-push cells c) ∙ omega arith

last_or-push : (last : Option Cell) (cells : List Cell) (c : Cell) → last_or last (cells ++ c ∷ []) ≡ Some c
last_or-push last [] c = refl
last_or-push last (x ∷ cells) c = last_or-push (Some x) cells c

summary_of-push : (cells : List Cell) (c : Cell) → summary_of (cells ++ c ∷ []) ≡ with_summary (summary_of cells) c
unfolding summary_of
summary_of-push cells c =
    let count : length (cells ++ c ∷ []) ≡ length cells + 1 = omega (arith, length-append cells (c ∷ [])) in
    let keys : sum_by (λ x. length (key x)) (cells ++ c ∷ []) ≡ sum_by (λ x. length (key x)) cells + length (key c) = sum_by-append (λ x. length (key x)) cells (c ∷ []) ∙ omega arith in
    let values : sum_by (λ x. length x.value) (cells ++ c ∷ []) ≡ sum_by (λ x. length x.value) cells + length c.value = sum_by-append (λ x. length x.value) cells (c ∷ []) ∙ omega arith in
    let greatest = greatest_seq-push cells c in
    λ i. record { cells = count i; key_bytes = keys i; value_bytes = values i; greatest = greatest i }

pub told-push : (cells more : List Cell) (s next : Summary) (last now : Option Cell) (c : Cell) → IsTold cells s last → IsCell c
    → more ≡ cells ++ c ∷ [] → next ≡ with_summary s c → now ≡ Some c → IsTold more next now
told-push cells more s next last now c told is more_is next_is now_is =
    let keys : with_summary s c ≡ next = sym next_is in
    let low : IsLow (with_summary s c) = record { keys = omega (arith, told.low.keys, key_short c is); values = omega (arith, told.low.values, is.value_high) } in
    record {
      summary_is = next_is ∙ ap (λ (x : Summary). with_summary x c) told.summary_is ∙ sym (summary_of-push cells c) ∙ ap summary_of (sym more_is);
      last_is = now_is ∙ sym (last_or-push None cells c) ∙ ap (last_or None) (sym more_is);
      low = subst IsLow keys low;
      fits = subst IsLast (sym now_is) is;
    }

pub told-none : (cells : List Cell) (s : Summary) → cells ≡ [] → s ≡ summary_of [] → IsTold cells s None
unfolding summary_of
told-none cells s none s_is =
    let nothing : IsTold [] (summary_of []) None = record { summary_is = refl; last_is = refl; low = record { keys = omega arith; values = omega arith }; fits = tt } in
    subst (λ (cs : List Cell). IsTold cs s None) (sym none) (subst (λ (x : Summary). IsTold [] x None) (sym s_is) nothing)

-- ---- averages

pub average_low : (total count most : ℕ) → total ≤ most * count → average total count ≤ most
average_low total count most low =
    cond_both (eqb count 0) 0 (total / count) (λ (n : ℕ). n ≤ most) (λ t. omega arith) (λ t. div-le_of_le-mul count (subst (λ (n : ℕ). total ≤ n) (mul_comm most count) low))
