use Rattle.std.proofs.Common.{◌≡◌, ℕ, ◌≤◌, List, [], ◌∷◌, ◌++◌, length, get_or, Bool, true, false, Option, Some, None, refl, sym, subst, ap, ◌∙◌, arith, is_gt, true≢false}
use Rattle.std.specs.Fmt.{decimal}
use Rattle.std.proofs.lemmas.Fmt.{decimal_injective}
use Rattle.std.proofs.lemmas.Cmp.{nat_list_cmp_total, tied_itself}
use Rattle.hb_grammar.specs.Grammar.{IsLive, Same}
use Rattle.hb_grammar.specs.Marked.{Marked, Avoids}
use Rattle.hb_grammar.specs.AtLeast.{IsAtLeast, NotBelow}
use Rattle.hb_grammar.specs.Numeral.{IsNumeral}
use Rattle.hb_grammar.specs.TextOf.{IsTextOf, IsTold}
use Rattle.hb_grammar.proofs.AvoidsLemmas.{Lacks, Avoids-Free}
use Rattle.hb_grammar.proofs.NumeralLemmas.{Avoids-IsNumeral}
use Rattle.hb_grammar.proofs.SameLemmas.{Same_trans, Same-Marked, Avoids-Same}
use Rattle.hb_grammar.proofs.TextOfLemmas.{IsTold-IsPair}
use Rattle.hb_grammar.proofs.MarkedTextLemmas.{IsTold-marked, Same-marked}
use Rattle.hb_row_text.specs.RowText.{row_text, IsRowText}
use Rattle.hb_row_text.proofs.RowTextLemmas.{row_text-injective, Avoids-IsRowText_blank, Avoids-IsRowText_line_feed}
use Rattle.commit_line.specs.declared.error.ListError.{ListError}
use Rattle.commit_line.specs.ListError.{IsFrontRefusal}
use Rattle.commit_line.proofs.ReadLemmas.{IsFrontRefusal-Same}
use Rattle.region_set.specs.RegionLine.{IsRow, split_word, end_text}
use Rattle.region_set.specs.RegionParts.{IsId, id_field, IsSplit, split_field, IsStart, start_field, IsEnd, end_line, AreBounds, bounds_text, IsRest, rest_text}
use Rattle.region_set.proofs.RegionOrderLemmas.{IsRow-IsStart}

-- a refusal of a word and its mark is one of the values that have such words
pub IsFrontRefusal-marked : {V : Type 0} (spells : List ℕ → Type 0) (valid : V → Type 0) (word : V → List ℕ) (mark : ℕ) → Same spells (IsTextOf valid word) →
    (bytes : List ℕ) (at : ℕ) (error : ListError) → IsFrontRefusal (Marked spells mark) bytes at error →
    IsFrontRefusal (IsTextOf valid (λ v. word v ++ mark ∷ [])) bytes at error
IsFrontRefusal-marked {V} spells valid word mark same bytes at error refused =
    let words = Same_trans (Marked spells mark) (Marked (IsTextOf valid word) mark) (IsTextOf valid (λ v. word v ++ mark ∷ []))
    (Same-Marked spells (IsTextOf valid word) mark same) (Same-marked valid word mark) in
    IsFrontRefusal-Same (Marked spells mark) (IsTextOf valid (λ v. word v ++ mark ∷ [])) words bytes at error refused

-- the decimals from a number on are the texts of ids
pub Same-IsId : (low : ℕ) → Same (IsNumeral low 18_446_744_073_709_551_615) (IsTextOf (IsId low) decimal)
Same-IsId low = record {
  forth = λ bytes between. let most = between.most in (between.number, (between.least, omega arith), between.text);
  back = λ bytes spelled. let small = spelled.1.1 in record { number = spelled.0; least = spelled.1.0; most = omega arith; text = spelled.2 };
}

-- no id has a blank
Avoids-IsId : (low : ℕ) → Avoids (IsTextOf (IsId low) decimal) 32
Avoids-IsId low front rest spelled =
    Avoids-IsNumeral low 18_446_744_073_709_551_615 32 (omega arith) refl front rest ((Same-IsId low).back (front ++ 32 ∷ rest) spelled)

-- an id is told by its decimal and a blank
pub IsTold-IsId : (low : ℕ) → IsTold (IsId low) id_field
IsTold-IsId low = IsTold-marked (IsId low) decimal 32 (Avoids-IsId low) (λ v w ok ok' e. decimal_injective v w ok.1 ok'.1 e)

-- no word that tells whether a region is split has a blank
Lacks-split_word : (split : Bool) → Lacks 32 (split_word split)
Lacks-split_word true = (refl, (refl, (refl, (refl, (refl, tt)))))
Lacks-split_word false = (refl, (refl, (refl, (refl, tt))))

-- these words avoid it
pub Avoids-IsSplit : Avoids (IsTextOf IsSplit split_word) 32
Avoids-IsSplit = Avoids-Free (IsTextOf IsSplit split_word) 32 (λ bytes spelled. subst (Lacks 32) (sym spelled.2) (Lacks-split_word spelled.0))

-- the two words differ
split_word-injective : (v w : Bool) → split_word v ≡ split_word w → v ≡ w
split_word-injective true true e = refl
split_word-injective true false e = let first = ap (λ (x : List ℕ). get_or x 0 0) e in absurd (omega arith)
split_word-injective false true e = let first = ap (λ (x : List ℕ). get_or x 0 0) e in absurd (omega arith)
split_word-injective false false e = refl

-- whether a region is split is told by its word and a blank
pub IsTold-IsSplit : IsTold IsSplit split_field
IsTold-IsSplit = IsTold-marked IsSplit split_word 32 Avoids-IsSplit (λ v w ok ok' e. split_word-injective v w e)

-- the text of a row key
IsRowText-row_text : (row : List ℕ) → IsRow row → IsRowText (row_text row)
IsRowText-row_text row ok = record { row = row; small = ok.small; limit = ok.limit; whole = refl }

-- texts of row keys from a bound on are those of the starts from it on
pub Same-IsStart : (bound : Option (List ℕ)) → Same (NotBelow IsRowText bound) (IsTextOf (IsStart bound) row_text)
Same-IsStart None = record {
  forth = λ bytes text. (text.row, record { small = text.small; limit = text.limit }, text.whole);
  back = λ bytes spelled. subst IsRowText (sym spelled.2) (IsRowText-row_text spelled.0 spelled.1);
}
Same-IsStart (Some bound) = record {
  forth = λ bytes both.
      (both.0.row, (record { small = both.0.small; limit = both.0.limit }, subst (IsAtLeast bound) both.0.whole both.1), both.0.whole);
  back = λ bytes spelled.
      (subst IsRowText (sym spelled.2) (IsRowText-row_text spelled.0 spelled.1.0), subst (IsAtLeast bound) (sym spelled.2) spelled.1.1);
}

-- no start has a blank
pub Avoids-IsStart : (bound : Option (List ℕ)) → Avoids (IsTextOf (IsStart bound) row_text) 32
Avoids-IsStart bound front rest spelled =
    Avoids-IsRowText_blank front rest (subst IsRowText (sym spelled.2) (IsRowText-row_text spelled.0 (IsRow-IsStart bound spelled.0 spelled.1)))

-- a start is told by its text and a blank
pub IsTold-IsStart : (bound : Option (List ℕ)) → IsTold (IsStart bound) start_field
IsTold-IsStart bound =
    IsTold-marked (IsStart bound) row_text 32 (Avoids-IsStart bound)
    (λ v w ok ok' e. row_text-injective v w (IsRow-IsStart bound v ok).small (IsRow-IsStart bound w ok').small e)

-- the end that a row key is
end_of : List ℕ → Option (List ℕ)
end_of [] = None
end_of (x ∷ xs) = Some (x ∷ xs)

-- it is one
IsEnd-end_of : (row : List ℕ) → IsRow row → IsTextOf IsEnd end_text (row_text row)
IsEnd-end_of [] ok = (None, (tt, tt), refl)
IsEnd-end_of (x ∷ xs) ok = (Some (x ∷ xs), (ok, omega arith), refl)

-- the text of an end is that of a row key
IsRowText-end_text : (end : Option (List ℕ)) → IsEnd end → IsRowText (end_text end)
IsRowText-end_text None ok = record { row = []; small = λ i. omega arith; limit = omega arith; whole = refl }
IsRowText-end_text (Some row) ok = IsRowText-row_text row ok.0

-- the texts of row keys are those of ends
pub Same-IsEnd : Same IsRowText (IsTextOf IsEnd end_text)
Same-IsEnd = record {
  forth = λ bytes text. subst (IsTextOf IsEnd end_text) (sym text.whole) (IsEnd-end_of text.row (record { small = text.small; limit = text.limit }));
  back = λ bytes spelled. subst IsRowText (sym spelled.2) (IsRowText-end_text spelled.0 spelled.1);
}

-- ends with the same text are the same
end_text-injective : (v w : Option (List ℕ)) → IsEnd v → IsEnd w → end_text v ≡ end_text w → v ≡ w
end_text-injective None None ok ok' e = refl
end_text-injective None (Some row) ok ok' e =
    let same : [] ≡ row = row_text-injective [] row (λ i. omega arith) ok'.0.small e in let some = ok'.1 in absurd (omega (arith, ap length same))
end_text-injective (Some row) None ok ok' e =
    let same : row ≡ [] = row_text-injective row [] ok.0.small (λ i. omega arith) e in let some = ok.1 in absurd (omega (arith, ap length same))
end_text-injective (Some row) (Some other) ok ok' e = ap Some (row_text-injective row other ok.0.small ok'.0.small e)

-- an end is told by its text and a line feed
IsTold-IsEnd : IsTold IsEnd end_line
IsTold-IsEnd = IsTold-marked IsEnd end_text 10 (Avoids-Same (IsTextOf IsEnd end_text) IsRowText 10 (record { forth = Same-IsEnd.back; back = Same-IsEnd.forth }) Avoids-IsRowText_line_feed)
    end_text-injective

-- there is an end
pub IsLive-IsEnd : IsLive (IsTextOf IsEnd end_line)
IsLive-IsEnd = (end_line None, (None, (tt, tt), refl))

-- bytes are not below themselves
IsAtLeast-self : (bytes : List ℕ) → IsAtLeast bytes bytes
IsAtLeast-self bytes e = true≢false (sym (ap is_gt (sym (tied_itself nat_list_cmp_total bytes) ∙ e)))

-- there is a start from a bound on
some_start : (bound : Option (List ℕ)) → ((text : List ℕ) → bound ≡ Some text → IsRowText text) → (row : List ℕ) × IsStart bound row
some_start None ok = ([], record { small = λ i. omega arith; limit = omega arith })
some_start (Some bound) ok =
    let text = ok bound refl in
    (text.row, (record { small = text.small; limit = text.limit }, subst (IsAtLeast bound) text.whole (IsAtLeast-self bound)))

-- there are bounds from it on
pub IsLive-AreBounds : (bound : Option (List ℕ)) → ((text : List ℕ) → bound ≡ Some text → IsRowText text) → IsLive (IsTextOf (AreBounds bound) bounds_text)
IsLive-AreBounds bound ok =
    let start = some_start bound ok in (bounds_text (start.0, None), ((start.0, None), (start.1, (tt, tt)), refl))

-- and what stands behind an id
pub IsLive-IsRest : (bound : Option (List ℕ)) → ((text : List ℕ) → bound ≡ Some text → IsRowText text) → IsLive (IsTextOf (IsRest bound) rest_text)
IsLive-IsRest bound ok =
    let start = some_start bound ok in (rest_text (false, (start.0, None)), ((false, (start.0, None)), (tt, (start.1, (tt, tt))), refl))

-- bounds are told by their texts
IsTold-AreBounds : (bound : Option (List ℕ)) → IsTold (AreBounds bound) bounds_text
IsTold-AreBounds bound = IsTold-IsPair (IsStart bound) start_field (λ _. IsEnd) end_line (IsTold-IsStart bound) (λ _ _. IsTold-IsEnd)

-- and so is what stands behind an id
pub IsTold-IsRest : (bound : Option (List ℕ)) → IsTold (IsRest bound) rest_text
IsTold-IsRest bound = IsTold-IsPair IsSplit split_field (λ _. AreBounds bound) bounds_text IsTold-IsSplit (λ _ _. IsTold-AreBounds bound)

-- the number of a decimal from a number on is an id
pub IsId-decimal : (low n : ℕ) (word : List ℕ) → n ≤ 18_446_744_073_709_551_615 → IsNumeral low 18_446_744_073_709_551_615 word → decimal n ≡ word → IsId low n
IsId-decimal low n word small between e =
    let most = between.most in
    let same : between.number ≡ n = decimal_injective between.number n (omega arith) (omega arith) (sym (e ∙ between.text)) in
    (subst (λ m. low ≤ m) same between.least, omega arith)
