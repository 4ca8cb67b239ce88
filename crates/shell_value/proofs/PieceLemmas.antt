use Rattle.std.proofs.Common.{◌≡◌, ℕ, List, [], ◌∷◌, ◌++◌, Bool, true, false, eqb, refl, sym, ap, ◌∙◌, subst, ◌⊎◌, inl, inr}
use Rattle.std.proofs.lemmas.Bool.{eqb-true}
use Rattle.std.proofs.lemmas.List.{append_assoc}
use Rattle.hb_grammar.specs.Joined.{Joined}
use Rattle.hb_grammar.specs.Marked.{Avoids}
use Rattle.hb_grammar.proofs.AvoidsLemmas.{Lacks, Lacks-append}
use Rattle.shell_text.specs.declared.argument.Argument.{Argument}
use Rattle.shell_text.specs.Blanks.{BlanksFrom}
use Rattle.shell_text.specs.Text.{IsText}
use Rattle.shell_line.specs.Table.{IsItem, IsLead, IsQuoted}
use Rattle.shell_line.proofs.PieceLemmas.{Avoids-IsText}
use Rattle.shell_value.specs.Cut.{before, behind}
use Rattle.shell_value.specs.Quotes.{rest_of, text_of}
use Rattle.shell_value.proofs.CutLemmas.{before-Lacks, behind-Lacks}

at_first : (mark x : ℕ) (xs : List ℕ) (b : Bool) → eqb x mark ≡ b → Lacks mark xs ⊎ ((front : List ℕ) × (rest : List ℕ) × (xs ≡ front ++ mark ∷ rest)) →
    Lacks mark (x ∷ xs) ⊎ ((front : List ℕ) × (rest : List ℕ) × (x ∷ xs ≡ front ++ mark ∷ rest))
at_first mark x xs true e rest = inr ([], xs, ap (λ (n : ℕ). n ∷ xs) (eqb-true x mark e))
at_first mark x xs false e (inl lacks) = inl (e, lacks)
at_first mark x xs false e (inr has) = inr (x ∷ has.0, has.1, ap (λ (l : List ℕ). x ∷ l) has.2)

-- bytes lack a mark, or have it
lacks_or_has : (mark : ℕ) (bytes : List ℕ) → Lacks mark bytes ⊎ ((front : List ℕ) × (rest : List ℕ) × (bytes ≡ front ++ mark ∷ rest))
lacks_or_has mark [] = inl tt
lacks_or_has mark (x ∷ xs) = at_first mark x xs (eqb x mark) refl (lacks_or_has mark xs)

lacks_of : (mark : ℕ) (bytes : List ℕ) → ((front rest : List ℕ) → bytes ≡ front ++ mark ∷ rest → ⊥) →
    Lacks mark bytes ⊎ ((front : List ℕ) × (rest : List ℕ) × (bytes ≡ front ++ mark ∷ rest)) → Lacks mark bytes
lacks_of mark bytes never (inl lacks) = lacks
lacks_of mark bytes never (inr has) = absurd (never has.0 has.1 has.2)

-- a string of a grammar that avoids a mark lacks it
pub Lacks-Avoids : (spells : List ℕ → Type 0) (mark : ℕ) (bytes : List ℕ) → Avoids spells mark → spells bytes → Lacks mark bytes
Lacks-Avoids spells mark bytes avoids spelled =
    lacks_of mark bytes (λ front rest e. avoids front rest (subst spells e spelled)) (lacks_or_has mark bytes)

-- blanks are no other byte
pub Lacks-BlanksFrom : (some : Bool) (mark : ℕ) (bytes : List ℕ) → eqb 32 mark ≡ false → BlanksFrom some bytes → Lacks mark bytes
Lacks-BlanksFrom true mark [] other blanks = tt
Lacks-BlanksFrom false mark [] other blanks = tt
Lacks-BlanksFrom true mark (x ∷ xs) other blanks =
    (subst (λ (n : ℕ). eqb n mark ≡ false) (sym blanks.0) other, Lacks-BlanksFrom false mark xs other blanks.1)
Lacks-BlanksFrom false mark (x ∷ xs) other blanks =
    (subst (λ (n : ℕ). eqb n mark ≡ false) (sym blanks.0) other, Lacks-BlanksFrom false mark xs other blanks.1)

-- blanks and a mark lack another mark
pub Lacks-IsLead : (some : Bool) (lead mark : ℕ) (bytes : List ℕ) → eqb 32 mark ≡ false → eqb lead mark ≡ false → IsLead some lead bytes → Lacks mark bytes
Lacks-IsLead some lead mark bytes other apart marked =
    subst (Lacks mark) (sym marked.whole) (Lacks-append mark marked.front (lead ∷ []) (Lacks-BlanksFrom some mark marked.front other marked.in_inner) (apart, tt))

-- the first text in quotes, with what stands before and behind it
pub record IsCut (argument : Argument) (behind_it : List ℕ → Type 0) (bytes : List ℕ) : Type 0 where
  pub gap : List ℕ
  pub means : IsText argument (text_of bytes)
  pub in_rest : behind_it (rest_of bytes)
  pub before_it : before 39 bytes ≡ gap

cut_at : (argument : Argument) (behind_it : List ℕ → Type 0) (bytes gap text rest : List ℕ) → bytes ≡ gap ++ 39 ∷ (text ++ 39 ∷ rest) → Lacks 39 gap →
    IsText argument text → behind_it rest → IsCut argument behind_it bytes
cut_at argument behind_it bytes gap text rest whole lacks means in_rest =
    let lacks_text = Lacks-Avoids (IsText argument) 39 text (Avoids-IsText argument) means in
    let first : behind 39 bytes ≡ text ++ 39 ∷ rest = ap (behind 39) whole ∙ behind-Lacks 39 gap (text ++ 39 ∷ rest) lacks in
    let read : text_of bytes ≡ text = ap (before 39) first ∙ before-Lacks 39 text rest lacks_text in
    let left : rest_of bytes ≡ rest = ap (behind 39) first ∙ behind-Lacks 39 text rest lacks_text in
    record {
      gap = gap;
      means = subst (IsText argument) (sym read) means;
      in_rest = subst behind_it (sym left) in_rest;
      before_it = ap (before 39) whole ∙ before-Lacks 39 gap (text ++ 39 ∷ rest) lacks;
    }

-- how the pieces of an argument in quotes stand
quoted_whole : (some : Bool) (argument : Argument) (front : List ℕ) → (q : IsQuoted some argument front) → (back : List ℕ) →
    front ++ back ≡ q.in_first.front ++ 39 ∷ (q.in_second.front ++ 39 ∷ back)
quoted_whole some argument front q back =
    let blanks = q.in_first.front in
    let text = q.in_second.front in
    ap (λ (l : List ℕ). l ++ back) (q.whole ∙ ap (λ (l : List ℕ). l ++ q.back) q.in_first.whole ∙ ap (λ (l : List ℕ). (blanks ++ 39 ∷ []) ++ l) q.in_second.whole)
    ∙ ap (λ (l : List ℕ). l ++ back) (append_assoc blanks (39 ∷ []) (text ++ 39 ∷ []))
    ∙ append_assoc blanks (39 ∷ (text ++ 39 ∷ [])) back
    ∙ ap (λ (l : List ℕ). blanks ++ 39 ∷ l) (append_assoc text (39 ∷ []) back)

-- an argument in quotes, and what follows it
pub IsCut-IsQuoted : (some : Bool) (argument : Argument) (behind_it : List ℕ → Type 0) (bytes : List ℕ) → Joined (IsQuoted some argument) behind_it bytes →
    IsCut argument behind_it bytes
IsCut-IsQuoted some argument behind_it bytes pair =
    let q = pair.in_first in
    cut_at argument behind_it bytes q.in_first.front q.in_second.front pair.back (pair.whole ∙ quoted_whole some argument pair.front q pair.back)
    (Lacks-BlanksFrom some 39 q.in_first.front refl q.in_first.in_inner) q.in_second.in_inner pair.in_second

-- a further argument, and what follows it
pub IsCut-IsItem : (argument : Argument) (behind_it : List ℕ → Type 0) (bytes : List ℕ) → Joined (IsItem argument) behind_it bytes → IsCut argument behind_it bytes
IsCut-IsItem argument behind_it bytes pair =
    let comma = pair.in_first.in_first in
    let q = pair.in_first.in_second in
    let whole : bytes ≡ pair.in_first.front ++ (pair.in_first.back ++ pair.back) =
    pair.whole ∙ ap (λ (l : List ℕ). l ++ pair.back) pair.in_first.whole ∙ append_assoc pair.in_first.front pair.in_first.back pair.back in
    let pieces : bytes ≡ (pair.in_first.front ++ q.in_first.front) ++ 39 ∷ (q.in_second.front ++ 39 ∷ pair.back) =
    whole ∙ ap (λ (l : List ℕ). pair.in_first.front ++ l) (quoted_whole false argument pair.in_first.back q pair.back)
    ∙ sym (append_assoc pair.in_first.front q.in_first.front (39 ∷ (q.in_second.front ++ 39 ∷ pair.back))) in
    cut_at argument behind_it bytes (pair.in_first.front ++ q.in_first.front) q.in_second.front pair.back pieces
    (Lacks-append 39 pair.in_first.front q.in_first.front (Lacks-IsLead false 44 39 pair.in_first.front refl refl comma)
    (Lacks-BlanksFrom false 39 q.in_first.front refl q.in_first.in_inner))
    q.in_second.in_inner pair.in_second
