use Rattle.std.proofs.Common.{◌≡◌, ℕ, ◌<◌, ◌^◌, List, [], ◌∷◌, ◌++◌, refl, sym, subst, ap, ◌∙◌, Bool, Result, Ok, Err, IsErrAnd}
use Rattle.std.specs.Fmt.{decimal}
use Rattle.hb_grammar.specs.Grammar.{Same}
use Rattle.hb_grammar.specs.Marked.{Marked, Avoids}
use Rattle.hb_grammar.specs.TextOf.{IsTextOf, IsTold}
use Rattle.hb_grammar.proofs.SameLemmas.{Same_refl}
use Rattle.commit_line.specs.declared.error.ListError.{ListError}
use Rattle.commit_line.specs.Line.{field, ended, IsNumber}
use Rattle.commit_line.specs.ListError.{IsFrontRefusal, IsRead}
use Rattle.commit_line.proofs.NumberToldLemmas.{IsTold-number_line}
use Rattle.commit_line.proofs.WordLemmas.{Same-marked_word, IsTold-word}

-- a field's texts are the words of a grammar and the blank behind each
pub Same-field : (valid : List ℕ → Type 0) → Same (Marked valid 32) (IsTextOf valid field)
Same-field valid = Same-marked_word valid valid 32 (Same_refl valid)

-- the one value is always valid
abbrev pub Always : Unit {0} → Type 0
Always _ = Unit {0}

-- a fixed word and its blank are the text of one value
pub Same-fixed : (word : List ℕ) → Same (Marked (λ bytes. bytes ≡ word) 32) (IsTextOf Always (λ _. field word))
Same-fixed word = record {
  forth = λ bytes m. (tt, tt, m.whole ∙ ap (λ (x : List ℕ). x ++ 32 ∷ []) m.in_inner);
  back = λ bytes s. record { front = word; whole = s.2; in_inner = refl };
}

-- one value is told by each text
pub IsTold-Always : (text : List ℕ) → IsTold Always (λ _. text)
IsTold-Always text v w a b ok ok' e = refl

-- words without a blank are told by it
pub IsTold-field : (valid : List ℕ → Type 0) → Avoids valid 32 → IsTold valid field
IsTold-field valid avoids = IsTold-word valid 32 avoids

-- a number at the end of a line
abbrev pub last_number : ℕ → List ℕ
last_number number = ended (decimal number)

-- numbers at the ends of lines are told
pub IsTold-last_number : (low max : ℕ) → max < 2 ^ 64 → IsTold (IsNumber low max) last_number
IsTold-last_number low max small = IsTold-number_line [] low max small

-- an error that is passed on is that of a reading
pub IsRead-Err : {V : Type 0} (valid : V → Type 0) (text : V → List ℕ) (bytes : List ℕ) (at : ℕ) (result : Result (V × ℕ) ListError) (error : ListError) →
    IsErrAnd result (λ given. given ≡ error) → IsFrontRefusal (IsTextOf valid text) bytes at error → IsRead valid text bytes at result
IsRead-Err valid text bytes at (Ok read) error given refused = absurd given
IsRead-Err valid text bytes at (Err other) error given refused = subst (IsFrontRefusal (IsTextOf valid text) bytes at) (sym given) refused
