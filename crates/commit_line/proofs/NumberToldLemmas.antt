use Rattle.std.proofs.Common.{◌≡◌, ℕ, ◌<◌, ◌≤◌, ◌^◌, List, ◌∷◌, ◌++◌, refl, sym, ◌∙◌, append_assoc, arith}
use Rattle.std.specs.Fmt.{decimal}
use Rattle.std.proofs.lemmas.Fmt.{decimal_injective}
use Rattle.std.proofs.lemmas.List.{append_cancel_left}
use Rattle.hb_grammar.specs.Grammar.{IsLive}
use Rattle.hb_grammar.specs.Marked.{Avoids}
use Rattle.hb_grammar.specs.TextOf.{IsTextOf, IsTold}
use Rattle.hb_grammar.proofs.NumeralLemmas.{Avoids-IsNumeral}
use Rattle.hb_grammar.proofs.MarkedTextLemmas.{IsTold-marked}
use Rattle.commit_line.specs.Line.{ended, IsNumber}
use Rattle.commit_line.proofs.NumberLineLemmas.{Same-IsNumeral}

-- no number has a line feed
Avoids-decimal : (low max : ℕ) → max < 2 ^ 64 → Avoids (IsTextOf (IsNumber low max) decimal) 10
Avoids-decimal low max small front rest spelled =
    Avoids-IsNumeral low max 10 small refl front rest ((Same-IsNumeral low max).back (front ++ 10 ∷ rest) spelled)

-- a number is told by its line
pub IsTold-number_line : (text : List ℕ) (low max : ℕ) → max < 2 ^ 64 → IsTold (IsNumber low max) (λ number. text ++ ended (decimal number))
IsTold-number_line text low max small v w a b ok ok' e =
    let behind : ended (decimal v) ++ a ≡ ended (decimal w) ++ b =
    append_cancel_left text (ended (decimal v) ++ a) (ended (decimal w) ++ b)
    (sym (append_assoc text (ended (decimal v)) a) ∙ e ∙ append_assoc text (ended (decimal w)) b) in
    IsTold-marked (IsNumber low max) decimal 10 (Avoids-decimal low max small)
    (λ m n below below' same. let within = below.1 in let within' = below'.1 in decimal_injective m n (omega arith) (omega arith) same) v w a b ok ok' behind

-- there is a line of a number
pub IsLive-number_line : (text : List ℕ) (low max : ℕ) → low ≤ max → IsLive (IsTextOf (IsNumber low max) (λ number. text ++ ended (decimal number)))
IsLive-number_line text low max ordered = (text ++ ended (decimal low), (low, (omega arith, ordered), refl))
