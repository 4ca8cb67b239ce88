use Rattle.std.proofs.Common.{◌%◌, [], ◌∷◌, inl, refl, arith}
use Rattle.hb_grammar.specs.declared.class.Class.TheVariants.{LowerHex}
use Rattle.hb_grammar.specs.Grammar.{IsLive}
use Rattle.hb_grammar.specs.RunLaws.{IsLive-IsExactly}
use Rattle.hb_row_text.specs.declared.grammar.RowGrammar.{RowGrammar}
use Rattle.hb_row_text.specs.declared.grammar.RowGrammar.TheVariants.{Whole, Nothing, Digits}
use Rattle.hb_row_text.specs.RowDigits.{RowFrom}

-- whatever was read of the text of a row key can be completed: by one digit behind an odd count
pub IsLive-RowFrom : (left : RowGrammar) → IsLive (RowFrom left)
IsLive-RowFrom Whole = (45 ∷ [], inl refl)
IsLive-RowFrom Nothing = ([], refl)
IsLive-RowFrom (Digits left) =
    let exactly = IsLive-IsExactly LowerHex (left % 2) in
    let long = exactly.1.long in
    (exactly.0, record { most = omega arith; even = omega arith; each = exactly.1.each })
