use Rattle.std.proofs.Common.{◌≡◌, ℕ, List, [], ◌∷◌, ◌++◌, codes, refl, ap}
use Rattle.std.specs.Fmt.{decimal}
use Rattle.std.proofs.lemmas.List.{append_assoc, append-nil}
use Rattle.hb_cell.specs.declared.cell.Cell.{Cell}
use Rattle.shell_print.specs.Piece.{line}
use Rattle.shell_print.specs.ReplyText.{cell_line}
use Rattle.shell_print.specs.Shown.{shown}

-- nine parts, one behind another from the right and from the left
pub nine_parts : (a b c d e f g h i : List ℕ) →
    a ++ (b ++ (c ++ (d ++ (e ++ (f ++ (g ++ (h ++ (i ++ [])))))))) ≡ a ++ b ++ c ++ d ++ e ++ f ++ g ++ h ++ i
nine_parts a b c d e f g h i = simp (append_assoc, append-nil) refl

-- the parts of a cell's line
pub cell_line-parts : (cell : Cell) (row family qualifier value : List ℕ) → row ≡ cell.row → family ≡ cell.family →
    qualifier ≡ cell.qualifier → value ≡ cell.value →
    line (shown row ++ (codes " " ++ (family ++ (codes ":" ++ (shown qualifier ++ (codes " ts=" ++ (decimal cell.ts ++ (codes " value=" ++ (shown value ++ [])))))))))
    ≡ cell_line cell
cell_line-parts cell row family qualifier value a b c d =
    rw a (rw b (rw c (rw d (ap line (nine_parts (shown cell.row) (codes " ") cell.family (codes ":") (shown cell.qualifier) (codes " ts=")
    (decimal cell.ts) (codes " value=") (shown cell.value))))))
