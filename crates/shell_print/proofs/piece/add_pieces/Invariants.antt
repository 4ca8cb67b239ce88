use Rattle.std.proofs.Common.{◌≡◌, ◌++◌, take}
use Rattle.std.specs.List.{flat_map}
use Rattle.shell_print.specs.Piece.{piece_text}
use Rattle.shell_print.proofs.piece.add_pieces.Given as goal

-- what was added stands for what was gone through
abbrev pub invariant-loop-piece : goal.invariant-loop-piece
invariant-loop-piece l = l.out ≡ l.fn.out ++ flat_map piece_text (take l.piece-index l.pieces)
