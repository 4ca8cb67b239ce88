use Rattle.std.proofs.Common.{◌≡◌, take}
use Rattle.ns_tree.proofs.file_bytes.FileBytesCopied.copy.Given as goal

-- the pieces before the index are copied
abbrev pub invariant-loop-piece : goal.invariant-loop-piece
invariant-loop-piece l = l.pieces.items ≡ take l.piece-index l.piece-items
