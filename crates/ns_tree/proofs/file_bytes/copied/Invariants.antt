use Rattle.std.proofs.Common.{◌≡◌, ◌-◌, length, take, drop}
use Rattle.ns_tree.specs.FileBytes.{joined}
use Rattle.ns_tree.proofs.file_bytes.copied.Given as goal

-- the bytes of the pieces before the index are copied, and so much is still to be skipped
abbrev pub invariant-loop-piece : goal.invariant-loop-piece
invariant-loop-piece l = record {
  bytes : l.all.items ≡ take l.len (drop l.at (joined (take l.piece-index l.pieces)));
  skip : l.skip ≡ l.at - length (joined (take l.piece-index l.pieces));
}
