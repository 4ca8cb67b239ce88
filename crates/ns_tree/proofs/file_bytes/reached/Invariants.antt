use Rattle.std.proofs.Common.{◌≡◌, drop}
use Rattle.ns_tree.specs.FileBytes.{joined}
use Rattle.ns_tree.proofs.file_bytes.reached.Given as goal

-- what stands behind the position is what stands so far into the pieces from the index on
abbrev pub invariant-loop-number : goal.invariant-loop-number
invariant-loop-number l = drop l.at (joined l.pieces) ≡ drop l.skip (joined (drop l.number l.pieces))
