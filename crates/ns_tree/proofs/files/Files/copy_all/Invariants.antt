use Rattle.std.proofs.Common.{take}
use Rattle.ns_tree.specs.Moves.{IsCopied}
use Rattle.ns_tree.proofs.files.Files.copy_all.Given as goal

-- the moves before the index are made
abbrev pub invariant-loop-m : goal.invariant-loop-m
invariant-loop-m l = IsCopied l.from l.to (take l.m-index l.moves) l.initial.self l.self
