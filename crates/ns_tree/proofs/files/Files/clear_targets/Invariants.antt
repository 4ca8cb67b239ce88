use Rattle.std.proofs.Common.{take}
use Rattle.ns_tree.specs.Moves.{IsClearedOfTargets}
use Rattle.ns_tree.proofs.files.Files.clear_targets.Given as goal

-- the targets before the index are cleared
abbrev pub invariant-loop-m : goal.invariant-loop-m
invariant-loop-m l = IsClearedOfTargets (take l.m-index l.moves) l.initial.self l.self
