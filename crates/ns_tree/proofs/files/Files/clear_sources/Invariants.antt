use Rattle.std.proofs.Common.{take}
use Rattle.ns_tree.specs.Moves.{IsClearedOfSources}
use Rattle.ns_tree.proofs.files.Files.clear_sources.Given as goal

-- the sources before the index are cleared
abbrev pub invariant-loop-m : goal.invariant-loop-m
invariant-loop-m l = IsClearedOfSources (take l.m-index l.moves) l.initial.self l.self
