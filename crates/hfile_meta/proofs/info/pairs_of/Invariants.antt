use Rattle.std.proofs.Common.{map, take}
use Rattle.hfile_meta.specs.Info.{ArePairs}
use Rattle.hfile_meta.proofs.info.pairs_of.Given as goal

-- the pairs of the messages before the index
abbrev pub invariant-loop-text : goal.invariant-loop-text
invariant-loop-text l = ArePairs (map (λ t. t.now) (take l.text-index l.texts)) l.pairs.items
