use Rattle.std.proofs.Common.{◌≡◌, take, option_map}
use Rattle.hfile_meta.specs.Info.{last_value}
use Rattle.hfile_meta.proofs.info.last_value.Given as goal

-- the last value among the pairs before the index
abbrev pub invariant-loop-pair : goal.invariant-loop-pair
invariant-loop-pair l = option_map (λ t. t.now) l.last ≡ last_value l.key (take l.pair-index l.pairs)
