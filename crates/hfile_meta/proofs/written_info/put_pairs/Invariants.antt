use Rattle.std.proofs.Common.{◌≡◌, ◌++◌, take}
use Rattle.hfile_meta.specs.Written.{pair_fields}
use Rattle.hfile_meta.proofs.written_info.put_pairs.Given as goal

-- the fields of the pairs before the index stand behind what stood there
abbrev pub invariant-loop-pair : goal.invariant-loop-pair
invariant-loop-pair l = l.message ≡ l.initial.message ++ pair_fields (take l.pair-index l.pairs)
