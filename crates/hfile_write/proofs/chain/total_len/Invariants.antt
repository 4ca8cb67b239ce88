use Rattle.std.proofs.Common.{◌≡◌, take}
use Rattle.hfile_write.specs.Written.{total_len}
use Rattle.hfile_write.proofs.chain.total_len.Given as goal

-- the contents before the index are counted
abbrev pub invariant-loop-content : goal.invariant-loop-content
invariant-loop-content l = l.total ≡ total_len (take l.content-index l.contents)
