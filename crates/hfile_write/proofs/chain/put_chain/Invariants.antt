use Rattle.std.proofs.Common.{◌≡◌, ◌++◌, length, drop}
use Rattle.hfile_write.specs.Written.{chain, with_blocks}
use Rattle.hfile_write.proofs.chain.put_chain.Given as goal

-- the blocks so far, and those that are left, are all
abbrev pub invariant-loop-content : goal.invariant-loop-content
invariant-loop-content l = l.out ++ chain l.magic l.before (length l.out) (drop l.content-index l.contents) ≡ with_blocks l.magic l.contents l.initial.out
