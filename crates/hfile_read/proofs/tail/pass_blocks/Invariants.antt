use Rattle.std.proofs.Common.{length}
use Rattle.hfile_form.specs.declared.section.Section.TheVariants as sections
use Rattle.hfile_form.specs.File.{passed}
use Rattle.hfile_read.proofs.Steps.{IsLeft}
use Rattle.hfile_read.proofs.tail.pass_blocks.Given as goal

-- the blocks so far, and those that are left, are all
abbrev pub invariant-loop-rest : goal.invariant-loop-rest
invariant-loop-rest l = IsLeft passed sections.Others l.from l.bytes tt l.at l.rest tt

abbrev pub decreases-loop-rest : goal.decreases-loop-rest
decreases-loop-rest l = length l.rest
