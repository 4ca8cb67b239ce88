use Rattle.std.proofs.Common.{length}
use Rattle.hfile_form.specs.declared.section.Section.TheVariants as sections
use Rattle.hfile_form.specs.Front.{no_front, taken}
use Rattle.hfile_read.specs.Views.{front_view}
use Rattle.hfile_read.proofs.Steps.{IsLeft}
use Rattle.hfile_read.proofs.front.read_front.Given as goal

-- the blocks so far, and those that are left, are all
abbrev pub invariant-loop-rest : goal.invariant-loop-rest
invariant-loop-rest l = IsLeft (taken l.with_seq) sections.Front 0 l.bytes no_front l.at l.rest (front_view l.front)

abbrev pub decreases-loop-rest : goal.decreases-loop-rest
decreases-loop-rest l = length l.rest
