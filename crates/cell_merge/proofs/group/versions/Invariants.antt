use Rattle.std.proofs.Common.{◌≡◌, length}
use Rattle.cell_sight.specs.Visible.{versions_of}
use Rattle.cell_merge.proofs.group.versions.Given as goal

abbrev pub invariant-loop-rest : goal.invariant-loop-rest
invariant-loop-rest l = versions_of l.rest l.family ≡ versions_of l.fn.families l.family

abbrev pub decreases-loop-rest : goal.decreases-loop-rest
decreases-loop-rest l = length l.rest
