use Rattle.std.proofs.Common.{◌≡◌}
use Rattle.cell_merge.specs.Machine.{left, way}
use Rattle.cell_merge.proofs.visible.Visible.next.Given as goal

abbrev pub invariant-loop-cell : goal.invariant-loop-cell
invariant-loop-cell l = left l.self-inside.machine ≡ left l.initial.self-inside.machine

abbrev pub decreases-loop-cell : goal.decreases-loop-cell
decreases-loop-cell l = way l.self-inside.machine
