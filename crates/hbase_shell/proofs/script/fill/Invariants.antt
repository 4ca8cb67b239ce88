use Rattle.std.proofs.Common.{◌-◌, ◌≤◌, length}
use Rattle.hbase_shell.specs.Script.{HasMoved}
use Rattle.hbase_shell.proofs.script.fill.Given as goal

-- the front of the input stands in the buffer, and no fault was uncounted
abbrev pub invariant-loop-count : goal.invariant-loop-count
invariant-loop-count g l = record {
  within : l.count ≤ length l.buffer;
  moved : HasMoved l.count (g.I.Source.left l.fn.input) (g.I.Source.left l.input) l.buffer;
  later : g.I.Source.faults l.fn.input ≤ g.I.Source.faults l.input;
}

abbrev pub decreases-loop-count : goal.decreases-loop-count
decreases-loop-count g l = length l.initial.buffer - l.count
