use Rattle.std.proofs.Common.{◌-◌, ◌≤◌, length, take}
use Rattle.hbase_shell.specs.Output.{Writes}
use Rattle.hbase_shell.proofs.output.write_text.Given as goal

-- what was done of the text was written, and no fault was uncounted
abbrev pub invariant-loop-done : goal.invariant-loop-done
invariant-loop-done g l = record {
  within : l.done ≤ length l.text;
  sent : Writes (g.O.Sink.written l.fn.output) (g.O.Sink.written l.output) (take l.done l.text);
  later : g.O.Sink.faults l.fn.output ≤ g.O.Sink.faults l.output;
}

abbrev pub decreases-loop-done : goal.decreases-loop-done
decreases-loop-done g l = length l.text - l.done
