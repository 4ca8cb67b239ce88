use Rattle.std.proofs.Common.{◌≡◌, ◌+◌, ◌-◌, ◌≤◌, length}
use Rattle.hbase_shell.specs.declared.script.TheConstants.{CHUNK, MAX_INPUT}
use Rattle.hbase_shell.specs.Script.{HasRead}
use Rattle.hbase_shell.proofs.script.read_input.Given as goal

-- the front of the input was read, and no fault was uncounted
abbrev pub invariant-loop-chunk : goal.invariant-loop-chunk
invariant-loop-chunk g l = record {
  read : HasRead (g.I.Source.left l.fn.input) (g.I.Source.left l.input) l.bytes.items;
  within : length l.bytes.items ≤ MAX_INPUT + 1;
  chunk : length l.chunk ≡ CHUNK;
  later : g.I.Source.faults l.fn.input ≤ g.I.Source.faults l.input;
}

abbrev pub decreases-loop-chunk : goal.decreases-loop-chunk
decreases-loop-chunk g l = MAX_INPUT + 1 - length l.bytes.items
