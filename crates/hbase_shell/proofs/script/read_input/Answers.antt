use Rattle.std.proofs.Common.{arith}
use Rattle.hbase_shell.proofs.ScriptLemmas.{ReadsTooLong-HasRead}
use Rattle.hbase_shell.proofs.script.read_input.Goals as goal

pub returns-clause-refused : goal.returns-clause-refused
returns-clause-refused g c =
    ReadsTooLong-HasRead _ _ _ (omega (arith, c.loop-chunk.invariant.within, c.loop-chunk-test.false, c.len.ensures)) c.loop-chunk.invariant.read
