use Rattle.std.proofs.Common.{arith}
use Rattle.shell_script.specs.Lines.{kept_lines}
use Rattle.shell_script.proofs.AddLemmas.{no_begins}
use Rattle.hbase_shell.proofs.script.read_script.Goals as goal

pub unreachable-requires : goal.unreachable-requires
unreachable-requires g c =
    let refused = (rw c.in-Err-TooManySessions.field-0-is at c.in-Err-TooManySessions.ensures.refused) in
    omega (arith, refused, no_begins (kept_lines 1 c.as_slice.result.now))
