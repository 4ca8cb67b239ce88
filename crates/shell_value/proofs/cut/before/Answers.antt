use Rattle.shell_value.proofs.CutLemmas.{before-found, before-more}
use Rattle.shell_value.proofs.cut.before.Goals as goal

pub loop-i-preserved : goal.loop-i-preserved
loop-i-preserved c = before-more c.args.mark c.args.bytes.now c.loop-i.i c.loop-i-test.true c.if-bytes-i.false c.loop-i.invariant

pub returns-then-bytes-i : goal.returns-then-bytes-i
returns-then-bytes-i c = before-found c.args.mark c.args.bytes.now c.loop-i.i c.loop-i-test.true c.if-bytes-i.true c.loop-i.invariant
