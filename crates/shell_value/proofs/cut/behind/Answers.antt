use Rattle.std.proofs.Common.{◌+◌, ◌∙◌, arith}
use Rattle.std.proofs.lemmas.List.{length-drop, take_all}
use Rattle.shell_value.proofs.CutLemmas.{behind-found, behind-more}
use Rattle.shell_value.proofs.cut.behind.Goals as goal

pub loop-i-preserved : goal.loop-i-preserved
loop-i-preserved c = behind-more c.args.mark c.args.bytes.now c.loop-i.i c.loop-i-test.true c.if-bytes-i.false c.loop-i.invariant

pub returns-then-bytes-i : goal.returns-then-bytes-i
returns-then-bytes-i c =
    take_all _ _ (omega (arith, length-drop (c.loop-i.i + 1) c.args.bytes.now))
    ∙ behind-found c.args.mark c.args.bytes.now c.loop-i.i c.loop-i-test.true c.if-bytes-i.true c.loop-i.invariant
