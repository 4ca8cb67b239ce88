use Rattle.std.proofs.Common.{arith}
use Rattle.std.proofs.lemmas.Bool.{leb-true}
use Rattle.shell_text.proofs.MeantLemmas.{Means-run}
use Rattle.shell_text.proofs.meant.is_run.Goals as goal

pub returns-then-least-bytes : goal.returns-then-least-bytes
returns-then-least-bytes c e =
    Means-run c.args.least c.args.more c.args.bytes.now c.if-least-bytes.true (omega (arith, leb-true _ _ e, c.if-least-bytes.true))
