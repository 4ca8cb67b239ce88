use Rattle.std.proofs.lemmas.Bool.{leb-true}
use Rattle.shell_text.proofs.MeantLemmas.{Means-qualified}
use Rattle.shell_text.proofs.meant.is_qualified.Goals as goal

pub returns-then-i-more : goal.returns-then-i-more
returns-then-i-more c e =
    Means-qualified c.args.more c.args.bytes.now c.loop-i.i c.loop-i-test.true c.loop-i.invariant c.if-bytes-i-eq58.true c.if-i-more.true (leb-true _ _ e)
