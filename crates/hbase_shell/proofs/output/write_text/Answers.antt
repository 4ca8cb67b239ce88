use Rattle.std.proofs.Common.{arith}
use Rattle.std.proofs.lemmas.List.{length-drop, take_rest}
use Rattle.hbase_shell.proofs.OutputLemmas.{Writes-more}
use Rattle.hbase_shell.proofs.output.write_text.Goals as goal

pub loop-done-preserved : goal.loop-done-preserved
loop-done-preserved g c =
    let rest = take_rest c.args.text.now c.loop-done.done in
    record {
      within = let h = c.in_ok-done.ensures.within in let k = (rw rest at h) in omega (arith, k, length-drop c.loop-done.done c.args.text.now);
      sent = Writes-more _ _ _ _ _ _ _ c.loop-done.invariant.sent rest c.in_ok-done.ensures.added;
      later = omega arith;
    }
