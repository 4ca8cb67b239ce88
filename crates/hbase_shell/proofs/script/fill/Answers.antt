use Rattle.std.proofs.Common.{arith}
use Rattle.hbase_shell.proofs.ScriptLemmas.{HasMoved-more, within-put_mid}
use Rattle.hbase_shell.proofs.script.fill.Goals as goal

pub loop-count-preserved : goal.loop-count-preserved
loop-count-preserved g c = record {
  within = within-put_mid _ _ _ _ c.loop-count.invariant.within (omega (arith, c.in_ok-moved.ensures.within, c.read.auto.buf));
  moved = HasMoved-more _ _ _ _ _ _ _ _ _ c.loop-count.invariant.within c.loop-count.invariant.moved c.in_ok-moved.ensures.moved c.in_ok-moved.ensures.rest;
  later = omega arith;
}
