use Rattle.std.proofs.Common.{◌∙◌, arith}
use Rattle.hb_row_text.proofs.NextRowLemmas.{next_row-cut}
use Rattle.hb_row_text.proofs.next.kept_of.Goals as goal

pub loop-kept-preserved : goal.loop-kept-preserved
loop-kept-preserved c = record {
  within = omega arith;
  same = c.loop-kept.invariant.same ∙ next_row-cut c.args.row.now c.loop-kept.kept (omega arith) c.loop-kept.invariant.within c.if-row-kept.true;
}
