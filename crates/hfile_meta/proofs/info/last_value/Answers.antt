use Rattle.std.proofs.Common.{option_map}
use Rattle.hfile_meta.proofs.Infos.{last_value-more}
use Rattle.hfile_meta.proofs.info.last_value.Goals as goal

pub loop-pair-preserved : goal.loop-pair-preserved
loop-pair-preserved c =
    last_value-more c.args.key.now c.args.pairs.now c.loop-pair.pair-index c.pair-item.result c.pair-item.result (option_map (λ t. t.now) c.loop-pair.last) (option_map (λ t. t.now) c.later-last.result) (option_map (λ t. t.now) c.value_here.result)
    c.loop-pair-test.true c.pair-item.is c.loop-pair.invariant c.value_here.ensures c.later-last.ensures
