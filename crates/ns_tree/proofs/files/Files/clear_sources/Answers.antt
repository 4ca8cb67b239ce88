use Rattle.ns_tree.proofs.Renaming.{IsClearedOfSources-next}
use Rattle.ns_tree.proofs.files.Files.clear_sources.Goals as goal

pub loop-m-preserved : goal.loop-m-preserved
loop-m-preserved c = IsClearedOfSources-next c.args.moves.now c.loop-m.m-index c.args.self.now c.loop-m.self c.take.new.self c.m-item.result c.loop-m-test.true c.m-item.is c.loop-m.invariant c.take.ensures.taken
