use Rattle.hbase_shell.specs.Snapshots.{IsInSnapshot}
use Rattle.hbase_shell.proofs.SetLemmas.{contains-more, contains-none}
use Rattle.hbase_shell.proofs.snapshots.snapshot_names.Goals as goal

pub loop-place-init : goal.loop-place-init
loop-place-init c = record {
  names = λ name. contains-none (IsInSnapshot name) name c.new-names.result.keys c.new-names.ensures.empty;
  in_order = c.new-names.ensures.ordered;
}

pub loop-place-preserved : goal.loop-place-preserved
loop-place-preserved c = record {
  names = contains-more IsInSnapshot _ _ _ _ _ c.loop-place-test.true c.place-item.is c.loop-place.invariant.names c.in_ok-add_snapshot.ensures.names;
  in_order = c.add_snapshot.ensures.in_order c.loop-place.invariant.in_order;
}
