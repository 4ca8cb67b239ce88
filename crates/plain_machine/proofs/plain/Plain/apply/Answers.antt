use Rattle.plain_machine.proofs.plain.Plain.apply.Goals as goal

pub returns-clause-ok : goal.returns-clause-ok
returns-clause-ok c = c.in_ok-next.ensures c.change_snapshots.new.snapshots.entries c.in_ok-change_snapshots.ensures.ok
