use Rattle.plain_tables.proofs.Entries.{keys-from_entries}
use Rattle.plain_tables.proofs.snapshots.names.Goals as goal

pub loop-name-init : goal.loop-name-init
loop-name-init c = let all = keys-from_entries c.args.snapshots.now.entries c.keys-name-items.ensures.ordered in rw c.new-names.ensures.items (cc)
