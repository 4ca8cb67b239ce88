use Rattle.core_reads.proofs.Told.{tables_told, lists_told, snapshots_told, manifests_told}
use Rattle.core_reads.proofs.laws.trees_tell_their_states.Goals as goal

pub returns-clause-tables : goal.returns-clause-tables
returns-clause-tables c = tables_told

pub returns-clause-lists : goal.returns-clause-lists
returns-clause-lists c = lists_told

pub returns-clause-snapshots : goal.returns-clause-snapshots
returns-clause-snapshots c = snapshots_told

pub returns-clause-manifests : goal.returns-clause-manifests
returns-clause-manifests c = manifests_told
