use Rattle.plain_model.proofs.PlainLaws.{leaves_others, leaves_tables, leaves_snapshots, leaves_live}
use Rattle.plain_model.proofs.laws.leaves_alone.Goals as goal

pub returns-clause-regions : goal.returns-clause-regions
returns-clause-regions c = leaves_others

pub returns-clause-tables : goal.returns-clause-tables
returns-clause-tables c = leaves_tables

pub returns-clause-snapshots : goal.returns-clause-snapshots
returns-clause-snapshots c = leaves_snapshots

pub returns-clause-live : goal.returns-clause-live
returns-clause-live c = leaves_live
