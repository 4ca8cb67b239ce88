use Rattle.std.proofs.Common.{◌∙◌, sym}
use Rattle.plain_tables.proofs.ByName.{name_here, name_behind, name_nowhere}
use Rattle.plain_tables.proofs.tables.table_at.Goals as goal

pub returns-then-eq : goal.returns-then-eq
returns-then-eq c = c.as_ref.ensures.value ∙ name_here c.args.tables.now c.loop-entry.entry-index c.entry-item.result c.args.name.now c.loop-entry-test.true c.entry-item.is c.loop-entry.invariant (sym c.eq.ensures ∙ c.if-eq.true)

pub loop-entry-preserved : goal.loop-entry-preserved
loop-entry-preserved c = name_behind c.args.tables.now c.loop-entry.entry-index c.entry-item.result c.args.name.now c.loop-entry-test.true c.entry-item.is c.loop-entry.invariant (sym c.eq.ensures ∙ c.if-eq.false)

pub returns : goal.returns
returns c = name_nowhere c.args.tables.now c.loop-entry.entry-index c.args.name.now c.loop-entry-test.false c.loop-entry.invariant
