use Rattle.field_reader.proofs.Pushes.{Last-more, Last-same, Wrong-value}
use Rattle.field_reader.proofs.fields.LastFields.add.Goals as goal

pub returns-in_ok-read-clause-ok : goal.returns-in_ok-read-clause-ok
returns-in_ok-read-clause-ok g c parts last =
    Last-more g.R.Rule.spells g.row.N c.args.number parts c.args.self.now.value _ c.in_ok-read.field-0 last c.if-number.true c.in_ok-read.ensures.found

pub returns-else-number-clause-ok : goal.returns-else-number-clause-ok
returns-else-number-clause-ok g c parts last =
    Last-same g.R.Rule.spells g.row.N c.args.number parts c.args.self.now.value _ last c.if-number.false
