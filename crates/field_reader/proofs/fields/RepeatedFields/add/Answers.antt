use Rattle.std.proofs.Common.{subst, sym}
use Rattle.field_reader.proofs.Pushes.{Repeated-more, Repeated-same, Wrong-value}
use Rattle.field_reader.proofs.fields.RepeatedFields.add.Goals as goal

pub returns-in-Ok-clause-ok : goal.returns-in-Ok-clause-ok
returns-in-Ok-clause-ok g c parts so_far =
    rw c.in-Ok.ensures.ok (Repeated-more g.R.Rule.spells g.row.N c.args.number parts c.args.self.now.values _ c.in_ok-value.value so_far c.if-number.true c.in_ok-value.ensures.found)

pub returns-else-number-clause-ok : goal.returns-else-number-clause-ok
returns-else-number-clause-ok g c parts so_far =
    Repeated-same g.R.Rule.spells g.row.N c.args.number parts c.args.self.now.values _ so_far c.if-number.false
