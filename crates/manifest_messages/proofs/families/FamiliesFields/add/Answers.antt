use Rattle.std.proofs.Common.{refl, inr}
use Rattle.manifest_messages.proofs.Rising.{Rising-more, Rising-same, not_true}
use Rattle.manifest_messages.proofs.families.FamiliesFields.add.Goals as goal

pub returns-then-not-is_above-clause-fault : goal.returns-then-not-is_above-clause-fault
returns-then-not-is_above-clause-fault c parts so_far =
    inr (
      c.if-number-eq-FAMILY.true,
      refl,
      record {
        families = c.args.self.now.values;
        family = c.in_ok-family.family;
        before = so_far.each;
        here = c.in_ok-family.ensures.found;
        falls = λ rise. not_true (((rw c.as_slice.ensures at c.if-not-is_above.ensures) so_far.rise).1 rise);
      },
    )

pub returns-in-Ok-clause-ok : goal.returns-in-Ok-clause-ok
returns-in-Ok-clause-ok c parts so_far =
    rw c.in-Ok.ensures.ok (Rising-more c.args.number parts c.args.self.now.values _ c.in_ok-family.family so_far c.if-number-eq-FAMILY.true c.in_ok-family.ensures.found (((rw c.as_slice.ensures at c.is_above.ensures) so_far.rise).0 c.if-not-is_above.false))

pub returns-else-number-eq-FAMILY-clause-ok : goal.returns-else-number-eq-FAMILY-clause-ok
returns-else-number-eq-FAMILY-clause-ok c parts so_far =
    Rising-same c.args.number parts c.args.self.now.values _ so_far c.if-number-eq-FAMILY.false
