use Rattle.std.proofs.Common.{◌+◌, ℕ, Option, Ok, ap, sym, subst}
use Rattle.wire_fields.proofs.Messages.{IsWalk, IsWalk-push, only_walk, no_message}
use Rattle.wire_fields.proofs.message.last_number.Goals as goal

pub returns-in_default-clause-only : goal.returns-in_default-clause-only
returns-in_default-clause-only c = λ parts message.
    absurd (no_message c.args.bytes.now c.args.number c.loop-at.at c.loop-at.last _ parts c.loop-at.invariant c.loop-at-test.true c.in_default.ensures.exact message)

pub loop-at-preserved : goal.loop-at-preserved
loop-at-preserved c =
    subst (λ (o : Option ℕ). IsWalk c.args.bytes.now c.args.number (c.loop-at.at + c.in-Ok.used) o) (sym c.later-last.ensures)
    (IsWalk-push c.args.bytes.now c.args.number c.loop-at.at c.in-Ok.used c.loop-at.last c.number_here.result c.in-Ok.field c.loop-at.invariant c.in-Ok.ensures.within c.in-Ok.ensures.found (c.number_here.ensures c.args.bytes.now))

pub returns-clause-only : goal.returns-clause-only
returns-clause-only c = λ parts message.
    ap (λ (o : Option ℕ). Ok o) (only_walk c.args.bytes.now c.args.number c.loop-at.at c.loop-at.last parts c.loop-at.invariant c.loop-at-test.false message)
