use Rattle.std.proofs.Common.{ℕ, sym, subst}
use Rattle.shell_text.specs.declared.text.Place.TheVariants.{Between, Escape, First, Second}
use Rattle.shell_value.specs.Quotes.{AddsByte}
use Rattle.shell_value.proofs.UnescapeLemmas.{AddsByte-at, AddsByte-escape, AddsByte-first, AddsByte-plain_at, AddsByte-second_at, AddsByte-x}
use Rattle.shell_value.proofs.argument_value.add_byte.Goals as goal

pub returns-then-byte-eq92-clause-adds : goal.returns-then-byte-eq92-clause-adds
returns-then-byte-eq92-clause-adds c =
    AddsByte-at c.args.out.now.items c.args.place Between c.args.byte c.args.out.now.items Escape c.in-Between.is
    (AddsByte-escape c.args.out.now.items c.args.byte c.if-byte-eq92.true)

pub returns-in_ok-push-in-Between-clause-adds : goal.returns-in_ok-push-in-Between-clause-adds
returns-in_ok-push-in-Between-clause-adds c =
    AddsByte-at c.args.out.now.items c.args.place Between c.args.byte c.push.new.self.items Between c.in-Between.is
    (AddsByte-plain_at c.args.out.now.items c.args.byte c.push.new.self.items c.if-byte-eq92.false c.in_ok-push-in-Between.ensures.items)

pub returns-in-Escape-clause-adds : goal.returns-in-Escape-clause-adds
returns-in-Escape-clause-adds c =
    AddsByte-at c.args.out.now.items c.args.place Escape c.args.byte c.args.out.now.items First c.in-Escape.is
    (AddsByte-x c.args.out.now.items c.args.byte)

pub returns-in-First-clause-adds : goal.returns-in-First-clause-adds
returns-in-First-clause-adds c =
    AddsByte-at c.args.out.now.items c.args.place First c.args.byte c.args.out.now.items (Second c.digit_value.result) c.in-First.is
    (subst (λ (n : ℕ). AddsByte c.args.out.now.items First c.args.byte c.args.out.now.items (Second n)) (sym c.digit_value.ensures.value)
    (AddsByte-first c.args.out.now.items c.args.byte))

pub returns-in_ok-push-in-Second-clause-adds : goal.returns-in_ok-push-in-Second-clause-adds
returns-in_ok-push-in-Second-clause-adds c =
    AddsByte-at c.args.out.now.items c.args.place (Second c.in-Second.high) c.args.byte c.push-in-Second.new.self.items Between c.in-Second.is
    (AddsByte-second_at c.args.out.now.items c.in-Second.high c.args.byte c.digit_value-in-Second.result c.push-in-Second.new.self.items c.digit_value-in-Second.ensures.value c.in_ok-push-in-Second.ensures.items)
