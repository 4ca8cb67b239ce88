use Rattle.std.proofs.Common.{drop, sym, ap, ◌∙◌, arith}
use Rattle.std.proofs.lemmas.Grind.{common_steps}
use Rattle.hb_wire.proofs.BigEndian.{IsBytes-drop}
use Rattle.wire_fields.specs.Varint.{varint_at}
use Rattle.wire_fields.proofs.Varints.{varint_at-varint, found_varint, within_varint, BeginsWithNone-short, BeginsWithNone-overlong}
use Rattle.wire_fields.proofs.varint.get_varint.Goals as goal

exact : goal.returns-clause-exact
unfolding varint_at
exact c = grind (arith, common_steps)

pub returns-clause-exact : goal.returns-clause-exact
returns-clause-exact c = exact c

pub returns-clause-within : goal.returns-clause-within
returns-clause-within c = within_varint c.args.bytes.now c.args.at c.sevens_at.result (λ i. omega (arith, c.type_inv.bytes i)) c.requires (exact c)

pub returns-clause-found : goal.returns-clause-found
returns-clause-found c = found_varint c.args.bytes.now c.args.at c.sevens_at.result (λ i. omega (arith, c.type_inv.bytes i)) (exact c)

pub returns-clause-only : goal.returns-clause-only
returns-clause-only c = λ value rest small e. exact c ∙ ap varint_at e ∙ varint_at-varint value rest small

pub returns-clause-short : goal.returns-clause-short
returns-clause-short c = λ missing more is few. BeginsWithNone-short (drop c.args.at c.args.bytes.now) more missing (sym (exact c) ∙ is) few

pub returns-clause-overlong : goal.returns-clause-overlong
returns-clause-overlong c = λ more is.
    BeginsWithNone-overlong (drop c.args.at c.args.bytes.now) more (IsBytes-drop c.args.at c.args.bytes.now (λ i. omega (arith, c.type_inv.bytes i))) (sym (exact c) ∙ is)
