use Rattle.std.proofs.Common.{arith}
use Rattle.wire_fields.proofs.FieldLaws.{found_field, some_field, Finds-field_bytes}
use Rattle.wire_fields.proofs.field.get_field.Goals as goal

pub returns-clause-found : goal.returns-clause-found
returns-clause-found c = found_field c.args.bytes.now c.args.at c.field_at.result (λ i. omega (arith, c.type_inv.bytes i)) c.field_at.ensures.exact

pub returns-clause-only : goal.returns-clause-only
returns-clause-only c = λ id part rest is fits e. Finds-field_bytes c.args.bytes.now c.args.at id part rest c.field_at.result c.field_at.ensures.exact is fits e

pub returns-clause-some : goal.returns-clause-some
returns-clause-some c = some_field c.args.bytes.now c.args.at c.field_at.result (λ i. omega (arith, c.type_inv.bytes i)) c.field_at.ensures.exact
