use Rattle.std.proofs.Common.{◌≡◌, ◌+◌, List, [], ◌∷◌, ◌++◌, sym, subst, arith}
use Rattle.wire_fields.specs.declared.message.PlacedField.{PlacedField}
use Rattle.wire_fields.proofs.Messages.{IsUpTo, IsUpTo-push}
use Rattle.wire_fields.proofs.message.all_fields.Goals as goal

pub loop-at-preserved : goal.loop-at-preserved
loop-at-preserved c =
    let f : PlacedField = record { at = c.loop-at.at; number = c.in-Ok.field-0-0.number; value = c.in-Ok.field-0-0.value } in
    let pushed : c.push.new.self.items ≡ c.loop-at.fields.items ++ f ∷ [] = c.in_ok-push-in-Ok.ensures.items in
    subst (λ (items : List PlacedField). IsUpTo c.args.bytes.now items (c.loop-at.at + c.in-Ok.used)) (sym pushed)
    (IsUpTo-push c.args.bytes.now c.loop-at.fields.items c.loop-at.at c.in-Ok.used c.in-Ok.field-0-0.number c.in-Ok.field-0-0.value c.loop-at.invariant c.in-Ok.ensures.within c.in-Ok.ensures.found)

pub loop-at-smaller : goal.loop-at-smaller
loop-at-smaller c = let s = c.in-Ok.ensures.some in let w = c.in-Ok.ensures.within in omega arith
