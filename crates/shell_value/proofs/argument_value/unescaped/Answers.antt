use Rattle.std.proofs.Common.{ℕ, List, refl, sym, subst}
use Rattle.shell_text.specs.declared.text.Place.TheVariants.{Between}
use Rattle.shell_value.proofs.UnescapeLemmas.{IsReading, IsReading-next, IsReading-start}
use Rattle.shell_value.proofs.argument_value.unescaped.Goals as goal

pub loop-byte-init : goal.loop-byte-init
loop-byte-init c = record {
  small = refl;
  reading = subst (λ (out : List ℕ). IsReading c.args.text.now out Between c.args.text.now) (sym c.in_ok-out.ensures.items) (IsReading-start c.args.text.now c.requires);
}

pub loop-byte-preserved : goal.loop-byte-preserved
loop-byte-preserved c = record {
  small = c.in_ok-place.ensures.small;
  reading = IsReading-next c.args.text.now _ _ _ _ c.args.text.now c.loop-byte.byte-index c.loop-byte-test.true c.in_ok-place.ensures.adds c.loop-byte.invariant.reading;
}
