use Rattle.std.proofs.Common.{◌≡◌, sym, subst}
use Rattle.cell_sight.specs.Same.{sorted}
use Rattle.cell_merge.proofs.tests.input.Goals as goal

pub returns : goal.returns
returns c = subst (λ cells. sorted cells ≡ cells) (sym c.from_vec-cells.ensures) c.in_ok-put_in_order.ensures.again
