use Rattle.std.proofs.Common.{sym, ap, ◌∙◌}
use Rattle.cell_sight.specs.Same.{sorted}
use Rattle.cell_merge.proofs.InputLemmas.{sort_gives, sorted-again}
use Rattle.cell_merge.proofs.input.put_in_order.Goals as goal

pub returns-clause-exact : goal.returns-clause-exact
returns-clause-exact c = sort_gives _ _ c.sort.ensures.permutation c.in_ok-sort.ensures.sorted

pub returns-clause-again : goal.returns-clause-again
returns-clause-again c =
    let e = sort_gives _ _ c.sort.ensures.permutation c.in_ok-sort.ensures.sorted in
    ap sorted e ∙ sorted-again c.args.cells.items ∙ sym e
