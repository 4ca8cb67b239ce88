use Rattle.std.proofs.Common.{◌≡◌, ◌++◌, OnOk, ℕ, List, subst}
use Rattle.shell_print.proofs.CellLemmas.{cell_line-parts}
use Rattle.shell_print.proofs.print.add_cell.Goals as goal

pub returns-clause-ok : goal.returns-clause-ok
returns-clause-ok c =
    subst (λ (text : List ℕ). OnOk c.add_line.result (c.add_line.new.out ≡ c.args.out.now ++ text))
    (cell_line-parts c.args.cell.now c.as_slice.result.now c.as_slice-2.result.now c.as_slice-3.result.now c.as_slice-4.result.now
    c.as_slice.ensures c.as_slice-2.ensures c.as_slice-3.ensures c.as_slice-4.ensures) c.add_line.ensures.ok
