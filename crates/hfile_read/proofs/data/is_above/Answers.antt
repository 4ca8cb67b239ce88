use Rattle.std.proofs.Common.{sym, ap, ◌∙◌, arith}
use Rattle.std.specs.Ordering.{is_lt}
use Rattle.hfile_form.specs.DataCells.{is_above}
use Rattle.hfile_read.proofs.Cells.{last_or-at}
use Rattle.hfile_read.proofs.data.is_above.Goals as goal

pub returns-in-len1-up : goal.returns-in-len1-up
returns-in-len1-up c =
    let last = last_or-at c.args.cells.now c.last-item.result (omega (arith, c.in-len1-up.len_at_least)) c.last-item.is in
    c.is_lt.ensures ∙ ap is_lt c.cmp_key.ensures.exact ∙ sym (ap (λ l. is_above l c.args.cell.now) last)
