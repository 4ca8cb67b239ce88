use Rattle.std.proofs.Common.{take, sym, ◌∙◌, arith}
use Rattle.hb_row_text.proofs.NextRowLemmas.{next_row-none, next_row-up}
use Rattle.hb_row_text.proofs.next.next_as_long.Goals as goal

pub returns-then-kept-eq0 : goal.returns-then-kept-eq0
returns-then-kept-eq0 c =
    let kept = c.kept_of-kept.result in
    sym (c.kept_of-kept.ensures.same ∙ next_row-none kept (take kept c.args.row.now) c.if-kept-eq0.true)

pub returns : goal.returns
returns c =
    let found = c.kept_of-kept.ensures in
    let up = next_row-up c.args.row.now c.kept_of-kept.result (omega arith) found.within (found.last (omega arith)) in
    cc (up, found.same, c.in_ok-add.ensures.ok, c.in_ok-next.ensures)
