use Rattle.std.proofs.Common.{◌+◌, ℕ, cond, List, Option, Some, None, sym, ap, subst, ◌∙◌}
use Rattle.hb_cell.specs.declared.cell.Cell.{Cell}
use Rattle.hfile_form.specs.DataCells.{is_above, last_or, or_first, data_at}
use Rattle.hfile_read.specs.Answers.{Fails}
use Rattle.hfile_read.proofs.Cells.{IsBehind, IsBehind-push, IsBehind-all, IsBehind-misplaced, IsBehind-unread, data_at-none, some_content}
use Rattle.hfile_read.proofs.data.add_cells.Goals as goal

pub returns-then-is_empty-clause-err : goal.returns-then-is_empty-clause-err
returns-then-is_empty-clause-err c = data_at-none c.args.with_seq c.args.at (last_or None c.args.cells.now.items) c.args.content.now (sym c.is_empty.ensures ∙ c.if-is_empty.true)

pub loop-place-preserved : goal.loop-place-preserved
loop-place-preserved c =
    let at = c.args.at + c.loop-place.place in
    let test = c.first_misplaced-misplaced.ensures ∙ ap (λ (xs : List Cell). or_first c.loop-place.misplaced (cond (is_above (last_or None xs) c.in-Ok.cell) None (Some at))) c.as_slice.ensures.value in
    IsBehind-push c.args.with_seq c.args.content.now c.args.at c.loop-place.place c.in-Ok.used c.args.cells.now.items c.loop-place.cells.items c.push.new.self.items c.loop-place.misplaced c.first_misplaced-misplaced.result c.in-Ok.cell
    c.loop-place.invariant c.in-Ok.ensures.within c.in-Ok.ensures.found c.in_ok-push-in-Ok.ensures.items test

pub returns-in-Err-clause-err : goal.returns-in-Err-clause-err
returns-in-Err-clause-err c =
    subst (λ e. Fails e (data_at c.args.with_seq c.args.at (last_or None c.args.cells.now.items) c.args.content.now)) (sym c.cell_fault.ensures)
    (IsBehind-unread c.args.with_seq c.args.content.now c.args.at c.loop-place.place c.args.cells.now.items c.loop-place.cells.items c.loop-place.misplaced c.in-Err.cause c.loop-place.invariant c.loop-place-test.true c.in-Err.ensures.exact)

pub returns-in-None-clause-ok : goal.returns-in-None-clause-ok
returns-in-None-clause-ok c =
    let behind = subst (λ (m : Option ℕ). IsBehind c.args.with_seq c.args.content.now c.args.at c.loop-place.place c.args.cells.now.items c.loop-place.cells.items m) c.in-None.is c.loop-place.invariant in
    IsBehind-all c.args.with_seq c.args.content.now c.args.at c.loop-place.place c.args.cells.now.items c.loop-place.cells.items behind (some_content c.args.content.now (sym c.is_empty.ensures ∙ c.if-is_empty.false)) c.loop-place-test.false

pub returns-in-Some-clause-err : goal.returns-in-Some-clause-err
returns-in-Some-clause-err c =
    let behind = subst (λ (m : Option ℕ). IsBehind c.args.with_seq c.args.content.now c.args.at c.loop-place.place c.args.cells.now.items c.loop-place.cells.items m) c.in-Some.is c.loop-place.invariant in
    IsBehind-misplaced c.args.with_seq c.args.content.now c.args.at c.loop-place.place c.in-Some.at c.args.cells.now.items c.loop-place.cells.items behind (some_content c.args.content.now (sym c.is_empty.ensures ∙ c.if-is_empty.false)) c.loop-place-test.false
