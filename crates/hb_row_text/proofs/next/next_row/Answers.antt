use Rattle.std.proofs.Common.{◌≡◌, List, ℕ, Option, Some, subst, arith}
use Rattle.hb_row_text.specs.declared.row_text.TheConstants.{MAX_ROW}
use Rattle.hb_row_text.specs.NextRow.{next_row, IsNext}
use Rattle.hb_row_text.proofs.NextRowLemmas.{next_row-shorter}
use Rattle.hb_row_text.proofs.LeastLemmas.{IsNext-next_row, IfOk-IsNext}
use Rattle.hb_row_text.proofs.next.next_row.Goals as goal

pub returns-then-row-eq-MAX_ROW-clause-least : goal.returns-then-row-eq-MAX_ROW-clause-least
returns-then-row-eq-MAX_ROW-clause-least c = IfOk-IsNext MAX_ROW c.args.row.now c.next_as_long.result c.if-row-eq-MAX_ROW.true c.next_as_long.ensures

pub returns-clause-next : goal.returns-clause-next
returns-clause-next c =
    let shorter = next_row-shorter MAX_ROW c.args.row.now (omega arith) in
    cc (shorter, c.in_ok-add.ensures.ok, c.in_ok-next.ensures)

pub returns-clause-least : goal.returns-clause-least
returns-clause-least c =
    let P : Option (List ℕ) → Type 0 = IsNext MAX_ROW c.args.row.now in
    let shorter = next_row-shorter MAX_ROW c.args.row.now (omega arith) in
    let same : next_row MAX_ROW c.args.row.now ≡ Some c.add.new.self = cc (shorter, c.in_ok-add.ensures.ok, c.in_ok-next.ensures) in
    subst P same (IsNext-next_row MAX_ROW c.args.row.now)
