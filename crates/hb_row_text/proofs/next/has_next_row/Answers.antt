use Rattle.std.proofs.Common.{arith, refl}
use Rattle.hb_row_text.proofs.NextRowLemmas.{has_next-shorter, has_next-kept}
use Rattle.hb_row_text.proofs.next.has_next_row.Goals as goal

pub returns-then-row-lt-MAX_ROW : goal.returns-then-row-lt-MAX_ROW
returns-then-row-lt-MAX_ROW c = (λ _. has_next-shorter c.args.row.now (omega arith), λ _. refl)

pub returns : goal.returns
returns c =
    let found = c.kept_of.ensures in
    has_next-kept c.args.row.now c.kept_of.result (omega arith) found.within found.same found.last
