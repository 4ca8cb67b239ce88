use Rattle.std.proofs.Common.{◌≢◌, ℕ, List, None, subst, sym}
use Rattle.hb_grammar.proofs.TestLemmas.{refused}
use Rattle.hb_row_text.specs.NextRow.{next_row}
use Rattle.region_set.proofs.RegionOrderLemmas.{id_unless-some, id_unless-none}
use Rattle.region_set.proofs.region_line.least_id.Goals as goal

pub returns-then-has_next_row : goal.returns-then-has_next_row
returns-then-has_next_row c =
    let region = c.in-Some.region.now in
    let some = subst (λ (row : List ℕ). next_row 32767 row ≢ None) c.as_slice.ensures (c.has_next_row.ensures.0 c.if-has_next_row.true) in
    rw c.in-Some.is (id_unless-some (next_row 32767 region.0.start) region.0.id some)

pub returns-else-has_next_row : goal.returns-else-has_next_row
returns-else-has_next_row c =
    let region = c.in-Some.region.now in
    let none = λ (some : next_row 32767 region.0.start ≢ None). refused c.has_next_row.ensures c.if-has_next_row.false
    (subst (λ (row : List ℕ). next_row 32767 row ≢ None) (sym c.as_slice.ensures) some) in
    rw c.in-Some.is (id_unless-none (next_row 32767 region.0.start) region.0.id none)
