use Rattle.std.proofs.Common.{List, ℕ, sym, subst}
use Rattle.commit_list.specs.CommitNumber.{IsNewest, IsNumberOf}
use Rattle.commit_list.proofs.NumberedLemmas.{IsNewest-take_more}
use Rattle.commit_list.proofs.commit_number.newest.Goals as goal

pub loop-place-preserved : goal.loop-place-preserved
loop-place-preserved c =
    let numbered = subst (λ (place : List ℕ). IsNumberOf place c.number_of_place.result) c.as_slice.ensures.bytes c.number_of_place.ensures in
    let items = c.as_slice-place-items.result.now in
    subst (IsNewest _) (sym c.newer-newest.ensures)
    (IsNewest-take_more items c.loop-place.place-index c.place-item.result c.loop-place.newest c.number_of_place.result c.loop-place-test.true c.place-item.is c.loop-place.invariant numbered)
