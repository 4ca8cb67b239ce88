use Rattle.cell_sight.proofs.InOrder.{same-sorted, same_sorted_both}
use Rattle.cell_sight.proofs.SeenAgain.{seen_again}
use Rattle.cell_sight.proofs.SeenParts.{same_seen}
use Rattle.cell_sight.proofs.laws.shows_the_same.Goals as goal

pub returns-clause-same : goal.returns-clause-same
returns-clause-same c = same_seen

pub returns-clause-sorted : goal.returns-clause-sorted
returns-clause-sorted c = same_sorted_both

pub returns-clause-again : goal.returns-clause-again
returns-clause-again c = seen_again

pub returns-clause-in_order : goal.returns-clause-in_order
returns-clause-in_order c = same-sorted
