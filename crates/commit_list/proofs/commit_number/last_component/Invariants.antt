use Rattle.std.proofs.Common.{◌≤◌, length, drop}
use Rattle.commit_list.specs.CommitNumber.{HasNoSlash}
use Rattle.commit_list.proofs.commit_number.last_component.Given as goal

-- what stands from the place on has no /
abbrev pub invariant-loop-at : goal.invariant-loop-at
invariant-loop-at l = (l.at ≤ length l.place) × HasNoSlash (drop l.at l.place)

abbrev pub decreases-loop-at : goal.decreases-loop-at
decreases-loop-at l = l.at
