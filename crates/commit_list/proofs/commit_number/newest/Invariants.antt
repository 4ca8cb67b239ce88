use Rattle.std.proofs.Common.{take}
use Rattle.commit_list.specs.CommitNumber.{IsNewest}
use Rattle.commit_list.proofs.commit_number.newest.Given as goal

-- the newest so far is that of the places before the index
abbrev pub invariant-loop-place : goal.invariant-loop-place
invariant-loop-place l = IsNewest (take l.place-index l.place-items) l.newest
