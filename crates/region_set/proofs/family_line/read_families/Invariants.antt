use Rattle.std.proofs.Common.{length, ◌-◌}
use Rattle.commit_line.specs.Rows.{AreRows}
use Rattle.region_set.specs.FamilyLine.{IsFamilyBehind, family_text}
use Rattle.region_set.proofs.family_line.read_families.Given as goal

-- the families so far stand up to the place
abbrev pub invariant-loop-alloc : goal.invariant-loop-alloc
invariant-loop-alloc l = AreRows IsFamilyBehind family_text l.bytes l.fn.at l.families.items l.place

abbrev pub decreases-loop-alloc : goal.decreases-loop-alloc
decreases-loop-alloc l = length l.bytes - l.place
