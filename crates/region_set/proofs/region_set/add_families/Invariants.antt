use Rattle.std.proofs.Common.{◌≡◌, ◌++◌, take}
use Rattle.std.specs.List.{flat_map}
use Rattle.region_set.specs.FamilyLine.{family_text}
use Rattle.region_set.proofs.region_set.add_families.Given as goal

-- the lines so far are those of the families before the index
abbrev pub invariant-loop-family : goal.invariant-loop-family
invariant-loop-family l = l.text ≡ l.fn.text ++ flat_map family_text (take l.family-index l.families)
