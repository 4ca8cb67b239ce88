use Rattle.std.proofs.Common.{take}
use Rattle.std.specs.List.{AllByRecursion}
use Rattle.manifest_writers.specs.Writable.{IsWritableFamily}
use Rattle.manifest_writers.proofs.schema.are_writable_families.Given as goal

-- the families before the index are right
abbrev pub invariant-loop-family : goal.invariant-loop-family
invariant-loop-family l = AllByRecursion IsWritableFamily (take l.family-index l.families)
