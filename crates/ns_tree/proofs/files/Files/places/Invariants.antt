use Rattle.std.proofs.Common.{◌≡◌, ◌++◌}
use Rattle.std.specs.FinMap.{keys}
use Rattle.ns_tree.proofs.files.Files.places.Given as goal

-- the places so far and the texts still to come are those of all files
abbrev pub invariant-loop-text : goal.invariant-loop-text
invariant-loop-text l = l.places.items ++ l.text-iterator ≡ keys l.self
