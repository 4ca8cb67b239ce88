use Rattle.std.proofs.Common.{◌≡◌, ◌++◌, Some}
use Rattle.std.specs.Map.{keys_of}
use Rattle.ns_tree.specs.Places.{is_below}
use Rattle.ns_tree.specs.Tree.{listing}
use Rattle.ns_tree.proofs.Below.{leading}
use Rattle.ns_tree.proofs.files.Files.places_below.Given as goal

-- the places so far and the texts to come that lie below, up to the first that doesn't, are the listing
abbrev pub invariant-loop-text : goal.invariant-loop-text
invariant-loop-text l = l.places.items ++ leading (is_below l.dir) (keys_of l.text-iterator) ≡ listing (Some l.dir) l.self
