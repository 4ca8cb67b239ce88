use Rattle.std.proofs.Common.{◌∙◌, ◌++◌, ap, sym}
use Rattle.ns_tree.proofs.Entries.{keys-from_entries}
use Rattle.ns_tree.proofs.Trees.{contains_key-listed}
use Rattle.ns_tree.proofs.files.Files.places.Goals as goal

pub loop-text-init : goal.loop-text-init
loop-text-init c = let all = keys-from_entries c.self.inside.files.entries c.keys-text-items.ensures.ordered in rw c.new-places.ensures.items (cc)

pub place_of-requires : goal.place_of-requires
place_of-requires c = c.requires c.in-Some.text.now (contains_key-listed c.args.self.now c.loop-text.places.items c.next.new.self c.in-Some.text.now (ap (λ ks. c.loop-text.places.items ++ ks) (sym c.in-Some.ensures.steps) ∙ c.loop-text.invariant))
