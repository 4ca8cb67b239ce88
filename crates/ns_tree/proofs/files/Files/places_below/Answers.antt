use Rattle.std.proofs.Common.{◌≡◌, ◌∙◌, ◌++◌, ◌∷◌, [], true, ap, sym, Some, nat_cmp}
use Rattle.std.specs.BTreeMap.Range.{entries_between}
use Rattle.std.specs.Cmp.Lexicographic.{slice_cmp}
use Rattle.std.specs.Map.{keys_of}
use Rattle.std.specs.declared.ops.Bound.TheVariants.{Included, Unbounded}
use Rattle.ns_tree.specs.Places.{is_below}
use Rattle.ns_tree.specs.Tree.{listing}
use Rattle.std.proofs.lemmas.Bool.{cond-true}
use Rattle.ns_tree.proofs.Below.{leading}
use Rattle.ns_tree.proofs.Trees.{contains_key-listed_below}
use Rattle.ns_tree.proofs.Entries.{listing-leading}
use Rattle.ns_tree.proofs.files.Files.places_below.Goals as goal

pub loop-text-init : goal.loop-text-init
loop-text-init c =
    let files = c.self.inside.files.entries in
    let from = c.into_iter-text-iterator.ensures.into_iter_gives
    ∙ c.range-text-items.ensures.between tt
    ∙ ap (λ first. entries_between (slice_cmp nat_cmp) (Included first) Unbounded files) c.in_ok-first_below.ensures in
    rw c.new-places.ensures.items
    (ap (λ es. leading (is_below c.args.dir.now) (keys_of es)) from
    ∙ sym (listing-leading c.args.dir.now files c.range-text-items.ensures.ordered)
    ∙ ap (listing (Some c.args.dir.now)) c.self.view_is)

pub place_of-requires : goal.place_of-requires
place_of-requires c =
    let dir = c.args.dir.now in
    let text = c.in-Some.text.now in
    let front = c.loop-text.places.items in
    let below : is_below dir text ≡ true =
    sym (c.is_below.ensures ∙ ap (λ d. is_below d c.as_slice-in-loop-text.result.now) c.as_slice.ensures.bytes ∙ ap (is_below dir) c.as_slice-in-loop-text.ensures) ∙ c.if-not-is_below.false in
    c.requires text (contains_key-listed_below dir c.args.self.now front (leading (is_below dir) (keys_of c.next.new.self)) text
    (ap (λ ks. front ++ ks) (sym (cond-true (is_below dir text) (text ∷ leading (is_below dir) (keys_of c.next.new.self)) [] below))
    ∙ ap (λ es. front ++ leading (is_below dir) (keys_of es)) (sym c.in-Some.ensures.steps) ∙ c.loop-text.invariant))
