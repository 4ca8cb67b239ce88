use Rattle.std.proofs.Common.{◌∙◌, ◌∷◌, ◌++◌, [], ap, sym}
use Rattle.std.specs.FinMap.{contains_key}
use Rattle.ns_tree.proofs.Renaming.{AreSources-below, AreSources-file}
use Rattle.ns_tree.proofs.files.Files.sources.Goals as goal

pub returns-then-not-has : goal.returns-then-not-has
returns-then-not-has c =
    AreSources-below c.args.from.now c.args.self.now c.in_ok-places_below.field-0
    (ap (contains_key c.args.self.now) (sym c.as_blob.ensures.bytes) ∙ sym c.has.ensures ∙ c.if-not-has.true) c.in_ok-places_below.ensures

pub returns : goal.returns
returns c =
    AreSources-file c.args.from.now c.args.self.now c.from_vec.result
    (ap (contains_key c.args.self.now) (sym c.as_blob.ensures.bytes) ∙ sym c.has.ensures ∙ c.if-not-has.false) c.requires.apart
    (c.from_vec.ensures ∙ c.in_ok-push.ensures.items ∙ ap (λ ps. ps ++ c.in_ok-copy.field-0 ∷ []) c.new-places.ensures.items ∙ ap (λ p. p ∷ []) c.in_ok-copy.ensures)
