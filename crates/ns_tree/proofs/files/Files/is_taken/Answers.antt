use Rattle.std.proofs.Common.{◌∙◌, ap, sym}
use Rattle.std.specs.FinMap.{contains_key}
use Rattle.std.specs.Map.{keys_of}
use Rattle.ns_tree.specs.Places.{is_below, is_within}
use Rattle.ns_tree.proofs.Below.{first_passes}
use Rattle.ns_tree.proofs.Trees.{any_key-from, is_within-same, is_taken-range}
use Rattle.ns_tree.proofs.files.Files.is_taken.Goals as goal

pub returns-then-has : goal.returns-then-has
returns-then-has c =
    let place = c.args.place.now in
    let here = ap (contains_key c.args.self.now) (sym c.as_blob.ensures.bytes) ∙ sym c.has.ensures in
    sym (any_key-from (is_within place) c.args.self.now place (here ∙ c.if-has.true) (is_within-same place))

pub returns-in-Some : goal.returns-in-Some
returns-in-Some c =
    let place = c.args.place.now in
    let here = ap (contains_key c.args.self.now) (sym c.as_blob.ensures.bytes) ∙ sym c.has.ensures in
    let first = is_taken-range c.args.self.now c.self.inside.files.entries c.range.result place c.in_ok-first_below.field-0 c.self.view_is c.range.ensures.ordered (here ∙ c.if-has.false) c.in_ok-first_below.ensures (c.range.ensures.between tt) in
    c.is_below.ensures
    ∙ ap (λ dir. is_below dir c.as_slice-in-Some.result.now) c.as_slice.ensures.bytes
    ∙ ap (is_below place) c.as_slice-in-Some.ensures
    ∙ sym (first ∙ ap (λ r. first_passes (is_below place) (keys_of r)) c.in-Some.ensures.steps)

pub returns-in-None : goal.returns-in-None
returns-in-None c =
    let place = c.args.place.now in
    let here = ap (contains_key c.args.self.now) (sym c.as_blob.ensures.bytes) ∙ sym c.has.ensures in
    let first = is_taken-range c.args.self.now c.self.inside.files.entries c.range.result place c.in_ok-first_below.field-0 c.self.view_is c.range.ensures.ordered (here ∙ c.if-has.false) c.in_ok-first_below.ensures (c.range.ensures.between tt) in
    sym (first ∙ ap (λ r. first_passes (is_below place) (keys_of r)) c.in-None.ensures.steps.0)
