use Rattle.std.proofs.Common.{◌∙◌, ◌++◌, List, ℕ, codes, ap, append_assoc, nat_eq}
use Rattle.std.specs.List.{starts_with}
use Rattle.core_places.proofs.First.{none_below, some_below}
use Rattle.core_places.proofs.below.has_below.Goals as goal

pub returns-in-Some : goal.returns-in-Some
returns-in-Some c =
    let dir = c.args.dir.now in
    let place = c.in-Some.place.now in
    let front = c.in_ok-add.ensures.ok ∙ ap (λ (x : List ℕ). x ++ codes "/") c.in_ok-front.ensures in
    let least = c.in_ok-add-2.ensures.ok ∙ ap (λ (x : List ℕ). x ++ codes "-") (c.in_ok-least.ensures ∙ front) ∙ append_assoc dir (codes "/") (codes "-") in
    λ sites. some_below _ dir c.from_blob-least.result (place, tt) c.starts_with.result sites (c.from_blob-least.ensures ∙ least) c.in-Some.ensures
    (c.starts_with.ensures.value ∙ ap (λ (x : List ℕ). starts_with nat_eq x c.as_slice-in-Some.result.now) c.as_slice.ensures.bytes ∙ ap (starts_with nat_eq place) (c.as_slice-in-Some.ensures ∙ front))

pub returns : goal.returns
returns c =
    let dir = c.args.dir.now in
    let front = c.in_ok-add.ensures.ok ∙ ap (λ (x : List ℕ). x ++ codes "/") c.in_ok-front.ensures in
    let least = c.in_ok-add-2.ensures.ok ∙ ap (λ (x : List ℕ). x ++ codes "-") (c.in_ok-least.ensures ∙ front) ∙ append_assoc dir (codes "/") (codes "-") in
    λ sites. none_below _ dir c.from_blob-least.result sites (c.from_blob-least.ensures ∙ least) c.in-None.ensures
