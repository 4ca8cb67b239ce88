use Rattle.std.proofs.Common.{sym, ◌∙◌, ap, ◌&&◌, nat_eq, length, get_or}
use Rattle.std.proofs.lemmas.Bool.{eq-eqb, ne_eqb, and_left}
use Rattle.std.specs.List.{starts_with}
use Rattle.ns_tree.proofs.places.is_below.Goals as goal
use Rattle.ns_tree.proofs.Below.{is_below-short, is_below-reads}

pub returns-then-place-dir : goal.returns-then-place-dir
returns-then-place-dir c = sym (is_below-short c.args.dir.now c.args.place.now c.if-place-dir.true)

pub returns-then-place-dir-eq47 : goal.returns-then-place-dir-eq47
returns-then-place-dir-eq47 c =
    c.starts_with.ensures.value
    ∙ sym (ap (λ b. b && starts_with nat_eq c.args.place.now c.args.dir.now) (eq-eqb (get_or c.args.place.now (length c.args.dir.now) 0) 47 c.if-place-dir-eq47.true))
    ∙ sym (is_below-reads c.args.dir.now c.args.place.now c.if-place-dir.false)

pub returns-else-place-dir-eq47 : goal.returns-else-place-dir-eq47
returns-else-place-dir-eq47 c =
    let not = ne_eqb (get_or c.args.place.now (length c.args.dir.now) 0) 47 c.if-place-dir-eq47.false in
    not ∙ sym (and_left _ (starts_with nat_eq c.args.place.now c.args.dir.now) not)
    ∙ sym (is_below-reads c.args.dir.now c.args.place.now c.if-place-dir.false)
