use Rattle.std.proofs.Common.{subst, sym, ap, ◌∙◌, ◌≡◌, None}
use Rattle.hb_names.specs.Place.{IsPlace}
use Rattle.ns_tree.specs.Tree.{IsTree, create_refusal}
use Rattle.ns_tree.proofs.Trees.{IsTree-insert}
use Rattle.ns_tree.proofs.tree.Tree.add.Goals as goal

pub invariant_of-self-2 : goal.invariant_of-self-2
invariant_of-self-2 c =
    let free : create_refusal c.into_blob.result c.self.inside.files ≡ None =
    ap (create_refusal c.into_blob.result) c.self.view_is ∙ ap (λ place. create_refusal place c.args.self.now) c.into_blob.ensures.bytes ∙ c.in_ok-check_free.ensures.free in
    subst IsTree (sym c.in_ok-put.ensures.ok)
    (IsTree-insert c.self.inside.files c.into_blob.result c.args.file c.self.invariant (subst IsPlace (sym c.into_blob.ensures.bytes) c.into_blob.ensures.valid) free)
