use Rattle.std.proofs.Common.{◌∙◌, ap, sym, subst}
use Rattle.ns_tree.specs.Step.{rename_refusal}
use Rattle.ns_tree.specs.Tree.{IsTree}
use Rattle.ns_tree.proofs.Renaming.{IsMovable-renamable, IsTree-renamed}
use Rattle.ns_tree.proofs.tree.Tree.rename.Goals as goal

pub move_all-requires-clause-movable : goal.move_all-requires-clause-movable
move_all-requires-clause-movable c =
    IsMovable-renamable c.args.from.now c.args.to.now c.self.inside.files (ap (rename_refusal c.args.from.now c.args.to.now) c.self.view_is ∙ c.in_ok-moves.ensures.free)

pub invariant_of-self-2 : goal.invariant_of-self-2
invariant_of-self-2 c =
    subst IsTree (sym c.in_ok-move_all.ensures.ok)
    (IsTree-renamed c.args.from.now c.args.to.now c.self.inside.files (ap (rename_refusal c.args.from.now c.args.to.now) c.self.view_is ∙ c.in_ok-moves.ensures.free) c.in_ok-moves.ensures.valid c.self.invariant)
