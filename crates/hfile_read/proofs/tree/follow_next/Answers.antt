use Rattle.std.proofs.Common.{◌++◌, List, sym, ap, ◌∙◌, refl}
use Rattle.std.specs.Option.{option_to_list}
use Rattle.std.specs.Vec.Iter.{into_iter_items}
use Rattle.std.proofs.lemmas.Result.{err_from_is_err_and, on_ok_weaker}
use Rattle.hfile_form.proofs.Tools.{length-zero}
use Rattle.hfile_read.specs.declared.tree.NodeEntries.{NodeEntries}
use Rattle.hfile_read.specs.Views.{left_view}
use Rattle.hfile_read.proofs.Trees.{following-none, following-entry, following-wrong}
use Rattle.hfile_read.proofs.tree.follow_next.Goals as goal

pub returns-in_default-clause-ok : goal.returns-in_default-clause-ok
returns-in_default-clause-ok c =
    let cases = c.in_default.ensures.cases in
    following-none c.args.cells.now c.args.nodes.now.items c.args.node (left_view c.args.left.now) (length-zero (into_iter_items c.args.node.rest) (sym c.args.node.rest.rest.ok.0 ∙ cases.0))

pub returns-in_err-found-clause-wrong : goal.returns-in_err-found-clause-wrong
returns-in_err-found-clause-wrong c =
    let p = err_from_is_err_and c.from_residual.result c.from_residual.ensures.1 in
    rw (p.1, p.2) (following-wrong c.args.cells.now c.args.nodes.now.items c.args.node c.in-Some.entry (into_iter_items c.next.new.self) (left_view c.args.left.now) c.in_err-found.field-0.0 c.in-Some.ensures.cases.0 c.in_err-found.ensures.wrong)

pub returns-clause-ok : goal.returns-clause-ok
returns-clause-ok c =
    let after : NodeEntries = record { owner = c.args.node.owner; more = c.args.node.more; rest = c.next.new.self } in
    on_ok_weaker c.open_some.result
    (λ opened. following-entry c.args.cells.now c.args.nodes.now.items c.open_some.new.nodes.items c.args.node after c.in-Some.entry c.in_ok-found.found (left_view c.args.left.now) (left_view c.follow.new.left)
    c.in-Some.ensures.cases.0 refl refl c.in_ok-found.ensures.ok (opened ∙ ap (λ (ns : List NodeEntries). ns ++ option_to_list c.in_ok-found.found) c.in_ok-push.ensures.items))
    c.open_some.ensures.ok
