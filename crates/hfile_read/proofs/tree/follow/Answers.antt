use Rattle.std.proofs.lemmas.Result.{err_from_is_err_and}
use Rattle.hfile_read.specs.Views.{node_view, left_view}
use Rattle.hfile_read.proofs.Trees.{followed-unread}
use Rattle.hfile_read.proofs.tree.follow.Goals as goal

pub returns-in_err-entries-clause-wrong : goal.returns-in_err-entries-clause-wrong
returns-in_err-entries-clause-wrong c =
    let p = err_from_is_err_and c.from_residual-in_err-entries.result c.from_residual-in_err-entries.ensures.1 in
    rw (p.1, p.2) (followed-unread c.args.cells.now c.args.node.now.more c.args.node.now.owner c.args.entry.now (left_view c.args.left.now) (node_view c.in_ok-named.named) c.in_err-entries.field-0.0
    c.if-node-eq0.false c.in_ok-named.ensures.exact c.in_err-entries.ensures)
