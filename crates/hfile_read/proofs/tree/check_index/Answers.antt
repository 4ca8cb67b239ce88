use Rattle.std.proofs.Common.{sym, subst}
use Rattle.hfile_form.specs.File.{in_index, index_of}
use Rattle.hfile_read.specs.Answers.{Fails}
use Rattle.hfile_read.specs.Views.{block_view, left_view, front_of}
use Rattle.hfile_read.proofs.Trees.{Fails-in_index}
use Rattle.hfile_read.proofs.tree.check_index.Goals as goal

pub returns-in-Err : goal.returns-in-Err
returns-in-Err c =
    let r = index_of c.args.trailer.now (block_view c.args.root) (front_of c.args.cells.now (left_view c.args.left)) in
    subst (λ e. Fails e (in_index r)) (sym c.as_fault.ensures) (Fails-in_index c.in-Err.fault r c.in-Err.ensures)
