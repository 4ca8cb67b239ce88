use Rattle.std.proofs.Common.{List, ℕ, Result, sym, ap, subst, ◌∙◌}
use Rattle.std.proofs.lemmas.Result.{err_from_is_err_and}
use Rattle.hfile_read.specs.Answers.{IsWrong, Finds}
use Rattle.hfile_read.specs.Views.{block_view, left_view, front_of}
use Rattle.hfile_read.specs.Following.{root_entries}
use Rattle.hfile_read.proofs.Trees.{wrong_root, right_root}
use Rattle.hfile_read.proofs.tree.list_index.Goals as goal

pub returns-in_err-entries : goal.returns-in_err-entries
returns-in_err-entries c =
    let p = err_from_is_err_and c.from_residual.result c.from_residual.ensures.1 in
    let t = c.args.trailer.now in
    let e = c.in_err-entries.field-0.0 in
    rw (p.1, p.2) (wrong_root t (block_view c.args.root) (front_of c.args.cells.now (left_view c.args.left)) e (subst (λ (bytes : List ℕ). IsWrong e (root_entries t bytes)) c.content.ensures c.in_err-entries.ensures))

pub returns : goal.returns
returns c =
    let t = c.args.trailer.now in
    let read = ap (root_entries t) (sym c.content.ensures) ∙ c.in_ok-entries.ensures in
    subst (λ (s : Result (Unit {0}) ℕ). Finds (λ x. tt) c.list_all.result s) (sym (right_root t (block_view c.args.root) (front_of c.args.cells.now (left_view c.args.left)) c.in_ok-entries.entries read)) c.list_all.ensures
