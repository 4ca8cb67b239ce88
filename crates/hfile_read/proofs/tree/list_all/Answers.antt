use Rattle.std.proofs.Common.{◌-◌, [], ◌∷◌, sym, ap, ◌∙◌, refl}
use Rattle.std.proofs.lemmas.Result.{err_from_is_err_and}
use Rattle.hfile_form.specs.Index.{Left, lists_all, index_from, ◌>>=◌}
use Rattle.hfile_read.specs.declared.tree.NodeEntries.{NodeEntries}
use Rattle.hfile_read.specs.Views.{left_view}
use Rattle.hfile_read.specs.Following.{following}
use Rattle.hfile_read.proofs.Trees.{IsWrong-same, IsWrong-bind, index_from-following, lists_all-none, lists_all-some}
use Rattle.hfile_read.proofs.tree.list_all.Goals as goal

pub returns-in_err-left : goal.returns-in_err-left
returns-in_err-left c =
    let p = err_from_is_err_and c.from_residual.result c.from_residual.ensures.1 in
    let t = c.args.trailer.now in
    let root : NodeEntries = record { owner = t.load_at; more = t.levels - 1; rest = c.into_iter.result } in
    let left = left_view c.args.left in
    let cells = c.args.cells.now in
    rw (p.1, p.2) (IsWrong-same c.in_err-left.field-0.0 (following cells (root ∷ []) left >>= λ (l : Left). lists_all t.load_at l.datas) (index_from cells t.levels t.load_at c.args.entries left)
    (index_from-following cells t.levels t.load_at c.args.entries left root c.if-trailer-eq0.false refl refl (c.into_iter.ensures.rest ∙ c.into_vec.ensures))
    (IsWrong-bind c.in_err-left.field-0.0 (following cells (root ∷ []) left) (λ (l : Left). lists_all t.load_at l.datas) c.in_err-left.ensures))

pub returns-then-is_empty : goal.returns-then-is_empty
returns-then-is_empty c =
    let t = c.args.trailer.now in
    let root : NodeEntries = record { owner = t.load_at; more = t.levels - 1; rest = c.into_iter.result } in
    index_from-following c.args.cells.now t.levels t.load_at c.args.entries (left_view c.args.left) root c.if-trailer-eq0.false refl refl (c.into_iter.ensures.rest ∙ c.into_vec.ensures)
    ∙ ap (λ r. r >>= λ (l : Left). lists_all t.load_at l.datas) c.in_ok-left.ensures ∙ lists_all-none t.load_at c.in_ok-left.left.datas.now (sym c.is_empty.ensures ∙ c.if-is_empty.true)

pub returns : goal.returns
returns c =
    let t = c.args.trailer.now in
    let root : NodeEntries = record { owner = t.load_at; more = t.levels - 1; rest = c.into_iter.result } in
    index_from-following c.args.cells.now t.levels t.load_at c.args.entries (left_view c.args.left) root c.if-trailer-eq0.false refl refl (c.into_iter.ensures.rest ∙ c.into_vec.ensures)
    ∙ ap (λ r. r >>= λ (l : Left). lists_all t.load_at l.datas) c.in_ok-left.ensures ∙ lists_all-some t.load_at c.in_ok-left.left.datas.now (sym c.is_empty.ensures ∙ c.if-is_empty.false)
