use Rattle.std.proofs.Common.{◌≡◌, map, sym, ap, ◌∙◌}
use Rattle.std.specs.Prelude.{filter}
use Rattle.std.proofs.lemmas.Result.{IfOk-weaker}
use Rattle.cell_sight.specs.Same.{sorted}
use Rattle.cell_merge.specs.Input.{cells_of, keeps, numbered}
use Rattle.cell_merge.proofs.InputLemmas.{cut_in_order, whole_in_order}
use Rattle.cell_merge.proofs.input.Input.into_cells.Goals as goal

pub returns-then-is_some-2 : goal.returns-then-is_some-2
returns-then-is_some-2 c =
    let self = c.args.self in
    let e = ap (λ cells. map (numbered self.seq) (filter (keeps self.half) cells)) c.into_vec-cells.ensures
    ∙ cut_in_order self.half self.seq self.cells (sym c.is_some.ensures ∙ c.if-is_some.false) c.requires in
    IfOk-weaker c.take_cells-then-is_some-2.result (λ cells. cells.items ≡ map (numbered self.seq) (filter (keeps self.half) c.into_vec-cells.result.items)) (λ cells. cells.items ≡ sorted (cells_of self))
    (λ cells h. h ∙ e) c.take_cells-then-is_some-2.ensures

pub returns : goal.returns
returns c = c.into_vec-cells.ensures ∙ whole_in_order c.args.self.half c.args.self.seq c.args.self.cells (sym c.is_some-2.ensures ∙ c.if-is_some-2.false) (sym c.is_some.ensures ∙ c.if-is_some.false) c.requires
