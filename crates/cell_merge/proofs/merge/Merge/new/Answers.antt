use Rattle.std.proofs.Common.{◌≡◌, ◌++◌, sym, ap, ◌∙◌, subst, arith}
use Rattle.std.specs.BinaryHeap.{heap_items}
use Rattle.std.specs.Vec.Iter.{into_iter_items}
use Rattle.cell_sight.specs.Same.{Same, sorted}
use Rattle.cell_merge.specs.Heads.{all_left}
use Rattle.cell_merge.specs.Input.{IsInOrder, all_cells, cells_of}
use Rattle.cell_merge.proofs.InputLemmas.{sorted-again, moved_over, all_moved}
use Rattle.cell_merge.proofs.merge.Merge.new.Goals as goal

pub push_rest-requires-clause-order : goal.push_rest-requires-clause-order
push_rest-requires-clause-order c =
    let e : into_iter_items c.into_iter.result ≡ sorted (cells_of c.in-Some.input) = c.into_iter.ensures.rest ∙ c.in_ok-cells.ensures in
    ap sorted e ∙ sorted-again (cells_of c.in-Some.input) ∙ sym e

pub loop-input-preserved : goal.loop-input-preserved
loop-input-preserved c =
    let e = c.in-Some.ensures.cases.0 in
    let order = subst IsInOrder e c.loop-input.invariant.order in
    record {
      ready = c.push_rest.ensures.ready;
      room = omega (arith, c.in-Some.ensures.cases.1);
      order = order.1;
      same = moved_over _ _ _ (cells_of c.in-Some.input) (all_cells (into_iter_items c.next.new.self)) _ c.push_rest.ensures.same (c.into_iter.ensures.rest ∙ c.in_ok-cells.ensures)
          (subst (λ inputs. Same (all_left (heap_items c.loop-input.heads) ++ all_cells inputs) (all_cells c.args.inputs)) e c.loop-input.invariant.same);
    }

pub returns : goal.returns
returns c = all_moved _ _ (into_iter_items c.loop-input.inputs) (sym c.loop-input.inputs.rest.ok.0 ∙ c.in_default.ensures.cases.0) c.loop-input.invariant.same
