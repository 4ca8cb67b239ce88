use Rattle.std.proofs.Common.{◌≡◌, sym, ◌∙◌, arith}
use Rattle.std.proofs.lemmas.List.Elements.{All-head, All-tail}
use Rattle.std.proofs.lemmas.List.Sorted.{All-permutation}
use Rattle.cell_sight.specs.Same.{sorted}
use Rattle.cell_merge.specs.Heads.{left_of}
use Rattle.cell_merge.proofs.HeadLemmas.{taken_left}
use Rattle.cell_merge.proofs.InputLemmas.{rest_in_order}
use Rattle.cell_merge.proofs.merge.Merge.next.Goals as goal

pub push_rest-requires-clause-ready : goal.push_rest-requires-clause-ready
push_rest-requires-clause-ready c =
    record {
      heap = (c.in-Some.ensures.heap_order c.self.invariant.heap).0;
      room = omega (arith, c.in-Some.ensures.len);
      order = All-tail (λ head. sorted (left_of head) ≡ left_of head) c.in-Some.head _ (All-permutation (λ head. sorted (left_of head) ≡ left_of head) _ _ c.in-Some.ensures.permutation c.self.invariant.order);
    }

pub push_rest-requires-clause-order : goal.push_rest-requires-clause-order
push_rest-requires-clause-order c =
    rest_in_order c.in-Some.head.cell _ (All-head (λ head. sorted (left_of head) ≡ left_of head) c.in-Some.head _ (All-permutation (λ head. sorted (left_of head) ≡ left_of head) _ _ c.in-Some.ensures.permutation c.self.invariant.order))

pub returns-clause-ok : goal.returns-clause-ok
returns-clause-ok c =
    sym c.self.view_is ∙ taken_left _ _ _ c.in-Some.head c.in-Some.ensures.permutation (c.in-Some.ensures.below_top c.self.invariant.heap)
    (All-permutation (λ head. sorted (left_of head) ≡ left_of head) _ _ c.in-Some.ensures.permutation c.self.invariant.order) c.push_rest.ensures.same
