use Rattle.std.proofs.Common.{◌≡◌, ◌++◌, arith, subst, sym}
use Rattle.std.specs.BinaryHeap.{heap_items}
use Rattle.std.proofs.lemmas.Result.{IfOk-at_ok}
use Rattle.std.proofs.lemmas.List.Elements.{All-cons}
use Rattle.std.proofs.lemmas.List.Sorted.{All-permutation}
use Rattle.cell_sight.specs.Same.{Same, sorted}
use Rattle.cell_merge.specs.declared.head.Head.{Head}
use Rattle.cell_merge.specs.Heads.{left_of, all_left}
use Rattle.cell_merge.proofs.HeadLemmas.{same_left}
use Rattle.cell_merge.proofs.merge.push_rest.Goals as goal

pub returns-in-Some-clause-ready : goal.returns-in-Some-clause-ready
returns-in-Some-clause-ready c =
    let permutation = IfOk-at_ok _ c.unwrap.ensures c.push.ensures.permutation in
    let head : Head = record { cell = c.in-Some.cell; rest = c.next.new.self } in
    let in_order = subst (λ cells. sorted cells ≡ cells) c.in-Some.ensures.cases.0 c.requires.order in
    record {
      heap = IfOk-at_ok _ c.unwrap.ensures c.push.ensures.heap_order c.requires.ready.heap;
      room = omega (arith, IfOk-at_ok _ c.unwrap.ensures c.push.ensures.len);
      order = All-permutation (λ head. sorted (left_of head) ≡ left_of head) _ _ permutation (All-cons (λ head. sorted (left_of head) ≡ left_of head) head _ in_order c.requires.ready.order);
    }

pub returns-in-Some-clause-same : goal.returns-in-Some-clause-same
returns-in-Some-clause-same c =
    let same = same_left _ _ (IfOk-at_ok _ c.unwrap.ensures c.push.ensures.permutation) in
    subst (λ cells. Same (all_left (heap_items c.push.new.self)) (cells ++ all_left (heap_items c.args.heads.now))) (sym c.in-Some.ensures.cases.0) same
