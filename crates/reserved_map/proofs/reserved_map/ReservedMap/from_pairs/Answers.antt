use Rattle.std.proofs.Common.{◌∙◌, sym, ap}
use Rattle.reserved_map.specs.Changes.{with_first}
use Rattle.reserved_map.proofs.First.{push-first}
use Rattle.reserved_map.proofs.reserved_map.ReservedMap.from_pairs.Goals as goal

pub loop-key-preserved : goal.loop-key-preserved
loop-key-preserved g c =
    c.in_ok-add_first.ensures
    ∙ ap (λ map. with_first map c.in-Some.key c.in-Some.value) c.loop-key.invariant
    ∙ sym (push-first g.met.K.Ord.total g.met.K.ExactKey.exact c.loop-key.yielded c.in-Some.key c.in-Some.value)
