use Rattle.std.proofs.Common.{sym, arith}
use Rattle.std.proofs.lemmas.List.{take_all}
use Rattle.std.proofs.lemmas.List.Elements.{All-more, All-same}
use Rattle.shell_line.specs.Line.{Begins, word}
use Rattle.shell_line.proofs.line.kind_of_front.Goals as goal

pub loop-kind-preserved : goal.loop-kind-preserved
loop-kind-preserved c =
    All-more (λ k. Begins c.args.bytes.now (word k) → ⊥) _ _ _ c.loop-kind-test.true c.loop-kind.invariant (c.is_front.ensures.no c.if-is_front.false)

pub returns-clause-none : goal.returns-clause-none
returns-clause-none c =
    All-same (λ k. Begins c.args.bytes.now (word k) → ⊥) c.args.kinds.now _ (sym (take_all c.loop-kind.kind-index c.args.kinds.now (omega arith))) c.loop-kind.invariant
