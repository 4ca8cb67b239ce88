use Rattle.std.proofs.Common.{length, drop, sym, subst, arith}
use Rattle.std.proofs.lemmas.List.{drop_all}
use Rattle.commit_line.proofs.NumberLineLemmas.{take_rest}
use Rattle.commit_list.specs.CommitNumber.{IsBehindSlash, HasNoSlash}
use Rattle.commit_list.proofs.NumberedLemmas.{HasNoSlash-nil, HasNoSlash-drop, IsBehindSlash-drop, IsBehindSlash-all}
use Rattle.commit_list.proofs.commit_number.last_component.Goals.{then-loop-at-test+else-place-at-ne47, else-loop-at-test}
use Rattle.commit_list.proofs.commit_number.last_component.Goals as goal

pub loop-at-init : goal.loop-at-init
loop-at-init c = (omega arith, subst HasNoSlash (sym (drop_all (length c.args.place.now) c.args.place.now (omega arith))) HasNoSlash-nil)

pub loop-at-preserved : goal.loop-at-preserved
loop-at-preserved c =
    let within = c.loop-at.invariant.0 in
    (omega arith, HasNoSlash-drop c.args.place.now c.loop-at.at c.loop-at-test.true within c.if-place-at-ne47.true c.loop-at.invariant.1)

pub returns-clause-last : goal.returns-clause-last
returns-clause-last c =
    let last : IsBehindSlash c.args.place.now (drop c.loop-at.at c.args.place.now) = elim c.loop-at-test.branch [
      | then-loop-at-test+else-place-at-ne47 w ↦ IsBehindSlash-drop c.args.place.now c.loop-at.at w.loop-at-test.true c.loop-at.invariant.0 w.if-place-at-ne47.false
      | else-loop-at-test w ↦ IsBehindSlash-all c.args.place.now c.loop-at.at w.loop-at-test.false
    ] in
    subst (IsBehindSlash c.args.place.now) (sym (take_rest c.args.place.now c.loop-at.at)) last
