use Rattle.std.proofs.Common.{sym, subst, ◌∙◌}
use Rattle.std.proofs.lemmas.Result.{err_from_is_err_and}
use Rattle.hfile_form.specs.declared.section.Section.TheVariants as sections
use Rattle.hfile_form.specs.Front.{no_front, taken}
use Rattle.hfile_read.specs.Views.{block_view, front_view}
use Rattle.hfile_read.proofs.Steps.{IsLeft, IsLeft-all, IsLeft-next, IsLeft-block_wrong, IsLeft-step_wrong, IsLeft-none, some_left, none_left, moved_left}
use Rattle.hfile_read.proofs.front.read_front.Goals as goal

pub loop-rest-init : goal.loop-rest-init
loop-rest-init c = subst (λ s. IsLeft (taken c.args.with_seq) sections.Front 0 c.args.bytes.now no_front 0 c.args.bytes.now s) (sym c.new-front.ensures) (IsLeft-all (taken c.args.with_seq) sections.Front 0 c.args.bytes.now no_front)

pub returns-in_err-block : goal.returns-in_err-block
returns-in_err-block c =
    let p = err_from_is_err_and c.from_residual.result c.from_residual.ensures.1 in
    let some = some_left c.loop-rest.rest.now (sym c.is_empty.ensures ∙ c.loop-rest-test.true) in
    rw (p.1, p.2)
    (IsLeft-block_wrong (taken c.args.with_seq) sections.Front 0 c.args.bytes.now no_front c.loop-rest.at c.loop-rest.rest.now (front_view c.loop-rest.front) c.in_err-block.field-0.0 c.loop-rest.invariant some c.in_err-block.ensures.exact)

pub returns-in_err-take : goal.returns-in_err-take
returns-in_err-take c =
    let p = err_from_is_err_and c.from_residual-in_err-take.result c.from_residual-in_err-take.ensures.1 in
    let some = some_left c.loop-rest.rest.now (sym c.is_empty.ensures ∙ c.loop-rest-test.true) in
    rw (p.1, p.2)
    (IsLeft-step_wrong (taken c.args.with_seq) sections.Front 0 c.args.bytes.now no_front c.loop-rest.at c.loop-rest.rest.now (front_view c.loop-rest.front) (block_view c.in_ok-block.block) c.in_err-take.field-0.0 c.loop-rest.invariant some
    c.in_ok-block.ensures.exact c.in_err-take.ensures)

pub loop-rest-preserved : goal.loop-rest-preserved
loop-rest-preserved c =
    let b = block_view c.in_ok-block.block in
    let step = taken c.args.with_seq in
    let some = some_left c.loop-rest.rest.now (sym c.is_empty.ensures ∙ c.loop-rest-test.true) in
    let next = IsLeft-next step sections.Front 0 c.args.bytes.now no_front c.loop-rest.at c.loop-rest.rest.now (front_view c.loop-rest.front) (front_view c.take.new.self) b c.loop-rest.invariant some c.in_ok-block.ensures.exact c.in_ok-block.ensures.within c.in_ok-take.ensures in
    moved_left step sections.Front 0 c.args.bytes.now no_front c.loop-rest.at c.size-at.result c.size.result c.loop-rest.rest.now c.split_at.result.1.now (front_view c.take.new.self) b next c.size-at.ensures c.size.ensures c.split_at.ensures.back

pub returns : goal.returns
returns c = IsLeft-none (taken c.args.with_seq) sections.Front 0 c.args.bytes.now no_front c.loop-rest.at c.loop-rest.rest.now (front_view c.loop-rest.front) c.loop-rest.invariant (none_left c.loop-rest.rest.now (sym c.is_empty.ensures ∙ c.loop-rest-test.false))
