use Rattle.std.proofs.Common.{◌∙◌, ap, arith, sym}
use Rattle.core_model.specs.declared.opening.Opening.{Opening}
use Rattle.core_model.specs.State.{State}
use Rattle.world_steps.proofs.Facts.{epoch_is, state_in}
use Rattle.world_steps.proofs.world.World.next_id.Goals as goal

pub returns-in-Some-checked_add : goal.returns-in-Some-checked_add
returns-in-Some-checked_add g c =
    let now = c.args.self.now in
    let epoch = c.from-before.ensures ∙ ap (λ (o : Opening). o.epoch) (c.opening.ensures ∙ c.core.ensures.opening) ∙ sym (epoch_is now.opening now.entries) in
    let ids = c.counts.ensures.ids ∙ ap (λ (s : State). s.now.ids) (state_in c.core-2.result.now now c.core-2.ensures.opening c.core-2.ensures.entries) in
    let count = c.in-Some.ensures.1 in
    let id = c.in-Some-checked_add.ensures.1 in
    omega (arith, epoch, ids, count, id)
