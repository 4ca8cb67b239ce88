use Rattle.std.proofs.Common.{ap, ◌∙◌}
use Rattle.std.specs.FinMap.{keys}
use Rattle.plain_model.specs.declared.reply.Reply.TheVariants.{Snapshots}
use Rattle.core_model.specs.State.{State}
use Rattle.world_steps.proofs.Facts.{state_in}
use Rattle.world_steps.proofs.Sounds.{names-plain}
use Rattle.world_steps.proofs.world.World.list_snapshots.Goals as goal

pub returns-clause-reply : goal.returns-clause-reply
returns-clause-reply g c =
    let now = c.args.self.now in
    ap Snapshots (c.in_ok-names.ensures
    ∙ ap (λ (s : State). keys s.now.snapshots) (state_in c.core.result.now now c.core.ensures.opening c.core.ensures.entries)
    ∙ names-plain now.opening now.entries c.holds.ensures)
