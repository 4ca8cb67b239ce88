use Rattle.std.proofs.Common.{Option, subst, sym}
use Rattle.plain_model.specs.declared.reply.Reply.{Reply}
use Rattle.core_model.specs.declared.step.Started.{Started}
use Rattle.core_model.specs.StartGuards.{CanStart}
use Rattle.world_steps.specs.Starts.{IsJudged, drawn_by}
use Rattle.world_steps.specs.World.{state_at}
use Rattle.world_steps.proofs.Judged.{refused_starts}
use Rattle.world_steps.proofs.world.World.start.Goals as goal

pub returns-in_ok-refuse-in-Some-clause-answered : goal.returns-in_ok-refuse-in-Some-clause-answered
returns-in_ok-refuse-in-Some-clause-answered g c =
    let job = c.args.job.now in
    let s = (state_at c.args.self.now).now in
    subst (λ (x : Started). CanStart job x (drawn_by job x s) s) (sym c.in_ok-refuse-in-Some.ensures.answer)
    (refused_starts job c.in-Some.reply s c.requires.served c.requires.limits c.in_ok-holds.ensures.free (subst (λ (r : Option Reply). IsJudged job r s) c.in-Some.is c.in_ok-reply.ensures))
