use Rattle.std.proofs.Common.{◌∙◌, IfSome, ap, sym, subst}
use Rattle.std.specs.Prelude.{option_map}
use Rattle.plain_model.specs.LiveEvents.{live_of}
use Rattle.world_state.specs.Held.{parts_of}
use Rattle.world_state.specs.Works.{IsWork, live_in}
use Rattle.world_state.proofs.Sought.{work-is, work-live}
use Rattle.world_state.proofs.kept.Core.work.Goals as goal

pub returns-clause-live : goal.returns-clause-live
returns-clause-live c = ap (option_map live_in) c.work_of.ensures ∙ work-live c.works.result.now c.args.actor.0 ∙ ap (λ l. live_of l c.args.actor.0) c.works.ensures.live

pub returns-clause-work : goal.returns-clause-work
returns-clause-work c =
    let s = parts_of c.args.self.now in
    subst (λ o. IfSome o (IsWork s.begun s.owners s.plans)) (sym c.work_of.ensures) (work-is (IsWork s.begun s.owners s.plans) c.works.result.now c.args.actor.0 c.works.ensures.each)
