use Rattle.std.proofs.Common.{ap, ◌∙◌}
use Rattle.core_model.specs.declared.step.Step.TheVariants as step
use Rattle.world_steps.specs.Commits.{set_at}
use Rattle.world_steps.specs.World.{state_at}
use Rattle.world_steps.proofs.Facts.{change_here, set_here}
use Rattle.world_steps.proofs.world.World.commit_step.Goals as goal

pub returns : goal.returns
returns g c =
    let now = c.args.self.now in
    let a = c.args.actor in
    let n = c.args.number in
    let file = c.in-Some-Some.file.now in
    let work = c.in-Some-Some.work.now in
    let set = c.set_of.ensures ∙ set_here c.core.result.now now c.args.set.now file c.core.ensures.opening c.core.ensures.entries c.in-Some-Some.ensures in
    let change = c.change_of.ensures ∙ change_here c.core-2.result.now now a.0 work c.core-2.ensures.opening c.core-2.ensures.entries c.in-Some-Some.ensures'.live c.in-Some-Some.ensures'.work in
    ap (λ t. step.CommitRegions a t n c.in_ok-copy-2.field-0 c.set_of.result c.change_of.result) c.in_ok-copy.ensures
    ∙ ap (λ m. step.CommitRegions a c.args.table.now n m c.set_of.result c.change_of.result) c.in_ok-copy-2.ensures
    ∙ ap (λ x. step.CommitRegions a c.args.table.now n c.args.set.now x c.change_of.result) set
    ∙ ap (λ x. step.CommitRegions a c.args.table.now n c.args.set.now (set_at ((state_at now).now.written c.args.set.now)) x) change
