use Rattle.std.proofs.Common.{◌∙◌, List, ℕ, ap, subst, sym}
use Rattle.plain_model.specs.declared.job.Job.{Job}
use Rattle.plain_model.specs.Found.{is_table}
use Rattle.plain_model.specs.Replies.{first}
use Rattle.core_model.specs.StartGuards.{regions_for}
use Rattle.world_steps.specs.Starts.{IsJudged, refusals_of_create}
use Rattle.world_steps.specs.World.{state_at}
use Rattle.world_steps.proofs.Judged.{create_judged}
use Rattle.world_steps.proofs.Started.{made_of, ok_by}
use Rattle.world_steps.proofs.world.World.refusal_of.Goals as goal

pub is_name_taken-requires : goal.is_name_taken-requires
is_name_taken-requires g c = made_of c.in-Create.table c.in-Create.families c.in-Create.versions c.in-Create.splits c.args.job.now c.args.regions.now (state_at c.args.self.now).now c.in-Create.is c.requires.regions

pub returns-in_ok-taken-in-Create : goal.returns-in_ok-taken-in-Create
returns-in_ok-taken-in-Create g c =
    let s = (state_at c.args.self.now).now in
    ok_by _ _ c.refusal_of_create.result (λ r h. subst (λ (job : Job). IsJudged job r s) (sym c.in-Create.is)
    (create_judged c.in-Create.table c.in-Create.families c.in-Create.versions c.in-Create.splits c.in_ok-taken-in-Create.taken r c.args.regions.now s
    (c.requires.regions ∙ ap (λ (job : Job). regions_for job s) c.in-Create.is) c.in_ok-taken-in-Create.ensures
    (h ∙ ap (λ (fs : List (List ℕ)). first (refusals_of_create (is_table s.plain c.in-Create.table) fs c.as_slice-in-Create.result.now c.in_ok-taken-in-Create.taken)) c.as_slice.ensures
    ∙ ap (λ (rows : List (List ℕ)). first (refusals_of_create (is_table s.plain c.in-Create.table) c.in-Create.families rows c.in_ok-taken-in-Create.taken)) c.as_slice-in-Create.ensures))) c.refusal_of_create.ensures
