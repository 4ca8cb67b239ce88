-- Plans have at most 1,000 regions, with ids that the opening has.
use Rattle.std.proofs.Common.{◌≡◌, ◌≤◌, ◌<◌, ℕ, ◌+◌, ◌==◌, true, false, cond, arith, List, [], ◌∷◌, ◌++◌, Option, Some, None, refl, sym, ap, subst, inl, inr}
use Rattle.std.proofs.lemmas.List.{length-map}
use Rattle.std.specs.Prelude.{length}
use Rattle.std.specs.List.{AllByRecursion}
use Rattle.std.specs.FinMap.{get}
use Rattle.hb_layout.specs.Lawful.{IsEpoch}
use Rattle.hb_records.specs.declared.region_info.RegionInfo.{RegionInfo}
use Rattle.plain_model.specs.declared.job.Job.{Job}
use Rattle.plain_model.specs.declared.job.Job.TheVariants as jobs
use Rattle.plain_model.specs.declared.parts.Live.{Live}
use Rattle.plain_model.specs.declared.who.Actor.{Actor}
use Rattle.plain_model.specs.Found.{region_with}
use Rattle.plain_model.specs.LiveEvents.{without}
use Rattle.core_model.specs.declared.plan.Plan.{Plan}
use Rattle.core_model.specs.declared.snapshot.CopiedRegion.{CopiedRegion}
use Rattle.core_model.specs.declared.snapshot.Snapshot.{Snapshot}
use Rattle.core_model.specs.declared.step.Drawn.{Drawn}
use Rattle.core_model.specs.declared.step.Started.TheVariants as started
use Rattle.core_model.specs.declared.step.Step.{Step}
use Rattle.core_model.specs.declared.step.Step.TheVariants as step
use Rattle.core_model.specs.ActorChanges.{plans_by}
use Rattle.core_model.specs.Allows.{Allows}
use Rattle.core_model.specs.Keys.{set_actor}
use Rattle.core_model.specs.LiveChanges.{live_by}
use Rattle.core_model.specs.Plans.{copied_regions, daughters, new_regions, region_id, split_regions, table_in}
use Rattle.core_model.specs.Plans as plans
use Rattle.core_model.specs.StartGuards.{CanStart, IsWithinLimits}
use Rattle.core_model.specs.State.{Parts, no_plan}
use Rattle.core_sound.proofs.Lists.{member-append}
use Rattle.core_regions.specs.Cover.{IsCovered, infos_in}
use Rattle.core_limits.specs.Limits.{AreFew, HasIds, IsLimited, JobsWithin, PlansFew}
use Rattle.core_limits.proofs.Opens.{left_other}

-- ---- new regions

abbrev IdsBelow : ℕ → List RegionInfo → Type 0
IdsBelow top regions = AllByRecursion (λ (i : RegionInfo). i.id < top) regions

split_ids : (t : List ℕ) (id top : ℕ) (start : List ℕ) (splits : List (List ℕ)) → id + length splits < top → IdsBelow top (split_regions t id start splits)
split_ids t id top start [] h = (let k : id < top = omega (arith, h) in k, tt)
split_ids t id top start (r ∷ rs) h = (let k : id < top = omega (arith, h) in k, split_ids t (id + 1) top r rs (omega (arith, h)))

split_length : (t : List ℕ) (id : ℕ) (start : List ℕ) (splits : List (List ℕ)) → length (split_regions t id start splits) ≡ length splits + 1
split_length t id start [] = omega arith
split_length t id start (r ∷ rs) = let k = split_length t (id + 1) r rs in omega (arith, k)

copied_ids : (t : List ℕ) (id top : ℕ) (rs : List CopiedRegion) → id + length rs ≤ top → IdsBelow top (copied_regions t id rs)
copied_ids t id top [] h = tt
copied_ids t id top (r ∷ rs) h = (let k : id < top = omega (arith, h) in k, copied_ids t (id + 1) top rs (omega (arith, h)))

copied_length : (t : List ℕ) (id : ℕ) (rs : List CopiedRegion) → length (copied_regions t id rs) ≡ length rs
copied_length t id [] = refl
copied_length t id (r ∷ rs) = let k = copied_length t (id + 1) rs in omega (arith, k)

-- so many, with ids below a bound
abbrev FewBelow : ℕ → List RegionInfo → Type 0
FewBelow top regions = (length regions ≤ 1000) × IdsBelow top regions

few_splits : (t : List ℕ) (id top : ℕ) (splits : List (List ℕ)) → length splits ≤ 999 → id + 1000 ≤ top → FewBelow top (split_regions t id [] splits)
few_splits t id top splits n h = let e = split_length t id [] splits in (omega (arith, e, n), split_ids t id top [] splits (omega (arith, n, h)))

few_daughters : (t : List ℕ) (id top : ℕ) (row : List ℕ) (o : Option RegionInfo) → id + 1000 ≤ top → FewBelow top (daughters t id row o)
few_daughters t id top row None h = (omega arith, tt)
few_daughters t id top row (Some r) h = (omega arith, (let k : id < top = omega (arith, h) in k, (let k : id + 1 < top = omega (arith, h) in k, tt)))

few_copies : (t : List ℕ) (id top : ℕ) (o : Option Snapshot) → ((x : Snapshot) → o ≡ Some x → length (infos_in x.regions) ≤ 1000) → id + 1000 ≤ top → FewBelow top (copied_regions t id (plans.regions_in o))
few_copies t id top None f h = (omega arith, tt)
few_copies t id top (Some x) f h =
    let n = f x refl in
    let m = length-map x.regions (λ (r : CopiedRegion). r.info) in
    let e = copied_length t id x.regions in (omega (arith, n, m, e), copied_ids t id top x.regions (omega (arith, n, m, h)))

few_new : (job : Job) (id top : ℕ) (s : Parts) → IsWithinLimits job → IsCovered s → id + 1000 ≤ top → FewBelow top (new_regions job id s.plain s.snapshots)
few_new (jobs.Create t fs n ks) id top s w v h = few_splits t id top ks w.2 h
few_new (jobs.Split t row) id top s w v h = few_daughters t id top row (region_with s.plain t row) h
few_new (jobs.Clone name t) id top s w v h = few_copies t id top (get s.snapshots name) (λ x e. (v.snapshots.at name x e).regions.few) h
few_new (jobs.Restore name) id top s w v h = few_copies (table_in (get s.snapshots name)) id top (get s.snapshots name) (λ x e. (v.snapshots.at name x e).regions.few) h
few_new _ id top s w v h = (omega arith, tt)

-- ---- a start

epoch_room : (epoch ids : ℕ) → epoch ≤ 2_147_483_647 → ids + 1000 < 4_294_967_296 → region_id epoch (ids + 1) + 1000 ≤ 9_223_372_036_854_775_808
epoch_room epoch ids e h = omega (arith, e, h)

start_few : (job : Job) (actor : Actor) (drawn : Drawn) (s : Parts) → CanStart job (started.Live actor) drawn s → HasIds s → IsEpoch s.epoch → IsCovered s → AreFew drawn.plan.regions
start_few job actor drawn s a n e v =
    let f = few_new job (region_id s.epoch (s.ids + 1)) 9_223_372_036_854_775_808 s a.limits v (epoch_room s.epoch s.ids e n) in
    subst AreFew (sym (ap (λ (p : Plan). p.regions) a.answered.1.plan)) (record { few = f.0; ids = f.1 })

-- so are the ids that it draws
pub drawn_few : (job : Job) (actor : Actor) (drawn : Drawn) (s : Parts) → CanStart job (started.Live actor) drawn s → IsCovered s → length drawn.regions ≤ 1000
drawn_few job actor drawn s a v = subst (λ (is : List RegionInfo). length is ≤ 1000) (sym a.answered.1.regions) (few_new job (region_id s.epoch (s.ids + 1)) (region_id s.epoch (s.ids + 1) + 1000) s a.limits v (omega arith)).0

-- ---- all steps

set_few : (a : ℕ) (plan : Plan) (plans : ℕ → Plan) → AreFew plan.regions → PlansFew plans → PlansFew (set_actor a plan plans)
set_few a plan plans p k = record { at = λ w. elim (w == a) as (λ b. AreFew (cond b plan (plans w)).regions) [ true ↦ p | false ↦ k.at w ] }

none_few : AreFew no_plan.regions
none_few = record { few = omega arith; ids = tt }

pub plans_few : (p : Step) (s : Parts) → HasIds s → Allows p s → IsCovered s → IsLimited s → PlansFew (plans_by p s.plans)
plans_few (step.Start who job (started.Live actor) drawn) s n a v k = set_few actor.0 drawn.plan s.plans (start_few job actor drawn s a n k.epoch v) k.plans
plans_few (step.CommitList actor region number name why list cells more) s n a v k = set_few actor.0 (record { regions = (s.plans actor.0).regions; entries = (s.plans actor.0).entries ++ more }) s.plans (k.plans.at actor.0) k.plans
plans_few (step.CommitRegions actor table number name set change) s n a v k = set_few actor.0 no_plan s.plans none_few k.plans
plans_few (step.End actor refusal) s n a v k = set_few actor.0 no_plan s.plans none_few k.plans
plans_few (step.Abandon actor) s n a v k = set_few actor.0 no_plan s.plans none_few k.plans
plans_few _ s n a v k = k.plans

-- ---- the limits of jobs

start_within : (job : Job) (actor : Actor) (drawn : Drawn) (s : Parts) → IsWithinLimits job → IsLimited s → JobsWithin (s.plain.live ++ record { actor = actor; job = job; holds = drawn.holds } ∷ [])
start_within job actor drawn s w k = record {
  at = λ l m. elim (member-append l s.plain.live (record { actor = actor; job = job; holds = drawn.holds } ∷ []) m) [
    | inl i ↦ k.jobs.at l i
    | inr i ↦ elim i [ inl e ↦ subst (λ (y : Live). IsWithinLimits y.job) e w | inr e ↦ absurd e ]
  ];
}

end_within : (a : ℕ) (s : Parts) → IsLimited s → JobsWithin (without a s.plain.live)
end_within a s k = record { at = λ l m. k.jobs.at l (left_other a s.plain.live l m).0 }

pub jobs_within : (p : Step) (s : Parts) → Allows p s → IsLimited s → JobsWithin (live_by p s.plain.live)
jobs_within (step.Start who job (started.Live actor) drawn) s a k = start_within job actor drawn s a.limits k
jobs_within (step.End actor refusal) s a k = end_within actor.0 s k
jobs_within (step.Abandon actor) s a k = end_within actor.0 s k
jobs_within _ s a k = k.jobs
