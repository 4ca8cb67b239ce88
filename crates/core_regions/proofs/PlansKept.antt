-- What actors plan goes on to cover all rows.
use Rattle.std.proofs.Common.{◌≡◌, ℕ, ◌++◌, ◌==◌, Bool, true, false, cond, List, Option, Some, None, refl, sym, ap, ◌∙◌, subst, inl, inr}
use Rattle.std.specs.Prelude.{IsSome, is_some, option_map, Ok}
use Rattle.std.specs.List.{AllZip}
use Rattle.std.specs.FinMap.{get, insert, remove}
use Rattle.cell_sight.specs.Member.{Member}
use Rattle.hb_cell.specs.Order.{same_bytes}
use Rattle.hb_records.specs.declared.region_info.RegionInfo.{RegionInfo}
use Rattle.plain_model.specs.declared.event.Event.{Event}
use Rattle.plain_model.specs.declared.event.Event.TheVariants as event
use Rattle.plain_model.specs.declared.hold.Hold.{Hold}
use Rattle.plain_model.specs.declared.hold.Hold.TheVariants as holds
use Rattle.plain_model.specs.declared.job.Job.{Job}
use Rattle.plain_model.specs.declared.job.Job.TheVariants as jobs
use Rattle.plain_model.specs.declared.parts.Live.{Live}
use Rattle.plain_model.specs.declared.parts.RegionCopy.{RegionCopy}
use Rattle.plain_model.specs.declared.parts.PlainSnapshot.{PlainSnapshot}
use Rattle.plain_model.specs.declared.parts.PlainTable.{PlainTable}
use Rattle.plain_model.specs.declared.region_key.RegionKey.{RegionKey}
use Rattle.plain_model.specs.declared.who.Actor.{Actor}
use Rattle.plain_model.specs.After.{after_all}
use Rattle.plain_model.specs.Keys.{key_of}
use Rattle.plain_model.specs.LiveEvents.{job_of, live_of, without}
use Rattle.plain_model.specs.Names.{Names}
use Rattle.plain_model.specs.SnapshotEvents.{completed, snapshots_on, with_snapshot}
use Rattle.plain_model.specs.TableEvents.{tables_on}
use Rattle.core_model.specs.declared.entry.Entry.{Entry}
use Rattle.core_model.specs.declared.plan.Plan.{Plan}
use Rattle.core_model.specs.declared.snapshot.Snapshot.{Snapshot}
use Rattle.core_model.specs.declared.step.Drawn.{Drawn}
use Rattle.core_model.specs.declared.step.Started.TheVariants as started
use Rattle.core_model.specs.declared.step.Step.{Step}
use Rattle.core_model.specs.declared.step.Step.TheVariants as step
use Rattle.core_model.specs.declared.targets.MoveFrom.TheVariants as moves
use Rattle.core_model.specs.declared.targets.Why.TheVariants as why
use Rattle.core_model.specs.ActorChanges.{changed_by, plans_by}
use Rattle.core_model.specs.ActorFacts.{FitsJob, used_by}
use Rattle.core_model.specs.Actors.{HasHold}
use Rattle.core_model.specs.Allows.{Allows}
use Rattle.core_model.specs.Events.{events_of}
use Rattle.core_model.specs.FileChanges.{snapshots_by}
use Rattle.core_model.specs.Keys.{set_actor, set_name}
use Rattle.core_model.specs.LiveChanges.{live_by}
use Rattle.core_model.specs.Replay.{after}
use Rattle.core_model.specs.SetGuards.{IsChange}
use Rattle.core_model.specs.Sound.{IsSound}
use Rattle.core_model.specs.StartGuards.{CanStart}
use Rattle.core_model.specs.State.{Parts, no_plan}
use Rattle.core_model.specs.TableChanges.{tables_by}
use Rattle.core_sound.proofs.HoldsFound.{actor_found, found_joined, found_left, hold_fits, hold_job, hold_left, holds_apart, none_left, some_is}
use Rattle.core_sound.proofs.Lists.{map_some, member-find}
use Rattle.core_sound.proofs.LiveKept.{hold_front, hold_without}
use Rattle.core_sound.proofs.NumbersKept.{new_alone, same_self}
use Rattle.core_sound.proofs.TablesKept.{other_table, put_other, taken_other}
use Rattle.core_sound.proofs.Tests.{cond_cases, same_bytes-self, same_bytes-true, same_number}
use Rattle.core_contents.proofs.Changed.{used_there}
use Rattle.core_contents.proofs.CopiesKept.{change_snapshots, take_job}
use Rattle.core_contents.proofs.ExactKept.{not_actor}
use Rattle.core_regions.specs.Cover.{AreNewRegions, CopiesBounds, HasBounds, HeldAreSplit, IsCovered, IsListed, PlanCovers, PlansCover, table_in_copy}
use Rattle.core_regions.proofs.Held.{listed_stays}
use Rattle.core_regions.proofs.Starts.{janitor_holds, start_covers, with_new}

-- ---- a plan, when the state goes on

record Stays (job : Job) (a : ℕ) (live more : List Live) (tables others : Names PlainTable) (snapshots next : Names Snapshot) (copies later : Names PlainSnapshot) : Type 0 where
  held : (h : Hold) → HasHold live a h → HasHold more a h
  listed : (i : RegionInfo) → HasHold live a (holds.Region (key_of i)) → IsListed tables i false → IsListed others i false
  used : (name : List ℕ) (x : Snapshot) → used_by job ≡ Some name → get snapshots name ≡ Some x → get next name ≡ Some x
  copied : (name t : List ℕ) → used_by job ≡ Some name → table_in_copy (get later name) ≡ Some t → table_in_copy (get copies name) ≡ Some t

copied_on : (name : List ℕ) (plan : Plan) (snapshots next : Names Snapshot) → ((x : Snapshot) → get snapshots name ≡ Some x → get next name ≡ Some x) → CopiesBounds name plan snapshots → CopiesBounds name plan next
copied_on name plan snapshots next f c = record { new = c.new; x = c.x; stands = f c.x c.stands; bounds = c.bounds }

plan_on : (job : Job) (a : ℕ) (plan : Plan) (changed : List ℕ → Bool) (live more : List Live) (tables others : Names PlainTable) (snapshots next : Names Snapshot) (copies later : Names PlainSnapshot) → Stays job a live more tables others snapshots next copies later
    → PlanCovers job a plan changed live tables snapshots copies → PlanCovers job a plan changed more others next later
plan_on (jobs.Create t fs n ks) a plan changed live more tables others snapshots next copies later k p = p
plan_on (jobs.Split t row) a plan changed live more tables others snapshots next copies later k p = λ low high e. let d = p low high e in
    record { whole = d.whole; held = k.held (holds.Region (key_of d.whole)) d.held; is_open = k.listed d.whole d.held d.is_open; halves = d.halves }
plan_on (jobs.Clone name t) a plan changed live more tables others snapshots next copies later k p = λ c. copied_on name plan snapshots next (λ x e. k.used name x refl e) (p c)
plan_on (jobs.Restore name) a plan changed live more tables others snapshots next copies later k p = λ t e c. copied_on name plan snapshots next (λ x i. k.used name x refl i) (p t (k.copied name t refl e) c)
plan_on _ a plan changed live more tables others snapshots next copies later k p = tt

-- only the regions of a plan count
same_plan : (job : Job) (a : ℕ) (plan other : Plan) (changed : List ℕ → Bool) (live : List Live) (tables : Names PlainTable) (snapshots : Names Snapshot) (copies : Names PlainSnapshot) → plan.regions ≡ other.regions
    → PlanCovers job a plan changed live tables snapshots copies → PlanCovers job a other changed live tables snapshots copies
same_plan (jobs.Create t fs n ks) a plan other changed live tables snapshots copies e p = λ c. subst (λ rs. AreNewRegions rs) e (p c)
same_plan (jobs.Split t row) a plan other changed live tables snapshots copies e p = λ low high i. p low high (e ∙ i)
same_plan (jobs.Clone name t) a plan other changed live tables snapshots copies e p = λ c. let d = p c in
    record { new = subst (λ rs. AreNewRegions rs) e d.new; x = d.x; stands = d.stands; bounds = subst (λ rs. AllZip HasBounds rs d.x.regions) e d.bounds }
same_plan (jobs.Restore name) a plan other changed live tables snapshots copies e p = λ t i c. let d = p t i c in
    record { new = subst (λ rs. AreNewRegions rs) e d.new; x = d.x; stands = d.stands; bounds = subst (λ rs. AllZip HasBounds rs d.x.regions) e d.bounds }
same_plan _ a plan other changed live tables snapshots copies e p = tt

-- ---- starts and ends

job_found : (live : List Live) (w : ℕ) (job : Job) → job_of live w ≡ Some job → (x : Live) × (live_of live w ≡ Some x) × (x.job ≡ job)
job_found live w job j = map_some (λ (l : Live). l.job) (live_of live w) job j

found_job : (live : List Live) (w : ℕ) (x : Live) (job : Job) → live_of live w ≡ Some x → x.job ≡ job → job_of live w ≡ Some job
found_job live w x job e i = ap (option_map (λ (l : Live). l.job)) e ∙ ap Some i

-- an actor at work is none that starts
not_new : (s : Parts) (a w : ℕ) (x : Live) → a ≡ s.begun → IsSound s → live_of s.plain.live w ≡ Some x → (w == a) ≡ false
not_new s a w x n h e = (elim (w == a) as (λ b. w == a ≡ b → b ≡ false) [
  | true ↦ λ d. absurd (new_alone s a n h x (member-find _ s.plain.live x e) (actor_found s.plain.live w x e ∙ same_number w a d))
  | false ↦ λ d. refl
]) refl

-- who is left is another
other_left : (live : List Live) (a w : ℕ) (job : Job) → job_of (without a live) w ≡ Some job → (w == a) ≡ false
other_left live a w job j = (elim (w == a) as (λ b. w == a ≡ b → b ≡ false) [
  | true ↦ λ d. let z : None ≡ Some job = sym (ap (option_map (λ (l : Live). l.job)) (none_left a live)) ∙ ap (job_of (without a live)) (sym (same_number w a d)) ∙ j in absurd (cc)
  | false ↦ λ d. refl
]) refl

job_before : (live : List Live) (a w : ℕ) (job : Job) → job_of (without a live) w ≡ Some job → job_of live w ≡ Some job
job_before live a w job j = let x = job_found (without a live) w job j in found_job live w x.0 job (found_left w a live x.0 x.1) x.2

-- ---- the complete snapshots of the plain machine

abbrev pub copies_by : Step → Parts → Names PlainSnapshot
copies_by (step.CommitRegions actor table number name set change) s = snapshots_on change s.plain.live s.plain.captures s.plain.tables s.plain.snapshots
copies_by (step.Complete actor name copied) s = completed (job_of s.plain.live actor.0) (s.plain.captures actor.0) s.plain.tables s.plain.snapshots
copies_by (step.Uncomplete actor name) s = remove s.plain.snapshots name
copies_by _ s = s.plain.snapshots

pub copies_after : (p : Step) (s : Parts) → (after_all s.plain (events_of p)).snapshots ≡ copies_by p s
copies_after (step.PutCell who table put moment (Some joined)) s = refl
copies_after (step.Start who job (started.Live actor) drawn) s = refl
copies_after (step.CommitList actor region number name why.Flush list cells more) s = refl
copies_after (step.CommitList actor region number name (why.Compact true) list cells more) s = refl
copies_after (step.Place actor (moves.Written name) base cells) s = refl
copies_after (step.Pin actor target (Ok region) true) s = refl
copies_after _ s = refl

-- ---- each step's plans

abbrev pub CoverBy : Step → Parts → Type 0
CoverBy p s = PlansCover (plans_by p s.plans) (changed_by p s.changed) (live_by p s.plain.live) (tables_by p s.plain.snapshots s.plain.tables) (snapshots_by p s.snapshots) (copies_by p s)

keep : (job : Job) (a : ℕ) (live more : List Live) (s : Parts) → ((h : Hold) → HasHold live a h → HasHold more a h) → Stays job a live more s.plain.tables s.plain.tables s.snapshots s.snapshots s.plain.snapshots s.plain.snapshots
keep job a live more s f = record { held = f; listed = λ i x y. y; used = λ name x u e. e; copied = λ name t u e. e }

start_plans : (job : Job) (actor : Actor) (drawn : Drawn) (s : Parts) → CanStart job (started.Live actor) drawn s → IsSound s → IsCovered s → ((name : List ℕ) → HasHold (with_new job actor drawn s) actor.0 (holds.Use name) → IsSome (get s.snapshots name))
    → PlansCover (set_actor actor.0 drawn.plan s.plans) s.changed (with_new job actor drawn s) s.plain.tables s.snapshots s.plain.snapshots
start_plans job actor drawn s a h k u = record {
  at = λ w other j.
      let x = job_found (with_new job actor drawn s) w other j in
      elim (found_joined s.plain.live (record { actor = actor; job = job; holds = drawn.holds }) w x.0 x.1) [
        | inl e ↦ subst (λ b. PlanCovers other w (cond b drawn.plan (s.plans w)) (s.changed w) (with_new job actor drawn s) s.plain.tables s.snapshots s.plain.snapshots) (sym (not_new s actor.0 w x.0 a.answered.1.number h e))
            (plan_on other w (s.plans w) (s.changed w) s.plain.live (with_new job actor drawn s) s.plain.tables s.plain.tables s.snapshots s.snapshots s.plain.snapshots s.plain.snapshots (keep other w s.plain.live (with_new job actor drawn s) s (λ y z. hold_front s.plain.live _ w y z)) (k.plans.at w other (found_job s.plain.live w x.0 other e x.2)))
        | inr e ↦ (let q : job ≡ other = ap (λ (l : Live). l.job) e.1 ∙ x.2 in
            subst (λ v. PlanCovers other v (cond (v == actor.0) drawn.plan (s.plans v)) (s.changed v) (with_new job actor drawn s) s.plain.tables s.snapshots s.plain.snapshots) e.0
            (subst (λ b. PlanCovers other actor.0 (cond b drawn.plan (s.plans actor.0)) (s.changed actor.0) (with_new job actor drawn s) s.plain.tables s.snapshots s.plain.snapshots) (sym (same_self actor.0))
            (subst (λ o. PlanCovers o actor.0 drawn.plan (s.changed actor.0) (with_new job actor drawn s) s.plain.tables s.snapshots s.plain.snapshots) q (start_covers job actor drawn s a h k u (s.changed actor.0)))))
      ];
}

end_plans : (a : ℕ) (s : Parts) → IsCovered s → PlansCover (set_actor a no_plan s.plans) (set_actor a (λ t. false) s.changed) (without a s.plain.live) s.plain.tables s.snapshots s.plain.snapshots
end_plans a s k = record {
  at = λ w job j.
      let d = other_left s.plain.live a w job j in
      subst (λ b. PlanCovers job w (cond b no_plan (s.plans w)) (cond b (λ t. false) (s.changed w)) (without a s.plain.live) s.plain.tables s.snapshots s.plain.snapshots) (sym d)
      (plan_on job w (s.plans w) (s.changed w) s.plain.live (without a s.plain.live) s.plain.tables s.plain.tables s.snapshots s.snapshots s.plain.snapshots s.plain.snapshots (keep job w s.plain.live (without a s.plain.live) s (λ y z. hold_without s.plain.live w a y d z)) (k.plans.at w job (job_before s.plain.live a w job j)));
}

list_plans : (a : ℕ) (s : Parts) (entries : List (List ℕ × Entry)) → IsCovered s → PlansCover (set_actor a (record { regions = (s.plans a).regions; entries = entries }) s.plans) s.changed s.plain.live s.plain.tables s.snapshots s.plain.snapshots
list_plans a s entries k = record { at = λ w job j. same_plan job w (s.plans w) (set_actor a (record { regions = (s.plans a).regions; entries = entries }) s.plans w) (s.changed w) s.plain.live s.plain.tables s.snapshots s.plain.snapshots (same w) (k.plans.at w job j) }
  where
    same : (w : ℕ) → (s.plans w).regions ≡ (set_actor a (record { regions = (s.plans a).regions; entries = entries }) s.plans w).regions
    same w = (elim (w == a) as (λ b. w == a ≡ b → (s.plans w).regions ≡ (cond b (record { regions = (s.plans a).regions; entries = entries }) (s.plans w)).regions) [
      | true ↦ λ d. ap (λ v. (s.plans v).regions) (same_number w a d)
      | false ↦ λ d. refl
    ]) refl

-- ---- a change of a table

done_name : {P : Type 0} (table t : List ℕ) (f : List ℕ → Bool) → t ≡ table → set_name table true f t ≡ false → P
done_name table t f e c = let z : true ≡ false = sym (ap (λ b. cond b true (f t)) (ap (λ x. same_bytes x table) e ∙ same_bytes-self table)) ∙ c in absurd (cc)

-- the actor has made its change
own_changed : (job : Job) (change : Event) (table : List ℕ) (a : ℕ) (s : Parts) (tables : Names PlainTable) → IsChange (Some job) change table a s → PlanCovers job a no_plan (set_name table true (s.changed a)) s.plain.live tables s.snapshots s.plain.snapshots
own_changed (jobs.Create t fs n ks) (event.Create schema regions) table a s tables z = λ c. done_name table t (s.changed a) z.0 c
own_changed (jobs.Split t row) change table a s tables z = λ low high e. absurd (cc)
own_changed (jobs.Clone name t) (event.Clone b u regions) table a s tables z = λ c. done_name table t (s.changed a) z.0 c
own_changed (jobs.Restore name) (event.Restore b regions) table a s tables z = λ t e c. done_name table t (s.changed a) (table_is (get s.plain.snapshots name) t e z.3) c
  where
    table_is : (o : Option PlainSnapshot) (t : List ℕ) → table_in_copy o ≡ Some t → option_map (λ (x : PlainSnapshot). x.schema.table) o ≡ Some table → t ≡ table
    table_is None t e i = absurd (cc)
    table_is (Some x) t e i = some_is (sym e ∙ i)
own_changed (jobs.Create t fs n ks) _ table a s tables z = absurd z
own_changed (jobs.Clone name t) _ table a s tables z = absurd z
own_changed (jobs.Restore name) _ table a s tables z = absurd z
own_changed _ change table a s tables z = tt

change_plans : (change : Event) (table : List ℕ) (a : ℕ) (s : Parts) → IsChange (job_of s.plain.live a) change table a s → IsSound s → IsCovered s
    → PlansCover (set_actor a no_plan s.plans) (set_actor a (set_name table true (s.changed a)) s.changed) s.plain.live (tables_on change s.plain.snapshots s.plain.tables) s.snapshots s.plain.snapshots
change_plans change table a s z h k = record {
  at = λ w job j. (elim (w == a) as (λ b. w == a ≡ b → PlanCovers job w (cond b no_plan (s.plans w)) (cond b (set_name table true (s.changed a)) (s.changed w)) s.plain.live (tables_on change s.plain.snapshots s.plain.tables) s.snapshots s.plain.snapshots) [
    | true ↦ λ d. let e = same_number w a d in
        subst (λ v. PlanCovers job v no_plan (set_name table true (s.changed a)) s.plain.live (tables_on change s.plain.snapshots s.plain.tables) s.snapshots s.plain.snapshots) (sym e)
        (own_changed job change table a s _ (subst (λ o. IsChange o change table a s) (ap (job_of s.plain.live) (sym e) ∙ j) z))
    | false ↦ λ d. plan_on job w (s.plans w) (s.changed w) s.plain.live s.plain.live s.plain.tables _ s.snapshots s.snapshots s.plain.snapshots s.plain.snapshots
        (record { held = λ y x. x; listed = λ i x y. listed_stays change table a w s i false z h (not_actor w a d) x y; used = λ name x u e. e; copied = λ name t u e. e }) (k.plans.at w job j)
  ]) refl;
}

-- ---- a snapshot is completed or deleted

snapshot_plans : (s : Parts) (next : Names Snapshot) (later : Names PlainSnapshot) → IsCovered s → ((w : ℕ) (job : Job) (name : List ℕ) → job_of s.plain.live w ≡ Some job → used_by job ≡ Some name → (get next name ≡ get s.snapshots name) × (get later name ≡ get s.plain.snapshots name))
    → PlansCover s.plans s.changed s.plain.live s.plain.tables next later
snapshot_plans s next later k f = record {
  at = λ w job j. plan_on job w (s.plans w) (s.changed w) s.plain.live s.plain.live s.plain.tables s.plain.tables s.snapshots next s.plain.snapshots later
      (record { held = λ y x. x; listed = λ i x y. y; used = λ name x u e. (f w job name j u).0 ∙ e; copied = λ name t u e. ap table_in_copy (sym (f w job name j u).1) ∙ e }) (k.plans.at w job j);
}

-- a used snapshot is another than one that is missing
used_other : (s : Parts) (w : ℕ) (job : Job) (n name : List ℕ) → IsSound s → job_of s.plain.live w ≡ Some job → used_by job ≡ Some n → get s.snapshots name ≡ None → same_bytes n name ≡ false
used_other s w job n name h j u m = (elim (same_bytes n name) as (λ b. same_bytes n name ≡ b → b ≡ false) [
  | true ↦ λ d. let z : false ≡ true = sym (ap is_some (ap (get s.snapshots) (same_bytes-true n name d) ∙ m)) ∙ used_there s w job n h j u in absurd (cc)
  | false ↦ λ d. refl
]) refl

completed_other : (o : Option Job) (captures : RegionKey → Option RegionCopy) (tables : Names PlainTable) (copies : Names PlainSnapshot) (t name n : List ℕ) → o ≡ Some (jobs.Snapshot t name) → same_bytes n name ≡ false → get (completed o captures tables copies) n ≡ get copies n
completed_other o captures tables copies t name n e d = ap (λ q. get (completed q captures tables copies) n) e ∙ by_table (get tables t)
  where
    by_table : (q : Option PlainTable) → get (with_snapshot name captures q copies) n ≡ get copies n
    by_table None = refl
    by_table (Some x) = put_other copies name _ n d

-- nobody deletes a snapshot that is used
used_kept : (s : Parts) (a w : ℕ) (job : Job) (n name : List ℕ) → IsSound s → HasHold s.plain.live a (holds.Erase name) → job_of s.plain.live w ≡ Some job → used_by job ≡ Some n → same_bytes n name ≡ false
used_kept s a w job n name h x j u = (elim (same_bytes n name) as (λ b. same_bytes n name ≡ b → b ≡ false) [
  | true ↦ λ d.
      let v = job_found s.plain.live w job j in
      let y : HasHold s.plain.live w (holds.Use n) = record { activity = v.0; at_work = v.1; held = h.uses.at v.0 n (member-find _ s.plain.live v.0 v.1) (ap used_by v.2 ∙ u) } in
      let z : true ≡ false = sym (same_bytes-self name) ∙ ap (same_bytes name) (sym (same_bytes-true n name d)) ∙ holds_apart s.plain.live a w (holds.Erase name) (holds.Use n) h.apart x y (λ e. own_erase (subst (λ q. HasHold s.plain.live q (holds.Erase name)) e x) y) in absurd (cc)
  | false ↦ λ d. refl
]) refl
  where
    apart : (g : Job) → FitsJob (holds.Erase name) g → FitsJob (holds.Use n) g → ⊥
    apart (jobs.DeleteSnapshot m) p q = q
    apart _ p q = p

    own_erase : HasHold s.plain.live w (holds.Erase name) → HasHold s.plain.live w (holds.Use n) → ⊥
    own_erase p q = apart p.activity.job (hold_fits s.plain.live w (holds.Erase name) h.fits p) (subst (FitsJob (holds.Use n)) (some_is (sym (hold_job s.plain.live w (holds.Use n) q) ∙ hold_job s.plain.live w (holds.Erase name) p)) (hold_fits s.plain.live w (holds.Use n) h.fits q))

-- ---- all steps

plans_by_step : (p : Step) (s : Parts) → Allows p s → IsSound s → IsSound (after p s) → IsCovered s → CoverBy p s
plans_by_step (step.Start who job (started.Live actor) drawn) s a h n k = start_plans job actor drawn s a h k (λ name x. n.held.used actor.0 name x)
plans_by_step (step.End actor refusal) s a h n k = end_plans actor.0 s k
plans_by_step (step.Abandon actor) s a h n k = end_plans actor.0 s k
plans_by_step (step.CommitList actor region number name reason list cells more) s a h n k = list_plans actor.0 s ((s.plans actor.0).entries ++ more) k
plans_by_step (step.CommitRegions actor table number name set change) s a h n k =
    subst (PlansCover (set_actor actor.0 no_plan s.plans) (set_actor actor.0 (set_name table true (s.changed actor.0)) s.changed) s.plain.live (tables_on change s.plain.snapshots s.plain.tables) s.snapshots) (sym (change_snapshots (job_of s.plain.live actor.0) change table actor.0 s a.is_change))
    (change_plans change table actor.0 s a.is_change h k)
plans_by_step (step.Complete actor name copied) s a h n k = snapshot_plans s (insert s.snapshots name copied) _ k (λ w job m j u. let d = used_other s w job m name h j u a.missing in (
  put_other s.snapshots name copied m d,
  completed_other (job_of s.plain.live actor.0) (s.plain.captures actor.0) s.plain.tables s.plain.snapshots a.table name m (hold_job s.plain.live actor.0 _ a.take ∙ ap Some (take_job name a.table _ (hold_fits s.plain.live actor.0 _ h.fits a.take))) d,
))
plans_by_step (step.Uncomplete actor name) s a h n k = snapshot_plans s (remove s.snapshots name) (remove s.plain.snapshots name) k (λ w job m j u. let d = used_kept s actor.0 w job m name h a.erase j u in (taken_other s.snapshots name m d, taken_other s.plain.snapshots name m d))
plans_by_step _ s a h n k = k.plans

-- ---- the regions that a janitor holds

start_held : (job : Job) (actor : Actor) (drawn : Drawn) (s : Parts) → CanStart job (started.Live actor) drawn s → IsSound s → IsCovered s → HeldAreSplit s.changed (with_new job actor drawn s) s.plain.tables
start_held job actor drawn s a h k = record {
  at = λ w r j x c.
      let y = job_found (with_new job actor drawn s) w jobs.Janitor j in
      elim (found_joined s.plain.live (record { actor = actor; job = job; holds = drawn.holds }) w y.0 y.1) [
        | inl e ↦ k.held.at w r (found_job s.plain.live w y.0 jobs.Janitor e y.2) (record { activity = y.0; at_work = e; held = subst (λ (l : Live). Member (holds.Region r) l.holds) (some_is (sym x.at_work ∙ y.1)) x.held }) c
        | inr e ↦ janitor_new job (ap (λ (l : Live). l.job) e.1 ∙ y.2) a r (subst (λ (l : Live). Member (holds.Region r) l.holds) (some_is (sym x.at_work ∙ y.1) ∙ sym e.1) x.held)
      ];
}
  where
    janitor_new : (g : Job) → g ≡ jobs.Janitor → CanStart g (started.Live actor) drawn s → (r : RegionKey) → Member (holds.Region r) drawn.holds → (i : RegionInfo) × (key_of i ≡ r) × IsListed s.plain.tables i true
    janitor_new g e b r m = janitor_holds actor drawn s (subst (λ q. CanStart q (started.Live actor) drawn s) e b) h r m

end_held : (a : ℕ) (s : Parts) → IsCovered s → HeldAreSplit (set_actor a (λ t. false) s.changed) (without a s.plain.live) s.plain.tables
end_held a s k = record {
  at = λ w r j x c. k.held.at w r (job_before s.plain.live a w jobs.Janitor j) (hold_left s.plain.live w a (holds.Region r) x)
      (subst (λ b. cond b (λ t. false) (s.changed w) r.table ≡ false) (other_left s.plain.live a w jobs.Janitor j) c);
}

other_name : (table t : List ℕ) (f : List ℕ → Bool) → set_name table true f t ≡ false → (same_bytes t table ≡ false) × (f t ≡ false)
other_name table t f c = cond_cases (same_bytes t table) true (f t) false c (λ d i. absurd (cc)) (λ d i. (d, i))

change_held : (change : Event) (table : List ℕ) (a : ℕ) (s : Parts) → IsChange (job_of s.plain.live a) change table a s → IsSound s → IsCovered s
    → HeldAreSplit (set_actor a (set_name table true (s.changed a)) s.changed) s.plain.live (tables_on change s.plain.snapshots s.plain.tables)
change_held change table a s z h k = record {
  at = λ w r j x c. (elim (w == a) as (λ b. w == a ≡ b → cond b (set_name table true (s.changed a)) (s.changed w) r.table ≡ false → (i : RegionInfo) × (key_of i ≡ r) × IsListed (tables_on change s.plain.snapshots s.plain.tables) i true) [
    | true ↦ λ d q.
        let v = other_name table r.table (s.changed a) q in
        let y = k.held.at w r j x (ap (λ u. s.changed u r.table) (same_number w a d) ∙ v.1) in
        let t : same_bytes y.0.table table ≡ false = ap (λ (u : RegionKey). same_bytes u.table table) y.1 ∙ v.0 in
        (y.0, y.1, record { table = y.2.table; stands = other_table (job_of s.plain.live a) change table a s y.0.table z t ∙ y.2.stands; listed = y.2.listed })
    | false ↦ λ d q.
        let y = k.held.at w r j x q in
        (y.0, y.1, listed_stays change table a w s y.0 true z h (not_actor w a d) (subst (λ u. HasHold s.plain.live w (holds.Region u)) (sym y.1) x) y.2)
  ]) refl c;
}

held_by_step : (p : Step) (s : Parts) → Allows p s → IsSound s → IsCovered s → HeldAreSplit (changed_by p s.changed) (live_by p s.plain.live) (tables_by p s.plain.snapshots s.plain.tables)
held_by_step (step.Start who job (started.Live actor) drawn) s a h k = start_held job actor drawn s a h k
held_by_step (step.End actor refusal) s a h k = end_held actor.0 s k
held_by_step (step.Abandon actor) s a h k = end_held actor.0 s k
held_by_step (step.CommitRegions actor table number name set change) s a h k = change_held change table actor.0 s a.is_change h k
held_by_step _ s a h k = k.held

pub plans_kept : (p : Step) (s : Parts) → Allows p s → IsSound s → IsSound (after p s) → IsCovered s → CoverBy p s × HeldAreSplit (changed_by p s.changed) (live_by p s.plain.live) (tables_by p s.plain.snapshots s.plain.tables)
plans_kept p s a h n k = (plans_by_step p s a h n k, held_by_step p s a h k)
