-- Each step keeps that what is planned is what the plain machine will make.
use Rattle.std.proofs.lemmas.Bool.Decides.{nat_tests}
use Rattle.std.proofs.Common.{arith, ◌≡◌, ◌≢◌, ℕ, ◌+◌, ◌==◌, true, false, cond, List, [], ◌∷◌, ◌++◌, Option, Some, None, refl, sym, ap, ◌∙◌, subst, inl, inr}
use Rattle.std.specs.Prelude.{map, option_map, option_to_list, zip, is_some, IsSome}
use Rattle.std.specs.List.{AllZip, AllByRecursion}
use Rattle.std.specs.FinMap.{get}
use Rattle.std.proofs.lemmas.List.{append-nil, map-append}
use Rattle.hb_cell.specs.declared.cell.Cell.{Cell}
use Rattle.hb_layout.specs.declared.base.Base.{Base}
use Rattle.hb_records.specs.declared.region_info.RegionInfo.{RegionInfo}
use Rattle.region_set.specs.declared.region_set.RegionSet.{RegionSet}
use Rattle.plain_model.specs.declared.event.Event.{Event}
use Rattle.plain_model.specs.declared.hold.Hold.{Hold}
use Rattle.plain_model.specs.declared.hold.Hold.TheVariants as holds
use Rattle.plain_model.specs.declared.job.Job.{Job}
use Rattle.plain_model.specs.declared.job.Job.TheVariants as jobs
use Rattle.plain_model.specs.declared.parts.Live.{Live}
use Rattle.plain_model.specs.declared.parts.PlainTable.{PlainTable}
use Rattle.plain_model.specs.declared.region_key.RegionKey.{RegionKey}
use Rattle.plain_model.specs.declared.reply.Reply.TheVariants as replies
use Rattle.plain_model.specs.declared.who.Actor.{Actor}
use Rattle.plain_model.specs.CellEvents.{each_with}
use Rattle.plain_model.specs.Conflicts.{excludes}
use Rattle.plain_model.specs.Found.{region_with}
use Rattle.plain_model.specs.Keys.{key_of, encoded, same_key, set_at, set_each}
use Rattle.plain_model.specs.LiveEvents.{live_of, job_of, without}
use Rattle.plain_model.specs.Names.{Names}
use Rattle.plain_model.specs.Replies.{refusals}
use Rattle.plain_model.specs.TableEvents.{tables_on}
use Rattle.cell_sight.specs.Member.{Member}
use Rattle.core_model.specs.declared.entry.Entry.{Entry}
use Rattle.core_model.specs.declared.entry.Entry.TheVariants.{Own}
use Rattle.core_model.specs.declared.plan.Plan.{Plan}
use Rattle.core_model.specs.declared.region_files.RegionFiles.{RegionFiles}
use Rattle.core_model.specs.declared.snapshot.Snapshot.{Snapshot}
use Rattle.core_model.specs.declared.targets.Why.{Why}
use Rattle.core_model.specs.declared.targets.Why.TheVariants as why
use Rattle.core_model.specs.declared.step.Drawn.{Drawn}
use Rattle.core_model.specs.declared.step.Started.TheVariants as started
use Rattle.core_model.specs.declared.step.Step.{Step}
use Rattle.core_model.specs.declared.step.Step.TheVariants as step
use Rattle.core_model.specs.ActorChanges.{plans_by}
use Rattle.core_model.specs.ActorFacts.{FitsJob, used_by}
use Rattle.core_model.specs.Actors.{HasHold, IsRegion, MayFlush, commits_table, commits_region, commits_flush}
use Rattle.core_model.specs.Allows.{Allows}
use Rattle.core_model.specs.Entries.{is_half, no_list}
use Rattle.core_model.specs.FileChanges.{lists_by, snapshots_by}
use Rattle.core_model.specs.Keys.{set_actor}
use Rattle.core_model.specs.ListGuards.{AllowsList, Flushes}
use Rattle.core_model.specs.LiveChanges.{live_by}
use Rattle.core_model.specs.Plans as plans
use Rattle.core_model.specs.Plans.{planned_for, half_of}
use Rattle.core_model.specs.Replay.{after}
use Rattle.core_model.specs.Sound.{IsSound}
use Rattle.core_model.specs.StartGuards.{CanStart, IsTaken, by_new, regions_for}
use Rattle.core_model.specs.State.{Parts, no_plan}
use Rattle.core_model.specs.TableChanges.{tables_by}
use Rattle.core_sound.proofs.HoldsFound.{hold_fits, hold_job, holds_apart, hold_joined, hold_left, some_is}
use Rattle.core_sound.proofs.Lists.{get-put, get-taken, member-behind}
use Rattle.core_sound.proofs.LiveKept.{live_after, find-front, find-without, hold_front, hold_without}
use Rattle.core_sound.proofs.NeverAgain.{tables_after}
use Rattle.core_sound.proofs.NumbersKept.{new_found}
use Rattle.core_sound.proofs.RegionsStay.{region_stays}
use Rattle.core_sound.proofs.Sources.{row_region}
use Rattle.core_sound.proofs.Tests.{same_bytes-self, same_number, same_key-true}
use Rattle.core_sound.proofs.Vacant.{each-cases, drawn_out, same_key-self, not_taken, holds_not, split_refuse}
use Rattle.core_contents.specs.Faithful.{IsFaithful}
use Rattle.core_contents.specs.PlanFacts.{SplitPlan, Splits, CopyPlan, IsPlan, PlansExact}
use Rattle.core_contents.proofs.Changed.{used_there}
use Rattle.core_contents.proofs.PlannedFor.{planned-append, planned-own, planned-other, copies-plan, as_many, distinct, copied_table}
use Rattle.core_contents.proofs.Tools.{set_here}

abbrev Lists : Type 0
Lists = RegionKey → RegionFiles

-- ---- a plan, when the state goes on

-- what a plan is of stays
record Stays (o : Option Job) (a : ℕ) (live more : List Live) (tables others : Names PlainTable) (snapshots copies : Names Snapshot) (lists next : Lists) : Type 0 where
  held : (h : Hold) → HasHold live a h → HasHold more a h
  back : (h : Hold) → HasHold more a h → HasHold live a h
  used : (job : Job) (name : List ℕ) → o ≡ Some job → used_by job ≡ Some name → (x : Snapshot) → get copies name ≡ Some x → get snapshots name ≡ Some x
  set : (r : RegionKey) → HasHold live a (holds.Region r) → IsRegion tables r → IsRegion others r
  listed : (r : RegionKey) → HasHold live a (holds.Region r) → IsRegion tables r → (lists r).entries ≡ (next r).entries

halves_on : (plan : Plan) (parent : RegionKey) (row : List ℕ) (list next : RegionFiles) → list.entries ≡ next.entries → SplitPlan plan parent row list → SplitPlan plan parent row next
halves_on plan parent row list next e g = record {
  low = g.low;
  high = g.high;
  regions = g.regions;
  differ = g.differ;
  border = g.border;
  whole = subst (AllByRecursion (λ x. is_half x ≡ false)) e g.whole;
  low_entries = g.low_entries ∙ ap (map (half_of parent.region row false)) e;
  high_entries = g.high_entries ∙ ap (map (half_of parent.region row true)) e;
}

plan_on : (o : Option Job) (a : ℕ) (plan : Plan) (live more : List Live) (tables others : Names PlainTable) (snapshots copies : Names Snapshot) (lists next : Lists) → Stays o a live more tables others snapshots copies lists next
    → IsPlan o a plan live tables snapshots lists → IsPlan o a plan more others copies next
plan_on (Some (jobs.Create t fs n ks)) a plan live more tables others snapshots copies lists next k p = p
plan_on (Some (jobs.Split t row)) a plan live more tables others snapshots copies lists next k p = record {
  parent = p.parent;
  held = k.held _ p.held;
  alone = λ r x. p.alone r (k.back _ x);
  there = k.set p.parent p.held p.there;
  halves = halves_on plan p.parent row (lists p.parent) (next p.parent) (k.listed p.parent p.held p.there) p.halves;
}
plan_on (Some (jobs.Clone name t)) a plan live more tables others snapshots copies lists next k p = λ x e. p x (k.used (jobs.Clone name t) name refl refl x e)
plan_on (Some (jobs.Restore name)) a plan live more tables others snapshots copies lists next k p = λ x e. p x (k.used (jobs.Restore name) name refl refl x e)
plan_on _ a plan live more tables others snapshots copies lists next k p = tt

some_live : (o : Option Live) → IsSome o → (l : Live) × (o ≡ Some l)
some_live None e = absurd (cc)
some_live (Some l) e = (l, refl)

pub planned_live : (s : Parts) (w : ℕ) (is : List RegionInfo) → (s.plans w).regions ≡ is → is ≢ [] → IsSound s → (l : Live) × (live_of s.plain.live w ≡ Some l)
planned_live s w [] e n h = absurd (n refl)
planned_live s w (i ∷ is) e n h = some_live (live_of s.plain.live w) (h.once.by_live w i (subst (Member i) (sym e) (inl refl)))

pub not_actor : (w a : ℕ) → w == a ≡ false → a ≡ w → ⊥
not_actor w a d e = grind (arith, nat_tests)

-- ---- a start

untaken : (job : Job) (actor : Actor) (drawn : Drawn) (s : Parts) → CanStart job (started.Live actor) drawn s → (i : RegionInfo) → Member i (regions_for job s) → IsTaken s.disk s.drawn s.plain (regions_for job s) → ⊥
untaken job actor drawn s a i m t = let z : true ≡ false = sym (a.are_files.name_taken.1 t) ∙ not_taken job a.files s.plain (plans.region_id s.epoch (s.ids + 1)) s.snapshots a.answered.0 i m in absurd (cc)

-- the new actor, where it stands among the live ones
abbrev started_as : Job → Actor → Drawn → Live
started_as job actor drawn = record { actor = actor; job = job; holds = drawn.holds }

abbrev with_new : Job → Actor → Drawn → Parts → List Live
with_new job actor drawn s = s.plain.live ++ started_as job actor drawn ∷ []

new_hold : (job : Job) (actor : Actor) (drawn : Drawn) (s : Parts) → CanStart job (started.Live actor) drawn s → IsSound s → (x : Hold) → Member x drawn.holds → HasHold (with_new job actor drawn s) actor.0 x
new_hold job actor drawn s a h x m = record { activity = started_as job actor drawn; at_work = new_found s (started_as job actor drawn) a.answered.1.number h; held = m }

new_held : (job : Job) (actor : Actor) (drawn : Drawn) (s : Parts) → CanStart job (started.Live actor) drawn s → IsSound s → (x : Hold) → HasHold (with_new job actor drawn s) actor.0 x → Member x drawn.holds
new_held job actor drawn s a h x k = subst (λ (l : Live). Member x l.holds) (some_is (sym k.at_work ∙ new_found s (started_as job actor drawn) a.answered.1.number h)) k.held

split-hold : (o : Option RegionInfo) (r : RegionInfo) → o ≡ Some r → Member (holds.Region (key_of r)) (map holds.Region (option_to_list (option_map key_of o)))
split-hold None r e = absurd (cc)
split-hold (Some q) r e = inl (ap (λ (x : RegionInfo). holds.Region (key_of x)) (some_is e))

one-hold : (o : Option RegionInfo) (r : RegionInfo) (q : RegionKey) → o ≡ Some r → Member (holds.Region q) (map holds.Region (option_to_list (option_map key_of o))) → q ≡ key_of r
one-hold None r q e m = absurd m
one-hold (Some p) r q e (inl k) = sym (region_is k) ∙ ap key_of (some_is e)
  where
    region_is : {x y : RegionKey} → holds.Region x ≡ holds.Region y → x ≡ y
    region_is e = (cc)
one-hold (Some p) r q e (inr m) = absurd m

-- no entry of the list of a region that is to be split is a half
no_half : (t row : List ℕ) (actor : Actor) (drawn : Drawn) (s : Parts) (r : RegionInfo) → CanStart (jobs.Split t row) (started.Live actor) drawn s → region_with s.plain t row ≡ Some r
    → (es : List Entry) → ((e : Entry) → Member e es → Member e (s.lists (key_of r)).entries) → AllByRecursion (λ e. is_half e ≡ false) es
no_half t row actor drawn s r a e [] f = tt
no_half t row actor drawn s r a e (x ∷ xs) f = (
  (elim (is_half x) as (λ b. is_half x ≡ b → is_half x ≡ false) [
    | true ↦ λ d. (let z : true ≡ false = sym (a.are_files.has_references.1 (record { table = t; row = row; splits = refl; region = key_of r; holds = ap (option_map key_of) e; entry = x; listed = f x (inl refl); half = d }))
        ∙ holds_not a.files.has_references replies.HasReferences (refusals a.files s.plain (jobs.Split t row)) (split_refuse a.files s.plain t row) a.answered.0 (inr (inr (inr (inl refl)))) in absurd (cc))
    | false ↦ λ d. d
  ]) refl,
  no_half t row actor drawn s r a e xs (λ y m. f y (inr m)),
)

-- the lists of regions that stand are not made anew
undrawn : (job : Job) (actor : Actor) (drawn : Drawn) (s : Parts) → CanStart job (started.Live actor) drawn s → (r : RegionKey) → IsRegion s.plain.tables r → (s.lists r).entries ≡ (set_each (each_with no_list drawn.regions) s.lists r).entries
undrawn job actor drawn s a r i = each-cases (λ (l : RegionFiles). (s.lists r).entries ≡ l.entries) no_list drawn.regions s.lists r (λ j n k. absurd (drawn_out job actor drawn s a j n (subst (IsRegion s.plain.tables) (sym k) i))) refl

abbrev made_plan : Job → Parts → List RegionInfo → Plan
made_plan job s is = record { regions = is; entries = plans.planned_entries job is s.plain s.snapshots s.lists }

split_plan : (t row : List ℕ) (actor : Actor) (drawn : Drawn) (s : Parts) (o : Option RegionInfo) → CanStart (jobs.Split t row) (started.Live actor) drawn s → IsSound s → region_with s.plain t row ≡ o
    → plans.daughters t (plans.region_id s.epoch (s.ids + 1)) row o ≢ []
    → Splits actor.0 (record { regions = plans.daughters t (plans.region_id s.epoch (s.ids + 1)) row o; entries = plans.split_entries (plans.daughters t (plans.region_id s.epoch (s.ids + 1)) row o) row o s.lists }) row (with_new (jobs.Split t row) actor drawn s) s.plain.tables s.lists
split_plan t row actor drawn s None a h e n = absurd (n refl)
split_plan t row actor drawn s (Some r) a h e n = record {
  parent = key_of r;
  held = new_hold (jobs.Split t row) actor drawn s a h (holds.Region (key_of r)) (subst (Member (holds.Region (key_of r))) (sym a.holds) (split-hold (region_with s.plain t row) r e));
  alone = λ q k. one-hold (region_with s.plain t row) r q e (subst (Member (holds.Region q)) a.holds (new_held (jobs.Split t row) actor drawn s a h (holds.Region q) k));
  there = row_region s.plain t row r h.own_regions e;
  halves = record {
    low = low;
    high = high;
    regions = refl;
    differ = differ;
    border = refl;
    whole = no_half t row actor drawn s r a e es (λ x m. m);
    low_entries = planned-append (plans.in_region low lows) (plans.in_region high highs) (key_of low) ∙ ap (λ xs. xs ++ planned_for (plans.in_region high highs) (key_of low)) (planned-own low lows)
        ∙ ap (λ xs. lows ++ xs) (planned-other high highs (key_of low) (λ k. differ (sym k))) ∙ append-nil lows;
    high_entries = planned-append (plans.in_region low lows) (plans.in_region high highs) (key_of high) ∙ ap (λ xs. xs ++ planned_for (plans.in_region high highs) (key_of high)) (planned-other low lows (key_of high) differ) ∙ planned-own high highs;
  };
}
  where
    id : ℕ
    id = plans.region_id s.epoch (s.ids + 1)

    low : RegionInfo
    low = plans.region_of t id r.start (Some row)

    high : RegionInfo
    high = plans.region_of t (id + 1) row r.end

    es : List Entry
    es = (s.lists (key_of r)).entries

    lows : List Entry
    lows = map (half_of (encoded r) row false) es

    highs : List Entry
    highs = map (half_of (encoded r) row true) es

    two : regions_for (jobs.Split t row) s ≡ low ∷ high ∷ []
    two = ap (plans.daughters t id row) e

    differ : encoded low ≢ encoded high
    differ k = untaken (jobs.Split t row) actor drawn s a low (subst (Member low) (sym two) (inl refl)) (by_new [] [] [] low high two (λ i. record { table = t; region = k i }))

copy_plan : (name : List ℕ) (job : Job) (t : List ℕ) (actor : Actor) (drawn : Drawn) (s : Parts) (x : Snapshot) (o : Option Snapshot) → CanStart job (started.Live actor) drawn s → o ≡ Some x
    → regions_for job s ≡ plans.copied_regions t (plans.region_id s.epoch (s.ids + 1)) (plans.regions_in o)
    → AllZip (CopyPlan (record { regions = plans.copied_regions t (plans.region_id s.epoch (s.ids + 1)) (plans.regions_in o); entries = plans.copies_in (zip (plans.copied_regions t (plans.region_id s.epoch (s.ids + 1)) (plans.regions_in o)) (plans.regions_in o)) }))
    (plans.copied_regions t (plans.region_id s.epoch (s.ids + 1)) (plans.regions_in o)) x.regions
copy_plan name job t actor drawn s x None a e k = absurd (cc)
copy_plan name job t actor drawn s x (Some y) a e k = subst (λ (z : Snapshot). AllZip (CopyPlan (record { regions = is; entries = plans.copies_in (zip is y.regions) })) is z.regions) (some_is e)
    (copies-plan _ [] is y.regions refl (λ j m. refl)
    (distinct t is (λ i m. copied_table t _ y.regions i m) (λ before between behind r q f d. untaken job actor drawn s a r (subst (Member r) (sym (k ∙ f)) (member-behind r before (r ∷ between ++ (q ∷ behind)) (inl refl))) (by_new before between behind r q (k ∙ f) d)))
    (as_many t _ y.regions))
  where
    is : List RegionInfo
    is = plans.copied_regions t (plans.region_id s.epoch (s.ids + 1)) y.regions

new_plan : (job : Job) (actor : Actor) (drawn : Drawn) (s : Parts) → CanStart job (started.Live actor) drawn s → IsSound s → regions_for job s ≢ []
    → IsPlan (Some job) actor.0 (made_plan job s (regions_for job s)) (with_new job actor drawn s) s.plain.tables s.snapshots s.lists
new_plan (jobs.Create t fs n ks) actor drawn s a h k = refl
new_plan (jobs.Split t row) actor drawn s a h k = split_plan t row actor drawn s (region_with s.plain t row) a h refl k
new_plan (jobs.Clone name t) actor drawn s a h k = λ x e. copy_plan name (jobs.Clone name t) t actor drawn s x (get s.snapshots name) a e refl
new_plan (jobs.Restore name) actor drawn s a h k = λ x e. copy_plan name (jobs.Restore name) (plans.table_in (get s.snapshots name)) actor drawn s x (get s.snapshots name) a e refl
new_plan _ actor drawn s a h k = tt

start_exact : (job : Job) (actor : Actor) (drawn : Drawn) (s : Parts) → CanStart job (started.Live actor) drawn s → IsSound s → IsFaithful s
    → PlansExact (set_actor actor.0 drawn.plan s.plans) (with_new job actor drawn s) s.plain.tables s.snapshots (set_each (each_with no_list drawn.regions) s.lists)
start_exact job actor drawn s a h f = record {
  at = λ w n. (elim (w == actor.0) as (λ b. w == actor.0 ≡ b → (cond b drawn.plan (s.plans w)).regions ≢ [] → IsPlan (job_of more w) w (cond b drawn.plan (s.plans w)) more s.plain.tables s.snapshots next) [
    | true ↦ λ d k. subst (λ v. IsPlan (job_of more v) v drawn.plan more s.plain.tables s.snapshots next) (sym (same_number w actor.0 d))
        (subst (λ o. IsPlan o actor.0 drawn.plan more s.plain.tables s.snapshots next) (sym (ap (option_map (λ (l : Live). l.job)) (new_found s (started_as job actor drawn) a.answered.1.number h)))
        (plan_on (Some job) actor.0 drawn.plan more more s.plain.tables s.plain.tables s.snapshots s.snapshots s.lists next (record {
          held = λ y z. z;
          back = λ y z. z;
          used = λ j name i u x e. e;
          set = λ r z i. i;
          listed = λ r z i. undrawn job actor drawn s a r i;
        }) (subst (λ v. IsPlan (Some job) actor.0 v more s.plain.tables s.snapshots s.lists) (sym a.answered.1.plan) (new_plan job actor drawn s a h (subst (λ (v : Plan). v.regions ≢ []) a.answered.1.plan k)))))
    | false ↦ λ d k.
        let l = planned_live s w (s.plans w).regions refl k h in
        subst (λ o. IsPlan o w (s.plans w) more s.plain.tables s.snapshots next) (ap (option_map (λ (x : Live). x.job)) (l.1 ∙ sym (find-front _ s.plain.live _ l.0 l.1)))
        (plan_on (job_of s.plain.live w) w (s.plans w) s.plain.live more s.plain.tables s.plain.tables s.snapshots s.snapshots s.lists next (record {
          held = λ y z. hold_front s.plain.live _ w y z;
          back = λ y z. elim (hold_joined s.plain.live (started_as job actor drawn) w y z) [ inl q ↦ q | inr q ↦ absurd (not_actor w actor.0 d q.0) ];
          used = λ j name i u x e. e;
          set = λ r z i. i;
          listed = λ r z i. undrawn job actor drawn s a r i;
        }) (f.exact.at w k))
  ]) refl n;
}
  where
    more : List Live
    more = with_new job actor drawn s

    next : Lists
    next = set_each (each_with no_list drawn.regions) s.lists

-- ---- an end

end_exact : (a : ℕ) (s : Parts) → IsSound s → IsFaithful s → PlansExact (set_actor a no_plan s.plans) (without a s.plain.live) s.plain.tables s.snapshots s.lists
end_exact a s h f = record {
  at = λ w n. (elim (w == a) as (λ b. w == a ≡ b → (cond b no_plan (s.plans w)).regions ≢ [] → IsPlan (job_of (without a s.plain.live) w) w (cond b no_plan (s.plans w)) (without a s.plain.live) s.plain.tables s.snapshots s.lists) [
    | true ↦ λ d k. absurd (k refl)
    | false ↦ λ d k.
        let l = planned_live s w (s.plans w).regions refl k h in
        subst (λ o. IsPlan o w (s.plans w) (without a s.plain.live) s.plain.tables s.snapshots s.lists) (ap (option_map (λ (x : Live). x.job)) (l.1 ∙ sym (find-without w a s.plain.live l.0 d l.1)))
        (plan_on (job_of s.plain.live w) w (s.plans w) s.plain.live (without a s.plain.live) s.plain.tables s.plain.tables s.snapshots s.snapshots s.lists s.lists (record {
          held = λ y z. hold_without s.plain.live w a y d z;
          back = λ y z. hold_left s.plain.live w a y z;
          used = λ j name i u x e. e;
          set = λ r z i. i;
          listed = λ r z i. refl;
        }) (f.exact.at w k))
  ]) refl n;
}

-- ---- a list that is committed

-- holds of two actors that exclude each other
clash : {P : Type 0} (s : Parts) (a w : ℕ) (x y : Hold) → IsSound s → (a ≡ w → ⊥) → excludes x y ≡ true → HasHold s.plain.live a x → HasHold s.plain.live w y → P
clash s a w x y h n e u v = let z : true ≡ false = sym e ∙ holds_apart s.plain.live a w x y h.apart u v n in absurd (cc)

-- nobody commits a list of a region that another holds
pub held_alone : (reason : Why) (a w : ℕ) (r : RegionKey) (l : RegionFiles) (cells : List Cell) (more : List (List ℕ × Entry)) (s : Parts) → AllowsList reason a r l cells more s → IsSound s → w == a ≡ false
    → HasHold s.plain.live w (holds.Region r) → IsRegion s.plain.tables r → ⊥
held_alone why.Flush a w r l cells more s (commits_table x, g) h d y i = clash s a w _ _ h (not_actor w a d) (same_bytes-self r.table) x y
held_alone why.Flush a w r l cells more s (commits_region x, g) h d y i = clash s a w _ _ h (not_actor w a d) (same_key-self r) x y
held_alone why.Flush a w r l cells more s (commits_flush x, g) h d y i = clash s w a (holds.Region r) (holds.Flush r) h (λ e. not_actor w a d (sym e)) (same_key-self r) y x
held_alone why.Capture a w r l cells more s g h d y i = clash s w a (holds.Region r) (holds.Take g.snapshot r.table) h (λ e. not_actor w a d (sym e)) (same_bytes-self r.table) y g.take
held_alone (why.Compact major) a w r l cells more s g h d y i = clash s w a (holds.Region r) (holds.Compact r) h (λ e. not_actor w a d (sym e)) (same_key-self r) y g.held
held_alone why.Bulk a w r l cells more s g h d y i = clash s w a (holds.Region r) (holds.Load r.table) h (λ e. not_actor w a d (sym e)) (same_bytes-self r.table) y g.held
held_alone why.Build a w r l cells more s g h d y i = g.out i

-- a split's actor holds regions alone
pub split_fits : (s : Parts) (a : ℕ) (t row : List ℕ) (x : Hold) → IsSound s → job_of s.plain.live a ≡ Some (jobs.Split t row) → HasHold s.plain.live a x → FitsJob x (jobs.Split t row)
split_fits s a t row x h j k = subst (FitsJob x) (some_is (sym (hold_job s.plain.live a _ k) ∙ j)) (hold_fits s.plain.live a _ h.fits k)

pub flush_hold : (s : Parts) (a : ℕ) (r : RegionKey) (t row : List ℕ) → IsSound s → job_of s.plain.live a ≡ Some (jobs.Split t row) → MayFlush s.plain.live a r → HasHold s.plain.live a (holds.Region r)
flush_hold s a r t row h j (commits_table x) = absurd (split_fits s a t row _ h j x)
flush_hold s a r t row h j (commits_region x) = x
flush_hold s a r t row h j (commits_flush x) = absurd (split_fits s a t row _ h j x)

abbrev gained : Plan → List (List ℕ × Entry) → Plan
gained p more = record { regions = p.regions; entries = p.entries ++ more }

same_plan : (p : Plan) (more : List (List ℕ × Entry)) → more ≡ [] → gained p more ≡ p
same_plan p more e = ap (λ es. record { regions = p.regions; entries = es }) (ap (λ m. p.entries ++ m) e ∙ append-nil p.entries)

more_none : (o : Option Job) (is : List RegionInfo) (r : RegionKey) (es : List Entry) → ((t row : List ℕ) → o ≡ Some (jobs.Split t row) → ⊥) → plans.more_entries o is r es ≡ []
more_none (Some (jobs.Split t row)) is r es n = absurd (n t row refl)
more_none _ is r es n = refl

pub none_gained : (reason : Why) (a : ℕ) (r : RegionKey) (l : RegionFiles) (cells : List Cell) (more : List (List ℕ × Entry)) (s : Parts) → ((t row : List ℕ) → job_of s.plain.live a ≡ Some (jobs.Split t row) → ⊥) → AllowsList reason a r l cells more s → more ≡ []
none_gained why.Flush a r l cells more s n g = g.1.halves ∙ more_none (job_of s.plain.live a) _ r _ n
none_gained why.Capture a r l cells more s n g = g.flushes.halves ∙ more_none (job_of s.plain.live a) _ r _ n
none_gained (why.Compact major) a r l cells more s n g = g.unplanned
none_gained why.Bulk a r l cells more s n g = g.unplanned
none_gained why.Build a r l cells more s n g = g.unplanned

all-both : (xs ys : List Entry) → AllByRecursion (λ e. is_half e ≡ false) xs → AllByRecursion (λ e. is_half e ≡ false) ys → AllByRecursion (λ e. is_half e ≡ false) (xs ++ ys)
all-both [] ys h k = k
all-both (x ∷ xs) ys h k = (h.0, all-both xs ys h.1 k)

own_whole : (bs : List Base) → AllByRecursion (λ e. is_half e ≡ false) (map Own bs)
own_whole [] = tt
own_whole (b ∷ bs) = (refl, own_whole bs)

-- a split's flush plans the halves of what its region gains
flushed_plan : (plan : Plan) (r : RegionKey) (row : List ℕ) (old list : RegionFiles) (bs : List Base) (more : List (List ℕ × Entry)) → list.entries ≡ old.entries ++ map Own bs → more ≡ plans.halves_in plan.regions r.region row (map Own bs)
    → SplitPlan plan r row old → SplitPlan (gained plan more) r row list
flushed_plan plan r row old list bs more e m g = record {
  low = g.low;
  high = g.high;
  regions = g.regions;
  differ = g.differ;
  border = g.border;
  whole = subst (AllByRecursion (λ x. is_half x ≡ false)) (sym e) (all-both old.entries (map Own bs) g.whole (own_whole bs));
  low_entries = planned-append plan.entries more (key_of g.low) ∙ ap (λ es. es ++ planned_for more (key_of g.low)) g.low_entries ∙ ap (λ es. map (half_of r.region row false) old.entries ++ es) more-low
      ∙ sym (map-append (half_of r.region row false) old.entries (map Own bs)) ∙ ap (map (half_of r.region row false)) (sym e);
  high_entries = planned-append plan.entries more (key_of g.high) ∙ ap (λ es. es ++ planned_for more (key_of g.high)) g.high_entries ∙ ap (λ es. map (half_of r.region row true) old.entries ++ es) more-high
      ∙ sym (map-append (half_of r.region row true) old.entries (map Own bs)) ∙ ap (map (half_of r.region row true)) (sym e);
}
  where
    lows : List Entry
    lows = map (half_of r.region row false) (map Own bs)

    highs : List Entry
    highs = map (half_of r.region row true) (map Own bs)

    both : more ≡ plans.in_region g.low lows ++ plans.in_region g.high highs
    both = m ∙ ap (λ is. plans.halves_in is r.region row (map Own bs)) g.regions

    more-low : planned_for more (key_of g.low) ≡ lows
    more-low = ap (λ es. planned_for es (key_of g.low)) both ∙ planned-append (plans.in_region g.low lows) (plans.in_region g.high highs) (key_of g.low) ∙ ap (λ xs. xs ++ planned_for (plans.in_region g.high highs) (key_of g.low)) (planned-own g.low lows)
        ∙ ap (λ xs. lows ++ xs) (planned-other g.high highs (key_of g.low) (λ k. g.differ (sym k))) ∙ append-nil lows

    more-high : planned_for more (key_of g.high) ≡ highs
    more-high = ap (λ es. planned_for es (key_of g.high)) both ∙ planned-append (plans.in_region g.low lows) (plans.in_region g.high highs) (key_of g.high) ∙ ap (λ xs. xs ++ planned_for (plans.in_region g.high highs) (key_of g.high)) (planned-other g.low lows (key_of g.high) g.differ)
        ∙ planned-own g.high highs

flushed_split : (s : Parts) (a : ℕ) (r : RegionKey) (t row : List ℕ) (l : RegionFiles) (cells : List Cell) (more : List (List ℕ × Entry)) → job_of s.plain.live a ≡ Some (jobs.Split t row) → MayFlush s.plain.live a r → Flushes a r l cells more s → IsSound s
    → Splits a (s.plans a) row s.plain.live s.plain.tables s.lists → Splits a (gained (s.plans a) more) row s.plain.live s.plain.tables (set_at r l s.lists)
flushed_split s a r t row l cells more j m g h p = let k = flush_hold s a r t row h j m in record {
  parent = r;
  held = k;
  alone = λ q x. p.alone q x ∙ sym (p.alone r k);
  there = g.region;
  halves = subst (λ (v : RegionFiles). SplitPlan (gained (s.plans a) more) r row v) (sym (set_here r l s.lists))
      (flushed_plan (s.plans a) r row (s.lists r) l g.added more g.entries (g.halves ∙ ap (λ o. plans.more_entries o (s.plans a).regions r (map Own g.added)) j)
      (subst (λ q. SplitPlan (s.plans a) q row (s.lists q)) (sym (p.alone r k)) p.halves));
}

-- a list that is built is of no region that is split
built_split : (s : Parts) (a : ℕ) (r : RegionKey) (row : List ℕ) (l : RegionFiles) (more : List (List ℕ × Entry)) → (IsRegion s.plain.tables r → ⊥) → more ≡ []
    → Splits a (s.plans a) row s.plain.live s.plain.tables s.lists → Splits a (gained (s.plans a) more) row s.plain.live s.plain.tables (set_at r l s.lists)
built_split s a r row l more out e p = subst (λ v. Splits a v row s.plain.live s.plain.tables (set_at r l s.lists)) (sym (same_plan (s.plans a) more e)) (record {
  parent = p.parent;
  held = p.held;
  alone = p.alone;
  there = p.there;
  halves = halves_on (s.plans a) p.parent row (s.lists p.parent) (set_at r l s.lists p.parent) (other p.parent p.there) p.halves;
})
  where
    other : (q : RegionKey) → IsRegion s.plain.tables q → (s.lists q).entries ≡ (set_at r l s.lists q).entries
    other q i = (elim (same_key q r) as (λ b. same_key q r ≡ b → (s.lists q).entries ≡ (cond b l (s.lists q)).entries) [
      | true ↦ λ d. absurd (out (subst (IsRegion s.plain.tables) (same_key-true q r d) i))
      | false ↦ λ d. refl
    ]) refl

own_split : (reason : Why) (a : ℕ) (r : RegionKey) (t row : List ℕ) (l : RegionFiles) (cells : List Cell) (more : List (List ℕ × Entry)) (s : Parts) → job_of s.plain.live a ≡ Some (jobs.Split t row) → AllowsList reason a r l cells more s → IsSound s
    → Splits a (s.plans a) row s.plain.live s.plain.tables s.lists → Splits a (gained (s.plans a) more) row s.plain.live s.plain.tables (set_at r l s.lists)
own_split why.Flush a r t row l cells more s j g h p = flushed_split s a r t row l cells more j g.0 g.1 h p
own_split why.Capture a r t row l cells more s j g h p = absurd (split_fits s a t row _ h j g.take)
own_split (why.Compact major) a r t row l cells more s j g h p = absurd (split_fits s a t row _ h j g.held)
own_split why.Bulk a r t row l cells more s j g h p = absurd (split_fits s a t row _ h j g.held)
own_split why.Build a r t row l cells more s j g h p = built_split s a r row l more g.out g.unplanned p

own_exact : (o : Option Job) (reason : Why) (a : ℕ) (r : RegionKey) (l : RegionFiles) (cells : List Cell) (more : List (List ℕ × Entry)) (s : Parts) → job_of s.plain.live a ≡ o → AllowsList reason a r l cells more s → IsSound s
    → IsPlan o a (s.plans a) s.plain.live s.plain.tables s.snapshots s.lists → IsPlan o a (gained (s.plans a) more) s.plain.live s.plain.tables s.snapshots (set_at r l s.lists)
own_exact (Some (jobs.Create t fs n ks)) reason a r l cells more s j g h p = ap (λ es. es ++ more) p ∙ none_gained reason a r l cells more s (λ u row k. let z = sym j ∙ k in absurd (cc)) g
own_exact (Some (jobs.Split t row)) reason a r l cells more s j g h p = own_split reason a r t row l cells more s j g h p
own_exact (Some (jobs.Clone name t)) reason a r l cells more s j g h p = λ x e. subst (λ v. AllZip (CopyPlan v) v.regions x.regions) (sym (same_plan (s.plans a) more (none_gained reason a r l cells more s (λ u row k. let z = sym j ∙ k in absurd (cc)) g))) (p x e)
own_exact (Some (jobs.Restore name)) reason a r l cells more s j g h p = λ x e. subst (λ v. AllZip (CopyPlan v) v.regions x.regions) (sym (same_plan (s.plans a) more (none_gained reason a r l cells more s (λ u row k. let z = sym j ∙ k in absurd (cc)) g))) (p x e)
own_exact _ reason a r l cells more s j g h p = tt

commit_exact : (reason : Why) (a : ℕ) (r : RegionKey) (l : RegionFiles) (cells : List Cell) (more : List (List ℕ × Entry)) (s : Parts) → AllowsList reason a r l cells more s → IsSound s → IsFaithful s
    → PlansExact (set_actor a (gained (s.plans a) more) s.plans) s.plain.live s.plain.tables s.snapshots (set_at r l s.lists)
commit_exact reason a r l cells more s g h f = record {
  at = λ w n. (elim (w == a) as (λ b. w == a ≡ b → (cond b (gained (s.plans a) more) (s.plans w)).regions ≢ [] → IsPlan (job_of s.plain.live w) w (cond b (gained (s.plans a) more) (s.plans w)) s.plain.live s.plain.tables s.snapshots (set_at r l s.lists)) [
    | true ↦ λ d k. subst (λ v. IsPlan (job_of s.plain.live v) v (gained (s.plans a) more) s.plain.live s.plain.tables s.snapshots (set_at r l s.lists)) (sym (same_number w a d))
        (own_exact (job_of s.plain.live a) reason a r l cells more s refl g h (f.exact.at a k))
    | false ↦ λ d k. plan_on (job_of s.plain.live w) w (s.plans w) s.plain.live s.plain.live s.plain.tables s.plain.tables s.snapshots s.snapshots s.lists (set_at r l s.lists) (record {
      held = λ y z. z;
      back = λ y z. z;
      used = λ j name i u x e. e;
      set = λ q z i. i;
      listed = λ q z i. (elim (same_key q r) as (λ b. same_key q r ≡ b → (s.lists q).entries ≡ (cond b l (s.lists q)).entries) [
        | true ↦ λ e. let y = same_key-true q r e in absurd (held_alone reason a w r l cells more s g h d (subst (λ (v : RegionKey). HasHold s.plain.live w (holds.Region v)) y z) (subst (IsRegion s.plain.tables) y i))
        | false ↦ λ e. refl
      ]) refl;
    }) (f.exact.at w k)
  ]) refl n;
}

-- ---- a change of regions, and of snapshots

change_exact : (actor : Actor) (table : List ℕ) (number : ℕ) (name : List ℕ) (set : RegionSet) (change : Event) (s : Parts) → Allows (step.CommitRegions actor table number name set change) s → IsSound s → IsFaithful s
    → PlansExact (set_actor actor.0 no_plan s.plans) s.plain.live (tables_on change s.plain.snapshots s.plain.tables) s.snapshots s.lists
change_exact actor table number name set change s a h f = record {
  at = λ w n. (elim (w == actor.0) as (λ b. w == actor.0 ≡ b → (cond b no_plan (s.plans w)).regions ≢ [] → IsPlan (job_of s.plain.live w) w (cond b no_plan (s.plans w)) s.plain.live (tables_on change s.plain.snapshots s.plain.tables) s.snapshots s.lists) [
    | true ↦ λ d k. absurd (k refl)
    | false ↦ λ d k. plan_on (job_of s.plain.live w) w (s.plans w) s.plain.live s.plain.live s.plain.tables _ s.snapshots s.snapshots s.lists s.lists (record {
      held = λ y z. z;
      back = λ y z. z;
      used = λ j m i u x e. e;
      set = λ r z i. region_stays change table actor.0 w s r a.is_change h (not_actor w actor.0 d) z i;
      listed = λ r z i. refl;
    }) (f.exact.at w k)
  ]) refl n;
}

snapshot_exact : (s : Parts) (copies : Names Snapshot) → ((w : ℕ) (job : Job) (name : List ℕ) → job_of s.plain.live w ≡ Some job → used_by job ≡ Some name → (x : Snapshot) → get copies name ≡ Some x → get s.snapshots name ≡ Some x) → IsFaithful s
    → PlansExact s.plans s.plain.live s.plain.tables copies s.lists
snapshot_exact s copies k f = record {
  at = λ w n. plan_on (job_of s.plain.live w) w (s.plans w) s.plain.live s.plain.live s.plain.tables s.plain.tables s.snapshots copies s.lists s.lists (record {
    held = λ y z. z;
    back = λ y z. z;
    used = λ j name i u x e. k w j name i u x e;
    set = λ r z i. i;
    listed = λ r z i. refl;
  }) (f.exact.at w n);
}

-- ---- all steps

exact_by_step : (p : Step) (s : Parts) → Allows p s → IsSound s → IsFaithful s → PlansExact (plans_by p s.plans) (live_by p s.plain.live) (tables_by p s.plain.snapshots s.plain.tables) (snapshots_by p s.snapshots) (lists_by p s.lists)
exact_by_step (step.Start who job (started.Live actor) drawn) s a h f = start_exact job actor drawn s a h f
exact_by_step (step.End actor refusal) s a h f = end_exact actor.0 s h f
exact_by_step (step.Abandon actor) s a h f = end_exact actor.0 s h f
exact_by_step (step.CommitList actor region number name reason list cells more) s a h f = commit_exact reason actor.0 region list cells more s a.allowed h f
exact_by_step (step.CommitRegions actor table number name set change) s a h f = change_exact actor table number name set change s a h f
exact_by_step (step.Complete actor name copied) s a h f = snapshot_exact s _ (λ w job n j u x e. get-put s.snapshots name copied n x e
    (λ d k. let z : false ≡ true = sym (ap is_some (ap (get s.snapshots) d ∙ a.missing)) ∙ used_there s w job n h j u in absurd (cc))
    (λ k. k)) f
exact_by_step (step.Uncomplete actor name) s a h f = snapshot_exact s _ (λ w job n j u x e. get-taken s.snapshots name n x e (λ d k. k)) f
exact_by_step _ s a h f = f.exact

pub exact_kept : (p : Step) (s : Parts) → Allows p s → IsSound s → IsFaithful s → PlansExact (after p s).plans (after p s).plain.live (after p s).plain.tables (after p s).snapshots (after p s).lists
exact_kept p s a h f =
    subst (λ live. PlansExact (plans_by p s.plans) live (after p s).plain.tables (snapshots_by p s.snapshots) (lists_by p s.lists)) (sym (live_after p s a))
    (subst (λ tables. PlansExact (plans_by p s.plans) (live_by p s.plain.live) tables (snapshots_by p s.snapshots) (lists_by p s.lists)) (sym (tables_after p s)) (exact_by_step p s a h f))
