-- Each step keeps that what is planned is planned once, for new regions, and that their lists have only planned entries.
use Rattle.std.proofs.Common.{◌+◌, ◌≡◌, ◌⊎◌, ℕ, ◌==◌, Bool, true, false, not, cond, List, [], ◌∷◌, ◌++◌, Option, Some, None, refl, sym, ap, ◌∙◌, subst, inl, inr}
use Rattle.std.specs.Prelude.{map, zip, is_some}
use Rattle.hb_cell.specs.declared.cell.Cell.{Cell}
use Rattle.std.specs.FinMap.{get}
use Rattle.hb_records.specs.declared.region_info.RegionInfo.{RegionInfo}
use Rattle.plain_model.specs.declared.job.Job.{Job}
use Rattle.plain_model.specs.declared.job.Job.TheVariants as jobs
use Rattle.plain_model.specs.declared.region_key.RegionKey.{RegionKey}
use Rattle.plain_model.specs.declared.reply.Reply.TheVariants as replies
use Rattle.plain_model.specs.After.{after_all}
use Rattle.plain_model.specs.Names.{Names}
use Rattle.plain_model.specs.Found.{region_with}
use Rattle.plain_model.specs.Keys.{key_of, encoded}
use Rattle.plain_model.specs.LiveEvents.{live_of, without}
use Rattle.plain_model.specs.declared.parts.Live.{Live}
use Rattle.plain_model.specs.declared.parts.PlainTable.{PlainTable}
use Rattle.plain_model.specs.Replies.{Files, reply_with}
use Rattle.core_model.specs.declared.entry.Entry.{Entry}
use Rattle.core_model.specs.declared.plan.Plan.{Plan}
use Rattle.core_model.specs.declared.region_files.RegionFiles.{RegionFiles}
use Rattle.core_model.specs.declared.snapshot.CopiedRegion.{CopiedRegion}
use Rattle.core_model.specs.declared.targets.Why.{Why}
use Rattle.core_model.specs.declared.targets.Why.TheVariants as why
use Rattle.core_model.specs.declared.step.Started.TheVariants as started
use Rattle.core_model.specs.declared.step.Step.{Step}
use Rattle.core_model.specs.declared.step.Step.TheVariants as step
use Rattle.core_model.specs.ActorChanges.{plans_by}
use Rattle.core_model.specs.ActorFacts.{PlansOnce}
use Rattle.core_model.specs.Actors.{IsLive, IsRegion}
use Rattle.core_model.specs.Allows.{Allows}
use Rattle.core_model.specs.Events.{events_of}
use Rattle.core_model.specs.FileChanges.{drawn_by}
use Rattle.cell_sight.specs.Member.{Member}
use Rattle.core_model.specs.Keys.{set_actor}
use Rattle.core_model.specs.ListGuards.{AllowsList}
use Rattle.core_model.specs.LiveChanges.{live_by}
use Rattle.core_model.specs.Plans as plans
use Rattle.core_model.specs.Sound.{IsSound}
use Rattle.core_model.specs.StartGuards.{AreFiles, IsTaken, by_set, by_drawn, regions_for}
use Rattle.core_model.specs.State.{Parts, no_plan}
use Rattle.core_model.specs.TableChanges.{tables_by}
use Rattle.core_sound.proofs.RegionFacts.{region_was}
use Rattle.core_sound.proofs.Lists.{member-front, member-behind, member-map, member-append}
use Rattle.core_sound.proofs.LiveKept.{live_after}
use Rattle.core_sound.proofs.NeverAgain.{added-planned, tables_after}
use Rattle.core_sound.proofs.NumbersKept.{new_found, same_self}
use Rattle.core_sound.proofs.Vacant.{not_taken}
use Rattle.core_sound.proofs.Sources.{map-member}
use Rattle.core_sound.proofs.Tests.{same_number}

-- ---- a start that is not refused draws what is not taken

none_taken : (s : Parts) (job : Job) (files : Files) (i : RegionInfo) → AreFiles files job (regions_for job s) s → reply_with files s.plain job ≡ replies.Fine → Member i (regions_for job s) → IsTaken s.disk s.drawn s.plain (regions_for job s) → ⊥
none_taken s job files i f e m t = let z : true ≡ false = sym (f.name_taken.1 t) ∙ not_taken job files s.plain (plans.region_id s.epoch (s.ids + 1)) s.snapshots e i m in absurd (cc)

-- ---- for which regions entries are planned

abbrev IsFor : List RegionInfo → List ℕ × Entry → Type 0
IsFor is x = (i : RegionInfo) × Member i is × (encoded i ≡ x.0)

in_region-for : (i : RegionInfo) (es : List Entry) (x : List ℕ × Entry) → Member x (plans.in_region i es) → encoded i ≡ x.0
in_region-for i es x m = let w = map-member (λ (e : Entry). (encoded i, e)) x es m in ap (λ (y : List ℕ × Entry). y.0) w.2

pub halves-for : (is : List RegionInfo) (parent row : List ℕ) (es : List Entry) (x : List ℕ × Entry) → Member x (plans.halves_in is parent row es) → IsFor is x
halves-for (low ∷ high ∷ []) parent row es x m = elim (member-append x (plans.in_region low (map (plans.half_of parent row false) es)) (plans.in_region high (map (plans.half_of parent row true) es)) m) [
  | inl k ↦ (low, inl refl, in_region-for low _ x k)
  | inr k ↦ (high, inr (inl refl), in_region-for high _ x k)
]
halves-for [] parent row es x m = absurd m
halves-for (a ∷ []) parent row es x m = absurd m
halves-for (a ∷ b ∷ c ∷ is) parent row es x m = absurd m

copies-for : (is : List RegionInfo) (rs : List CopiedRegion) (x : List ℕ × Entry) → Member x (plans.copies_in (zip is rs)) → IsFor is x
copies-for [] rs x m = absurd m
copies-for (i ∷ is) [] x m = absurd m
copies-for (i ∷ is) (r ∷ rs) x m = elim (member-append x (plans.in_region i (map plans.copy_of r.entries)) (plans.copies_in (zip is rs)) m) [
  | inl k ↦ (i, inl refl, in_region-for i _ x k)
  | inr k ↦ let w = copies-for is rs x k in (w.0, inr w.1, w.2)
]

split-for : (is : List RegionInfo) (row : List ℕ) (o : Option RegionInfo) (lists : RegionKey → RegionFiles) (x : List ℕ × Entry) → Member x (plans.split_entries is row o lists) → IsFor is x
split-for is row None lists x m = absurd m
split-for is row (Some r) lists x m = halves-for is (encoded r) row (lists (key_of r)).entries x m

plan-for : (job : Job) (is : List RegionInfo) (s : Parts) (x : List ℕ × Entry) → Member x (plans.planned_entries job is s.plain s.snapshots s.lists) → IsFor is x
plan-for (jobs.Split t row) is s x m = split-for is row (region_with s.plain t row) s.lists x m
plan-for (jobs.Clone name t) is s x m = copies-for is (plans.regions_in (get s.snapshots name)) x m
plan-for (jobs.Restore name) is s x m = copies-for is (plans.regions_in (get s.snapshots name)) x m
plan-for _ is s x m = absurd m

more-for : (job : Option Job) (is : List RegionInfo) (r : RegionKey) (es : List Entry) (x : List ℕ × Entry) → Member x (plans.more_entries job is r es) → IsFor is x
more-for (Some (jobs.Split t row)) is r es x m = halves-for is r.region row es x m
more-for _ is r es x m = absurd m

none-for : {P : Type 0} (more : List (List ℕ × Entry)) (x : List ℕ × Entry) → more ≡ [] → Member x more → P
none-for more x e m = absurd (subst (Member x) e m)

pub gained-for : (reason : Why) (a : ℕ) (r : RegionKey) (l : RegionFiles) (s : Parts) (cells : List Cell) (more : List (List ℕ × Entry)) → AllowsList reason a r l cells more s → (x : List ℕ × Entry) → Member x more → IsFor (s.plans a).regions x
gained-for why.Flush a r l s cells more g x m = more-for _ _ r _ x (subst (Member x) g.1.halves m)
gained-for why.Capture a r l s cells more g x m = more-for _ _ r _ x (subst (Member x) g.flushes.halves m)
gained-for (why.Compact major) a r l s cells more g x m = none-for more x g.unplanned m
gained-for why.Bulk a r l s cells more g x m = none-for more x g.unplanned m
gained-for why.Build a r l s cells more g x m = none-for more x g.unplanned m

-- ---- plans that end, and plans that gain

old_region : (a : ℕ) (plans : ℕ → Plan) (w : ℕ) (i : RegionInfo) → Member i (set_actor a no_plan plans w).regions → (w == a ≡ false) × Member i (plans w).regions
old_region a plans w i m = (elim (w == a) as (λ b. w == a ≡ b → Member i (cond b no_plan (plans w)).regions → (w == a ≡ false) × Member i (plans w).regions) [ true ↦ λ d k. absurd k | false ↦ λ d k. (d, k) ]) refl m

pub old_entry : (a : ℕ) (plans : ℕ → Plan) (w : ℕ) (x : List ℕ × Entry) → Member x (set_actor a no_plan plans w).entries → (w == a ≡ false) × Member x (plans w).entries
old_entry a plans w x m = (elim (w == a) as (λ b. w == a ≡ b → Member x (cond b no_plan (plans w)).entries → (w == a ≡ false) × Member x (plans w).entries) [ true ↦ λ d k. absurd k | false ↦ λ d k. (d, k) ]) refl m

-- a planned region, where an actor that is another's keeps its plan
kept_region : (a : ℕ) (plans : ℕ → Plan) (w : ℕ) (i : RegionInfo) → w == a ≡ false → Member i (plans w).regions → Member i (set_actor a no_plan plans w).regions
kept_region a plans w i d m = subst (λ b. Member i (cond b no_plan (plans w)).regions) (sym d) m

freed_once : (a : ℕ) (plans : ℕ → Plan) (live left : List Live) (drawn : List RegionKey) (tables changed : Names PlainTable)
    → ((w : ℕ) → w == a ≡ false → IsLive live w → IsLive left w)
    → ((w : ℕ) (i : RegionInfo) → w == a ≡ false → Member i (plans w).regions → IsRegion changed (key_of i) → ⊥)
    → PlansOnce plans live drawn tables → PlansOnce (set_actor a no_plan plans) left drawn changed
freed_once a plans live left drawn tables changed f g h = record {
  by_live = λ w i m. let k = old_region a plans w i m in f w k.0 (h.by_live w i k.1);
  was_drawn = λ w i m. h.was_drawn w i (old_region a plans w i m).1;
  is_new = λ w i m r. let k = old_region a plans w i m in g w i k.0 k.1 r;
  alone = λ w v i j m n e. h.alone w v i j (old_region a plans w i m).1 (old_region a plans v j n).1 e;
  entries = λ w x m. let k = old_entry a plans w x m in let v = h.entries w x k.1 in (v.0, kept_region a plans w v.0 k.0 v.1, v.2);
}

abbrev gaining : (ℕ → Plan) → ℕ → List (List ℕ × Entry) → ℕ → Plan
gaining plans a more = set_actor a (record { regions = (plans a).regions; entries = (plans a).entries ++ more }) plans

same_regions : (plans : ℕ → Plan) (a : ℕ) (more : List (List ℕ × Entry)) (w : ℕ) → (gaining plans a more w).regions ≡ (plans w).regions
same_regions plans a more w = (elim (w == a) as (λ b. w == a ≡ b → (cond b (record { regions = (plans a).regions; entries = (plans a).entries ++ more }) (plans w)).regions ≡ (plans w).regions) [
  | true ↦ λ d. ap (λ v. (plans v).regions) (sym (same_number w a d))
  | false ↦ λ d. refl
]) refl

pub gained_entry : (plans : ℕ → Plan) (a : ℕ) (more : List (List ℕ × Entry)) (w : ℕ) (x : List ℕ × Entry) → Member x (gaining plans a more w).entries → Member x (plans w).entries ⊎ ((w ≡ a) × Member x more)
gained_entry plans a more w x m = (elim (w == a) as (λ b. w == a ≡ b → Member x (cond b (record { regions = (plans a).regions; entries = (plans a).entries ++ more }) (plans w)).entries → Member x (plans w).entries ⊎ ((w ≡ a) × Member x more)) [
  | true ↦ λ d k. elim (member-append x (plans a).entries more k) [
    | inl n ↦ inl (subst (λ v. Member x (plans v).entries) (sym (same_number w a d)) n)
    | inr n ↦ inr (same_number w a d, n)
  ]
  | false ↦ λ d k. inl k
]) refl m

gained_once : (a : ℕ) (plans : ℕ → Plan) (more : List (List ℕ × Entry)) (live : List Live) (drawn : List RegionKey) (tables : Names PlainTable) → ((x : List ℕ × Entry) → Member x more → IsFor (plans a).regions x)
    → PlansOnce plans live drawn tables → PlansOnce (gaining plans a more) live drawn tables
gained_once a plans more live drawn tables f h = record {
  by_live = λ w i m. h.by_live w i (old w i m);
  was_drawn = λ w i m. h.was_drawn w i (old w i m);
  is_new = λ w i m r. h.is_new w i (old w i m) r;
  alone = λ w v i j m n e. h.alone w v i j (old w i m) (old v j n) e;
  entries = λ w x m. elim (gained_entry plans a more w x m) [
    | inl k ↦ let v = h.entries w x k in (v.0, subst (Member v.0) (sym (same_regions plans a more w)) v.1, v.2)
    | inr k ↦ let v = f x k.1 in (v.0, subst (Member v.0) (sym (same_regions plans a more w)) (subst (λ y. Member v.0 (plans y).regions) (sym k.0) v.1), v.2)
  ];
}
  where
    old : (w : ℕ) (i : RegionInfo) → Member i (gaining plans a more w).regions → Member i (plans w).regions
    old w i m = subst (Member i) (same_regions plans a more w) m

-- ---- a start

by_plan : (P : ℕ → Plan → Type 0) (a : ℕ) (v : Plan) (plans : ℕ → Plan) → P a v → ((w : ℕ) → (w == a ≡ false) → P w (plans w)) → (w : ℕ) → P w (set_actor a v plans w)
by_plan P a v plans k f w = (elim (w == a) as (λ b. w == a ≡ b → P w (cond b v (plans w))) [
  | true ↦ λ d. subst (λ x. P x v) (sym (same_number w a d)) k
  | false ↦ λ d. f w d
]) refl

pub live_front : (live more : List Live) (a : ℕ) → IsLive live a → IsLive (live ++ more) a
live_front [] more a e = absurd (cc)
live_front (x ∷ xs) more a e = (elim (x.actor.0 == a) as (λ b. is_some (cond b (Some x) (live_of xs a)) ≡ true → is_some (cond b (Some x) (live_of (xs ++ more) a)) ≡ true) [
  | true ↦ λ k. refl
  | false ↦ λ k. live_front xs more a k
]) e

pub live_left : (live : List Live) (a b : ℕ) → a == b ≡ false → IsLive live a → IsLive (without b live) a
live_left [] a b n e = e
live_left (x ∷ xs) a b n e = (elim (x.actor.0 == b) as (λ c. x.actor.0 == b ≡ c → is_some (live_of (cond (not c) (x ∷ without b xs) (without b xs)) a) ≡ true) [
  | true ↦ λ d. live_left xs a b n ((elim (x.actor.0 == a) as (λ c. x.actor.0 == a ≡ c → is_some (cond c (Some x) (live_of xs a)) ≡ true → is_some (live_of xs a) ≡ true) [
    | true ↦ λ k i. let z : true ≡ false = sym (ap (λ y. y == b) (sym (same_number x.actor.0 a k)) ∙ d) ∙ n in absurd (cc)
    | false ↦ λ k i. i
  ]) refl e)
  | false ↦ λ d. (elim (x.actor.0 == a) as (λ c. is_some (cond c (Some x) (live_of xs a)) ≡ true → is_some (cond c (Some x) (live_of (without b xs) a)) ≡ true) [
    | true ↦ λ i. refl
    | false ↦ λ i. live_left xs a b n i
  ]) e
]) refl

start_once : (s : Parts) (new : Live) (plan : Plan) → new.actor.0 ≡ s.begun → IsSound s
    → ((i : RegionInfo) → Member i plan.regions → IsRegion s.plain.tables (key_of i) → ⊥)
    → ((i : RegionInfo) → Member i plan.regions → Member (key_of i) s.drawn → ⊥)
    → ((x : List ℕ × Entry) → Member x plan.entries → IsFor plan.regions x)
    → PlansOnce (set_actor new.actor.0 plan s.plans) (s.plain.live ++ new ∷ []) (s.drawn ++ map key_of plan.regions) s.plain.tables
start_once s new plan n h f g k = record {
  by_live = by_plan (λ w (v : Plan). (i : RegionInfo) → Member i v.regions → IsLive (s.plain.live ++ new ∷ []) w) new.actor.0 plan s.plans
      (λ i m. ap is_some (new_found s new n h)) (λ w d i m. live_front s.plain.live (new ∷ []) w (h.once.by_live w i m));
  was_drawn = by_plan (λ w (v : Plan). (i : RegionInfo) → Member i v.regions → Member (key_of i) (s.drawn ++ map key_of plan.regions)) new.actor.0 plan s.plans
      (λ i m. member-behind (key_of i) s.drawn (map key_of plan.regions) (member-map key_of i plan.regions m)) (λ w d i m. member-front (key_of i) s.drawn (map key_of plan.regions) (h.once.was_drawn w i m));
  is_new = by_plan (λ w (v : Plan). (i : RegionInfo) → Member i v.regions → IsRegion s.plain.tables (key_of i) → ⊥) new.actor.0 plan s.plans f (λ w d i m. h.once.is_new w i m);
  alone = λ w v i j m q e. alone-by w v i j e (whose w i m) (whose v j q);
  entries = by_plan (λ w (v : Plan). (x : List ℕ × Entry) → Member x v.entries → IsFor (set_actor new.actor.0 plan s.plans w).regions x) new.actor.0 plan s.plans
      (λ x m. let y = k x m in (y.0, subst (λ (b : Bool). Member y.0 (cond b plan (s.plans new.actor.0)).regions) (sym (same_self new.actor.0)) y.1, y.2))
      (λ w d x m. let y = h.once.entries w x m in (y.0, subst (λ (b : Bool). Member y.0 (cond b plan (s.plans w)).regions) (sym d) y.1, y.2));
}
  where
    whose : (w : ℕ) (i : RegionInfo) → Member i (set_actor new.actor.0 plan s.plans w).regions → ((w ≡ new.actor.0) × Member i plan.regions) ⊎ Member i (s.plans w).regions
    whose w i m = (elim (w == new.actor.0) as (λ b. w == new.actor.0 ≡ b → Member i (cond b plan (s.plans w)).regions → ((w ≡ new.actor.0) × Member i plan.regions) ⊎ Member i (s.plans w).regions) [
      | true ↦ λ d q. inl (same_number w new.actor.0 d, q)
      | false ↦ λ d q. inr q
    ]) refl m

    alone-by : (w v : ℕ) (i j : RegionInfo) → key_of i ≡ key_of j → ((w ≡ new.actor.0) × Member i plan.regions) ⊎ Member i (s.plans w).regions → ((v ≡ new.actor.0) × Member j plan.regions) ⊎ Member j (s.plans v).regions → w ≡ v
    alone-by w v i j e (inl x) (inl y) = x.0 ∙ sym y.0
    alone-by w v i j e (inl x) (inr y) = absurd (g i x.1 (subst (λ r. Member r s.drawn) (sym e) (h.once.was_drawn v j y)))
    alone-by w v i j e (inr x) (inl y) = absurd (g j y.1 (subst (λ r. Member r s.drawn) e (h.once.was_drawn w i x)))
    alone-by w v i j e (inr x) (inr y) = h.once.alone w v i j x y e

-- ---- all steps

once_by_step : (p : Step) (s : Parts) → Allows p s → IsSound s → PlansOnce (plans_by p s.plans) (live_by p s.plain.live) (drawn_by p s.drawn) (tables_by p s.plain.snapshots s.plain.tables)
once_by_step (step.Start who job (started.Live actor) drawn) s a h =
    let d = a.answered.1 in
    let r : drawn.plan.regions ≡ drawn.regions = ap (λ (v : Plan). v.regions) d.plan ∙ sym d.regions in
    subst (λ is. PlansOnce (set_actor actor.0 drawn.plan s.plans) (s.plain.live ++ record { actor = actor; job = job; holds = drawn.holds } ∷ []) (s.drawn ++ map key_of is) s.plain.tables) r
    (start_once s (record { actor = actor; job = job; holds = drawn.holds }) drawn.plan d.number h
    (λ i m k. let n = subst (Member i) (r ∙ d.regions) m in none_taken s job a.files i a.are_files a.answered.0 n (by_set i n k))
    (λ i m k. let n = subst (Member i) (r ∙ d.regions) m in none_taken s job a.files i a.are_files a.answered.0 n (by_drawn i n k))
    (λ x m. let y = plan-for job (regions_for job s) s x (subst (λ (v : Plan). Member x v.entries) d.plan m) in (y.0, subst (Member y.0) (sym (r ∙ d.regions)) y.1, y.2)))
once_by_step (step.CommitList actor region number name reason list cells more) s a h = gained_once actor.0 s.plans more s.plain.live s.drawn s.plain.tables (λ x m. gained-for reason actor.0 region list s cells more a.allowed x m) h.once
once_by_step (step.CommitRegions actor table number name set change) s a h = freed_once actor.0 s.plans s.plain.live s.plain.live s.drawn s.plain.tables _ (λ w d i. i)
    (λ w i d m r. elim (region_was change s.plain.snapshots s.plain.tables (key_of i) r) [
      | inl k ↦ h.once.is_new w i m k
      | inr k ↦ let e = h.once.alone w actor.0 i k.0 m (added-planned _ change table actor.0 s k.0 a.is_change k.1) (sym k.2) in
          let z : true ≡ false = sym (same_self w) ∙ ap (λ v. w == v) e ∙ d in absurd (cc)
    ]) h.once
once_by_step (step.End actor refusal) s a h = freed_once actor.0 s.plans s.plain.live (without actor.0 s.plain.live) s.drawn s.plain.tables s.plain.tables (λ w d i. live_left s.plain.live w actor.0 d i) (λ w i d m. h.once.is_new w i m) h.once
once_by_step (step.Abandon actor) s a h = freed_once actor.0 s.plans s.plain.live (without actor.0 s.plain.live) s.drawn s.plain.tables s.plain.tables (λ w d i. live_left s.plain.live w actor.0 d i) (λ w i d m. h.once.is_new w i m) h.once
once_by_step _ s a h = h.once

pub once_kept : (p : Step) (s : Parts) → Allows p s → IsSound s → PlansOnce (plans_by p s.plans) (after_all s.plain (events_of p)).live (drawn_by p s.drawn) (after_all s.plain (events_of p)).tables
once_kept p s a h = subst (λ live. PlansOnce (plans_by p s.plans) live (drawn_by p s.drawn) (after_all s.plain (events_of p)).tables) (sym (live_after p s a))
    (subst (PlansOnce (plans_by p s.plans) (live_by p s.plain.live) (drawn_by p s.drawn)) (sym (tables_after p s)) (once_by_step p s a h))
