-- Each step keeps that the list of a region that is being built has the number that the region will begin with.
use Rattle.std.proofs.Common.{◌≡◌, ◌≢◌, ℕ, ◌==◌, Bool, true, false, cond, List, [], ◌∷◌, ◌++◌, Option, Some, None, refl, sym, ap, ◌∙◌, subst, inl, inr}
use Rattle.std.specs.Prelude.{map, is_some, option_map, Ok, Err}
use Rattle.std.specs.List.{AllZip, list_any}
use Rattle.std.specs.FinMap.{get}
use Rattle.std.proofs.lemmas.List.{append-nil}
use Rattle.std.proofs.Common.{append_assoc}
use Rattle.hb_cell.specs.declared.cell.Cell.{Cell}
use Rattle.hb_cell.specs.Order.{same_bytes, is_below}
use Rattle.hb_layout.specs.declared.base.Base.{Base}
use Rattle.hb_records.specs.declared.region_info.RegionInfo.{RegionInfo}
use Rattle.region_set.specs.declared.region_set.RegionSet.{RegionSet}
use Rattle.plain_model.specs.declared.event.Event.{Event}
use Rattle.plain_model.specs.declared.hold.Hold.{Hold}
use Rattle.plain_model.specs.declared.hold.Hold.TheVariants as holds
use Rattle.plain_model.specs.declared.job.Job.{Job}
use Rattle.plain_model.specs.declared.job.Job.TheVariants as jobs
use Rattle.plain_model.specs.declared.parts.Live.{Live}
use Rattle.plain_model.specs.declared.parts.PlainSnapshot.{PlainSnapshot}
use Rattle.plain_model.specs.declared.parts.PlainTable.{PlainTable}
use Rattle.plain_model.specs.declared.parts.RegionCopy.{RegionCopy}
use Rattle.plain_model.specs.declared.region_key.RegionKey.{RegionKey}
use Rattle.plain_model.specs.declared.who.Actor.{Actor}
use Rattle.plain_model.specs.declared.who.Who.{Who}
use Rattle.plain_model.specs.CellEvents.{each_with, greatest}
use Rattle.plain_model.specs.Keys.{key_of, same_key, set_at, set_each}
use Rattle.plain_model.specs.LiveEvents.{live_of, job_of, without}
use Rattle.plain_model.specs.Names.{Names}
use Rattle.plain_model.specs.SnapshotEvents.{completed, with_snapshot}
use Rattle.cell_sight.specs.Member.{Member}
use Rattle.core_model.specs.declared.entry.Entry.{Entry}
use Rattle.core_model.specs.declared.entry.Entry.TheVariants.{Own}
use Rattle.core_model.specs.declared.plan.Plan.{Plan}
use Rattle.core_model.specs.declared.region_files.RegionFiles.{RegionFiles}
use Rattle.core_model.specs.declared.snapshot.Snapshot.{Snapshot}
use Rattle.core_model.specs.declared.targets.MoveFrom.TheVariants as moves
use Rattle.core_model.specs.declared.targets.Why.{Why}
use Rattle.core_model.specs.declared.targets.Why.TheVariants as why
use Rattle.core_model.specs.declared.step.Drawn.{Drawn}
use Rattle.core_model.specs.declared.step.Started.TheVariants as started
use Rattle.core_model.specs.declared.step.Step.{Step}
use Rattle.core_model.specs.declared.step.Step.TheVariants as step
use Rattle.core_model.specs.ActorFacts.{used_by}
use Rattle.core_model.specs.Actors.{HasHold, IsRegion}
use Rattle.core_model.specs.Allows.{Allows}
use Rattle.core_model.specs.Entries.{no_list}
use Rattle.core_model.specs.ListGuards.{AllowsList, Flushes, IsFlushed, HasNumber, copies_of, number_of_copies, families_in, with_name, name_in_place}
use Rattle.core_model.specs.Plans as plans
use Rattle.core_model.specs.Plans.{planned_for, half_of}
use Rattle.core_model.specs.Recipes.{frozen_cells}
use Rattle.core_model.specs.Replay.{after}
use Rattle.core_model.specs.Sound.{IsSound}
use Rattle.core_model.specs.StartGuards.{CanStart}
use Rattle.core_model.specs.State.{Parts, no_plan}
use Rattle.core_sound.proofs.HoldsFound.{hold_fits, hold_job, holds_apart, hold_joined, hold_left}
use Rattle.core_sound.proofs.Lists.{map_some, member-find}
use Rattle.core_sound.proofs.LiveKept.{live_after, find-front, find-without}
use Rattle.core_sound.proofs.NumbersKept.{same_self}
use Rattle.core_sound.proofs.SnapshotsKept.{both_fit, use_erase}
use Rattle.core_sound.proofs.TablesKept.{put_other, taken_other}
use Rattle.core_sound.proofs.Tests.{same_bytes-self, same_bytes-true, same_number, same_key-true}
use Rattle.core_sound.proofs.Vacant.{each-cases, each-new}
use Rattle.core_contents.specs.BuiltNumbers.{BuiltNumbers, IsBuilding}
use Rattle.core_contents.specs.Faithful.{IsFaithful}
use Rattle.core_contents.specs.PlanFacts.{Splits, IsPlan}
use Rattle.core_contents.proofs.Changed.{used_there}
use Rattle.core_contents.proofs.ChangesLeave.{stays_alike}
use Rattle.core_contents.proofs.CopiesKept.{take_job, change_snapshots}
use Rattle.core_contents.proofs.ExactKept.{held_alone, planned_live, not_actor, split_fits}
use Rattle.core_contents.proofs.PlannedFor.{planned-append, planned-own}

-- ---- a number, when the state goes on

-- what a number is told by stays
record NumberStays (o : Option Job) (a : ℕ) (s t : Parts) : Type 0 where
  job : job_of t.plain.live a ≡ job_of s.plain.live a
  regions : (t.plans a).regions ≡ (s.plans a).regions
  used : (job : Job) (name : List ℕ) → o ≡ Some job → used_by job ≡ Some name → get t.plain.snapshots name ≡ get s.plain.snapshots name
  back : (h : Hold) → HasHold t.plain.live a h → HasHold s.plain.live a h
  kept : (t' row : List ℕ) (r : RegionKey) → o ≡ Some (jobs.Split t' row) → HasHold s.plain.live a (holds.Region r) → t.plain.kept r ≡ s.plain.kept r

number_on : (o : Option Job) (a : ℕ) (r : RegionKey) (n : ℕ) (s t : Parts) → NumberStays o a s t → HasNumber o r a n s → HasNumber o r a n t
number_on (Some (jobs.Clone name u)) a r n s t k h =
    ap (λ o. number_of_copies (t.plans a).regions (copies_of o) r) (k.used (jobs.Clone name u) name refl refl) ∙ ap (λ is. number_of_copies is (copies_of (get s.plain.snapshots name)) r) k.regions ∙ h
number_on (Some (jobs.Restore name)) a r n s t k h =
    ap (λ o. number_of_copies (t.plans a).regions (copies_of o) r) (k.used (jobs.Restore name) name refl refl) ∙ ap (λ is. number_of_copies is (copies_of (get s.plain.snapshots name)) r) k.regions ∙ h
number_on (Some (jobs.Split u row)) a r n s t k h = λ q x. h q (k.back _ x) ∙ sym (k.kept u row q refl (k.back _ x))
number_on (Some (jobs.Create u fs m ks)) a r n s t k h = h
number_on _ a r n s t k h = absurd h

building_on : (a : ℕ) (r : RegionKey) (l : RegionFiles) (s t : Parts) → NumberStays (job_of s.plain.live a) a s t → (t.plans a).entries ≡ (s.plans a).entries → IsBuilding a r l s → IsBuilding a r l t
building_on a r l s t k e (inl d) = inl d
building_on a r l s t k e (inr d) = inr (record {
  rest = d.rest;
  first = ap (λ es. planned_for es r) e ∙ d.first;
  number = λ z. subst (λ o. HasNumber o r a l.seq t) (sym k.job) (number_on (job_of s.plain.live a) a r l.seq s t k (d.number z));
})

some_regions : (is : List RegionInfo) (i : RegionInfo) → Member i is → is ≢ []
some_regions [] i m e = m
some_regions (j ∷ js) i m e = absurd (cc)

-- the region that a split holds is there
split_there : (s : Parts) (w : ℕ) (i : RegionInfo) (u row : List ℕ) (q : RegionKey) → IsFaithful s → Member i (s.plans w).regions → job_of s.plain.live w ≡ Some (jobs.Split u row) → HasHold s.plain.live w (holds.Region q) → IsRegion s.plain.tables q
split_there s w i u row q f m j x =
    let p = subst (λ o. IsPlan o w (s.plans w) s.plain.live s.plain.tables s.snapshots s.lists) j (f.exact.at w (some_regions (s.plans w).regions i m)) in
    subst (IsRegion s.plain.tables) (sym (p.alone q x)) p.there

-- ---- starts and ends

start_numbers : (who : Who) (job : Job) (actor : Actor) (drawn : Drawn) (s : Parts) → CanStart job (started.Live actor) drawn s → IsSound s → BuiltNumbers s → BuiltNumbers (after (step.Start who job (started.Live actor) drawn) s)
start_numbers who job actor drawn s a h b = record { at = λ w i m. by w i (w == actor.0) refl m }
  where
    t : Parts
    t = after (step.Start who job (started.Live actor) drawn) s

    next : RegionKey → RegionFiles
    next = set_each (each_with no_list drawn.regions) s.lists

    by : (w : ℕ) (i : RegionInfo) (b : Bool) → w == actor.0 ≡ b → Member i (cond b drawn.plan (s.plans w)).regions → IsBuilding w (key_of i) (next (key_of i)) t
    by w i true d m = inl (each-new no_list drawn.regions s.lists i (subst (Member i) (sym a.answered.1.regions) (subst (λ (v : Plan). Member i v.regions) a.answered.1.plan m)))
    by w i false d m = each-cases (λ l. IsBuilding w (key_of i) l t) no_list drawn.regions s.lists (key_of i) (λ j n k. inl refl)
        (building_on w (key_of i) (s.lists (key_of i)) s t (record {
          job = (let l = planned_live s w (s.plans w).regions refl (some_regions (s.plans w).regions i m) h in ap (option_map (λ (x : Live). x.job)) (find-front _ s.plain.live _ l.0 l.1 ∙ sym l.1));
          regions = ap (λ x. (cond x drawn.plan (s.plans w)).regions) d;
          used = λ j name o u. refl;
          back = λ y z. elim (hold_joined s.plain.live (record { actor = actor; job = job; holds = drawn.holds }) w y z) [ inl q ↦ q | inr q ↦ absurd (not_actor w actor.0 d q.0) ];
          kept = λ u row r o y. refl;
        }) (ap (λ x. (cond x drawn.plan (s.plans w)).entries) d) (b.at w i m))

-- another actor's plan, when one actor's is freed
freed_numbers : (a : ℕ) (s t : Parts) → BuiltNumbers s → ((w : ℕ) (i : RegionInfo) → w == a ≡ false → Member i (s.plans w).regions → IsBuilding w (key_of i) (s.lists (key_of i)) s → IsBuilding w (key_of i) (s.lists (key_of i)) t)
    → (w : ℕ) (i : RegionInfo) → Member i (cond (w == a) no_plan (s.plans w)).regions → IsBuilding w (key_of i) (s.lists (key_of i)) t
freed_numbers a s t b f w i m = (elim (w == a) as (λ x. w == a ≡ x → Member i (cond x no_plan (s.plans w)).regions → IsBuilding w (key_of i) (s.lists (key_of i)) t) [
  | true ↦ λ d k. absurd k
  | false ↦ λ d k. f w i d k (b.at w i k)
]) refl m

ended_stays : (a w : ℕ) (s t : Parts) (i : RegionInfo) → IsSound s → w == a ≡ false → Member i (s.plans w).regions → t.plain.live ≡ without a s.plain.live → t.plans w ≡ s.plans w → t.plain.snapshots ≡ s.plain.snapshots → t.plain.kept ≡ s.plain.kept → NumberStays (job_of s.plain.live w) w s t
ended_stays a w s t i h d m l p n k = record {
  job = (let x = planned_live s w (s.plans w).regions refl (some_regions (s.plans w).regions i m) h in ap (λ v. job_of v w) l ∙ ap (option_map (λ (y : Live). y.job)) (find-without w a s.plain.live x.0 d x.1 ∙ sym x.1));
  regions = ap (λ (v : Plan). v.regions) p;
  used = λ j name o u. ap (λ v. get v name) n;
  back = λ y z. hold_left s.plain.live w a y (subst (λ v. HasHold v w y) l z);
  kept = λ u row r o y. ap (λ (f : RegionKey → ℕ). f r) k;
}

-- ---- a list that is committed

family_put : (n : List ℕ) (ns : List (List ℕ)) → name_in_place n ns ≡ [] → ⊥
family_put n [] e = absurd (cc)
family_put n (m ∷ ms) e = (elim (is_below n m) as (λ b. cond b (n ∷ m ∷ ms) (m ∷ name_in_place n ms) ≡ [] → ⊥) [ true ↦ λ z. absurd (cc) | false ↦ λ z. absurd (cc) ]) e

family_with : (n : List ℕ) (ns : List (List ℕ)) → with_name n ns ≡ [] → ⊥
family_with n [] e = absurd (cc)
family_with n (m ∷ ms) e = (elim (list_any (same_bytes n) (m ∷ ms)) as (λ b. cond b (m ∷ ms) (name_in_place n (m ∷ ms)) ≡ [] → ⊥) [ true ↦ λ z. absurd (cc) | false ↦ λ z. family_put n (m ∷ ms) z ]) e

none_frozen : (cells : List Cell) → families_in cells ≡ [] → cells ≡ []
none_frozen [] e = refl
none_frozen (c ∷ cs) e = absurd (family_with c.family (families_in cs) e)

no_files : (a : ℕ) (r : RegionKey) (s : Parts) (fs : List (List ℕ)) (bs : List Base) → AllZip (IsFlushed a r s) fs bs → bs ≡ [] → fs ≡ []
no_files a r s [] bs z e = refl
no_files a r s (f ∷ fs) [] z e = absurd z
no_files a r s (f ∷ fs) (b ∷ bs) z e = absurd (cc)

none_map : {A B : Type 0} (f : A → B) (xs : List A) → map f xs ≡ [] → xs ≡ []
none_map f [] e = refl
none_map f (x ∷ xs) e = absurd (cc)

left_none : (xs ys : List Entry) → xs ++ ys ≡ [] → xs ≡ []
left_none [] ys e = refl
left_none (x ∷ xs) ys e = absurd (cc)

right_none : (xs ys : List Entry) → xs ++ ys ≡ [] → ys ≡ []
right_none [] ys e = e
right_none (x ∷ xs) ys e = absurd (cc)

-- where a split's flush plans nothing for a region that it builds, it flushes nothing
flushes_none : (s : Parts) (a : ℕ) (r : RegionKey) (u row : List ℕ) (l : RegionFiles) (cells : List Cell) (more : List (List ℕ × Entry)) (i : RegionInfo) → job_of s.plain.live a ≡ Some (jobs.Split u row) → Flushes a r l cells more s
    → Splits a (s.plans a) row s.plain.live s.plain.tables s.lists → Member i (s.plans a).regions → planned_for more (key_of i) ≡ [] → frozen_cells s.plain r ≡ []
flushes_none s a r u row l cells more i j g p m e = none_frozen (frozen_cells s.plain r) (no_files a r s _ g.added g.files (none_map Own g.added (which (subst (Member i) p.halves.regions m))))
  where
    low : RegionInfo
    low = p.halves.low

    high : RegionInfo
    high = p.halves.high

    lows : List Entry
    lows = map (half_of r.region row false) (map Own g.added)

    highs : List Entry
    highs = map (half_of r.region row true) (map Own g.added)

    both : more ≡ plans.in_region low lows ++ plans.in_region high highs
    both = g.halves ∙ ap (λ o. plans.more_entries o (s.plans a).regions r (map Own g.added)) j ∙ ap (λ is. plans.halves_in is r.region row (map Own g.added)) p.halves.regions

    for_low : planned_for more (key_of low) ≡ lows ++ planned_for (plans.in_region high highs) (key_of low)
    for_low = ap (λ es. planned_for es (key_of low)) both ∙ planned-append (plans.in_region low lows) (plans.in_region high highs) (key_of low) ∙ ap (λ xs. xs ++ planned_for (plans.in_region high highs) (key_of low)) (planned-own low lows)

    for_high : planned_for more (key_of high) ≡ planned_for (plans.in_region low lows) (key_of high) ++ highs
    for_high = ap (λ es. planned_for es (key_of high)) both ∙ planned-append (plans.in_region low lows) (plans.in_region high highs) (key_of high) ∙ ap (λ xs. planned_for (plans.in_region low lows) (key_of high) ++ xs) (planned-own high highs)

    which : Member i (low ∷ high ∷ []) → map Own g.added ≡ []
    which (inl d) = none_map (half_of r.region row false) (map Own g.added) (left_none lows _ (sym for_low ∙ ap (λ (x : RegionInfo). planned_for more (key_of x)) d ∙ e))
    which (inr (inl d)) = none_map (half_of r.region row true) (map Own g.added) (right_none (planned_for (plans.in_region low lows) (key_of high)) highs (sym for_high ∙ ap (λ (x : RegionInfo). planned_for more (key_of x)) d ∙ e))
    which (inr (inr d)) = absurd d

abbrev gained : Plan → List (List ℕ × Entry) → Plan
gained p more = record { regions = p.regions; entries = p.entries ++ more }

-- what holds after a commit of a list: its actor's plan may gain entries, and the numbers of other regions stay
record Commits (a : ℕ) (r : RegionKey) (l : RegionFiles) (more : List (List ℕ × Entry)) (s t : Parts) : Type 0 where
  live : t.plain.live ≡ s.plain.live
  snapshots : t.plain.snapshots ≡ s.plain.snapshots
  plans : (w : ℕ) → t.plans w ≡ cond (w == a) (gained (s.plans a) more) (s.plans w)
  other_kept : (q : RegionKey) → same_key q r ≡ false → t.plain.kept q ≡ s.plain.kept q
  own_kept : (i : RegionInfo) → Member i (s.plans a).regions → planned_for more (key_of i) ≡ [] → (u row : List ℕ) (q : RegionKey) → job_of s.plain.live a ≡ Some (jobs.Split u row) → HasHold s.plain.live a (holds.Region q)
      → t.plain.kept q ≡ s.plain.kept q
  alone : (w : ℕ) → w == a ≡ false → HasHold s.plain.live w (holds.Region r) → IsRegion s.plain.tables r → ⊥
  new : (w : ℕ) (i : RegionInfo) → Member i (s.plans w).regions → key_of i ≡ r → IsBuilding w (key_of i) l t

own_building : (a : ℕ) (r : RegionKey) (l : RegionFiles) (more : List (List ℕ × Entry)) (s t : Parts) (i : RegionInfo) → Commits a r l more s t → t.plans a ≡ gained (s.plans a) more → Member i (s.plans a).regions
    → IsBuilding a (key_of i) (s.lists (key_of i)) s → IsBuilding a (key_of i) (s.lists (key_of i)) t
own_building a r l more s t i c p m (inl d) = inl d
own_building a r l more s t i c p m (inr d) = inr (record {
  rest = d.rest ++ planned_for more (key_of i);
  first = ap (λ (v : Plan). planned_for v.entries (key_of i)) p ∙ planned-append (s.plans a).entries more (key_of i) ∙ ap (λ es. es ++ planned_for more (key_of i)) d.first
      ∙ append_assoc (s.lists (key_of i)).entries d.rest (planned_for more (key_of i));
  number = λ z. subst (λ o. HasNumber o (key_of i) a (s.lists (key_of i)).seq t) (ap (λ v. job_of v a) (sym c.live)) (number_on (job_of s.plain.live a) a (key_of i) (s.lists (key_of i)).seq s t (record {
    job = ap (λ v. job_of v a) c.live;
    regions = ap (λ (v : Plan). v.regions) p;
    used = λ j name o u. ap (λ v. get v name) c.snapshots;
    back = λ y x. subst (λ v. HasHold v a y) c.live x;
    kept = λ u row q o y. c.own_kept i m (right_none d.rest (planned_for more (key_of i)) z) u row q o y;
  }) (d.number (left_none d.rest (planned_for more (key_of i)) z)));
})

others_building : (a w : ℕ) (r : RegionKey) (l : RegionFiles) (more : List (List ℕ × Entry)) (s t : Parts) (i : RegionInfo) → Commits a r l more s t → IsFaithful s → w == a ≡ false → Member i (s.plans w).regions
    → IsBuilding w (key_of i) (s.lists (key_of i)) s → IsBuilding w (key_of i) (s.lists (key_of i)) t
others_building a w r l more s t i c f d m = building_on w (key_of i) (s.lists (key_of i)) s t (record {
  job = ap (λ v. job_of v w) c.live;
  regions = ap (λ (v : Plan). v.regions) (c.plans w ∙ ap (λ x. cond x (gained (s.plans a) more) (s.plans w)) d);
  used = λ j name o u. ap (λ v. get v name) c.snapshots;
  back = λ y x. subst (λ v. HasHold v w y) c.live x;
  kept = λ u row q o y. (elim (same_key q r) as (λ b. same_key q r ≡ b → t.plain.kept q ≡ s.plain.kept q) [
    | true ↦ λ e. (let z = same_key-true q r e in absurd (c.alone w d (subst (λ (v : RegionKey). HasHold s.plain.live w (holds.Region v)) z y) (subst (IsRegion s.plain.tables) z (split_there s w i u row q f m o y))))
    | false ↦ λ e. c.other_kept q e
  ]) refl;
}) (ap (λ (v : Plan). v.entries) (c.plans w ∙ ap (λ x. cond x (gained (s.plans a) more) (s.plans w)) d))

commit_numbers : (a : ℕ) (r : RegionKey) (l : RegionFiles) (more : List (List ℕ × Entry)) (s t : Parts) → Commits a r l more s t → IsFaithful s → BuiltNumbers s
    → (w : ℕ) (i : RegionInfo) → Member i (cond (w == a) (gained (s.plans a) more) (s.plans w)).regions → IsBuilding w (key_of i) (cond (same_key (key_of i) r) l (s.lists (key_of i))) t
commit_numbers a r l more s t c f b w i m = (elim (w == a) as (λ x. w == a ≡ x → Member i (cond x (gained (s.plans a) more) (s.plans w)).regions → IsBuilding w (key_of i) (cond (same_key (key_of i) r) l (s.lists (key_of i))) t) [
  | true ↦ λ d k. (let e = same_number w a d in subst (λ v. IsBuilding v (key_of i) (cond (same_key (key_of i) r) l (s.lists (key_of i))) t) (sym e)
      (by a k (own_building a r l more s t i c (c.plans a ∙ ap (λ x. cond x (gained (s.plans a) more) (s.plans a)) (ap (λ v. v == a) (sym e) ∙ d)) k (b.at a i k))))
  | false ↦ λ d k. by w k (others_building a w r l more s t i c f d k (b.at w i k))
]) refl m
  where
    by : (v : ℕ) → Member i (s.plans v).regions → IsBuilding v (key_of i) (s.lists (key_of i)) t → IsBuilding v (key_of i) (cond (same_key (key_of i) r) l (s.lists (key_of i))) t
    by v k old = (elim (same_key (key_of i) r) as (λ x. same_key (key_of i) r ≡ x → IsBuilding v (key_of i) (cond x l (s.lists (key_of i))) t) [
      | true ↦ λ d. c.new v i k (same_key-true (key_of i) r d)
      | false ↦ λ d. old
    ]) refl

far : (r : RegionKey) (v : ℕ) (f : RegionKey → ℕ) (q : RegionKey) → same_key q r ≡ false → set_at r v f q ≡ f q
far r v f q z = ap (λ b. cond b v (f q)) z

not_new : {P : Type 0} (s : Parts) (r : RegionKey) → IsSound s → IsRegion s.plain.tables r → (w : ℕ) (i : RegionInfo) → Member i (s.plans w).regions → key_of i ≡ r → P
not_new s r h i w j m k = absurd (h.once.is_new w j m (subst (IsRegion s.plain.tables) (sym k) i))

flush_kept : (s : Parts) (a : ℕ) (r : RegionKey) (l : RegionFiles) (cells : List Cell) (more : List (List ℕ × Entry)) → Flushes a r l cells more s → IsFaithful s
    → (i : RegionInfo) → Member i (s.plans a).regions → planned_for more (key_of i) ≡ [] → (u row : List ℕ) (q : RegionKey) → job_of s.plain.live a ≡ Some (jobs.Split u row) → HasHold s.plain.live a (holds.Region q)
    → set_at r (greatest (s.plain.kept r) (frozen_cells s.plain r)) s.plain.kept q ≡ s.plain.kept q
flush_kept s a r l cells more g f i m e u row q j y =
    let p = subst (λ o. IsPlan o a (s.plans a) s.plain.live s.plain.tables s.snapshots s.lists) j (f.exact.at a (some_regions (s.plans a).regions i m)) in
    (elim (same_key q r) as (λ b. same_key q r ≡ b → cond b (greatest (s.plain.kept r) (frozen_cells s.plain r)) (s.plain.kept q) ≡ s.plain.kept q) [
      | true ↦ λ d. ap (greatest (s.plain.kept r)) (flushes_none s a r u row l cells more i j g p m e) ∙ ap s.plain.kept (sym (same_key-true q r d))
      | false ↦ λ d. refl
    ]) refl

built_new : (a : ℕ) (r : RegionKey) (l : RegionFiles) (cells : List Cell) (more : List (List ℕ × Entry)) (s t : Parts) → AllowsList why.Build a r l cells more s → IsSound s → t.plain.live ≡ s.plain.live → t.plain.snapshots ≡ s.plain.snapshots → t.plain.kept ≡ s.plain.kept
    → t.plans a ≡ gained (s.plans a) more → (w : ℕ) (i : RegionInfo) → Member i (s.plans w).regions → key_of i ≡ r → IsBuilding w (key_of i) l t
built_new a r l cells more s t g h lv sn kp p w i m k =
    subst (λ v. IsBuilding v (key_of i) l t) (sym (h.once.alone w a i g.info m g.region (k ∙ sym g.key))) (subst (λ q. IsBuilding a q l t) (sym k) (inr (record {
      rest = [];
      first = ap (λ (v : Plan). planned_for v.entries r) p ∙ ap (λ es. planned_for ((s.plans a).entries ++ es) r) g.unplanned ∙ ap (λ es. planned_for es r) (append-nil (s.plans a).entries) ∙ sym g.entries ∙ sym (append-nil l.entries);
      number = λ z. subst (λ o. HasNumber o r a l.seq t) (ap (λ v. job_of v a) (sym lv)) (number_on (job_of s.plain.live a) a r l.seq s t (record {
        job = ap (λ v. job_of v a) lv;
        regions = ap (λ (v : Plan). v.regions) p;
        used = λ j name o u. ap (λ v. get v name) sn;
        back = λ y x. subst (λ v. HasHold v a y) lv x;
        kept = λ u row q o y. ap (λ (f : RegionKey → ℕ). f q) kp;
      }) g.seq);
    })))

list_numbers : (reason : Why) (actor : Actor) (r : RegionKey) (n : ℕ) (name : List ℕ) (l : RegionFiles) (cells : List Cell) (more : List (List ℕ × Entry)) (s : Parts) → AllowsList reason actor.0 r l cells more s → IsSound s → IsFaithful s → BuiltNumbers s
    → BuiltNumbers (after (step.CommitList actor r n name reason l cells more) s)
list_numbers why.Flush actor r n name l cells more s g h f b = record {
  at = commit_numbers actor.0 r l more s (after (step.CommitList actor r n name why.Flush l cells more) s) (record {
    live = refl;
    snapshots = refl;
    plans = λ w. refl;
    other_kept = far r _ s.plain.kept;
    own_kept = flush_kept s actor.0 r l cells more g.1 f;
    alone = λ w d y i. held_alone why.Flush actor.0 w r l cells more s g h d y i;
    new = λ w i m k. not_new s r h g.1.region w i m k;
  }) f b;
}
list_numbers why.Capture actor r n name l cells more s g h f b = record {
  at = commit_numbers actor.0 r l more s (after (step.CommitList actor r n name why.Capture l cells more) s) (record {
    live = refl;
    snapshots = refl;
    plans = λ w. refl;
    other_kept = far r _ s.plain.kept;
    own_kept = λ i m e u row q j y. absurd (split_fits s actor.0 u row _ h j g.take);
    alone = λ w d y i. held_alone why.Capture actor.0 w r l cells more s g h d y i;
    new = λ w i m k. not_new s r h (inl g.is_open) w i m k;
  }) f b;
}
list_numbers (why.Compact true) actor r n name l cells more s g h f b = record {
  at = commit_numbers actor.0 r l more s (after (step.CommitList actor r n name (why.Compact true) l cells more) s) (record {
    live = refl;
    snapshots = refl;
    plans = λ w. refl;
    other_kept = λ q d. refl;
    own_kept = λ i m e u row q j y. refl;
    alone = λ w d y i. held_alone (why.Compact true) actor.0 w r l cells more s g h d y i;
    new = λ w i m k. not_new s r h g.region w i m k;
  }) f b;
}
list_numbers (why.Compact false) actor r n name l cells more s g h f b = record {
  at = commit_numbers actor.0 r l more s (after (step.CommitList actor r n name (why.Compact false) l cells more) s) (record {
    live = refl;
    snapshots = refl;
    plans = λ w. refl;
    other_kept = λ q d. refl;
    own_kept = λ i m e u row q j y. refl;
    alone = λ w d y i. held_alone (why.Compact false) actor.0 w r l cells more s g h d y i;
    new = λ w i m k. not_new s r h g.region w i m k;
  }) f b;
}
list_numbers why.Bulk actor r n name l cells more s g h f b = record {
  at = commit_numbers actor.0 r l more s (after (step.CommitList actor r n name why.Bulk l cells more) s) (record {
    live = refl;
    snapshots = refl;
    plans = λ w. refl;
    other_kept = far r _ s.plain.kept;
    own_kept = λ i m e u row q j y. absurd (split_fits s actor.0 u row _ h j g.held);
    alone = λ w d y i. held_alone why.Bulk actor.0 w r l cells more s g h d y i;
    new = λ w i m k. not_new s r h (inl g.is_open) w i m k;
  }) f b;
}
list_numbers why.Build actor r n name l cells more s g h f b = record {
  at = commit_numbers actor.0 r l more s (after (step.CommitList actor r n name why.Build l cells more) s) (record {
    live = refl;
    snapshots = refl;
    plans = λ w. refl;
    other_kept = λ q d. refl;
    own_kept = λ i m e u row q j y. refl;
    alone = λ w d y i. held_alone why.Build actor.0 w r l cells more s g h d y i;
    new = built_new actor.0 r l cells more s (after (step.CommitList actor r n name why.Build l cells more) s) g h refl refl refl (ap (λ x. cond x (gained (s.plans actor.0) more) (s.plans actor.0)) (same_self actor.0));
  }) f b;
}

-- ---- a change of regions, and of snapshots

change_numbers : (actor : Actor) (table : List ℕ) (number : ℕ) (name : List ℕ) (set : RegionSet) (change : Event) (s : Parts) → Allows (step.CommitRegions actor table number name set change) s → IsSound s → IsFaithful s → BuiltNumbers s
    → BuiltNumbers (after (step.CommitRegions actor table number name set change) s)
change_numbers actor table number name set change s a h f b = record {
  at = freed_numbers actor.0 s t b (λ w i d m. building_on w (key_of i) (s.lists (key_of i)) s t (record {
    job = ap (λ v. job_of v w) lives;
    regions = ap (λ x. (cond x no_plan (s.plans w)).regions) d;
    used = λ j n o u. ap (λ v. get v n) (change_snapshots (job_of s.plain.live actor.0) change table actor.0 s a.is_change);
    back = λ y x. subst (λ v. HasHold v w y) lives x;
    kept = λ u row q o y. (stays_alike (job_of s.plain.live actor.0) change table actor.0 s q a.is_change h (split_there s w i u row q f m o y)).kept;
  }) (ap (λ x. (cond x no_plan (s.plans w)).entries) d));
}
  where
    t : Parts
    t = after (step.CommitRegions actor table number name set change) s

    lives : t.plain.live ≡ s.plain.live
    lives = live_after (step.CommitRegions actor table number name set change) s a

-- where the same plans, lists, actors and numbers stand
same_numbers : (s t : Parts) → t.plans ≡ s.plans → t.lists ≡ s.lists → t.plain.live ≡ s.plain.live → t.plain.kept ≡ s.plain.kept
    → ((w : ℕ) (job : Job) (name : List ℕ) → job_of s.plain.live w ≡ Some job → used_by job ≡ Some name → get t.plain.snapshots name ≡ get s.plain.snapshots name) → BuiltNumbers s → BuiltNumbers t
same_numbers s t p l v k u b = record {
  at = λ w i m. subst (λ (g : RegionKey → RegionFiles). IsBuilding w (key_of i) (g (key_of i)) t) (sym l) (building_on w (key_of i) (s.lists (key_of i)) s t (record {
    job = ap (λ x. job_of x w) v;
    regions = ap (λ (g : ℕ → Plan). (g w).regions) p;
    used = λ j name o n. u w j name o n;
    back = λ y x. subst (λ z. HasHold z w y) v x;
    kept = λ x row q o y. ap (λ (g : RegionKey → ℕ). g q) k;
  }) (ap (λ (g : ℕ → Plan). (g w).entries) p) (b.at w i (subst (λ (g : ℕ → Plan). Member i (g w).regions) p m)));
}

-- a snapshot of another name is put
with_other : (name : List ℕ) (captures : RegionKey → Option RegionCopy) (o : Option PlainTable) (m : Names PlainSnapshot) (q : List ℕ) → same_bytes q name ≡ false → get (with_snapshot name captures o m) q ≡ get m q
with_other name captures None m q d = refl
with_other name captures (Some x) m q d = put_other m name _ q d

other_name : (q name : List ℕ) → (q ≡ name → ⊥) → same_bytes q name ≡ false
other_name q name n = (elim (same_bytes q name) as (λ b. same_bytes q name ≡ b → b ≡ false) [
  | true ↦ λ d. absurd (n (same_bytes-true q name d))
  | false ↦ λ d. refl
]) refl

complete_numbers : (actor : Actor) (name : List ℕ) (x : Snapshot) (s : Parts) → Allows (step.Complete actor name x) s → IsSound s → BuiltNumbers s → BuiltNumbers (after (step.Complete actor name x) s)
complete_numbers actor name x s a h b = same_numbers s (after (step.Complete actor name x) s) refl refl refl refl (λ w job q j u.
    ap (λ o. get (completed o (s.plain.captures actor.0) s.plain.tables s.plain.snapshots) q) (hold_job s.plain.live actor.0 _ a.take ∙ ap Some (take_job name a.table _ (hold_fits s.plain.live actor.0 _ h.fits a.take)))
    ∙ with_other name (s.plain.captures actor.0) (get s.plain.tables a.table) s.plain.snapshots q
    (other_name q name (λ e. let z : false ≡ true = sym (ap is_some (ap (get s.snapshots) e ∙ a.missing)) ∙ used_there s w job q h j u in absurd (cc)))) b

-- nobody uses a snapshot that is deleted
unused : (s : Parts) (a w : ℕ) (name : List ℕ) → IsSound s → HasHold s.plain.live a (holds.Erase name) → HasHold s.plain.live w (holds.Use name) → ⊥
unused s a w name h x y = (elim (w == a) as (λ b. w == a ≡ b → ⊥) [
  | true ↦ λ d. let z = both_fit s.plain.live h.fits a (holds.Use name) (holds.Erase name) (subst (λ v. HasHold s.plain.live v (holds.Use name)) (same_number w a d) y) x in use_erase z.0 name name z.1 z.2
  | false ↦ λ d. let z : true ≡ false = sym (same_bytes-self name) ∙ holds_apart s.plain.live a w (holds.Erase name) (holds.Use name) h.apart x y (not_actor w a d) in absurd (cc)
]) refl

erase_numbers : (actor : Actor) (name : List ℕ) (s : Parts) → Allows (step.Uncomplete actor name) s → IsSound s → BuiltNumbers s → BuiltNumbers (after (step.Uncomplete actor name) s)
erase_numbers actor name s a h b = same_numbers s (after (step.Uncomplete actor name) s) refl refl refl refl (λ w job q j u.
    taken_other s.plain.snapshots name q (other_name q name (λ e. let l = map_some (λ (l : Live). l.job) (live_of s.plain.live w) job j in
    unused s actor.0 w name h a.erase (record { activity = l.0; at_work = l.1; held = subst (λ n. Member (holds.Use n) l.0.holds) e (h.uses.at l.0 q (member-find _ s.plain.live l.0 l.1) (ap used_by l.2 ∙ u)) })))) b

-- ---- all steps

ended_numbers : (a : ℕ) (s t : Parts) → IsSound s → t.plain.live ≡ without a s.plain.live → ((w : ℕ) → t.plans w ≡ cond (w == a) no_plan (s.plans w)) → t.plain.snapshots ≡ s.plain.snapshots → t.plain.kept ≡ s.plain.kept → BuiltNumbers s
    → (w : ℕ) (i : RegionInfo) → Member i (cond (w == a) no_plan (s.plans w)).regions → IsBuilding w (key_of i) (s.lists (key_of i)) t
ended_numbers a s t h l p n k b = freed_numbers a s t b (λ w i d m. building_on w (key_of i) (s.lists (key_of i)) s t
    (ended_stays a w s t i h d m l (p w ∙ ap (λ x. cond x no_plan (s.plans w)) d) n k) (ap (λ (v : Plan). v.entries) (p w ∙ ap (λ x. cond x no_plan (s.plans w)) d)))

pub numbers_kept : (p : Step) (s : Parts) → Allows p s → IsSound s → IsFaithful s → BuiltNumbers s → BuiltNumbers (after p s)
numbers_kept (step.Start who job (started.Live actor) drawn) s a h f b = start_numbers who job actor drawn s a h b
numbers_kept (step.End actor refusal) s a h f b = record { at = ended_numbers actor.0 s (after (step.End actor refusal) s) h refl (λ w. refl) refl refl b }
numbers_kept (step.Abandon actor) s a h f b = record { at = ended_numbers actor.0 s (after (step.Abandon actor) s) h refl (λ w. refl) refl refl b }
numbers_kept (step.CommitList actor region number name reason list cells more) s a h f b = list_numbers reason actor region number name list cells more s a.allowed h f b
numbers_kept (step.CommitRegions actor table number name set change) s a h f b = change_numbers actor table number name set change s a h f b
numbers_kept (step.Complete actor name x) s a h f b = complete_numbers actor name x s a h b
numbers_kept (step.Uncomplete actor name) s a h f b = erase_numbers actor name s a h b
numbers_kept (step.PutCell who table put moment (Some joined)) s a h f b = same_numbers s (after (step.PutCell who table put moment (Some joined)) s) refl refl refl refl (λ w j n o u. refl) b
numbers_kept (step.PutCell who table put moment None) s a h f b = same_numbers s (after (step.PutCell who table put moment None) s) refl refl refl refl (λ w j n o u. refl) b
numbers_kept (step.ListSnapshots who) s a h f b = same_numbers s (after (step.ListSnapshots who) s) refl refl refl refl (λ w j n o u. refl) b
numbers_kept (step.Start who job (started.Refused refusal) drawn) s a h f b = same_numbers s (after (step.Start who job (started.Refused refusal) drawn) s) refl refl refl refl (λ w j n o u. refl) b
numbers_kept (step.Freeze actor region) s a h f b = same_numbers s (after (step.Freeze actor region) s) refl refl refl refl (λ w j n o u. refl) b
numbers_kept (step.WriteTmp actor recipe name cells bytes) s a h f b = same_numbers s (after (step.WriteTmp actor recipe name cells bytes) s) refl refl refl refl (λ w j n o u. refl) b
numbers_kept (step.Place actor (moves.Written name) base cells) s a h f b = same_numbers s (after (step.Place actor (moves.Written name) base cells) s) refl refl refl refl (λ w j n o u. refl) b
numbers_kept (step.Place actor (moves.WrittenBulk name) base cells) s a h f b = same_numbers s (after (step.Place actor (moves.WrittenBulk name) base cells) s) refl refl refl refl (λ w j n o u. refl) b
numbers_kept (step.Place actor (moves.StagedBulk folder name) base cells) s a h f b = same_numbers s (after (step.Place actor (moves.StagedBulk folder name) base cells) s) refl refl refl refl (λ w j n o u. refl) b
numbers_kept (step.Capture actor region) s a h f b = same_numbers s (after (step.Capture actor region) s) refl refl refl refl (λ w j n o u. refl) b
numbers_kept (step.DropOld actor file) s a h f b = same_numbers s (after (step.DropOld actor file) s) refl refl refl refl (λ w j n o u. refl) b
numbers_kept (step.Pin actor target (Ok region) true) s a h f b = same_numbers s (after (step.Pin actor target (Ok region) true) s) refl refl refl refl (λ w j n o u. refl) b
numbers_kept (step.Pin actor target (Ok region) false) s a h f b = same_numbers s (after (step.Pin actor target (Ok region) false) s) refl refl refl refl (λ w j n o u. refl) b
numbers_kept (step.Pin actor target (Err refusal) major) s a h f b = same_numbers s (after (step.Pin actor target (Err refusal) major) s) refl refl refl refl (λ w j n o u. refl) b
numbers_kept (step.Unpin actor) s a h f b = same_numbers s (after (step.Unpin actor) s) refl refl refl refl (λ w j n o u. refl) b
numbers_kept (step.Stamp actor base moment) s a h f b = same_numbers s (after (step.Stamp actor base moment) s) refl refl refl refl (λ w j n o u. refl) b
numbers_kept (step.Archive actor base) s a h f b = same_numbers s (after (step.Archive actor base) s) refl refl refl refl (λ w j n o u. refl) b
numbers_kept (step.BackRef actor base region) s a h f b = same_numbers s (after (step.BackRef actor base region) s) refl refl refl refl (λ w j n o u. refl) b
numbers_kept (step.Link actor base region) s a h f b = same_numbers s (after (step.Link actor base region) s) refl refl refl refl (λ w j n o u. refl) b
numbers_kept (step.Half actor entry region bytes) s a h f b = same_numbers s (after (step.Half actor entry region bytes) s) refl refl refl refl (λ w j n o u. refl) b
numbers_kept (step.Unlink actor entry region) s a h f b = same_numbers s (after (step.Unlink actor entry region) s) refl refl refl refl (λ w j n o u. refl) b
numbers_kept (step.Manifest actor part snapshot moment bytes) s a h f b = same_numbers s (after (step.Manifest actor part snapshot moment bytes) s) refl refl refl refl (λ w j n o u. refl) b
numbers_kept (step.PassRead actor snapshot) s a h f b = same_numbers s (after (step.PassRead actor snapshot) s) refl refl refl refl (λ w j n o u. refl) b
numbers_kept (step.CleanBackRef actor base region) s a h f b = same_numbers s (after (step.CleanBackRef actor base region) s) refl refl refl refl (λ w j n o u. refl) b
numbers_kept (step.DeleteArchived actor base) s a h f b = same_numbers s (after (step.DeleteArchived actor base) s) refl refl refl refl (λ w j n o u. refl) b
