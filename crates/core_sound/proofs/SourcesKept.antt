-- Each step keeps that planned bases come from a snapshot that is used, or from the list of the region that is split.
use Rattle.std.proofs.lemmas.Bool.Decides.{nat_tests}
use Rattle.std.proofs.Common.{arith, ◌≡◌, ℕ, ◌==◌, true, false, cond, List, [], ◌∷◌, ◌++◌, Option, Some, None, refl, sym, ap, ◌∙◌, subst, inl, inr}
use Rattle.std.specs.Prelude.{map, option_map, option_to_list, zip, IsSome}
use Rattle.std.specs.FinMap.{get, insert, remove}
use Rattle.hb_layout.specs.declared.base.Base.{Base}
use Rattle.hb_cell.specs.declared.cell.Cell.{Cell}
use Rattle.hb_cell.specs.Order.{same_bytes}
use Rattle.hb_records.specs.declared.region_info.RegionInfo.{RegionInfo}
use Rattle.plain_model.specs.declared.hold.Hold.{Hold}
use Rattle.plain_model.specs.declared.hold.Hold.TheVariants as holds
use Rattle.plain_model.specs.declared.job.Job.{Job}
use Rattle.plain_model.specs.declared.job.Job.TheVariants as jobs
use Rattle.plain_model.specs.declared.parts.Live.{Live}
use Rattle.plain_model.specs.declared.parts.PlainTable.{PlainTable}
use Rattle.plain_model.specs.declared.region_key.RegionKey.{RegionKey}
use Rattle.plain_model.specs.declared.who.Actor.{Actor}
use Rattle.plain_model.specs.Found.{region_with, table_of_snapshot}
use Rattle.plain_model.specs.Holds.{holds_of}
use Rattle.plain_model.specs.CellEvents.{each_with}
use Rattle.plain_model.specs.Keys.{key_of, encoded, same_key, set_at, set_each}
use Rattle.plain_model.specs.LiveEvents.{live_of, job_of, without}
use Rattle.plain_model.specs.Names.{Names}
use Rattle.cell_sight.specs.Member.{Member}
use Rattle.core_model.specs.declared.entry.Entry.{Entry}
use Rattle.core_model.specs.declared.entry.Entry.TheVariants.{Own}
use Rattle.core_model.specs.declared.plan.Plan.{Plan}
use Rattle.core_model.specs.declared.region_files.RegionFiles.{RegionFiles}
use Rattle.core_model.specs.declared.snapshot.Snapshot.{Snapshot}
use Rattle.core_model.specs.declared.targets.Why.{Why}
use Rattle.core_model.specs.declared.targets.Why.TheVariants as why
use Rattle.core_model.specs.declared.step.Drawn.{Drawn}
use Rattle.core_model.specs.declared.step.Started.TheVariants as started
use Rattle.core_model.specs.declared.step.Step.{Step}
use Rattle.core_model.specs.declared.step.Step.TheVariants as step
use Rattle.region_set.specs.declared.region_set.RegionSet.{RegionSet}
use Rattle.plain_model.specs.declared.event.Event.{Event}
use Rattle.plain_model.specs.TableEvents.{tables_on}
use Rattle.core_model.specs.Keys.{set_actor}
use Rattle.core_model.specs.ActorChanges.{plans_by}
use Rattle.core_model.specs.ActorFacts.{ComesFrom, IsSourceIn, PlansSources, FitsJob}
use Rattle.core_model.specs.Actors.{HasHold, IsLive, IsRegion, MayFlush, commits_table, commits_region, commits_flush}
use Rattle.core_model.specs.Allows.{Allows}
use Rattle.core_model.specs.Entries.{base_of, no_list}
use Rattle.core_model.specs.FileChanges.{lists_by, snapshots_by}
use Rattle.core_model.specs.ListGuards.{AllowsList}
use Rattle.core_model.specs.LiveChanges.{live_by}
use Rattle.core_model.specs.PassChanges.{snapshot_entries}
use Rattle.core_model.specs.Plans as plans
use Rattle.core_model.specs.Replay.{after}
use Rattle.core_model.specs.Sound.{IsSound}
use Rattle.core_model.specs.StartGuards.{CanStart}
use Rattle.core_model.specs.State.{Parts, no_plan}
use Rattle.core_model.specs.TableChanges.{tables_by}
use Rattle.core_sound.proofs.HoldsFound.{hold_fits, hold_job, holds_apart, some_is}
use Rattle.core_sound.proofs.Lists.{member-front, member-behind}
use Rattle.core_sound.proofs.LiveKept.{live_after, find-front, find-without, hold_front, hold_without}
use Rattle.core_sound.proofs.NeverAgain.{tables_after}
use Rattle.core_sound.proofs.NumbersKept.{new_found}
use Rattle.core_sound.proofs.PlansKept.{old_entry, gained_entry}
use Rattle.core_sound.proofs.RegionsStay.{region_stays}
use Rattle.core_sound.proofs.SnapshotsKept.{both_fit, use_erase}
use Rattle.core_sound.proofs.Sources.{copies-source, halves-source, row_region, wider}
use Rattle.core_sound.proofs.TablesKept.{put_other, taken_other}
use Rattle.core_sound.proofs.Tests.{same_bytes-self, same_bytes-true, same_number, same_key-true}
use Rattle.core_sound.proofs.Vacant.{each-cases, drawn_out, same_key-self}

-- ---- where a base comes from, when the state goes on

abbrev Lists : Type 0
Lists = RegionKey → RegionFiles

-- what the actor holds, uses and splits stays
record Stays (a : ℕ) (live more : List Live) (tables others : Names PlainTable) (snapshots copies : Names Snapshot) (lists next : Lists) : Type 0 where
  held : (h : Hold) → HasHold live a h → HasHold more a h
  used : (name : List ℕ) (x : Snapshot) → HasHold live a (holds.Use name) → get snapshots name ≡ Some x → get copies name ≡ Some x
  set : (r : RegionKey) → HasHold live a (holds.Region r) → IsRegion tables r → IsRegion others r
  listed : (r : RegionKey) (e : Entry) → HasHold live a (holds.Region r) → IsRegion tables r → Member e (lists r).entries → Member e (next r).entries

comes_on : (o : Option Job) (a : ℕ) (b : Base) (live more : List Live) (tables others : Names PlainTable) (snapshots copies : Names Snapshot) (lists next : Lists)
    → Stays a live more tables others snapshots copies lists next → ComesFrom o a b live tables snapshots lists → ComesFrom o a b more others copies next
comes_on (Some (jobs.Clone name t)) a b live more tables others snapshots copies lists next k c = (k.held _ c.0, (c.1.0, k.used name c.1.0 c.0 c.1.1, c.1.2))
comes_on (Some (jobs.Restore name)) a b live more tables others snapshots copies lists next k c = (k.held _ c.0, (c.1.0, k.used name c.1.0 c.0 c.1.1, c.1.2))
comes_on (Some (jobs.Split t row)) a b live more tables others snapshots copies lists next k c =
    (c.0, k.held _ c.1, k.set c.0 c.1 c.2, record { entry = c.3.entry; listed = k.listed c.0 c.3.entry c.1 c.2 c.3.listed; reads = c.3.reads })
comes_on _ a b live more tables others snapshots copies lists next k c = absurd c

job_on : (live more : List Live) (a : ℕ) (o : Option Job) → ((x : Live) → live_of live a ≡ Some x → live_of more a ≡ Some x) → (l : Live) → live_of live a ≡ Some l → job_of live a ≡ o → job_of more a ≡ o
job_on live more a o k l e j = ap (option_map (λ (x : Live). x.job)) (k l e ∙ sym e) ∙ j

some_live : (o : Option Live) → IsSome o → (l : Live) × (o ≡ Some l)
some_live None e = absurd (cc)
some_live (Some l) e = (l, refl)

-- ---- a start

start_use : (job : Job) (name : List ℕ) (actor : Actor) (drawn : Drawn) (s : Parts) → CanStart job (started.Live actor) drawn s → IsSound s → ((un : List RegionKey) → Member (holds.Use name) (holds_of un s.plain job))
    → HasHold (s.plain.live ++ record { actor = actor; job = job; holds = drawn.holds } ∷ []) actor.0 (holds.Use name)
start_use job name actor drawn s a h k = record {
  activity = record { actor = actor; job = job; holds = drawn.holds };
  at_work = new_found s (record { actor = actor; job = job; holds = drawn.holds }) a.answered.1.number h;
  held = subst (Member (holds.Use name)) (sym a.holds) (k a.unreferenced);
}

copies-found : (is : List RegionInfo) (name : List ℕ) (snapshots : Names Snapshot) (o : Option Snapshot) (x : List ℕ × Entry) → get snapshots name ≡ o → Member x (plans.copies_in (zip is (plans.regions_in o)))
    → (y : Snapshot) × (get snapshots name ≡ Some y) × IsSourceIn (snapshot_entries y) (base_of x.1)
copies-found [] name snapshots None x e m = absurd m
copies-found (i ∷ is) name snapshots None x e m = absurd m
copies-found is name snapshots (Some y) x e m = (y, e, copies-source is y.regions x m)

split-found : (is : List RegionInfo) (row : List ℕ) (o : Option RegionInfo) (lists : Lists) (x : List ℕ × Entry) → Member x (plans.split_entries is row o lists)
    → (r : RegionInfo) × (o ≡ Some r) × IsSourceIn (lists (key_of r)).entries (base_of x.1)
split-found is row None lists x m = absurd m
split-found is row (Some r) lists x m = (r, refl, halves-source is (encoded r) row x (lists (key_of r)).entries m)

-- the region that a split holds
split-hold : (o : Option RegionInfo) (r : RegionInfo) → o ≡ Some r → Member (holds.Region (key_of r)) (map holds.Region (option_to_list (option_map key_of o)))
split-hold None r e = absurd (cc)
split-hold (Some q) r e = inl (ap (λ (x : RegionInfo). holds.Region (key_of x)) (some_is e))

planned : (job : Job) (actor : Actor) (drawn : Drawn) (s : Parts) (is : List RegionInfo) (x : List ℕ × Entry) → CanStart job (started.Live actor) drawn s → IsSound s
    → Member x (plans.planned_entries job is s.plain s.snapshots s.lists)
    → ComesFrom (Some job) actor.0 (base_of x.1) (s.plain.live ++ record { actor = actor; job = job; holds = drawn.holds } ∷ []) s.plain.tables s.snapshots s.lists
planned (jobs.Clone name t) actor drawn s is x a h m =
    (start_use (jobs.Clone name t) name actor drawn s a h (λ un. inr (inl refl)), copies-found is name s.snapshots (get s.snapshots name) x refl m)
planned (jobs.Restore name) actor drawn s is x a h m = (
  start_use (jobs.Restore name) name actor drawn s a h (λ un. member-behind (holds.Use name) (map holds.Table (option_to_list (table_of_snapshot s.plain name))) (holds.Use name ∷ []) (inl refl)),
  copies-found is name s.snapshots (get s.snapshots name) x refl m,
)
planned (jobs.Split t row) actor drawn s is x a h m =
    let w = split-found is row (region_with s.plain t row) s.lists x m in (
      key_of w.0,
      record {
        activity = record { actor = actor; job = jobs.Split t row; holds = drawn.holds };
        at_work = new_found s (record { actor = actor; job = jobs.Split t row; holds = drawn.holds }) a.answered.1.number h;
        held = subst (Member (holds.Region (key_of w.0))) (sym a.holds) (split-hold (region_with s.plain t row) w.0 w.1);
      },
      row_region s.plain t row w.0 h.own_regions w.1,
      w.2,
    )
planned _ actor drawn s is x a h m = absurd m

-- the lists of regions that stand are not made anew
undrawn : (job : Job) (actor : Actor) (drawn : Drawn) (s : Parts) → CanStart job (started.Live actor) drawn s → (r : RegionKey) (e : Entry) → IsRegion s.plain.tables r → Member e (s.lists r).entries
    → Member e (set_each (each_with no_list drawn.regions) s.lists r).entries
undrawn job actor drawn s a r e i m = each-cases (λ (l : RegionFiles). Member e l.entries) no_list drawn.regions s.lists r (λ j n k. absurd (drawn_out job actor drawn s a j n (subst (IsRegion s.plain.tables) (sym k) i))) m

start_sources : (job : Job) (actor : Actor) (drawn : Drawn) (s : Parts) → CanStart job (started.Live actor) drawn s → IsSound s
    → PlansSources (λ w. cond (w == actor.0) drawn.plan (s.plans w)) (s.plain.live ++ record { actor = actor; job = job; holds = drawn.holds } ∷ []) s.plain.tables s.snapshots (set_each (each_with no_list drawn.regions) s.lists)
start_sources job actor drawn s a h = record {
  at = λ w x m. (elim (w == actor.0) as (λ b. w == actor.0 ≡ b → Member x (cond b drawn.plan (s.plans w)).entries → ComesFrom (job_of more w) w (base_of x.1) more s.plain.tables s.snapshots next) [
    | true ↦ λ d k. subst (λ v. ComesFrom (job_of more v) v (base_of x.1) more s.plain.tables s.snapshots next) (sym (same_number w actor.0 d))
        (subst (λ o. ComesFrom o actor.0 (base_of x.1) more s.plain.tables s.snapshots next) (sym (ap (option_map (λ (l : Live). l.job)) fresh))
        (comes_on (Some job) actor.0 (base_of x.1) more more s.plain.tables s.plain.tables s.snapshots s.snapshots s.lists next (record {
          held = λ y n. n;
          used = λ name y n e. e;
          set = λ r n i. i;
          listed = λ r e n i j. undrawn job actor drawn s a r e i j;
        }) (planned job actor drawn s _ x a h (subst (λ (v : Plan). Member x v.entries) a.answered.1.plan k))))
    | false ↦ λ d k.
        let i = h.once.entries w x k in
        let l = map_some_live w (h.once.by_live w i.0 i.1) in
        subst (λ o. ComesFrom o w (base_of x.1) more s.plain.tables s.snapshots next) (sym (job_on s.plain.live more w _ (λ y e. find-front _ s.plain.live _ y e) l.0 l.1 refl))
        (comes_on (job_of s.plain.live w) w (base_of x.1) s.plain.live more s.plain.tables s.plain.tables s.snapshots s.snapshots s.lists next (record {
          held = λ y n. hold_front s.plain.live _ w y n;
          used = λ name y n e. e;
          set = λ r n j. j;
          listed = λ r e n j q. undrawn job actor drawn s a r e j q;
        }) (h.sources.at w x k))
  ]) refl m;
}
  where
    more : List Live
    more = s.plain.live ++ record { actor = actor; job = job; holds = drawn.holds } ∷ []

    next : Lists
    next = set_each (each_with no_list drawn.regions) s.lists

    fresh : live_of more actor.0 ≡ Some (record { actor = actor; job = job; holds = drawn.holds })
    fresh = new_found s (record { actor = actor; job = job; holds = drawn.holds }) a.answered.1.number h

    map_some_live : (w : ℕ) → IsLive s.plain.live w → (l : Live) × (live_of s.plain.live w ≡ Some l)
    map_some_live w e = some_live (live_of s.plain.live w) e

-- ---- an end

end_sources : (a : ℕ) (s : Parts) → IsSound s → PlansSources (set_actor a no_plan s.plans) (without a s.plain.live) s.plain.tables s.snapshots s.lists
end_sources a s h = record {
  at = λ w x m.
      let k = old_entry a s.plans w x m in
      let i = h.once.entries w x k.1 in
      let l = some_live (live_of s.plain.live w) (h.once.by_live w i.0 i.1) in
      subst (λ o. ComesFrom o w (base_of x.1) (without a s.plain.live) s.plain.tables s.snapshots s.lists) (sym (job_on s.plain.live (without a s.plain.live) w _ (λ y e. find-without w a s.plain.live y k.0 e) l.0 l.1 refl))
      (comes_on (job_of s.plain.live w) w (base_of x.1) s.plain.live (without a s.plain.live) s.plain.tables s.plain.tables s.snapshots s.snapshots s.lists s.lists (record {
        held = λ y n. hold_without s.plain.live w a y k.0 n;
        used = λ name y n e. e;
        set = λ r n j. j;
        listed = λ r e n j q. q;
      }) (h.sources.at w x k.1));
}

-- ---- a list that is committed

no_compact : (r q : RegionKey) (job : Job) → FitsJob (holds.Region r) job → FitsJob (holds.Compact q) job → ⊥
no_compact r q (jobs.Split t row) f g = g
no_compact r q jobs.Janitor f g = g
no_compact r q _ f g = f

-- nobody compacts a region that is held
uncompacted : {P : Type 0} (s : Parts) (a w : ℕ) (r : RegionKey) → IsSound s → HasHold s.plain.live a (holds.Compact r) → HasHold s.plain.live w (holds.Region r) → P
uncompacted {P} s a w r h x y = (elim (w == a) as (λ b. w == a ≡ b → P) [
  | true ↦ λ d. let z = both_fit s.plain.live h.fits a (holds.Region r) (holds.Compact r) (subst (λ v. HasHold s.plain.live v (holds.Region r)) (same_number w a d) y) x in absurd (no_compact r r z.0 z.1 z.2)
  | false ↦ λ d. let z : true ≡ false = sym (same_key-self r) ∙ holds_apart s.plain.live w a (holds.Region r) (holds.Compact r) h.apart y x (λ e. differ w a e d) in absurd (cc)
]) refl
  where
    differ : (m n : ℕ) → m ≡ n → m == n ≡ false → ⊥
    differ m n e d = grind (arith, nat_tests)

list_stays : (reason : Why) (a w : ℕ) (r : RegionKey) (l : RegionFiles) (cells : List Cell) (more : List (List ℕ × Entry)) (s : Parts) → AllowsList reason a r l cells more s → IsSound s
    → HasHold s.plain.live w (holds.Region r) → IsRegion s.plain.tables r → (e : Entry) → Member e (s.lists r).entries → Member e l.entries
list_stays why.Flush a w r l cells more s g h y i e m = subst (Member e) (sym g.1.entries) (member-front e (s.lists r).entries (map Own g.1.added) m)
list_stays why.Capture a w r l cells more s g h y i e m = subst (Member e) (sym g.flushes.entries) (member-front e (s.lists r).entries (map Own g.flushes.added) m)
list_stays (why.Compact major) a w r l cells more s g h y i e m = uncompacted s a w r h g.held y
list_stays why.Bulk a w r l cells more s g h y i e m = subst (Member e) (sym g.entries) (member-front e (s.lists r).entries (map Own g.added) m)
list_stays why.Build a w r l cells more s g h y i e m = absurd (g.out i)

-- a split's actor flushes what it holds
flush_hold : (s : Parts) (a : ℕ) (r : RegionKey) (t row : List ℕ) → IsSound s → job_of s.plain.live a ≡ Some (jobs.Split t row) → MayFlush s.plain.live a r → HasHold s.plain.live a (holds.Region r)
flush_hold s a r t row h j (commits_table x) = absurd (subst (FitsJob (holds.Table r.table)) (some_is (sym (hold_job s.plain.live a _ x) ∙ j)) (hold_fits s.plain.live a _ h.fits x))
flush_hold s a r t row h j (commits_region x) = x
flush_hold s a r t row h j (commits_flush x) = absurd (subst (FitsJob (holds.Flush r)) (some_is (sym (hold_job s.plain.live a _ x) ∙ j)) (hold_fits s.plain.live a _ h.fits x))

gained-source : (job : Option Job) (is : List RegionInfo) (r : RegionKey) (es fs : List Entry) (x : List ℕ × Entry) (a : ℕ) (live : List Live) (tables : Names PlainTable) (snapshots : Names Snapshot) (next : Lists)
    → ((t row : List ℕ) → job ≡ Some (jobs.Split t row) → HasHold live a (holds.Region r)) → IsRegion tables r → (next r).entries ≡ fs ++ es
    → Member x (plans.more_entries job is r es) → ComesFrom job a (base_of x.1) live tables snapshots next
gained-source (Some (jobs.Split t row)) is r es fs x a live tables snapshots next k i e m =
    (r, k t row refl, i, subst (λ y. IsSourceIn y (base_of x.1)) (sym e) (wider es (fs ++ es) (base_of x.1) (λ y n. member-behind y fs es n) (halves-source is r.region row x es m)))
gained-source _ is r es fs x a live tables snapshots next k i e m = absurd m

none_gained : {P : Type 0} (more : List (List ℕ × Entry)) (x : List ℕ × Entry) → more ≡ [] → Member x more → P
none_gained more x e m = absurd (subst (Member x) e m)

set_this : (r : RegionKey) (l : RegionFiles) (lists : Lists) → set_at r l lists r ≡ l
set_this r l lists = ap (λ b. cond b l (lists r)) (same_key-self r)

taken_split : (s : Parts) (a : ℕ) (name t u row : List ℕ) → IsSound s → HasHold s.plain.live a (holds.Take name t) → job_of s.plain.live a ≡ Some (jobs.Split u row) → ⊥
taken_split s a name t u row h x j = subst (FitsJob (holds.Take name t)) (some_is (sym (hold_job s.plain.live a _ x) ∙ j)) (hold_fits s.plain.live a _ h.fits x)

gained : (reason : Why) (a : ℕ) (r : RegionKey) (l : RegionFiles) (cells : List Cell) (more : List (List ℕ × Entry)) (s : Parts) (x : List ℕ × Entry) → AllowsList reason a r l cells more s → IsSound s → Member x more
    → ComesFrom (job_of s.plain.live a) a (base_of x.1) s.plain.live s.plain.tables s.snapshots (set_at r l s.lists)
gained why.Flush a r l cells more s x g h m = gained-source (job_of s.plain.live a) _ r (map Own g.1.added) (s.lists r).entries x a s.plain.live s.plain.tables s.snapshots (set_at r l s.lists)
    (λ t row j. flush_hold s a r t row h j g.0) g.1.region (ap (λ (y : RegionFiles). y.entries) (set_this r l s.lists) ∙ g.1.entries) (subst (Member x) g.1.halves m)
gained why.Capture a r l cells more s x g h m = gained-source (job_of s.plain.live a) _ r (map Own g.flushes.added) (s.lists r).entries x a s.plain.live s.plain.tables s.snapshots (set_at r l s.lists)
    (λ t row j. absurd (taken_split s a g.snapshot r.table t row h g.take j)) (inl g.is_open) (ap (λ (y : RegionFiles). y.entries) (set_this r l s.lists) ∙ g.flushes.entries) (subst (Member x) g.flushes.halves m)
gained (why.Compact major) a r l cells more s x g h m = none_gained more x g.unplanned m
gained why.Bulk a r l cells more s x g h m = none_gained more x g.unplanned m
gained why.Build a r l cells more s x g h m = none_gained more x g.unplanned m

commit_sources : (reason : Why) (a : ℕ) (r : RegionKey) (l : RegionFiles) (cells : List Cell) (more : List (List ℕ × Entry)) (s : Parts) → AllowsList reason a r l cells more s → IsSound s
    → PlansSources (set_actor a (record { regions = (s.plans a).regions; entries = (s.plans a).entries ++ more }) s.plans) s.plain.live s.plain.tables s.snapshots (set_at r l s.lists)
commit_sources reason a r l cells more s g h = record {
  at = λ w x m. elim (gained_entry s.plans a more w x m) [
    | inl k ↦ comes_on (job_of s.plain.live w) w (base_of x.1) s.plain.live s.plain.live s.plain.tables s.plain.tables s.snapshots s.snapshots s.lists (set_at r l s.lists) (record {
      held = λ y n. n;
      used = λ name y n e. e;
      set = λ q n j. j;
      listed = λ q e n j i. (elim (same_key q r) as (λ b. same_key q r ≡ b → Member e (cond b l (s.lists q)).entries) [
        | true ↦ λ d. let z = same_key-true q r d in
            list_stays reason a w r l cells more s g h (subst (λ (v : RegionKey). HasHold s.plain.live w (holds.Region v)) z n) (subst (IsRegion s.plain.tables) z j) e (subst (λ (v : RegionKey). Member e (s.lists v).entries) z i)
        | false ↦ λ d. i
      ]) refl;
    }) (h.sources.at w x k)
    | inr k ↦ subst (λ v. ComesFrom (job_of s.plain.live v) v (base_of x.1) s.plain.live s.plain.tables s.snapshots (set_at r l s.lists)) (sym k.0) (gained reason a r l cells more s x g h k.1)
  ];
}

-- ---- a change of regions, and of snapshots

not_actor : (w a : ℕ) → w == a ≡ false → a ≡ w → ⊥
not_actor w a d e = grind (arith, nat_tests)

change_sources : (actor : Actor) (table : List ℕ) (number : ℕ) (name : List ℕ) (set : RegionSet) (change : Event) (s : Parts) → Allows (step.CommitRegions actor table number name set change) s → IsSound s
    → PlansSources (set_actor actor.0 no_plan s.plans) s.plain.live (tables_on change s.plain.snapshots s.plain.tables) s.snapshots s.lists
change_sources actor table number name set change s a h = record {
  at = λ w x m.
      let k = old_entry actor.0 s.plans w x m in
      comes_on (job_of s.plain.live w) w (base_of x.1) s.plain.live s.plain.live s.plain.tables _ s.snapshots s.snapshots s.lists s.lists (record {
        held = λ y n. n;
        used = λ name y n e. e;
        set = λ r n j. region_stays change table actor.0 w s r a.is_change h (not_actor w actor.0 k.0) n j;
        listed = λ r e n j q. q;
      }) (h.sources.at w x k.1);
}

snapshot_sources : (s : Parts) (copies : Names Snapshot) → ((w : ℕ) (name : List ℕ) (x : Snapshot) → HasHold s.plain.live w (holds.Use name) → get s.snapshots name ≡ Some x → get copies name ≡ Some x) → IsSound s
    → PlansSources s.plans s.plain.live s.plain.tables copies s.lists
snapshot_sources s copies k h = record {
  at = λ w x m. comes_on (job_of s.plain.live w) w (base_of x.1) s.plain.live s.plain.live s.plain.tables s.plain.tables s.snapshots copies s.lists s.lists (record {
    held = λ y n. n;
    used = λ name y n e. k w name y n e;
    set = λ r n j. j;
    listed = λ r e n j q. q;
  }) (h.sources.at w x m);
}

-- nobody uses a snapshot that is deleted
unused : {P : Type 0} (s : Parts) (a w : ℕ) (name : List ℕ) → IsSound s → HasHold s.plain.live a (holds.Erase name) → HasHold s.plain.live w (holds.Use name) → P
unused {P} s a w name h x y = (elim (w == a) as (λ b. w == a ≡ b → P) [
  | true ↦ λ d. let z = both_fit s.plain.live h.fits a (holds.Use name) (holds.Erase name) (subst (λ v. HasHold s.plain.live v (holds.Use name)) (same_number w a d) y) x in absurd (use_erase z.0 name name z.1 z.2)
  | false ↦ λ d. let z : true ≡ false = sym (same_bytes-self name) ∙ holds_apart s.plain.live a w (holds.Erase name) (holds.Use name) h.apart x y (not_actor w a d) in absurd (cc)
]) refl

completed_stays : (s : Parts) (name : List ℕ) (copied : Snapshot) → get s.snapshots name ≡ None → (q : List ℕ) (x : Snapshot) → get s.snapshots q ≡ Some x → get (insert s.snapshots name copied) q ≡ Some x
completed_stays s name copied n q x e = (elim (same_bytes q name) as (λ b. same_bytes q name ≡ b → get (insert s.snapshots name copied) q ≡ Some x) [
  | true ↦ λ d. let z : None ≡ Some x = sym n ∙ ap (get s.snapshots) (sym (same_bytes-true q name d)) ∙ e in absurd (cc)
  | false ↦ λ d. put_other s.snapshots name copied q d ∙ e
]) refl

erased_stays : (s : Parts) (a w : ℕ) (name q : List ℕ) (x : Snapshot) → IsSound s → HasHold s.plain.live a (holds.Erase name) → HasHold s.plain.live w (holds.Use q) → get s.snapshots q ≡ Some x → get (remove s.snapshots name) q ≡ Some x
erased_stays s a w name q x h y n e = (elim (same_bytes q name) as (λ b. same_bytes q name ≡ b → get (remove s.snapshots name) q ≡ Some x) [
  | true ↦ λ d. unused s a w name h y (subst (λ z. HasHold s.plain.live w (holds.Use z)) (same_bytes-true q name d) n)
  | false ↦ λ d. taken_other s.snapshots name q d ∙ e
]) refl

-- ---- all steps

sources_by_step : (p : Step) (s : Parts) → Allows p s → IsSound s → PlansSources (plans_by p s.plans) (live_by p s.plain.live) (tables_by p s.plain.snapshots s.plain.tables) (snapshots_by p s.snapshots) (lists_by p s.lists)
sources_by_step (step.Start who job (started.Live actor) drawn) s a h = start_sources job actor drawn s a h
sources_by_step (step.End actor refusal) s a h = end_sources actor.0 s h
sources_by_step (step.Abandon actor) s a h = end_sources actor.0 s h
sources_by_step (step.CommitList actor region number name reason list cells more) s a h = commit_sources reason actor.0 region list cells more s a.allowed h
sources_by_step (step.CommitRegions actor table number name set change) s a h = change_sources actor table number name set change s a h
sources_by_step (step.Complete actor name copied) s a h = snapshot_sources s _ (λ w q x n e. completed_stays s name copied a.missing q x e) h
sources_by_step (step.Uncomplete actor name) s a h = snapshot_sources s _ (λ w q x n e. erased_stays s actor.0 w name q x h a.erase n e) h
sources_by_step _ s a h = h.sources

pub sources_kept : (p : Step) (s : Parts) → Allows p s → IsSound s → PlansSources (after p s).plans (after p s).plain.live (after p s).plain.tables (after p s).snapshots (after p s).lists
sources_kept p s a h =
    subst (λ live. PlansSources (plans_by p s.plans) live (after p s).plain.tables (snapshots_by p s.snapshots) (lists_by p s.lists)) (sym (live_after p s a))
    (subst (λ tables. PlansSources (plans_by p s.plans) (live_by p s.plain.live) tables (snapshots_by p s.snapshots) (lists_by p s.lists)) (sym (tables_after p s)) (sources_by_step p s a h))
