-- No table comes to more than 1,000 regions.
use Rattle.std.proofs.Common.{◌≡◌, ◌≤◌, ℕ, ◌+◌, ◌==◌, ◌&&◌, ◌||◌, Bool, true, false, not, cond, arith, List, [], ◌∷◌, Option, Some, None, refl, sym, ap, ◌∙◌, subst, inl, inr}
use Rattle.std.proofs.lemmas.Bool.Decides.{nat_tests}
use Rattle.std.proofs.lemmas.List.{length-map}
use Rattle.std.proofs.lemmas.List.Sums.{sum_by_push}
use Rattle.std.specs.Prelude.{length, nat_lt, option_map, sum_by}
use Rattle.std.specs.List.{list_all}
use Rattle.std.specs.FinMap.{get, insert}
use Rattle.cell_sight.specs.Member.{Member}
use Rattle.cell_sight.proofs.Truths.{both, left}
use Rattle.hb_cell.specs.Order.{same_bytes}
use Rattle.hb_records.specs.declared.region_info.RegionInfo.{RegionInfo}
use Rattle.hb_records.specs.declared.table_schema.TableSchema.{TableSchema}
use Rattle.plain_model.specs.declared.event.Event.{Event}
use Rattle.plain_model.specs.declared.event.Event.TheVariants as event
use Rattle.plain_model.specs.declared.hold.Hold.TheVariants as holds
use Rattle.plain_model.specs.declared.job.Job.{Job}
use Rattle.plain_model.specs.declared.job.Job.TheVariants as jobs
use Rattle.plain_model.specs.declared.parts.Live.{Live}
use Rattle.plain_model.specs.declared.parts.PlainSnapshot.{PlainSnapshot}
use Rattle.plain_model.specs.declared.parts.PlainTable.{PlainTable}
use Rattle.plain_model.specs.declared.reply.Reply.TheVariants as replies
use Rattle.plain_model.specs.declared.who.Actor.{Actor}
use Rattle.plain_model.specs.Found.{adds, is_dividing, is_open_hold, region_count, regions_in}
use Rattle.plain_model.specs.LiveEvents.{job_of, live_of, without}
use Rattle.plain_model.specs.Names.{Names, change}
use Rattle.plain_model.specs.Replies.{refusals}
use Rattle.plain_model.specs.TableEvents.{is_one_of, schema_for, table_of, tables_on, with_copy, with_region, with_restored, with_split}
use Rattle.core_model.specs.declared.step.Drawn.{Drawn}
use Rattle.core_model.specs.declared.step.Started.TheVariants as started
use Rattle.core_model.specs.declared.step.Step.{Step}
use Rattle.core_model.specs.declared.step.Step.TheVariants as step
use Rattle.core_model.specs.ActorChanges.{changed_by}
use Rattle.core_model.specs.Actors.{HasHold}
use Rattle.core_model.specs.Allows.{Allows}
use Rattle.core_model.specs.Keys.{set_actor, set_name}
use Rattle.core_model.specs.LiveChanges.{live_by}
use Rattle.core_model.specs.SetGuards.{IsChange}
use Rattle.core_model.specs.Sound.{IsSound}
use Rattle.core_model.specs.StartGuards.{CanStart}
use Rattle.core_model.specs.State.{Parts}
use Rattle.core_model.specs.TableChanges.{tables_by}
use Rattle.core_sound.proofs.HoldsFound.{actor_found, some_is}
use Rattle.core_sound.proofs.Lists.{map_some, member-find}
use Rattle.core_sound.proofs.NumbersKept.{same_self}
use Rattle.core_sound.proofs.TablesKept.{other_table, put_this}
use Rattle.core_sound.proofs.Tests.{same_bytes-self, same_bytes-true, same_number}
use Rattle.core_sound.proofs.Vacant.{holds_not, split_refuse}
use Rattle.core_contents.proofs.ExactKept.{not_actor}
use Rattle.core_regions.proofs.Held.{no_table, own_table}
use Rattle.core_regions.proofs.Starts.{with_new}
use Rattle.core_limits.specs.Limits.{CountsFit, IsLimited, counted, is_pending, to_add}
use Rattle.core_limits.proofs.Opens.{dividing_job, left_other, member_hold, opens_pass, pending_opens}
use Rattle.core_limits.proofs.Sums.{length-fewer, length-put, size, size-changed, size-taken, sum-filter, sum-less, sum-none, sum-two}

-- ---- a start

-- what a split is still to add, the replies count
to-adds : (s : Parts) (t : List ℕ) (l : Live) → IsLimited s → Member l s.plain.live → to_add s.changed t l ≤ adds s.plain t l
to-adds s t l k m = (elim (is_pending s.changed t l) as (λ b. is_pending s.changed t l ≡ b → cond b 2 0 ≤ adds s.plain t l) [
  | true ↦ λ e.
      let pass = opens_pass s.plain t l.holds (pending_opens s t l k m e) in
      let a : adds s.plain t l ≡ 2 = ap (λ b. cond b 2 0) (both (is_dividing t l.job) (list_all (is_open_hold s.plain) l.holds) (left (is_dividing t l.job) (not (s.changed l.actor.0 t)) e) pass) in omega (arith, a)
  | false ↦ λ e. omega arith
]) refl

not_more : (m n : ℕ) → nat_lt m n ≡ false → n ≤ m
not_more m n e = grind (arith, nat_tests)

-- a split that starts finds room for two
split_room : (t row : List ℕ) (actor : Actor) (drawn : Drawn) (s : Parts) → CanStart (jobs.Split t row) (started.Live actor) drawn s → IsLimited s → counted s.plain.tables s.changed s.plain.live t + 2 ≤ 1000
split_room t row actor drawn s a k =
    let fine = holds_not (nat_lt 1000 (region_count s.plain t + 2)) replies.TooManyRegions (refusals a.files s.plain (jobs.Split t row)) (split_refuse a.files s.plain t row) a.answered.0 (inr (inr (inr (inr (inl refl))))) in
    let room = not_more 1000 (region_count s.plain t + 2) fine in
    let less = sum-less (to_add s.changed t) (adds s.plain t) s.plain.live (λ l m. to-adds s t l k m) in omega (arith, room, less)

new_counts : (job : Job) (actor : Actor) (drawn : Drawn) (s : Parts) (t : List ℕ) → CanStart job (started.Live actor) drawn s → IsLimited s
    → counted s.plain.tables s.changed s.plain.live t + cond (is_dividing t job && not (s.changed actor.0 t)) 2 0 ≤ 1000
new_counts job actor drawn s t a k = (elim (is_dividing t job && not (s.changed actor.0 t)) as (λ b. (is_dividing t job && not (s.changed actor.0 t)) ≡ b → counted s.plain.tables s.changed s.plain.live t + cond b 2 0 ≤ 1000) [
  | true ↦ λ e. let w = dividing_job t (s.changed actor.0 t) job e in split_room t w.0 actor drawn s (subst (λ g. CanStart g (started.Live actor) drawn s) w.1 a) k
  | false ↦ λ e. let c = k.counts.at t in omega (arith, c)
]) refl

start_counts : (job : Job) (actor : Actor) (drawn : Drawn) (s : Parts) → CanStart job (started.Live actor) drawn s → IsLimited s → CountsFit s.changed (with_new job actor drawn s) s.plain.tables
start_counts job actor drawn s a k = record {
  at = λ t.
      let new : Live = record { actor = actor; job = job; holds = drawn.holds } in
      let e = sum_by_push (to_add s.changed t) s.plain.live new in
      let c = new_counts job actor drawn s t a k in omega (arith, e, c);
}

-- ---- an activity that ends

end_counts : (a : ℕ) (s : Parts) → IsLimited s → CountsFit (set_actor a (λ t. false) s.changed) (without a s.plain.live) s.plain.tables
end_counts a s k = record {
  at = λ t.
      let less = sum-filter (to_add (set_actor a (λ u. false) s.changed) t) (to_add s.changed t) (λ (l : Live). not (l.actor.0 == a)) s.plain.live (λ l m. same_add t l (left_other a s.plain.live l m).1) in
      let c = k.counts.at t in omega (arith, less, c);
}
  where
    same_add : (t : List ℕ) (l : Live) → (l.actor.0 == a) ≡ false → to_add (set_actor a (λ (u : List ℕ). false) s.changed) t l ≤ to_add s.changed t l
    same_add t l d = let e : to_add (set_actor a (λ (u : List ℕ). false) s.changed) t l ≡ to_add s.changed t l = ap (λ b. cond (is_dividing t l.job && not (cond b (λ (u : List ℕ). false) (s.changed l.actor.0) t)) 2 0) d in omega (arith, e)

-- ---- a change of a table: what splits are still to add

-- the actor has made its change of the table
abbrev made_change : ℕ → List ℕ → (ℕ → List ℕ → Bool) → ℕ → List ℕ → Bool
made_change a table changed = set_actor a (set_name table true (changed a)) changed

still_changed : (a : ℕ) (table : List ℕ) (changed : ℕ → List ℕ → Bool) (w : ℕ) (t : List ℕ) → changed w t ≡ true → made_change a table changed w t ≡ true
still_changed a table changed w t e = (elim (w == a) as (λ b. w == a ≡ b → cond b (set_name table true (changed a)) (changed w) t ≡ true) [
  | true ↦ λ d. elim (same_bytes t table) as (λ b. cond b true (changed a t) ≡ true) [ true ↦ refl | false ↦ ap (λ v. changed v t) (sym (same_number w a d)) ∙ e ]
  | false ↦ λ d. e
]) refl

own_changed : (a : ℕ) (table : List ℕ) (changed : ℕ → List ℕ → Bool) (w : ℕ) → w ≡ a → made_change a table changed w table ≡ true
own_changed a table changed w e = ap (λ b. cond b (set_name table true (changed a)) (changed w) table) (ap (λ v. v == a) e ∙ same_self a) ∙ ap (λ b. cond b true (changed a table)) (same_bytes-self table)

-- two where a test holds
abbrev two : Bool → ℕ
two b = cond b 2 0

less_add : (d x y : Bool) → (x ≡ true → y ≡ true) → two (d && not y) ≤ two (d && not x)
less_add false x y h = omega arith
less_add true true y h = subst (λ b. cond (not b) 2 0 ≤ 0) (sym (h refl)) (omega arith)
less_add true false true h = omega arith
less_add true false false h = omega arith

none_add : (d y : Bool) → y ≡ true → two (d && not y) ≡ 0
none_add true y h = ap (λ b. two (not b)) h
none_add false y h = refl

adds-less : (a : ℕ) (table : List ℕ) (changed : ℕ → List ℕ → Bool) (t : List ℕ) (l : Live) → to_add (made_change a table changed) t l ≤ to_add changed t l
adds-less a table changed t l = less_add (is_dividing t l.job) (changed l.actor.0 t) (made_change a table changed l.actor.0 t) (still_changed a table changed l.actor.0 t)

-- whoever holds the table is alone with it
table_alone : (a : ℕ) (table : List ℕ) (s : Parts) (l : Live) → IsSound s → IsLimited s → HasHold s.plain.live a (holds.Table table) → Member l s.plain.live → to_add (made_change a table s.changed) table l ≡ 0
table_alone a table s l h k x m = (elim (l.actor.0 == a) as (λ b. l.actor.0 == a ≡ b → to_add (made_change a table s.changed) table l ≡ 0) [
  | true ↦ λ d. none_add (is_dividing table l.job) (made_change a table s.changed l.actor.0 table) (own_changed a table s.changed l.actor.0 (same_number l.actor.0 a d))
  | false ↦ λ d. let less = adds-less a table s.changed table l in let none = none_pending d in omega (arith, less, none)
]) refl
  where
    none_pending : (l.actor.0 == a) ≡ false → to_add s.changed table l ≡ 0
    none_pending d = (elim (is_pending s.changed table l) as (λ b. is_pending s.changed table l ≡ b → two b ≡ 0) [
      | true ↦ λ e. let w = pending_opens s table l k m e in
          no_table s a l.actor.0 w.whole h (not_actor l.actor.0 a d) (subst (λ v. HasHold s.plain.live a (holds.Table v)) (sym w.table) x) (member_hold s l _ h m (subst (Member _) (sym w.alone) (inl refl)))
      | false ↦ λ e. refl
    ]) refl

-- the split that makes its change was to add two
split_adds : (t row table : List ℕ) (a : ℕ) (s : Parts) → job_of s.plain.live a ≡ Some (jobs.Split t row) → t ≡ table → s.changed a table ≡ false
    → sum_by (to_add (made_change a table s.changed) table) s.plain.live + 2 ≤ sum_by (to_add s.changed table) s.plain.live
split_adds t row table a s j e c =
    let w = map_some (λ (l : Live). l.job) (live_of s.plain.live a) (jobs.Split t row) j in
    let n = actor_found s.plain.live a w.0 w.1 in
    let dividing : is_dividing table w.0.job ≡ true = ap (is_dividing table) w.2 ∙ ap (λ v. same_bytes v table) e ∙ same_bytes-self table in
    let unchanged : not (s.changed w.0.actor.0 table) ≡ true = ap (λ v. not (s.changed v table)) n ∙ ap not c in
    let before : to_add s.changed table w.0 ≡ 2 = ap (λ b. cond b 2 0) (both (is_dividing table w.0.job) (not (s.changed w.0.actor.0 table)) dividing unchanged) in
    let behind = none_add (is_dividing table w.0.job) (made_change a table s.changed w.0.actor.0 table) (own_changed a table s.changed w.0.actor.0 n) in
    sum-two (to_add (made_change a table s.changed) table) (to_add s.changed table) s.plain.live w.0 (member-find _ s.plain.live w.0 w.1) (omega (arith, before, behind)) (λ l m. adds-less a table s.changed table l)

-- ---- a change of a table: its regions

abbrev CountsAt : Event → List ℕ → ℕ → Parts → List ℕ → Type 0
CountsAt change table a s t = counted (tables_on change s.plain.snapshots s.plain.tables) (made_change a table s.changed) s.plain.live t ≤ 1000

-- no more regions than before
no_more : (change : Event) (table : List ℕ) (a : ℕ) (s : Parts) (t : List ℕ) → IsLimited s → size (tables_on change s.plain.snapshots s.plain.tables) t ≤ size s.plain.tables t → CountsAt change table a s t
no_more change table a s t k n =
    let less = sum-less (to_add (made_change a table s.changed) t) (to_add s.changed t) s.plain.live (λ l m. adds-less a table s.changed t l) in
    let c = k.counts.at t in omega (arith, n, less, c)

-- so many that nobody else adds to
alone_more : (change : Event) (table : List ℕ) (a : ℕ) (s : Parts) → IsSound s → IsLimited s → HasHold s.plain.live a (holds.Table table) → size (tables_on change s.plain.snapshots s.plain.tables) table ≤ 1000 → CountsAt change table a s table
alone_more change table a s h k x n =
    let none = sum-none (to_add (made_change a table s.changed) table) s.plain.live (λ l m. table_alone a table s l h k x m) in omega (arith, n, none)

made_size : (tables : Names PlainTable) (u : List ℕ) (enabled : Bool) (schema : TableSchema) (regions : List RegionInfo) → size (insert tables u (table_of enabled schema regions)) u ≡ length regions
made_size tables u enabled schema regions = ap (λ (o : Option PlainTable). length (regions_in o)) (put_this tables u (table_of enabled schema regions)) ∙ length-map {B = RegionInfo × Bool} regions (λ (r : RegionInfo). (r, false))

old_size : (s : Parts) (t : List ℕ) → IsLimited s → size s.plain.tables t ≤ 1000
old_size s t k = let c = k.counts.at t in omega (arith, c)

-- a table that is made of a plan
planned_size : (s : Parts) (a : ℕ) (table u : List ℕ) (enabled : Bool) (schema : TableSchema) (regions : List RegionInfo) → IsLimited s → u ≡ table → regions ≡ (s.plans a).regions → size (insert s.plain.tables u (table_of enabled schema regions)) table ≤ 1000
planned_size s a table u enabled schema regions k e z =
    let n : size (insert s.plain.tables u (table_of enabled schema regions)) table ≡ length regions = subst (λ v. size (insert s.plain.tables u (table_of enabled schema regions)) v ≡ length regions) e (made_size s.plain.tables u enabled schema regions) in
    let m : length regions ≤ 1000 = subst (λ (rs : List RegionInfo). length rs ≤ 1000) (sym z) (k.plans.at a).few in omega (arith, n, m)

split_size : (u parent : List ℕ) (low high : RegionInfo) (s : Parts) → size (tables_on (event.Split u parent low high) s.plain.snapshots s.plain.tables) u ≤ size s.plain.tables u + 2
split_size u parent low high s = size-changed u _ 2 s.plain.tables (λ x.
    let a = length-put low (with_region high (with_split (parent ∷ []) x.regions)) in
    let b = length-put high (with_split (parent ∷ []) x.regions) in
    let c = length-map {B = RegionInfo × Bool} x.regions (λ (r : RegionInfo × Bool). (r.0, r.1 || is_one_of (parent ∷ []) r)) in omega (arith, a, b, c))

same_size : (u : List ℕ) (f : PlainTable → PlainTable) (s : Parts) (table : List ℕ) → ((x : PlainTable) → length (f x).regions ≤ length x.regions) → u ≡ table
    → size (change u f s.plain.tables) table ≤ size s.plain.tables table
same_size u f s table h e = subst (λ v. size (change u f s.plain.tables) v ≤ size s.plain.tables v) e (let k = size-changed u f 0 s.plain.tables (λ x. let n = h x in omega (arith, n)) in omega (arith, k))

-- ---- all changes

counts_here : (job : Option Job) (change : Event) (table : List ℕ) (a : ℕ) (s : Parts) → job_of s.plain.live a ≡ job → IsChange job change table a s → s.changed a table ≡ false → IsSound s → IsLimited s → CountsAt change table a s table
counts_here (Some (jobs.Create t fs n ks)) (event.Create schema regions) table a s j z c h k =
    alone_more (event.Create schema regions) table a s h k (own_table s a table t _ h j z.0 (λ hs y. y)) (planned_size s a table schema.table true schema regions k (ap (λ (x : TableSchema). x.table) z.1 ∙ z.0) z.2)
counts_here (Some (jobs.Enable t)) (event.Enable u) table a s j z c h k = no_more (event.Enable u) table a s table k (same_size u _ s table (λ x. omega arith) z.1)
counts_here (Some (jobs.Disable t)) (event.Disable u) table a s j z c h k = no_more (event.Disable u) table a s table k (same_size u _ s table (λ x. omega arith) z.1)
counts_here (Some (jobs.Drop t)) (event.Drop u) table a s j z c h k = no_more (event.Drop u) table a s table k (size-taken s.plain.tables u table)
counts_here (Some (jobs.Split t row)) (event.Split u parent low high) table a s j z c h k =
    let n = subst (λ v. size (tables_on (event.Split u parent low high) s.plain.snapshots s.plain.tables) v ≤ size s.plain.tables v + 2) z.1 (split_size u parent low high s) in
    let less = split_adds t row table a s j z.0 c in
    let b = k.counts.at table in omega (arith, n, less, b)
counts_here (Some (jobs.Clone name t)) (event.Clone b u regions) table a s j z c h k =
    alone_more (event.Clone b u regions) table a s h k (own_table s a table t _ h j z.0 (λ hs y. y)) (by_copy (get s.plain.snapshots b))
  where
    by_copy : (o : Option PlainSnapshot) → size (with_copy u true regions o s.plain.tables) table ≤ 1000
    by_copy None = old_size s table k
    by_copy (Some y) = planned_size s a table u true (schema_for u y.schema) regions k z.1 z.3
counts_here (Some (jobs.Restore name)) (event.Restore b regions) table a s j z c h k = alone_more (event.Restore b regions) table a s h k z.2 (by_copy (get s.plain.snapshots b) refl)
  where
    by_copy : (o : Option PlainSnapshot) → get s.plain.snapshots b ≡ o → size (with_restored regions o s.plain.tables) table ≤ 1000
    by_copy None i = old_size s table k
    by_copy (Some y) i =
        let n : get s.plain.snapshots name ≡ Some y = ap (get s.plain.snapshots) (sym z.0) ∙ i in
        planned_size s a table y.schema.table false y.schema regions k (some_is (sym (ap (option_map (λ (v : PlainSnapshot). v.schema.table)) n) ∙ z.3)) z.1
counts_here (Some jobs.Janitor) (event.Remove t regions) table a s j z c h k =
    no_more (event.Remove t regions) table a s table k (same_size t _ s table (λ x. length-fewer (λ (r : RegionInfo × Bool). not (is_one_of regions r)) x.regions) z.0)
counts_here _ _ table a s j z c h k = absurd z

change_counts : (change : Event) (table : List ℕ) (a : ℕ) (s : Parts) → IsChange (job_of s.plain.live a) change table a s → s.changed a table ≡ false → IsSound s → IsLimited s
    → CountsFit (made_change a table s.changed) s.plain.live (tables_on change s.plain.snapshots s.plain.tables)
change_counts change table a s z c h k = record {
  at = λ t. (elim (same_bytes t table) as (λ b. same_bytes t table ≡ b → CountsAt change table a s t) [
    | true ↦ λ d. subst (CountsAt change table a s) (sym (same_bytes-true t table d)) (counts_here (job_of s.plain.live a) change table a s refl z c h k)
    | false ↦ λ d. no_more change table a s t k (let e = ap (λ (o : Option PlainTable). length (regions_in o)) (other_table (job_of s.plain.live a) change table a s t z d) in omega (arith, e))
  ]) refl;
}

-- ---- all steps

pub counts_kept : (p : Step) (s : Parts) → Allows p s → IsSound s → IsLimited s → CountsFit (changed_by p s.changed) (live_by p s.plain.live) (tables_by p s.plain.snapshots s.plain.tables)
counts_kept (step.Start who job (started.Live actor) drawn) s a h k = start_counts job actor drawn s a k
counts_kept (step.End actor refusal) s a h k = end_counts actor.0 s k
counts_kept (step.Abandon actor) s a h k = end_counts actor.0 s k
counts_kept (step.CommitRegions actor table number name set change) s a h k = change_counts change table actor.0 s a.is_change a.once h k
counts_kept _ s a h k = k.counts
