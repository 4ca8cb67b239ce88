-- Each step keeps that the table of a snapshot that is taken is there, and that complete snapshots are those of the plain machine.
use Rattle.std.proofs.lemmas.Bool.Decides.{nat_tests}
use Rattle.std.proofs.Common.{◌≡◌, ◌≢◌, ℕ, ◌==◌, arith, Bool, true, false, not, cond, List, Option, Some, None, refl, sym, ap, ◌∙◌, subst, inl, inr}
use Rattle.std.specs.Prelude.{is_some, IsSome, Ok, unwrap_or}
use Rattle.std.specs.FinMap.{get, insert, remove}
use Rattle.std.specs.Option.{option_or}
use Rattle.hb_cell.specs.Order.{same_bytes}
use Rattle.region_set.specs.declared.region_set.RegionSet.{RegionSet}
use Rattle.region_set.specs.declared.set_state.SetState.TheVariants as states
use Rattle.plain_model.specs.declared.event.Event.{Event}
use Rattle.plain_model.specs.declared.event.Event.TheVariants as event
use Rattle.plain_model.specs.declared.hold.Hold.TheVariants as holds
use Rattle.plain_model.specs.declared.job.Job.{Job}
use Rattle.plain_model.specs.declared.job.Job.TheVariants as jobs
use Rattle.plain_model.specs.declared.parts.PlainSnapshot.{PlainSnapshot}
use Rattle.plain_model.specs.declared.parts.PlainTable.{PlainTable}
use Rattle.plain_model.specs.declared.parts.RegionCopy.{RegionCopy}
use Rattle.plain_model.specs.declared.region_key.RegionKey.{RegionKey}
use Rattle.plain_model.specs.declared.reply.Reply.TheVariants.{Fine, TableNotFound, SnapshotExists}
use Rattle.plain_model.specs.After.{after_all}
use Rattle.plain_model.specs.After as plain
use Rattle.plain_model.specs.Found.{is_table, is_snapshot}
use Rattle.plain_model.specs.LiveEvents.{job_of}
use Rattle.plain_model.specs.Names.{Names}
use Rattle.plain_model.specs.Replies.{Files, reply_with, when}
use Rattle.plain_model.specs.SnapshotEvents.{completed, with_snapshot}
use Rattle.plain_model.specs.TableEvents.{tables_on}
use Rattle.cell_sight.specs.Member.{Member}
use Rattle.core_model.specs.declared.snapshot.Snapshot.{Snapshot}
use Rattle.core_model.specs.declared.targets.MoveFrom.TheVariants as moves
use Rattle.core_model.specs.declared.targets.Why.TheVariants as why
use Rattle.core_model.specs.declared.step.Started.TheVariants as started
use Rattle.core_model.specs.declared.step.Step.{Step}
use Rattle.core_model.specs.declared.step.Step.TheVariants as step
use Rattle.core_model.specs.ActorFacts.{FitsJob, SnapshotsAlike, TakenThere}
use Rattle.core_model.specs.Actors.{HasHold}
use Rattle.core_model.specs.Allows.{Allows}
use Rattle.core_model.specs.Events.{events_of}
use Rattle.core_model.specs.FileChanges.{snapshots_by}
use Rattle.core_model.specs.LiveChanges.{live_by}
use Rattle.core_model.specs.Opened.{table_of, table_in}
use Rattle.core_model.specs.Replay.{after}
use Rattle.core_model.specs.SetGuards.{CanCommitRegions, IsChange, IsDropped}
use Rattle.core_model.specs.Sound.{IsSound}
use Rattle.core_model.specs.State.{Parts}
use Rattle.core_model.specs.TableChanges.{tables_by}
use Rattle.core_sound.proofs.FitsKept.{job_fits}
use Rattle.core_sound.proofs.HoldsFound.{hold_fits, hold_job, hold_joined, hold_left, holds_apart, some_is}
use Rattle.core_sound.proofs.LiveKept.{live_after}
use Rattle.core_sound.proofs.NeverAgain.{tables_after}
use Rattle.core_sound.proofs.RegionsStay.{own_hold}
use Rattle.core_sound.proofs.TablesKept.{other_table, put_at, taken_at}
use Rattle.core_sound.proofs.Tests.{same_bytes-self, same_bytes-true, same_number}

-- ---- a start

there_first : (b c : Bool) → unwrap_or (option_or (when (not b) TableNotFound) (option_or (when c SnapshotExists) None)) Fine ≡ Fine → b ≡ true
there_first true c e = refl
there_first false c e = absurd (cc)

table_there : (files : Files) (s : Parts) (job : Job) (name t : List ℕ) → FitsJob (holds.Take name t) job → reply_with files s.plain job ≡ Fine → IsSome (get s.plain.tables t)
table_there files s (jobs.Snapshot u n) name t f e = ap (λ x. is_some (get s.plain.tables x)) (sym f.0) ∙ there_first (is_table s.plain u) (is_snapshot s.plain n) e
table_there files s _ name t f e = absurd f

-- ---- a change of regions

named_in : (x : RegionSet) → x.state ≢ states.Dropped → IsSome (table_of x)
named_in x n = (elim x.state as (λ y. x.state ≡ y → IsSome (table_in y x)) [
  | states.Enabled ↦ λ e. refl
  | states.Disabled ↦ λ e. refl
  | states.Dropped ↦ λ e. absurd (n e)
]) refl

-- nobody drops a table of which a snapshot is taken
no_drop : {P : Type 0} (s : Parts) (a w : ℕ) (name t table : List ℕ) → IsSound s → job_of s.plain.live a ≡ Some (jobs.Drop t) → t ≡ table → HasHold s.plain.live w (holds.Take name table) → P
no_drop {P} s a w name t table h j z y = (elim (w == a) as (λ b. w == a ≡ b → P) [
  | true ↦ λ d. let k = subst (λ v. HasHold s.plain.live v (holds.Take name table)) (same_number w a d) y in
      absurd (subst (FitsJob (holds.Take name table)) (some_is (sym (hold_job s.plain.live a _ k) ∙ j)) (hold_fits s.plain.live a _ h.fits k))
  | false ↦ λ d. let x = own_hold s a (jobs.Drop t) table h j (λ hs k. subst (λ v. Member (holds.Table v) hs) z k) in
      let q : true ≡ false = sym (same_bytes-self table) ∙ holds_apart s.plain.live a w (holds.Table table) (holds.Take name table) h.apart x y (differ w d) in absurd (cc)
]) refl
  where
    differ : (w : ℕ) → w == a ≡ false → a ≡ w → ⊥
    differ w d e = grind (arith, nat_tests)

-- the table of a change that does not drop it is there
shown_there : (job : Option Job) (change : Event) (table : List ℕ) (a w : ℕ) (name : List ℕ) (set : RegionSet) (s : Parts) → job_of s.plain.live a ≡ job → IsChange job change table a s → IsDropped change set → IsSound s
    → HasHold s.plain.live w (holds.Take name table) → table_of set ≡ get (tables_on change s.plain.snapshots s.plain.tables) table → IsSome (get (tables_on change s.plain.snapshots s.plain.tables) table)
shown_there (Some (jobs.Drop t)) (event.Drop u) table a w name set s j z d h y e = no_drop s a w name t table h j z.0 y
shown_there (Some (jobs.Create t fs n ks)) (event.Create schema regions) table a w name set s j z d h y e = subst IsSome e (named_in set d)
shown_there (Some (jobs.Enable t)) (event.Enable u) table a w name set s j z d h y e = subst IsSome e (named_in set d)
shown_there (Some (jobs.Disable t)) (event.Disable u) table a w name set s j z d h y e = subst IsSome e (named_in set d)
shown_there (Some (jobs.Split t row)) (event.Split u parent low high) table a w name set s j z d h y e = subst IsSome e (named_in set d)
shown_there (Some (jobs.Clone n t)) (event.Clone c u regions) table a w name set s j z d h y e = subst IsSome e (named_in set d)
shown_there (Some (jobs.Restore n)) (event.Restore c regions) table a w name set s j z d h y e = subst IsSome e (named_in set d)
shown_there (Some jobs.Janitor) (event.Remove t regions) table a w name set s j z d h y e = subst IsSome e (named_in set d)
shown_there _ _ table a w name set s j z d h y e = absurd z

changed_there : (a : ℕ) (table : List ℕ) (n : ℕ) (name : List ℕ) (set : RegionSet) (change : Event) (s : Parts) → CanCommitRegions a table n name set change s → IsSound s
    → TakenThere s.plain.live (tables_on change s.plain.snapshots s.plain.tables)
changed_there a table n name set change s g h = record {
  at = λ w m t y. (elim (same_bytes t table) as (λ b. same_bytes t table ≡ b → IsSome (get (tables_on change s.plain.snapshots s.plain.tables) t)) [
    | true ↦ λ d. let z = same_bytes-true t table d in
        subst (λ x. IsSome (get (tables_on change s.plain.snapshots s.plain.tables) x)) (sym z)
        (shown_there (job_of s.plain.live a) change table a w m set s refl g.is_change g.dropped h (subst (λ x. HasHold s.plain.live w (holds.Take m x)) z y) g.shown)
    | false ↦ λ d. subst IsSome (sym (other_table (job_of s.plain.live a) change table a s t g.is_change d)) (h.taken.at w m t y)
  ]) refl;
}

taken_by_step : (p : Step) (s : Parts) → Allows p s → IsSound s → TakenThere (live_by p s.plain.live) (tables_by p s.plain.snapshots s.plain.tables)
taken_by_step (step.Start who job (started.Live actor) drawn) s a h = record {
  at = λ w name t y. elim (hold_joined s.plain.live _ w (holds.Take name t) y) [
    | inl k ↦ h.taken.at w name t k
    | inr k ↦ table_there a.files s job name t (job_fits a.unreferenced s.plain job _ (subst (Member (holds.Take name t)) a.holds k.1)) a.answered.0
  ];
}
taken_by_step (step.End actor refusal) s a h = record { at = λ w name t y. h.taken.at w name t (hold_left s.plain.live w actor.0 _ y) }
taken_by_step (step.Abandon actor) s a h = record { at = λ w name t y. h.taken.at w name t (hold_left s.plain.live w actor.0 _ y) }
taken_by_step (step.CommitRegions actor table number name set change) s a h = changed_there actor.0 table number name set change s a h
taken_by_step _ s a h = h.taken

pub taken_kept : (p : Step) (s : Parts) → Allows p s → IsSound s → TakenThere (after p s).plain.live (after p s).plain.tables
taken_kept p s a h = subst (λ live. TakenThere live (after p s).plain.tables) (sym (live_after p s a)) (subst (TakenThere (live_by p s.plain.live)) (sym (tables_after p s)) (taken_by_step p s a h))

-- ---- complete snapshots

put_alike : {A B : Type 0} (m : Names A) (n : Names B) (k : List ℕ) (x : A) (y : B) (q : List ℕ) → is_some (get m q) ≡ is_some (get n q) → is_some (get (insert m k x) q) ≡ is_some (get (insert n k y) q)
put_alike m n k x y q e = ap is_some (put_at m k x q) ∙ (elim (same_bytes q k) as (λ b. is_some (cond b (Some x) (get m q)) ≡ is_some (cond b (Some y) (get n q))) [ true ↦ refl | false ↦ e ]) ∙ sym (ap is_some (put_at n k y q))

taken_alike : {A B : Type 0} (m : Names A) (n : Names B) (k q : List ℕ) → is_some (get m q) ≡ is_some (get n q) → is_some (get (remove m k) q) ≡ is_some (get (remove n k) q)
taken_alike m n k q e = ap is_some (taken_at m k q) ∙ (elim (same_bytes q k) as (λ b. is_some (cond b None (get m q)) ≡ is_some (cond b None (get n q))) [ true ↦ refl | false ↦ e ]) ∙ sym (ap is_some (taken_at n k q))

with_alike : (name : List ℕ) (captures : RegionKey → Option RegionCopy) (o : Option PlainTable) (x : Snapshot) (snapshots : Names Snapshot) (copies : Names PlainSnapshot) → IsSome o → SnapshotsAlike snapshots copies
    → SnapshotsAlike (insert snapshots name x) (with_snapshot name captures o copies)
with_alike name captures None x snapshots copies i h = absurd (cc)
with_alike name captures (Some t) x snapshots copies i h = record { at = λ q. put_alike snapshots copies name x _ q (h.at q) }

completed_alike : (o : Option Job) (captures : RegionKey → Option RegionCopy) (t name : List ℕ) (tables : Names PlainTable) (x : Snapshot) (snapshots : Names Snapshot) (copies : Names PlainSnapshot) → o ≡ Some (jobs.Snapshot t name) → IsSome (get tables t)
    → SnapshotsAlike snapshots copies → SnapshotsAlike (insert snapshots name x) (completed o captures tables copies)
completed_alike o captures t name tables x snapshots copies e i h = subst (λ q. SnapshotsAlike (insert snapshots name x) (completed q captures tables copies)) (sym e) (with_alike name captures (get tables t) x snapshots copies i h)

-- the job of an actor that takes a snapshot
take_job : (name t : List ℕ) (job : Job) → FitsJob (holds.Take name t) job → job ≡ jobs.Snapshot t name
take_job name t (jobs.Snapshot u n) f = (λ i. jobs.Snapshot (f.0 i) (f.1 i))
take_job name t _ f = absurd f

change_snapshots : (job : Option Job) (change : Event) (table : List ℕ) (a : ℕ) (s : Parts) → IsChange job change table a s → (plain.after change s.plain).snapshots ≡ s.plain.snapshots
change_snapshots (Some (jobs.Create t fs n ks)) (event.Create schema regions) table a s z = refl
change_snapshots (Some (jobs.Enable t)) (event.Enable u) table a s z = refl
change_snapshots (Some (jobs.Disable t)) (event.Disable u) table a s z = refl
change_snapshots (Some (jobs.Drop t)) (event.Drop u) table a s z = refl
change_snapshots (Some (jobs.Split t row)) (event.Split u parent low high) table a s z = refl
change_snapshots (Some (jobs.Clone name t)) (event.Clone c u regions) table a s z = refl
change_snapshots (Some (jobs.Restore name)) (event.Restore c regions) table a s z = refl
change_snapshots (Some jobs.Janitor) (event.Remove t regions) table a s z = refl
change_snapshots _ _ table a s z = absurd z

pub alike_kept : (p : Step) (s : Parts) → Allows p s → IsSound s → SnapshotsAlike (snapshots_by p s.snapshots) (after_all s.plain (events_of p)).snapshots
alike_kept (step.Complete actor name copied) s a h =
    completed_alike (job_of s.plain.live actor.0) (s.plain.captures actor.0) a.table name s.plain.tables copied s.snapshots s.plain.snapshots
    (hold_job s.plain.live actor.0 _ a.take ∙ ap Some (take_job name a.table _ (hold_fits s.plain.live actor.0 _ h.fits a.take))) (h.taken.at actor.0 name a.table a.take) h.alike
alike_kept (step.Uncomplete actor name) s a h = record { at = λ q. taken_alike s.snapshots s.plain.snapshots name q (h.alike.at q) }
alike_kept (step.CommitRegions actor table number name set change) s a h = subst (SnapshotsAlike s.snapshots) (sym (change_snapshots (job_of s.plain.live actor.0) change table actor.0 s a.is_change)) h.alike
alike_kept (step.PutCell who table put moment (Some joined)) s a h = h.alike
alike_kept (step.Start who job (started.Live actor) drawn) s a h = h.alike
alike_kept (step.Place actor (moves.WrittenBulk name) base cells) s a h = h.alike
alike_kept (step.Place actor (moves.StagedBulk folder name) base cells) s a h = h.alike
alike_kept (step.CommitList actor region number name why.Flush list cells planned) s a h = h.alike
alike_kept (step.CommitList actor region number name why.Capture list cells planned) s a h = h.alike
alike_kept (step.CommitList actor region number name (why.Compact true) list cells planned) s a h = h.alike
alike_kept (step.CommitList actor region number name why.Bulk list cells planned) s a h = h.alike
alike_kept (step.Pin actor target (Ok region) true) s a h = h.alike
alike_kept _ s a h = h.alike
