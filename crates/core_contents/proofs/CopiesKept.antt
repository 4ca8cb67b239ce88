-- Each step keeps that complete snapshots are those of the plain machine.
use Rattle.std.proofs.Common.{◌≡◌, ◌≤◌, ℕ, true, false, cond, List, [], ◌∷◌, Option, Some, None, refl, sym, ap, ◌∙◌, subst}
use Rattle.std.specs.Prelude.{Ok, option_map, IsSome}
use Rattle.std.specs.List.{AllZip, filter_map, flat_map, cons_option}
use Rattle.std.specs.FinMap.{get, insert, remove}
use Rattle.hb_cell.specs.Order.{same_bytes}
use Rattle.hb_records.specs.declared.region_info.RegionInfo.{RegionInfo}
use Rattle.plain_model.specs.declared.event.Event.{Event}
use Rattle.plain_model.specs.declared.event.Event.TheVariants as event
use Rattle.plain_model.specs.declared.hold.Hold.TheVariants as holds
use Rattle.plain_model.specs.declared.job.Job.{Job}
use Rattle.plain_model.specs.declared.job.Job.TheVariants as jobs
use Rattle.plain_model.specs.declared.parts.PlainSnapshot.{PlainSnapshot}
use Rattle.plain_model.specs.declared.parts.PlainTable.{PlainTable}
use Rattle.plain_model.specs.declared.parts.RegionCopy.{RegionCopy}
use Rattle.plain_model.specs.declared.region_key.RegionKey.{RegionKey}
use Rattle.plain_model.specs.After.{after_all}
use Rattle.plain_model.specs.Found.{regions_in, families_of_table}
use Rattle.plain_model.specs.Keys.{key_of}
use Rattle.plain_model.specs.LiveEvents.{job_of}
use Rattle.plain_model.specs.Names.{Names}
use Rattle.plain_model.specs.Rows.{open_of}
use Rattle.plain_model.specs.SnapshotEvents as plain
use Rattle.plain_model.specs.SnapshotEvents.{snapshots_on, completed, with_snapshot, with_capture}
use Rattle.cell_sight.specs.Member.{Member}
use Rattle.core_model.specs.declared.entry.Entry.{Entry}
use Rattle.core_model.specs.declared.region_files.RegionFiles.{RegionFiles}
use Rattle.core_model.specs.declared.snapshot.CopiedRegion.{CopiedRegion}
use Rattle.core_model.specs.declared.snapshot.Snapshot.{Snapshot}
use Rattle.core_model.specs.declared.targets.MoveFrom.TheVariants as moves
use Rattle.core_model.specs.declared.targets.Why.TheVariants as why
use Rattle.core_model.specs.declared.step.Started.TheVariants as started
use Rattle.core_model.specs.declared.step.Step.{Step}
use Rattle.core_model.specs.declared.step.Step.TheVariants as step
use Rattle.core_model.specs.ActorFacts.{FitsJob}
use Rattle.core_model.specs.Allows.{Allows}
use Rattle.core_model.specs.Entries.{Made, base_of}
use Rattle.core_model.specs.Events.{events_of}
use Rattle.core_model.specs.FileChanges.{made_by, snapshots_by}
use Rattle.core_model.specs.Named.{in_snapshot}
use Rattle.core_model.specs.PassChanges.{snapshot_entries}
use Rattle.core_model.specs.SetGuards.{IsChange}
use Rattle.core_model.specs.SnapshotGuards.{snapshot_of, copied}
use Rattle.core_model.specs.Sound.{IsSound}
use Rattle.core_model.specs.State.{Parts}
use Rattle.cell_sight.proofs.Counts.{same-trans, same-equal}
use Rattle.core_sound.proofs.HoldsFound.{hold_fits, hold_job}
use Rattle.core_sound.proofs.Lists.{member-front, member-behind}
use Rattle.core_sound.proofs.TablesKept.{put_at, taken_at}
use Rattle.core_contents.specs.ContentFacts.{SnapshotsAgree, Copies, IsCopy, IsCaptureOf}
use Rattle.core_contents.specs.Faithful.{IsFaithful}
use Rattle.core_contents.proofs.MadeStays.{alike, made_stays}

-- ---- what is made grows

zip_more : (made more : Made) (rs : List CopiedRegion) (cs : List RegionCopy) → ((e : Entry) → Member e (flat_map (λ (r : CopiedRegion). r.entries) rs) → more (base_of e) ≡ made (base_of e)) → AllZip (IsCopy made) rs cs → AllZip (IsCopy more) rs cs
zip_more made more [] [] k h = tt
zip_more made more (r ∷ rs) (c ∷ cs) k h = (
  record { region = h.0.region; same = same-trans (same-equal (alike made more r.entries (λ e m. k e (member-front e r.entries _ m)))) h.0.same; number = h.0.number },
  zip_more made more rs cs (λ e m. k e (member-behind e r.entries _ m)) h.1,
)
zip_more made more [] (c ∷ cs) k h = absurd h
zip_more made more (r ∷ rs) [] k h = absurd h

copies_more : (made more : Made) (o : Option Snapshot) (q : Option PlainSnapshot) → ((x : Snapshot) (e : Entry) → o ≡ Some x → Member e (snapshot_entries x) → more (base_of e) ≡ made (base_of e)) → Copies made o q → Copies more o q
copies_more made more None None k h = tt
copies_more made more (Some x) (Some y) k h = (h.0, zip_more made more x.regions y.regions (λ e m. k x e refl m) h.1)
copies_more made more None (Some y) k h = absurd h
copies_more made more (Some x) None k h = absurd h

copies_stay : (p : Step) (s : Parts) → s.files ≤ 4_194_304 → Allows p s → IsSound s → IsFaithful s → SnapshotsAgree (made_by p s.made) s.snapshots s.plain.snapshots
copies_stay p s few a h f = record {
  at = λ name. copies_more s.made (made_by p s.made) (get s.snapshots name) (get s.plain.snapshots name) (λ x e i m. made_stays p s few a h (base_of e) (in_snapshot name x e i m refl)) (f.copies.at name);
}

-- ---- a completion

pub zip_captured : (made : Made) (captures : RegionKey → Option RegionFiles) (copies : RegionKey → Option RegionCopy) (is : List RegionInfo) → ((r : RegionKey) → IsCaptureOf made r (captures r) (copies r))
    → AllZip (IsCopy made) (filter_map (copied captures) is) (plain.captured copies is)
zip_captured made captures copies [] k = tt
zip_captured made captures copies (i ∷ is) k = one (captures (key_of i)) (copies (key_of i)) (k (key_of i)) (zip_captured made captures copies is k)
  where
    one : (o : Option RegionFiles) (q : Option RegionCopy) → IsCaptureOf made (key_of i) o q → AllZip (IsCopy made) (filter_map (copied captures) is) (plain.captured copies is)
        → AllZip (IsCopy made) (cons_option (option_map (λ (l : RegionFiles). record { info = i; seq = l.seq; entries = l.entries }) o) (filter_map (copied captures) is)) (with_capture q (plain.captured copies is))
    one None None c z = z
    one (Some l) (Some y) c z = (record { region = sym c.region; same = c.same; number = c.number }, z)
    one None (Some y) c z = absurd c
    one (Some l) None c z = absurd c

-- the job of an actor that takes a snapshot
pub take_job : (name t : List ℕ) (job : Job) → FitsJob (holds.Take name t) job → job ≡ jobs.Snapshot t name
take_job name t (jobs.Snapshot u n) f = (λ i. jobs.Snapshot (f.0 i) (f.1 i))
take_job name t _ f = absurd f

-- both maps gain copies, or lose a name
both_put : (made : Made) (o : Names Snapshot) (q : Names PlainSnapshot) (name : List ℕ) (x : Snapshot) (y : PlainSnapshot) → Copies made (Some x) (Some y) → SnapshotsAgree made o q → SnapshotsAgree made (insert o name x) (insert q name y)
both_put made o q name x y c h = record {
  at = λ m. subst (λ v. Copies made v (get (insert q name y) m)) (sym (put_at o name x m)) (subst (Copies made (cond (same_bytes m name) (Some x) (get o m))) (sym (put_at q name y m))
      (elim (same_bytes m name) as (λ b. Copies made (cond b (Some x) (get o m)) (cond b (Some y) (get q m))) [ true ↦ c | false ↦ h.at m ]));
}

both_taken : (made : Made) (o : Names Snapshot) (q : Names PlainSnapshot) (name : List ℕ) → SnapshotsAgree made o q → SnapshotsAgree made (remove o name) (remove q name)
both_taken made o q name h = record {
  at = λ m. subst (λ v. Copies made v (get (remove q name) m)) (sym (taken_at o name m)) (subst (Copies made (cond (same_bytes m name) None (get o m))) (sym (taken_at q name m))
      (elim (same_bytes m name) as (λ b. Copies made (cond b None (get o m)) (cond b None (get q m))) [ true ↦ tt | false ↦ h.at m ]));
}

-- a snapshot of what was captured of a table
abbrev shot : (RegionKey → Option RegionFiles) → List ℕ → Option PlainTable → Snapshot
shot captures t o = record { schema = record { table = t; families = families_of_table o }; regions = filter_map (copied captures) (open_of (regions_in o)) }

with_agree : (made : Made) (name t : List ℕ) (captures : RegionKey → Option RegionFiles) (copies : RegionKey → Option RegionCopy) (o : Option PlainTable) (x : Names Snapshot) (y : Names PlainSnapshot) → IsSome o
    → ((r : RegionKey) → IsCaptureOf made r (captures r) (copies r)) → SnapshotsAgree made x y → SnapshotsAgree made (insert x name (shot captures t o)) (with_snapshot name copies o y)
with_agree made name t captures copies None x y i k h = absurd (cc)
with_agree made name t captures copies (Some u) x y i k h = both_put made x y name _ _ (refl, zip_captured made captures copies (open_of u.regions) k) h

-- a change of tables makes no snapshot
pub change_snapshots : (job : Option Job) (change : Event) (table : List ℕ) (a : ℕ) (s : Parts) → IsChange job change table a s → snapshots_on change s.plain.live s.plain.captures s.plain.tables s.plain.snapshots ≡ s.plain.snapshots
change_snapshots job (event.Complete w) table a s z = absurd (no job z)
  where
    no : (job : Option Job) → IsChange job (event.Complete w) table a s → ⊥
    no (Some (jobs.Create t fs n ks)) z = z
    no (Some jobs.Janitor) z = z
    no _ z = z
change_snapshots job (event.Delete n) table a s z = absurd (no job z)
  where
    no : (job : Option Job) → IsChange job (event.Delete n) table a s → ⊥
    no (Some (jobs.Create t fs k ks)) z = z
    no (Some jobs.Janitor) z = z
    no _ z = z
change_snapshots job _ table a s z = refl

-- ---- all steps

pub copies_kept : (p : Step) (s : Parts) → s.files ≤ 4_194_304 → Allows p s → IsSound s → IsFaithful s → SnapshotsAgree (made_by p s.made) (snapshots_by p s.snapshots) (after_all s.plain (events_of p)).snapshots
copies_kept (step.Complete actor name x) s few a h f =
    let j = hold_job s.plain.live actor.0 _ a.take ∙ ap Some (take_job name a.table _ (hold_fits s.plain.live actor.0 _ h.fits a.take)) in
    subst (λ (v : Snapshot). SnapshotsAgree s.made (insert s.snapshots name v) (completed (job_of s.plain.live actor.0) (s.plain.captures actor.0) s.plain.tables s.plain.snapshots)) (sym a.copied)
    (subst (λ o. SnapshotsAgree s.made (insert s.snapshots name (snapshot_of (s.captures actor.0) a.table s.plain)) (completed o (s.plain.captures actor.0) s.plain.tables s.plain.snapshots)) (sym j)
    (with_agree s.made name a.table (s.captures actor.0) (s.plain.captures actor.0) (get s.plain.tables a.table) s.snapshots s.plain.snapshots (h.taken.at actor.0 name a.table a.take) (λ r. f.copied.at actor.0 r) f.copies))
copies_kept (step.Uncomplete actor name) s few a h f = both_taken s.made s.snapshots s.plain.snapshots name f.copies
copies_kept (step.WriteTmp actor recipe name cells bytes) s few a h f = copies_stay (step.WriteTmp actor recipe name cells bytes) s few a h f
copies_kept (step.Place actor (moves.StagedBulk folder name) base cells) s few a h f = copies_stay (step.Place actor (moves.StagedBulk folder name) base cells) s few a h f
copies_kept (step.Place actor (moves.WrittenBulk name) base cells) s few a h f = f.copies
copies_kept (step.CommitRegions actor table number name set change) s few a h f = subst (SnapshotsAgree s.made s.snapshots) (sym (change_snapshots _ change table actor.0 s a.is_change)) f.copies
copies_kept (step.PutCell who table put moment (Some joined)) s few a h f = f.copies
copies_kept (step.Start who job (started.Live actor) drawn) s few a h f = f.copies
copies_kept (step.CommitList actor region number name why.Flush list cells planned) s few a h f = f.copies
copies_kept (step.CommitList actor region number name why.Capture list cells planned) s few a h f = f.copies
copies_kept (step.CommitList actor region number name (why.Compact true) list cells planned) s few a h f = f.copies
copies_kept (step.Pin actor target (Ok region) true) s few a h f = f.copies
copies_kept _ s few a h f = f.copies
