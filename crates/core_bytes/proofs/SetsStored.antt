-- Each step keeps that the newest sets are what their files say, and that the plain tables are theirs.
use Rattle.std.proofs.Common.{◌≡◌, ◌⊎◌, ℕ, ◌<◌, ◌==◌, ◌&&◌, Bool, true, false, cond, List, Option, Some, None, refl, sym, ap, ◌∙◌, subst, inl, inr, arith}
use Rattle.std.proofs.lemmas.Bool.Decides.{nat_tests}
use Rattle.std.specs.FinMap.{get, insert, remove}
use Rattle.hb_cell.specs.Order.{same_bytes}
use Rattle.ns_tree.specs.declared.file.FileState.{FileState}
use Rattle.region_set.specs.declared.region_set.RegionSet.{RegionSet as TableSet}
use Rattle.region_set.specs.declared.set_state.SetState.TheVariants as states
use Rattle.plain_model.specs.declared.event.Event.{Event}
use Rattle.plain_model.specs.LiveEvents.{job_of}
use Rattle.plain_model.specs.Names.{Names}
use Rattle.plain_model.specs.TableEvents.{tables_on}
use Rattle.core_model.specs.declared.targets.ManifestPart.TheVariants as parts
use Rattle.core_model.specs.declared.targets.MoveFrom.TheVariants as moves
use Rattle.core_model.specs.declared.targets.OldFile.TheVariants as old
use Rattle.core_model.specs.declared.step.Step.{Step}
use Rattle.core_model.specs.declared.step.Step.TheVariants as step
use Rattle.core_model.specs.Allows.{Allows}
use Rattle.core_model.specs.Disk.{disk_after, sets_of, tmps_of}
use Rattle.core_model.specs.FileChanges.{sets_by, set_number}
use Rattle.core_model.specs.FileGuards.{IsLastSet}
use Rattle.core_model.specs.Opened.{table_of, table_in}
use Rattle.core_model.specs.Ops.{op_of}
use Rattle.core_model.specs.Replay.{after}
use Rattle.core_model.specs.SetGuards.{CanCommitRegions}
use Rattle.core_model.specs.Site.{Tmp, RegionSet}
use Rattle.core_model.specs.State.{Parts}
use Rattle.core_model.specs.TableChanges.{tables_by}
use Rattle.core_sound.proofs.HoldsFound.{some_is}
use Rattle.core_sound.proofs.NeverAgain.{tables_after}
use Rattle.core_sound.proofs.NumbersKept.{same_self}
use Rattle.core_sound.proofs.TablesKept.{put_at, taken_at, taken_other, other_table}
use Rattle.core_sound.proofs.Tests.{same_bytes-self, same_bytes-true}
use Rattle.core_bytes.specs.FileOf.{IsSetFileOf}
use Rattle.core_bytes.specs.Stored.{HasSetFiles, TablesAgree, table_in_set}
use Rattle.core_bytes.specs.Written.{HasTmps}
use Rattle.core_bytes.proofs.ListsStored.{above_not}

abbrev Says : (ℕ → Option FileState) → List ℕ → Option TableSet → Type 0
Says files t o = (x : TableSet) → o ≡ Some x → (f : FileState) × (files x.number ≡ Some f) × IsSetFileOf t f.bytes x

-- ---- a commit

next_set : (a : ℕ) (table : List ℕ) (n : ℕ) (name : List ℕ) (new : TableSet) (e : Event) (s : Parts) → CanCommitRegions a table n name new e s → HasTmps (tmps_of s.disk) s.written
    → Says (λ m. cond (same_bytes table table && (m == new.number)) (s.disk (Tmp name)) (s.disk (RegionSet table m))) table (Some new)
next_set a table n name new e s g h x i =
    let z : new ≡ x = some_is i in
    subst (λ (y : TableSet). (f : FileState) × (cond (same_bytes table table && (y.number == new.number)) (s.disk (Tmp name)) (s.disk (RegionSet table y.number)) ≡ Some f) × IsSetFileOf table f.bytes y) z
    (g.wrote.file, ap (λ b. cond b (s.disk (Tmp name)) (s.disk (RegionSet table new.number))) (λ j. (same_bytes-self table j) && (same_self new.number j)) ∙ g.wrote.stands, h.at name g.wrote.file _ g.wrote.stands g.wrote.known)

commit_sets : (a : ℕ) (table : List ℕ) (n : ℕ) (name : List ℕ) (new : TableSet) (e : Event) (s : Parts) → CanCommitRegions a table n name new e s → HasTmps (tmps_of s.disk) s.written → HasSetFiles (sets_of s.disk) s.sets → (t : List ℕ)
    → Says (λ m. cond (same_bytes t table && (m == new.number)) (s.disk (Tmp name)) (s.disk (RegionSet t m))) t (cond (same_bytes t table) (Some new) (get s.sets t))
commit_sets a table n name new e s g h k t = (elim (same_bytes t table) as (λ b. same_bytes t table ≡ b → Says (λ m. cond (b && (m == new.number)) (s.disk (Tmp name)) (s.disk (RegionSet t m))) t (cond b (Some new) (get s.sets t))) [
  | true ↦ λ d. subst (λ x. Says (λ m. cond (m == new.number) (s.disk (Tmp name)) (s.disk (RegionSet x m))) x (Some new)) (sym (same_bytes-true t table d))
      (subst (λ b. Says (λ m. cond (b && (m == new.number)) (s.disk (Tmp name)) (s.disk (RegionSet table m))) table (Some new)) (same_bytes-self table) (next_set a table n name new e s g h))
  | false ↦ λ d. k.at t
]) refl

-- ---- an old set

this_number : (n k : ℕ) → k ≡ n → (k == n) ≡ true
this_number n k e = grind (arith, nat_tests)

older_set : (files : ℕ → Option FileState) (t : List ℕ) (n : ℕ) (o : Option TableSet) → n < set_number o → Says files t o → Says (λ m. cond (m == n) None (files m)) t o
older_set files t n o u h x i =
    let w = h x i in
    let below : n < x.number = subst (λ (y : Option TableSet). n < set_number y) i u in
    (w.0, ap (λ b. cond b None (files x.number)) (above_not x.number n below) ∙ w.1, w.2)

drop_other : {X : Type 0} (b : Bool) (m : Names X) (k q : List ℕ) → same_bytes q k ≡ false → get (cond b (remove m k) m) q ≡ get m q
drop_other true m k q e = taken_other m k q e
drop_other false m k q e = refl

drop_this : (table : List ℕ) (n : ℕ) (s : Parts) → (n < set_number (get s.sets table)) ⊎ IsLastSet table n s → HasSetFiles (sets_of s.disk) s.sets
    → Says (λ m. cond (m == n) None (s.disk (RegionSet table m))) table (get (cond (set_number (get s.sets table) == n) (remove s.sets table) s.sets) table)
drop_this table n s (inl u) h = subst (λ b. Says (λ m. cond (m == n) None (s.disk (RegionSet table m))) table (get (cond b (remove s.sets table) s.sets) table)) (sym (above_not (set_number (get s.sets table)) n u))
    (older_set (sets_of s.disk table) table n (get s.sets table) u (h.at table))
drop_this table n s (inr g) h = subst (λ b. Says (λ m. cond (m == n) None (s.disk (RegionSet table m))) table (get (cond b (remove s.sets table) s.sets) table)) (sym (this_number n (set_number (get s.sets table)) (ap set_number g.stands ∙ g.number)))
    (λ x i. let z : None ≡ Some x = sym (taken_at s.sets table table ∙ ap (λ b. cond b None (get s.sets table)) (same_bytes-self table)) ∙ i in absurd (cc))

drop_sets : (table : List ℕ) (n : ℕ) (s : Parts) → (n < set_number (get s.sets table)) ⊎ IsLastSet table n s → HasSetFiles (sets_of s.disk) s.sets → (t : List ℕ)
    → Says (λ m. cond (same_bytes t table && (m == n)) None (s.disk (RegionSet t m))) t (get (cond (set_number (get s.sets table) == n) (remove s.sets table) s.sets) t)
drop_sets table n s g h t = (elim (same_bytes t table) as (λ b. same_bytes t table ≡ b → Says (λ m. cond (b && (m == n)) None (s.disk (RegionSet t m))) t (get (cond (set_number (get s.sets table) == n) (remove s.sets table) s.sets) t)) [
  | true ↦ λ d. subst (λ x. Says (λ m. cond (m == n) None (s.disk (RegionSet x m))) x (get (cond (set_number (get s.sets table) == n) (remove s.sets table) s.sets) x)) (sym (same_bytes-true t table d)) (drop_this table n s g h)
  | false ↦ λ d. subst (Says (sets_of s.disk t) t) (sym (drop_other (set_number (get s.sets table) == n) s.sets table t d)) (h.at t)
]) refl

-- ---- all steps

sets_after : (p : Step) (s : Parts) → Allows p s → HasTmps (tmps_of s.disk) s.written → HasSetFiles (sets_of s.disk) s.sets → (t : List ℕ) → Says (sets_of (disk_after (op_of p) s.disk) t) t (get (sets_by p s.sets) t)
sets_after (step.CommitRegions actor table number name new change) s a k h t =
    subst (Says (λ m. cond (same_bytes t table && (m == new.number)) (s.disk (Tmp name)) (s.disk (RegionSet t m))) t) (sym (put_at s.sets table new t)) (commit_sets actor.0 table number name new change s a k h t)
sets_after (step.DropOld actor (old.Set table number)) s a k h t = drop_sets table number s a.old h t
sets_after (step.DropOld actor (old.Work snapshot parts.Info)) s a k h t = h.at t
sets_after (step.Manifest actor parts.Info snapshot moment bytes) s a k h t = h.at t
sets_after (step.Place actor (moves.Written name) base cells) s a k h t = h.at t
sets_after _ s a k h t = h.at t

pub sets_stored : (p : Step) (s : Parts) → Allows p s → HasTmps (tmps_of s.disk) s.written → HasSetFiles (sets_of s.disk) s.sets → HasSetFiles (sets_of (after p s).disk) (after p s).sets
sets_stored p s a k h = record { at = sets_after p s a k h }

-- ---- tables

-- a dropped set has no table
dropped_none : (x : TableSet) → x.state ≡ states.Dropped → table_of x ≡ None
dropped_none x e = ap (λ y. table_in y x) e

drop_agree : (table : List ℕ) (n : ℕ) (s : Parts) → (n < set_number (get s.sets table)) ⊎ IsLastSet table n s → (t : List ℕ) → table_in_set (get (cond (set_number (get s.sets table) == n) (remove s.sets table) s.sets) t) ≡ table_in_set (get s.sets t)
drop_agree table n s (inl u) t = ap (λ b. table_in_set (get (cond b (remove s.sets table) s.sets) t)) (above_not (set_number (get s.sets table)) n u)
drop_agree table n s (inr g) t = (elim (same_bytes t table) as (λ b. same_bytes t table ≡ b → table_in_set (get (cond (set_number (get s.sets table) == n) (remove s.sets table) s.sets) t) ≡ table_in_set (get s.sets t)) [
  | true ↦ λ d. ap (λ b. table_in_set (get (cond b (remove s.sets table) s.sets) t)) (this_number n (set_number (get s.sets table)) (ap set_number g.stands ∙ g.number))
      ∙ ap table_in_set (taken_at s.sets table t ∙ ap (λ b. cond b None (get s.sets t)) d) ∙ sym (dropped_none g.newest g.dropped) ∙ ap table_in_set (sym g.stands ∙ ap (get s.sets) (sym (same_bytes-true t table d)))
  | false ↦ λ d. ap table_in_set (drop_other (set_number (get s.sets table) == n) s.sets table t d)
]) refl

commit_agree : (a : ℕ) (table : List ℕ) (n : ℕ) (name : List ℕ) (new : TableSet) (e : Event) (s : Parts) → CanCommitRegions a table n name new e s → TablesAgree s.sets s.plain.tables → (t : List ℕ)
    → get (tables_on e s.plain.snapshots s.plain.tables) t ≡ table_in_set (get (insert s.sets table new) t)
commit_agree a table n name new e s g h t = (elim (same_bytes t table) as (λ b. same_bytes t table ≡ b → get (tables_on e s.plain.snapshots s.plain.tables) t ≡ table_in_set (cond b (Some new) (get s.sets t))) [
  | true ↦ λ d. ap (get (tables_on e s.plain.snapshots s.plain.tables)) (same_bytes-true t table d) ∙ sym g.shown
  | false ↦ λ d. other_table (job_of s.plain.live a) e table a s t g.is_change d ∙ h.at t
]) refl ∙ sym (ap table_in_set (put_at s.sets table new t))

agree_after : (p : Step) (s : Parts) → Allows p s → TablesAgree s.sets s.plain.tables → (t : List ℕ) → get (tables_by p s.plain.snapshots s.plain.tables) t ≡ table_in_set (get (sets_by p s.sets) t)
agree_after (step.CommitRegions actor table number name new change) s a h t = commit_agree actor.0 table number name new change s a h t
agree_after (step.DropOld actor (old.Set table number)) s a h t = h.at t ∙ sym (drop_agree table number s a.old t)
agree_after _ s a h t = h.at t

pub tables_agree : (p : Step) (s : Parts) → Allows p s → TablesAgree s.sets s.plain.tables → TablesAgree (after p s).sets (after p s).plain.tables
tables_agree p s a h = record { at = λ t. ap (λ m. get m t) (tables_after p s) ∙ agree_after p s a h t }
