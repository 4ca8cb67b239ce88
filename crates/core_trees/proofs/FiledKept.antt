-- Each step keeps that no list and no set is newer than the newest, and that the files of snapshots are those of the complete.
use Rattle.std.proofs.Common.{◌≡◌, ◌⊎◌, ℕ, ◌+◌, ◌<◌, ◌==◌, ◌&&◌, true, false, cond, List, Option, Some, None, refl, sym, ap, ◌∙◌, subst, inl, inr}
use Rattle.std.specs.FinMap.{get, remove}
use Rattle.core_model.specs.Site.{Tmp, StoreList, RegionSet, Info, Manifest, WorkInfo, WorkManifest}
use Rattle.hb_records.specs.declared.region_info.RegionInfo.{RegionInfo}
use Rattle.region_set.specs.declared.region_set.RegionSet.{RegionSet as TableSet}
use Rattle.ns_tree.specs.declared.file.FileState.{FileState}
use Rattle.plain_model.specs.declared.region_key.RegionKey.{RegionKey}
use Rattle.hb_cell.specs.Order.{same_bytes}
use Rattle.cell_sight.specs.Member.{Member}
use Rattle.plain_model.specs.Keys.{key_of, same_key}
use Rattle.core_model.specs.declared.region_files.RegionFiles.{RegionFiles}
use Rattle.core_model.specs.declared.snapshot.Snapshot.{Snapshot}
use Rattle.core_model.specs.declared.targets.ManifestPart.TheVariants as parts
use Rattle.core_model.specs.declared.targets.MoveFrom.TheVariants as moves
use Rattle.core_model.specs.declared.targets.OldFile.TheVariants as old
use Rattle.core_model.specs.declared.step.Started.TheVariants as started
use Rattle.core_model.specs.declared.step.Step.{Step}
use Rattle.core_model.specs.declared.step.Step.TheVariants as step
use Rattle.core_model.specs.ActorChanges.{plans_by}
use Rattle.core_model.specs.Actors.{Counts}
use Rattle.core_model.specs.Allows.{Allows}
use Rattle.core_model.specs.Disk.{disk_after, lists_of, sets_of, infos_of, manifests_of}
use Rattle.core_model.specs.Entries.{no_list}
use Rattle.core_model.specs.FileChanges.{lists_by, sets_by, snapshots_by, set_number}
use Rattle.core_model.specs.FileGuards.{IsLastSet}
use Rattle.core_model.specs.ListGuards.{IsNext}
use Rattle.core_model.specs.Ops.{op_of}
use Rattle.core_model.specs.Replay.{after}
use Rattle.core_model.specs.Sound.{IsSound}
use Rattle.core_model.specs.StartGuards.{StandsBelow, by_directory, list_file}
use Rattle.core_model.specs.State.{Parts}
use Rattle.core_model.specs.TableChanges.{tables_by}
use Rattle.core_sound.proofs.BuiltKept.{counts_before}
use Rattle.core_sound.proofs.NeverAgain.{tables_after}
use Rattle.core_sound.proofs.TablesKept.{put_at, taken_at}
use Rattle.core_sound.proofs.Tests.{same_bytes-true, same_key-true}
use Rattle.core_sound.proofs.Vacant.{each-cases, each-new, drawn_free}
use Rattle.core_trees.specs.Filed.{IsAbove, HasNewestLists, HasNewestSets, IsFiled}
use Rattle.core_trees.proofs.Numbers.{not_equal, equal, differ, behind_next, other_key, other_number, none_left, absent}

-- ---- lists

committed : (a : ℕ) (q : RegionKey) (n : ℕ) (name : List ℕ) (l : RegionFiles) (s : Parts) → IsNext a q n name l s → (r : RegionKey) → IsAbove (lists_of s.disk r) (s.lists r).number
    → IsAbove (λ m. cond (same_bytes r.table q.table && (same_bytes r.region q.region && (m == l.number))) (s.disk (Tmp name)) (s.disk (StoreList r.table r.region m))) (cond (same_key r q) l (s.lists r)).number
committed a q n name l s g r h = (elim (same_key r q) as (λ b. same_key r q ≡ b
    → IsAbove (λ m. cond (same_bytes r.table q.table && (same_bytes r.region q.region && (m == l.number))) (s.disk (Tmp name)) (s.disk (StoreList r.table r.region m))) (cond b l (s.lists r)).number) [
      | true ↦ λ d m u. ap (λ x. cond x (s.disk (Tmp name)) (s.disk (StoreList r.table r.region m))) (other_number (same_bytes r.table q.table) (same_bytes r.region q.region) (m == l.number) (not_equal m l.number u))
          ∙ h m (behind_next (ap (λ (x : RegionKey). (s.lists x).number) (same_key-true r q d) ∙ g.replaces) g.number u)
      | false ↦ λ d m u. ap (λ x. cond x (s.disk (Tmp name)) (s.disk (StoreList r.table r.region m))) (other_key (same_bytes r.table q.table) (same_bytes r.region q.region) (m == l.number) d) ∙ h m u
    ]) refl

lists_after : (p : Step) (s : Parts) → Allows p s → IsFiled s → (r : RegionKey) → Counts (tables_by p s.plain.snapshots s.plain.tables) (plans_by p s.plans) r
    → IsAbove (lists_of (disk_after (op_of p) s.disk) r) (lists_by p s.lists r).number
lists_after (step.Start who job (started.Live actor) drawn) s a h r c =
    let new : (i : RegionInfo) → Member i drawn.regions → key_of i ≡ r → IsAbove (lists_of s.disk r) no_list.number = λ i m k n u.
    (let w = drawn_free job actor drawn s a i m in
    absent _ (λ f e. w.2 (by_directory i w.1 (subst (StandsBelow s.disk) (sym k) (list_file n f e))))) in
    elim (counts_before (step.Start who job (started.Live actor) drawn) s a r c) [
      | inl k ↦ each-cases (λ (l : RegionFiles). IsAbove (lists_of s.disk r) l.number) no_list drawn.regions s.lists r new (h.lists.at r k)
      | inr k ↦ subst (λ (l : RegionFiles). IsAbove (lists_of s.disk r) l.number) (sym (ap (lists_by (step.Start who job (started.Live actor) drawn) s.lists) (sym k.2) ∙ each-new no_list drawn.regions s.lists k.0 k.1)) (new k.0 k.1 k.2)
    ]
lists_after (step.CommitList actor region number name reason list cells more) s a h r c = elim (counts_before (step.CommitList actor region number name reason list cells more) s a r c) [
  | inl k ↦ committed actor.0 region number name list s a.next r (h.lists.at r k)
  | inr k ↦ absurd (k.1)
]
lists_after (step.DropOld actor (old.List region number)) s a h r c = elim (counts_before (step.DropOld actor (old.List region number)) s a r c) [
  | inl k ↦ λ m u. none_left (same_bytes r.table region.table && (same_bytes r.region region.region && (m == number))) (s.disk (StoreList r.table r.region m)) (h.lists.at r k m u)
  | inr k ↦ absurd (k.1)
]
lists_after (step.DropOld actor (old.Work snapshot parts.Info)) s a h r c = elim (counts_before (step.DropOld actor (old.Work snapshot parts.Info)) s a r c) [ inl k ↦ h.lists.at r k | inr k ↦ absurd (k.1) ]
lists_after (step.Manifest actor parts.Info snapshot moment bytes) s a h r c = elim (counts_before (step.Manifest actor parts.Info snapshot moment bytes) s a r c) [ inl k ↦ h.lists.at r k | inr k ↦ absurd (k.1) ]
lists_after (step.Place actor (moves.Written name) base cells) s a h r c = elim (counts_before (step.Place actor (moves.Written name) base cells) s a r c) [ inl k ↦ h.lists.at r k | inr k ↦ absurd (k.1) ]
lists_after p s a h r c = elim (counts_before p s a r c) [ inl k ↦ h.lists.at r k | inr k ↦ absurd (k.1) ]

lists_kept : (p : Step) (s : Parts) → Allows p s → IsFiled s → HasNewestLists (lists_of (after p s).disk) (after p s).lists (after p s).plain.tables (after p s).plans
lists_kept p s a h = record { at = λ r c. lists_after p s a h r (subst (λ t. Counts t (plans_by p s.plans) r) (tables_after p s) c) }

-- ---- sets

commit_sets : (a : ℕ) (table : List ℕ) (n : ℕ) (name : List ℕ) (new : TableSet) (s : Parts) → set_number (get s.sets table) ≡ n → new.number ≡ n + 1 → IsFiled s → (t : List ℕ)
    → IsAbove (λ m. cond (same_bytes t table && (m == new.number)) (s.disk (Tmp name)) (s.disk (RegionSet t m))) (set_number (cond (same_bytes t table) (Some new) (get s.sets t)))
commit_sets a table n name new s g k h t = (elim (same_bytes t table) as (λ b. same_bytes t table ≡ b → IsAbove (λ m. cond (b && (m == new.number)) (s.disk (Tmp name)) (s.disk (RegionSet t m))) (set_number (cond b (Some new) (get s.sets t)))) [
  | true ↦ λ d m u. ap (λ x. cond x (s.disk (Tmp name)) (s.disk (RegionSet t m))) (not_equal m new.number u)
      ∙ h.sets.at t m (behind_next (ap (λ x. set_number (get s.sets x)) (same_bytes-true t table d) ∙ g) k u)
  | false ↦ λ d. h.sets.at t
]) refl

last_set : (table : List ℕ) (n : ℕ) (s : Parts) → IsLastSet table n s → IsFiled s → (t : List ℕ)
    → IsAbove (λ m. cond (same_bytes t table && (m == n)) None (s.disk (RegionSet t m))) (set_number (cond (same_bytes t table) None (get s.sets t)))
last_set table n s g h t = (elim (same_bytes t table) as (λ b. same_bytes t table ≡ b → IsAbove (λ m. cond (b && (m == n)) None (s.disk (RegionSet t m))) (set_number (cond b None (get s.sets t)))) [
  | true ↦ λ d m u. (elim (m == n) as (λ c. (m == n) ≡ c → cond c None (s.disk (RegionSet t m)) ≡ None) [
    | true ↦ λ e. refl
    | false ↦ λ e. ap (λ x. s.disk (RegionSet x m)) (same_bytes-true t table d) ∙ g.only m (differ m n e)
  ]) refl
  | false ↦ λ d. h.sets.at t
]) refl

drop_sets : (table : List ℕ) (n : ℕ) (s : Parts) → (n < set_number (get s.sets table)) ⊎ IsLastSet table n s → IsFiled s → (t : List ℕ)
    → IsAbove (λ m. cond (same_bytes t table && (m == n)) None (s.disk (RegionSet t m))) (set_number (get (cond (set_number (get s.sets table) == n) (remove s.sets table) s.sets) t))
drop_sets table n s (inl u) h t = subst (λ b. IsAbove (λ m. cond (same_bytes t table && (m == n)) None (s.disk (RegionSet t m))) (set_number (get (cond b (remove s.sets table) s.sets) t)))
    (sym (not_equal (set_number (get s.sets table)) n u)) (λ m v. none_left (same_bytes t table && (m == n)) (s.disk (RegionSet t m)) (h.sets.at t m v))
drop_sets table n s (inr g) h t = subst (λ b. IsAbove (λ m. cond (same_bytes t table && (m == n)) None (s.disk (RegionSet t m))) (set_number (get (cond b (remove s.sets table) s.sets) t)))
    (sym (equal (set_number (get s.sets table)) n (ap set_number g.stands ∙ g.number)))
    (subst (λ (o : Option TableSet). IsAbove (λ m. cond (same_bytes t table && (m == n)) None (s.disk (RegionSet t m))) (set_number o)) (sym (taken_at s.sets table t)) (last_set table n s g h t))

sets_after : (p : Step) (s : Parts) → Allows p s → IsFiled s → (t : List ℕ) → IsAbove (sets_of (disk_after (op_of p) s.disk) t) (set_number (get (sets_by p s.sets) t))
sets_after (step.CommitRegions actor table number name new change) s a h t =
    subst (λ (o : Option TableSet). IsAbove (λ m. cond (same_bytes t table && (m == new.number)) (s.disk (Tmp name)) (s.disk (RegionSet t m))) (set_number o)) (sym (put_at s.sets table new t)) (commit_sets actor.0 table number name new s a.replaces a.number h t)
sets_after (step.DropOld actor (old.Set table number)) s a h t = drop_sets table number s a.old h t
sets_after (step.DropOld actor (old.Work snapshot parts.Info)) s a h t = h.sets.at t
sets_after (step.Manifest actor parts.Info snapshot moment bytes) s a h t = h.sets.at t
sets_after (step.Place actor (moves.Written name) base cells) s a h t = h.sets.at t
sets_after _ s a h t = h.sets.at t

sets_kept : (p : Step) (s : Parts) → Allows p s → IsFiled s → HasNewestSets (sets_of (after p s).disk) (after p s).sets
sets_kept p s a h = record { at = λ t. sets_after p s a h t }

-- ---- snapshots

abbrev Missing : Option Snapshot → Option FileState → Option FileState → Type 0
Missing o i m = o ≡ None → (i ≡ None) × (m ≡ None)

abbrev Stored : Option Snapshot → Option FileState → Option FileState → Type 0
Stored o i m = (x : Snapshot) → o ≡ Some x → ((f : FileState) × (i ≡ Some f)) × ((f : FileState) × (m ≡ Some f))

missing_after : (p : Step) (s : Parts) → Allows p s → IsFiled s → (n : List ℕ) → Missing (get (snapshots_by p s.snapshots) n) (infos_of (disk_after (op_of p) s.disk) n) (manifests_of (disk_after (op_of p) s.disk) n)
missing_after (step.Complete actor name copied) s a h n = subst (λ (o : Option Snapshot). Missing o (cond (same_bytes n name) (s.disk (WorkInfo name)) (s.disk (Info n))) (cond (same_bytes n name) (s.disk (WorkManifest name)) (s.disk (Manifest n))))
    (sym (put_at s.snapshots name copied n))
    (elim (same_bytes n name) as (λ b. Missing (cond b (Some copied) (get s.snapshots n)) (cond b (s.disk (WorkInfo name)) (s.disk (Info n))) (cond b (s.disk (WorkManifest name)) (s.disk (Manifest n)))) [
      | true ↦ λ e. absurd (cc)
      | false ↦ h.snapshots.missing n
    ])
missing_after (step.Uncomplete actor name) s a h n = subst (λ (o : Option Snapshot). Missing o (cond (same_bytes n name) None (s.disk (Info n))) (cond (same_bytes n name) None (s.disk (Manifest n)))) (sym (taken_at s.snapshots name n))
    (elim (same_bytes n name) as (λ b. Missing (cond b None (get s.snapshots n)) (cond b None (s.disk (Info n))) (cond b None (s.disk (Manifest n)))) [
      | true ↦ λ e. (refl, refl)
      | false ↦ h.snapshots.missing n
    ])
missing_after (step.DropOld actor (old.Work snapshot parts.Info)) s a h n = h.snapshots.missing n
missing_after (step.Manifest actor parts.Info snapshot moment bytes) s a h n = h.snapshots.missing n
missing_after (step.Place actor (moves.Written name) base cells) s a h n = h.snapshots.missing n
missing_after _ s a h n = h.snapshots.missing n

stored_after : (p : Step) (s : Parts) → Allows p s → IsFiled s → (n : List ℕ) → Stored (get (snapshots_by p s.snapshots) n) (infos_of (disk_after (op_of p) s.disk) n) (manifests_of (disk_after (op_of p) s.disk) n)
stored_after (step.Complete actor name copied) s a h n = subst (λ (o : Option Snapshot). Stored o (cond (same_bytes n name) (s.disk (WorkInfo name)) (s.disk (Info n))) (cond (same_bytes n name) (s.disk (WorkManifest name)) (s.disk (Manifest n))))
    (sym (put_at s.snapshots name copied n))
    (elim (same_bytes n name) as (λ b. Stored (cond b (Some copied) (get s.snapshots n)) (cond b (s.disk (WorkInfo name)) (s.disk (Info n))) (cond b (s.disk (WorkManifest name)) (s.disk (Manifest n)))) [
      | true ↦ λ x e. ((a.info, a.info_stands), (a.manifest, a.manifest_stands))
      | false ↦ h.snapshots.stored n
    ])
stored_after (step.Uncomplete actor name) s a h n = subst (λ (o : Option Snapshot). Stored o (cond (same_bytes n name) None (s.disk (Info n))) (cond (same_bytes n name) None (s.disk (Manifest n)))) (sym (taken_at s.snapshots name n))
    (elim (same_bytes n name) as (λ b. Stored (cond b None (get s.snapshots n)) (cond b None (s.disk (Info n))) (cond b None (s.disk (Manifest n)))) [
      | true ↦ λ x e. absurd (cc)
      | false ↦ h.snapshots.stored n
    ])
stored_after (step.DropOld actor (old.Work snapshot parts.Info)) s a h n = h.snapshots.stored n
stored_after (step.Manifest actor parts.Info snapshot moment bytes) s a h n = h.snapshots.stored n
stored_after (step.Place actor (moves.Written name) base cells) s a h n = h.snapshots.stored n
stored_after _ s a h n = h.snapshots.stored n

-- ---- all

pub filed_kept : (p : Step) (s : Parts) → Allows p s → IsSound s → IsFiled s → IsFiled (after p s)
filed_kept p s a g h = record {
  lists = lists_kept p s a h;
  sets = sets_kept p s a h;
  snapshots = record { missing = missing_after p s a h; stored = stored_after p s a h };
}
