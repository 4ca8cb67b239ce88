-- Each step keeps that the files of a complete snapshot say what it holds.
use Rattle.std.proofs.Common.{◌≡◌, ℕ, true, false, cond, List, Option, Some, None, refl, sym, ◌∙◌, subst}
use Rattle.std.specs.FinMap.{get}
use Rattle.hb_cell.specs.Order.{same_bytes}
use Rattle.ns_tree.specs.declared.file.FileState.{FileState}
use Rattle.core_model.specs.declared.snapshot.Snapshot.{Snapshot}
use Rattle.core_model.specs.declared.targets.ManifestPart.TheVariants as parts
use Rattle.core_model.specs.declared.targets.MoveFrom.TheVariants as moves
use Rattle.core_model.specs.declared.targets.OldFile.TheVariants as old
use Rattle.core_model.specs.declared.step.Step.{Step}
use Rattle.core_model.specs.declared.step.Step.TheVariants as step
use Rattle.core_model.specs.Allows.{Allows}
use Rattle.core_model.specs.Disk.{disk_after, infos_of, manifests_of}
use Rattle.core_model.specs.FileChanges.{snapshots_by}
use Rattle.core_model.specs.Ops.{op_of}
use Rattle.core_model.specs.Site.{Info, Manifest, WorkInfo, WorkManifest}
use Rattle.core_model.specs.SnapshotGuards.{CanComplete}
use Rattle.core_model.specs.State.{Parts}
use Rattle.core_sound.proofs.HoldsFound.{some_is}
use Rattle.core_sound.proofs.TablesKept.{put_at, taken_at}
use Rattle.core_sound.proofs.Tests.{same_bytes-true}
use Rattle.core_bytes.specs.Recorded.{IsInfoOf, IsManifestOf, HasManifests}
use Rattle.core_bytes.specs.Written.{IsWritten}

abbrev Says : List ℕ → Option Snapshot → Option FileState → Option FileState → Type 0
Says name o i m = (x : Snapshot) (f g : FileState) → o ≡ Some x → i ≡ Some f → m ≡ Some g → IsInfoOf f.bytes name x.schema.table × IsManifestOf g.bytes x

-- the files that a completion renames are those of its snapshot
completed : (s : Parts) (a : ℕ) (name : List ℕ) (x : Snapshot) → CanComplete a name x s → IsWritten s → (m : List ℕ) → m ≡ name → Says m (Some x) (s.disk (WorkInfo name)) (s.disk (WorkManifest name))
completed s a name x g h m e y f k i j l =
    let z : x ≡ y = some_is i in
    let info = h.parts.info a name g.table f g.take g.wrote_info j in
    let held = h.parts.manifest a name g.table k g.take g.wrote_manifest l in (
      subst (λ (v : Snapshot). IsInfoOf f.bytes m v.schema.table) (sym g.copied ∙ z) (subst (λ n. IsInfoOf f.bytes n g.table) (sym e) info),
      subst (IsManifestOf k.bytes) (sym g.copied ∙ z) held,
    )

says_after : (p : Step) (s : Parts) → Allows p s → IsWritten s → (n : List ℕ) → Says n (get (snapshots_by p s.snapshots) n) (infos_of (disk_after (op_of p) s.disk) n) (manifests_of (disk_after (op_of p) s.disk) n)
says_after (step.Complete actor name copied) s a h n = subst (λ (o : Option Snapshot). Says n o (cond (same_bytes n name) (s.disk (WorkInfo name)) (s.disk (Info n))) (cond (same_bytes n name) (s.disk (WorkManifest name)) (s.disk (Manifest n))))
    (sym (put_at s.snapshots name copied n))
    ((elim (same_bytes n name) as (λ b. same_bytes n name ≡ b → Says n (cond b (Some copied) (get s.snapshots n)) (cond b (s.disk (WorkInfo name)) (s.disk (Info n))) (cond b (s.disk (WorkManifest name)) (s.disk (Manifest n)))) [
      | true ↦ λ d. completed s actor.0 name copied a h n (same_bytes-true n name d)
      | false ↦ λ d. h.manifests.at n
    ]) refl)
says_after (step.Uncomplete actor name) s a h n = subst (λ (o : Option Snapshot). Says n o (cond (same_bytes n name) None (s.disk (Info n))) (cond (same_bytes n name) None (s.disk (Manifest n)))) (sym (taken_at s.snapshots name n))
    (elim (same_bytes n name) as (λ b. Says n (cond b None (get s.snapshots n)) (cond b None (s.disk (Info n))) (cond b None (s.disk (Manifest n)))) [
      | true ↦ λ x f g e i m. absurd (cc)
      | false ↦ h.manifests.at n
    ])
says_after (step.DropOld actor (old.Work snapshot parts.Info)) s a h n = h.manifests.at n
says_after (step.Manifest actor parts.Info snapshot moment bytes) s a h n = h.manifests.at n
says_after (step.Place actor (moves.Written name) base cells) s a h n = h.manifests.at n
says_after _ s a h n = h.manifests.at n

pub manifests_kept : (p : Step) (s : Parts) → Allows p s → IsWritten s → HasManifests (infos_of (disk_after (op_of p) s.disk)) (manifests_of (disk_after (op_of p) s.disk)) (snapshots_by p s.snapshots)
manifests_kept p s a h = record { at = says_after p s a h }
