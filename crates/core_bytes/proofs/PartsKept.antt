-- Each step keeps that written parts of a manifest are the record of what was captured.
use Rattle.std.proofs.Common.{◌≡◌, ℕ, ◌||◌, ◌&&◌, ◌==◌, Bool, true, false, not, cond, List, [], ◌∷◌, Option, Some, None, refl, sym, ap, ◌∙◌, subst, inl, inr}
use Rattle.std.specs.Prelude.{map, is_some}
use Rattle.std.specs.List.{AllByRecursion, filter, filter_map}
use Rattle.std.specs.FinMap.{get}
use Rattle.hb_cell.specs.Order.{same_bytes}
use Rattle.hb_records.specs.declared.region_info.RegionInfo.{RegionInfo}
use Rattle.cell_sight.specs.Member.{Member}
use Rattle.ns_tree.specs.declared.file.FileState.{FileState}
use Rattle.plain_model.specs.declared.hold.Hold.{Hold}
use Rattle.plain_model.specs.declared.hold.Hold.TheVariants as holds
use Rattle.plain_model.specs.declared.job.Job.{Job}
use Rattle.plain_model.specs.declared.job.Job.TheVariants as jobs
use Rattle.plain_model.specs.declared.parts.PlainTable.{PlainTable}
use Rattle.plain_model.specs.declared.region_key.RegionKey.{RegionKey}
use Rattle.plain_model.specs.After.{after_all}
use Rattle.plain_model.specs.Found.{open_keys, regions_in, families_of_table}
use Rattle.plain_model.specs.Keys.{key_of, same_key}
use Rattle.plain_model.specs.Plain.{Plain}
use Rattle.plain_model.specs.Rows.{open_of}
use Rattle.core_model.specs.declared.region_files.RegionFiles.{RegionFiles}
use Rattle.core_model.specs.declared.snapshot.Snapshot.{Snapshot}
use Rattle.core_model.specs.declared.targets.ManifestPart.TheVariants as parts
use Rattle.core_model.specs.declared.targets.MoveFrom.TheVariants as moves
use Rattle.core_model.specs.declared.targets.OldFile.TheVariants as old
use Rattle.core_model.specs.declared.targets.Why.TheVariants as why
use Rattle.core_model.specs.declared.step.Started.TheVariants as started
use Rattle.core_model.specs.declared.step.Step.{Step}
use Rattle.core_model.specs.declared.step.Step.TheVariants as step
use Rattle.core_model.specs.ActorChanges.{parted_by, captures_by, no_part}
use Rattle.core_model.specs.ActorFacts.{FitsJob}
use Rattle.core_model.specs.Actors.{HasHold, InSet}
use Rattle.core_model.specs.Allows.{Allows}
use Rattle.core_model.specs.Disk.{disk_after, work_infos_of, work_manifests_of}
use Rattle.core_model.specs.Events.{events_of}
use Rattle.core_model.specs.Keys.{set_actor}
use Rattle.core_model.specs.LiveChanges.{live_by}
use Rattle.core_model.specs.Ops.{op_of}
use Rattle.core_model.specs.Site.{Info, Manifest, WorkInfo, WorkManifest}
use Rattle.core_model.specs.SnapshotGuards.{snapshot_of, copied}
use Rattle.core_model.specs.Sound.{IsSound}
use Rattle.core_model.specs.State.{Parts, Parted}
use Rattle.core_sound.proofs.HoldsFound.{some_is, hold_joined, hold_left, holds_apart}
use Rattle.core_sound.proofs.Lists.{or_left, or_right, member-map}
use Rattle.core_sound.proofs.LiveKept.{live_after}
use Rattle.core_sound.proofs.NumbersKept.{same_self}
use Rattle.core_sound.proofs.SnapshotsKept.{both_fit}
use Rattle.core_sound.proofs.Sources.{each-member}
use Rattle.core_sound.proofs.Tests.{cond_cases, same_number, same_bytes-true, same_bytes-self}
use Rattle.core_bytes.specs.Recorded.{IsInfoOf, IsManifestOf, WritesPart, any_part, HasParts}
use Rattle.core_bytes.proofs.TakenStay.{taken_stays}

abbrev Has : Parts → Type 0
Has s = HasParts (work_infos_of s.disk) (work_manifests_of s.disk) s.parted s.captures s.plain

-- ---- who takes a snapshot

at_actor : {A Q : Type 0} (P : A → Type 0) (a : ℕ) (v : A) (f : ℕ → A) (w : ℕ) → P (set_actor a v f w) → (w ≡ a → P v → Q) → (w == a ≡ false → P (f w) → Q) → Q
at_actor {A} {Q} P a v f w x g k = (elim (w == a) as (λ b. w == a ≡ b → P (cond b v (f w)) → Q) [ true ↦ λ d y. g (same_number w a d) y | false ↦ λ d y. k d y ]) refl x

abbrev part_info : Parted → Type 0
part_info p = p.info ≡ true

abbrev part_data : Parted → Type 0
part_data p = p.manifest ≡ true

abbrev part_any : Parted → Type 0
part_any p = any_part p ≡ true

hold_before : (p : Step) (s : Parts) → Allows p s → (w : ℕ) (k : Hold) → HasHold (live_by p s.plain.live) w k → any_part (parted_by p s.parted w) ≡ true → HasHold s.plain.live w k
hold_before (step.Start who job (started.Live actor) drawn) s a w k x e = elim (hold_joined s.plain.live _ w k x) [
  | inl i ↦ i
  | inr i ↦ (let z : false ≡ true = sym (ap (λ b. any_part (cond b no_part (s.parted w))) (ap (λ v. v == actor.0) (sym i.0) ∙ same_self actor.0)) ∙ e in absurd (cc))
]
hold_before (step.End actor refusal) s a w k x e = hold_left s.plain.live w actor.0 k x
hold_before (step.Abandon actor) s a w k x e = hold_left s.plain.live w actor.0 k x
hold_before _ s a w k x e = x

-- what takes a snapshot of the same name is the same actor
same_taker : (s : Parts) (a w : ℕ) (name t u : List ℕ) → IsSound s → HasHold s.plain.live a (holds.Take name u) → HasHold s.plain.live w (holds.Take name t) → w ≡ a
same_taker s a w name t u h x y = (elim (a == w) as (λ b. a == w ≡ b → w ≡ a) [
  | true ↦ λ d. sym (same_number a w d)
  | false ↦ λ d.
      let n : a ≡ w → ⊥ = λ e. (let z : true ≡ false = sym (same_self a) ∙ ap (λ v. a == v) e ∙ d in absurd (cc)) in
      let z : true ≡ false = sym (ap (λ b. b || same_bytes u t) (same_bytes-self name)) ∙ holds_apart s.plain.live a w (holds.Take name u) (holds.Take name t) h.apart x y n in absurd (cc)
]) refl

-- and takes one
one_take : (job : Job) (name t n u : List ℕ) → FitsJob (holds.Take name t) job → FitsJob (holds.Take n u) job → (name ≡ n) × (t ≡ u)
one_take (jobs.Snapshot v m) name t n u f g = (sym f.1 ∙ g.1, sym f.0 ∙ g.0)
one_take _ name t n u f g = absurd f

takes_same : (s : Parts) (a : ℕ) (name n t u : List ℕ) → IsSound s → HasHold s.plain.live a (holds.Take name t) → HasHold s.plain.live a (holds.Take n u) → (name ≡ n) × (t ≡ u)
takes_same s a name n t u h x y = let f = both_fit s.plain.live h.fits a (holds.Take name t) (holds.Take n u) x y in one_take f.0 name t n u f.1 f.2

not_equal : {P : Type 0} (x y : List ℕ) → same_bytes x y ≡ false → x ≡ y → P
not_equal x y d e = let z : true ≡ false = sym (same_bytes-self x) ∙ ap (same_bytes x) e ∙ d in absurd (cc)

as_taker : (s : Parts) (w a : ℕ) (name t : List ℕ) → w ≡ a → HasHold s.plain.live w (holds.Take name t) → HasHold s.plain.live a (holds.Take name t)
as_taker s w a name t v k = subst (λ y. HasHold s.plain.live y (holds.Take name t)) v k

-- a part that is written has no complete snapshot
no_snapshot : {P : Type 0} (s : Parts) (w : ℕ) (name snapshot t : List ℕ) (x : Snapshot) → IsSound s → Has s → name ≡ snapshot → get s.snapshots snapshot ≡ Some x → HasHold s.plain.live w (holds.Take name t) → any_part (s.parted w) ≡ true → P
no_snapshot s w name snapshot t x h q n i k e =
    let z : None ≡ Some x = sym (h.held.taken w name t k (q.undone w e)) ∙ ap (get s.snapshots) n ∙ i in absurd (cc)

-- ---- the info

info_old : (p : Step) (s : Parts) → Allows p s → WritesPart p s → IsSound s → Has s → (w : ℕ) (name t : List ℕ) (f : FileState) → HasHold s.plain.live w (holds.Take name t) → (parted_by p s.parted w).info ≡ true
    → disk_after (op_of p) s.disk (WorkInfo name) ≡ Some f → IsInfoOf f.bytes name t
info_old (step.Manifest actor parts.Info snapshot moment bytes) s a o h q w name t f k e i = cond_cases (same_bytes name snapshot) (Some (record { bytes = bytes; moment = 0 })) (s.disk (WorkInfo name)) (Some f) i
    (λ d j. let n = same_bytes-true name snapshot d in
    let v = same_taker s actor.0 w name t a.table h (subst (λ y. HasHold s.plain.live actor.0 (holds.Take y a.table)) (sym n) a.take) k in
    subst (λ (g : FileState). IsInfoOf g.bytes name t) (some_is j) (subst (λ y. IsInfoOf bytes y t) (sym n) (o t (subst (λ y. HasHold s.plain.live actor.0 (holds.Take y t)) n (as_taker s w actor.0 name t v k)))))
    (λ d j. at_actor part_info actor.0 _ s.parted w e
    (λ v y. not_equal name snapshot d (takes_same s actor.0 name snapshot t a.table h (as_taker s w actor.0 name t v k) a.take).0)
    (λ v y. q.info w name t f k y j))
info_old (step.Manifest actor parts.Data snapshot moment bytes) s a o h q w name t f k e i = at_actor part_info actor.0 _ s.parted w e
    (λ v y. q.info w name t f k (ap (λ z. (s.parted z).info) v ∙ y) i) (λ v y. q.info w name t f k y i)
info_old (step.Complete actor snapshot x) s a o h q w name t f k e i = at_actor part_info actor.0 _ s.parted w e (λ v y. absurd (cc))
    (λ v y. cond_cases (same_bytes name snapshot) None (s.disk (WorkInfo name)) (Some f) i (λ d j. absurd (cc)) (λ d j. q.info w name t f k y j))
info_old (step.Uncomplete actor snapshot) s a o h q w name t f k e i = cond_cases (same_bytes name snapshot) (s.disk (Info snapshot)) (s.disk (WorkInfo name)) (Some f) i
    (λ d j. no_snapshot s w name snapshot t a.snapshot h q (same_bytes-true name snapshot d) a.stands k (or_left (s.parted w).info (s.parted w).manifest e))
    (λ d j. q.info w name t f k e j)
info_old (step.Start who job (started.Live actor) drawn) s a o h q w name t f k e i = at_actor part_info actor.0 no_part s.parted w e (λ v y. absurd (cc)) (λ v y. q.info w name t f k y i)
info_old (step.End actor refusal) s a o h q w name t f k e i = at_actor part_info actor.0 no_part s.parted w e (λ v y. absurd (cc)) (λ v y. q.info w name t f k y i)
info_old (step.Abandon actor) s a o h q w name t f k e i = at_actor part_info actor.0 no_part s.parted w e (λ v y. absurd (cc)) (λ v y. q.info w name t f k y i)
info_old (step.DropOld actor (old.Work snapshot parts.Info)) s a o h q w name t f k e i = cond_cases (same_bytes name snapshot) None (s.disk (WorkInfo name)) (Some f) i (λ d j. absurd (cc)) (λ d j. q.info w name t f k e j)
info_old (step.Place actor (moves.Written x) base cells) s a o h q w name t f k e i = q.info w name t f k e i
info_old _ s a o h q w name t f k e i = q.info w name t f k e i

-- ---- the manifest, as of the state before

data_old : (p : Step) (s : Parts) → Allows p s → WritesPart p s → IsSound s → Has s → (w : ℕ) (name t : List ℕ) (f : FileState) → HasHold s.plain.live w (holds.Take name t) → (parted_by p s.parted w).manifest ≡ true
    → disk_after (op_of p) s.disk (WorkManifest name) ≡ Some f → IsManifestOf f.bytes (snapshot_of (s.captures w) t s.plain)
data_old (step.Manifest actor parts.Data snapshot moment bytes) s a o h q w name t f k e i = cond_cases (same_bytes name snapshot) (Some (record { bytes = bytes; moment = 0 })) (s.disk (WorkManifest name)) (Some f) i
    (λ d j. let n = same_bytes-true name snapshot d in
    let v = same_taker s actor.0 w name t a.table h (subst (λ y. HasHold s.plain.live actor.0 (holds.Take y a.table)) (sym n) a.take) k in
    subst (λ (g : FileState). IsManifestOf g.bytes (snapshot_of (s.captures w) t s.plain)) (some_is j)
    (subst (λ y. IsManifestOf bytes (snapshot_of (s.captures y) t s.plain)) (sym v) (o t (subst (λ y. HasHold s.plain.live actor.0 (holds.Take y t)) n (as_taker s w actor.0 name t v k)))))
    (λ d j. at_actor part_data actor.0 _ s.parted w e
    (λ v y. not_equal name snapshot d (takes_same s actor.0 name snapshot t a.table h (as_taker s w actor.0 name t v k) a.take).0)
    (λ v y. q.manifest w name t f k y j))
data_old (step.Manifest actor parts.Info snapshot moment bytes) s a o h q w name t f k e i = at_actor part_data actor.0 _ s.parted w e
    (λ v y. q.manifest w name t f k (ap (λ z. (s.parted z).manifest) v ∙ y) i) (λ v y. q.manifest w name t f k y i)
data_old (step.Complete actor snapshot x) s a o h q w name t f k e i = at_actor part_data actor.0 _ s.parted w e (λ v y. absurd (cc))
    (λ v y. cond_cases (same_bytes name snapshot) None (s.disk (WorkManifest name)) (Some f) i (λ d j. absurd (cc)) (λ d j. q.manifest w name t f k y j))
data_old (step.Uncomplete actor snapshot) s a o h q w name t f k e i = cond_cases (same_bytes name snapshot) (s.disk (Manifest snapshot)) (s.disk (WorkManifest name)) (Some f) i
    (λ d j. no_snapshot s w name snapshot t a.snapshot h q (same_bytes-true name snapshot d) a.stands k (or_right (s.parted w).info (s.parted w).manifest e))
    (λ d j. q.manifest w name t f k e j)
data_old (step.Start who job (started.Live actor) drawn) s a o h q w name t f k e i = at_actor part_data actor.0 no_part s.parted w e (λ v y. absurd (cc)) (λ v y. q.manifest w name t f k y i)
data_old (step.End actor refusal) s a o h q w name t f k e i = at_actor part_data actor.0 no_part s.parted w e (λ v y. absurd (cc)) (λ v y. q.manifest w name t f k y i)
data_old (step.Abandon actor) s a o h q w name t f k e i = at_actor part_data actor.0 no_part s.parted w e (λ v y. absurd (cc)) (λ v y. q.manifest w name t f k y i)
data_old (step.DropOld actor (old.Work snapshot parts.Data)) s a o h q w name t f k e i = cond_cases (same_bytes name snapshot) None (s.disk (WorkManifest name)) (Some f) i (λ d j. absurd (cc)) (λ d j. q.manifest w name t f k e j)
data_old (step.Place actor (moves.Written x) base cells) s a o h q w name t f k e i = q.manifest w name t f k e i
data_old _ s a o h q w name t f k e i = q.manifest w name t f k e i

-- ---- captures

abbrev AllIn : (RegionKey → Option RegionFiles) → List RegionKey → Type 0
AllIn captures rs = AllByRecursion (λ r. is_some (captures r) ≡ true) rs

all_taken : (s : Parts) (a w : ℕ) (snapshot name t u : List ℕ) → IsSound s → HasHold s.plain.live a (holds.Take snapshot u) → AllIn (s.captures a) (open_keys s.plain u) → w ≡ a → HasHold s.plain.live w (holds.Take name t) → AllIn (s.captures w) (open_keys s.plain t)
all_taken s a w snapshot name t u h x c v k =
    let z = takes_same s a name snapshot t u h (as_taker s w a name t v k) x in
    subst (λ y. AllIn (s.captures y) (open_keys s.plain t)) (sym v) (subst (λ y. AllIn (s.captures a) (open_keys s.plain y)) (sym z.1) c)

all_old : (p : Step) (s : Parts) → Allows p s → IsSound s → Has s → (w : ℕ) (name t : List ℕ) → HasHold s.plain.live w (holds.Take name t) → any_part (parted_by p s.parted w) ≡ true → AllIn (s.captures w) (open_keys s.plain t)
all_old (step.Manifest actor parts.Info snapshot moment bytes) s a h q w name t k e = at_actor part_any actor.0 _ s.parted w e
    (λ v y. all_taken s actor.0 w snapshot name t a.table h a.take a.captured v k) (λ v y. q.captured w name t k y)
all_old (step.Manifest actor parts.Data snapshot moment bytes) s a h q w name t k e = at_actor part_any actor.0 _ s.parted w e
    (λ v y. all_taken s actor.0 w snapshot name t a.table h a.take a.captured v k) (λ v y. q.captured w name t k y)
all_old (step.Complete actor snapshot x) s a h q w name t k e = at_actor part_any actor.0 _ s.parted w e (λ v y. absurd (cc)) (λ v y. q.captured w name t k y)
all_old (step.Start who job (started.Live actor) drawn) s a h q w name t k e = at_actor part_any actor.0 no_part s.parted w e (λ v y. absurd (cc)) (λ v y. q.captured w name t k y)
all_old (step.End actor refusal) s a h q w name t k e = at_actor part_any actor.0 no_part s.parted w e (λ v y. absurd (cc)) (λ v y. q.captured w name t k y)
all_old (step.Abandon actor) s a h q w name t k e = at_actor part_any actor.0 no_part s.parted w e (λ v y. absurd (cc)) (λ v y. q.captured w name t k y)
all_old _ s a h q w name t k e = q.captured w name t k e

open-there : (i : RegionInfo) (rs : List (RegionInfo × Bool)) → Member (i, false) rs → Member i (open_of rs)
open-there i [] m = m
open-there i (x ∷ xs) (inl e) = subst (λ (y : RegionInfo × Bool). Member i (open_of (y ∷ xs))) (sym e) (inl refl)
open-there i (x ∷ xs) (inr m) = (elim x.1 as (λ b. Member i (map (λ (r : RegionInfo × Bool). r.0) (cond (not b) (x ∷ filter (λ (r : RegionInfo × Bool). not r.1) xs) (filter (λ (r : RegionInfo × Bool). not r.1) xs)))) [
  | true ↦ open-there i xs m
  | false ↦ inr (open-there i xs m)
])

in_open : (p : Plain) (r : RegionKey) → InSet p.tables r false → Member r (open_keys p r.table)
in_open p r g = subst (λ (k : RegionKey). Member k (open_keys p r.table)) g.key
    (member-map key_of g.info _ (subst (λ (o : Option PlainTable). Member g.info (open_of (regions_in o))) (sym g.stands) (open-there g.info g.table.regions g.listed)))

-- whoever has written a part captures no more
no_more : (s : Parts) (a w : ℕ) (snapshot name t : List ℕ) (r : RegionKey) → HasHold s.plain.live a (holds.Take snapshot r.table) → InSet s.plain.tables r false → s.captures a r ≡ None → IsSound s → Has s → HasHold s.plain.live w (holds.Take name t)
    → any_part (s.parted w) ≡ true → w ≡ a → ⊥
no_more s a w snapshot name t r g o n h q k e v =
    let z = takes_same s a name snapshot t r.table h (as_taker s w a name t v k) g in
    let c = each-member (λ y. is_some (s.captures w y) ≡ true) (open_keys s.plain t) r (q.captured w name t k e) (subst (λ y. Member r (open_keys s.plain y)) (sym z.1) (in_open s.plain r o)) in
    let b : true ≡ false = sym c ∙ ap (λ y. is_some (s.captures y r)) v ∙ ap is_some n in absurd (cc)

captures_same : (p : Step) (s : Parts) → Allows p s → IsSound s → Has s → (w : ℕ) (name t : List ℕ) → HasHold s.plain.live w (holds.Take name t) → any_part (parted_by p s.parted w) ≡ true → captures_by p s.lists s.captures w ≡ s.captures w
captures_same (step.Capture actor region) s a h q w name t k e = (elim (w == actor.0) as (λ b. w == actor.0 ≡ b → (λ (y : RegionKey). cond (b && same_key y region) (Some (s.lists region)) (s.captures w y)) ≡ s.captures w) [
  | true ↦ λ d. absurd (no_more s actor.0 w a.snapshot name t region a.take a.is_open a.new h q k e (same_number w actor.0 d))
  | false ↦ λ d. refl
]) refl
captures_same (step.CommitList actor region number x why.Capture list cells more) s a h q w name t k e = (elim (w == actor.0) as (λ b. w == actor.0 ≡ b → (λ (y : RegionKey). cond (b && same_key y region) (Some list) (s.captures w y)) ≡ s.captures w) [
  | true ↦ λ d. absurd (no_more s actor.0 w a.allowed.snapshot name t region a.allowed.take a.allowed.is_open a.allowed.new h q k e (same_number w actor.0 d))
  | false ↦ λ d. refl
]) refl
captures_same (step.End actor refusal) s a h q w name t k e = at_actor part_any actor.0 no_part s.parted w e (λ v y. absurd (cc)) (λ v y. ap (λ b. λ (r : RegionKey). cond b None (s.captures w r)) v)
captures_same (step.Abandon actor) s a h q w name t k e = at_actor part_any actor.0 no_part s.parted w e (λ v y. absurd (cc)) (λ v y. ap (λ b. λ (r : RegionKey). cond b None (s.captures w r)) v)
captures_same _ s a h q w name t k e = refl

-- ---- who has completed

abbrev IsUndone : Parted → Type 0
IsUndone p = any_part p ≡ true → p.done ≡ false

undone_old : (p : Step) (s : Parts) → Allows p s → Has s → (w : ℕ) → IsUndone (parted_by p s.parted w)
undone_old (step.Manifest actor parts.Info snapshot moment bytes) s a q w = elim (w == actor.0) as (λ b. IsUndone (cond b (record { info = true; manifest = (s.parted actor.0).manifest; done = (s.parted actor.0).done }) (s.parted w))) [ true ↦ λ y. a.undone | false ↦ q.undone w ]
undone_old (step.Manifest actor parts.Data snapshot moment bytes) s a q w = elim (w == actor.0) as (λ b. IsUndone (cond b (record { info = (s.parted actor.0).info; manifest = true; done = (s.parted actor.0).done }) (s.parted w))) [ true ↦ λ y. a.undone | false ↦ q.undone w ]
undone_old (step.Complete actor snapshot x) s a q w = elim (w == actor.0) as (λ b. IsUndone (cond b (record { info = false; manifest = false; done = true }) (s.parted w))) [ true ↦ λ y. absurd (cc) | false ↦ q.undone w ]
undone_old (step.Start who job (started.Live actor) drawn) s a q w = elim (w == actor.0) as (λ b. IsUndone (cond b no_part (s.parted w))) [ true ↦ λ y. refl | false ↦ q.undone w ]
undone_old (step.End actor refusal) s a q w = elim (w == actor.0) as (λ b. IsUndone (cond b no_part (s.parted w))) [ true ↦ λ y. refl | false ↦ q.undone w ]
undone_old (step.Abandon actor) s a q w = elim (w == actor.0) as (λ b. IsUndone (cond b no_part (s.parted w))) [ true ↦ λ y. refl | false ↦ q.undone w ]
undone_old _ s a q w = q.undone w

-- ---- all steps

abbrev snapshot_in : (RegionKey → Option RegionFiles) → List ℕ → Option PlainTable → Snapshot
snapshot_in captures t o = record { schema = record { table = t; families = families_of_table o }; regions = filter_map (copied captures) (open_of (regions_in o)) }

pub parts_kept : (p : Step) (s : Parts) → Allows p s → WritesPart p s → IsSound s → Has s
    → HasParts (work_infos_of (disk_after (op_of p) s.disk)) (work_manifests_of (disk_after (op_of p) s.disk)) (parted_by p s.parted) (captures_by p s.lists s.captures) (after_all s.plain (events_of p))
parts_kept p s a o h q = record {
  info = λ w name t f k e i. info_old p s a o h q w name t f (before w name t k (or_left (parted_by p s.parted w).info (parted_by p s.parted w).manifest e)) e i;
  manifest = λ w name t f k e i. let x = before w name t k (or_right (parted_by p s.parted w).info (parted_by p s.parted w).manifest e) in
      subst (λ (v : Option PlainTable). IsManifestOf f.bytes (snapshot_in (captures_by p s.lists s.captures w) t v)) (sym (taken_stays p s a h w name t x))
      (subst (λ (c : RegionKey → Option RegionFiles). IsManifestOf f.bytes (snapshot_of c t s.plain)) (sym (captures_same p s a h q w name t x (or_right (parted_by p s.parted w).info (parted_by p s.parted w).manifest e))) (data_old p s a o h q w name t f x e i));
  captured = λ w name t k e. let x = before w name t k e in
      subst (λ (v : Option PlainTable). AllIn (captures_by p s.lists s.captures w) (map key_of (open_of (regions_in v)))) (sym (taken_stays p s a h w name t x))
      (subst (λ (c : RegionKey → Option RegionFiles). AllIn c (open_keys s.plain t)) (sym (captures_same p s a h q w name t x e)) (all_old p s a h q w name t x e));
  undone = undone_old p s a q;
}
  where
    before : (w : ℕ) (name t : List ℕ) → HasHold (after_all s.plain (events_of p)).live w (holds.Take name t) → any_part (parted_by p s.parted w) ≡ true → HasHold s.plain.live w (holds.Take name t)
    before w name t k e = hold_before p s a w (holds.Take name t) (subst (λ live. HasHold live w (holds.Take name t)) (live_after p s a) k) e
