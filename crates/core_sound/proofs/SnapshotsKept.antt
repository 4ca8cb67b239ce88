-- Each step keeps that snapshots in use are there, and that one that is taken is there once its actor has completed it.
use Rattle.std.proofs.Common.{◌≡◌, ◌⊎◌, ℕ, ◌==◌, ◌<◌, Bool, true, false, not, cond, List, [], ◌∷◌, ◌++◌, Option, Some, None, refl, sym, ap, ◌∙◌, subst, inl, inr, arith}
use Rattle.std.proofs.lemmas.Bool.Decides.{nat_tests}
use Rattle.std.specs.Prelude.{map, find, is_some, IsSome, unwrap_or, option_to_list}
use Rattle.std.specs.FinMap.{get, insert, remove, get-insert, get-remove}
use Rattle.std.specs.Option.{option_or}
use Rattle.std.specs.Ordering.{eq_by_cmp}
use Rattle.std.specs.Cmp.Lexicographic.{texts_ties, nat_list_cmp_total}
use Rattle.hb_cell.specs.Order.{bytes_cmp}
use Rattle.plain_model.specs.declared.who.Actor.{Actor}
use Rattle.plain_model.specs.declared.hold.Hold.{Hold}
use Rattle.plain_model.specs.declared.hold.Hold.TheVariants as holds
use Rattle.plain_model.specs.declared.job.Job.{Job}
use Rattle.plain_model.specs.declared.job.Job.TheVariants as jobs
use Rattle.plain_model.specs.declared.region_key.RegionKey.{RegionKey}
use Rattle.plain_model.specs.declared.reply.Reply.{Reply}
use Rattle.plain_model.specs.declared.reply.Reply.TheVariants.{Fine, TableNotFound, SnapshotExists, SnapshotNotFound}
use Rattle.plain_model.specs.After.{after_all}
use Rattle.hb_cell.specs.Order.{same_bytes}
use Rattle.plain_model.specs.Names.{Names}
use Rattle.plain_model.specs.Conflicts.{excludes}
use Rattle.plain_model.specs.Found.{is_snapshot, is_table, table_of_snapshot}
use Rattle.plain_model.specs.Holds.{holds_of}
use Rattle.plain_model.specs.LiveEvents.{live_of, without}
use Rattle.plain_model.specs.Plain.{Plain}
use Rattle.plain_model.specs.declared.parts.Live.{Live}
use Rattle.plain_model.specs.Replies.{Files, reply_with, when}
use Rattle.core_model.specs.declared.snapshot.Snapshot.{Snapshot}
use Rattle.core_model.specs.declared.targets.ManifestPart.TheVariants as parts
use Rattle.core_model.specs.declared.step.Started.TheVariants as started
use Rattle.core_model.specs.declared.step.Step.{Step}
use Rattle.core_model.specs.declared.step.Step.TheVariants as step
use Rattle.core_model.specs.ActorChanges.{parted_by, no_part}
use Rattle.core_model.specs.ActorFacts.{FitsJob, HoldsApart, HoldsFit, HasUses, SnapshotsHeld, used_by}
use Rattle.core_model.specs.Actors.{HasHold}
use Rattle.core_model.specs.Allows.{Allows}
use Rattle.core_model.specs.Events.{events_of}
use Rattle.core_model.specs.FileChanges.{snapshots_by}
use Rattle.cell_sight.specs.Member.{Member}
use Rattle.core_model.specs.Keys.{set_actor}
use Rattle.core_model.specs.LiveChanges.{live_by}
use Rattle.core_model.specs.Sound.{IsSound}
use Rattle.core_model.specs.State.{Parts, Parted}
use Rattle.core_sound.proofs.Lists.{eq_name, member-behind, member-find, or_left, member-append}
use Rattle.core_sound.proofs.HoldsKept.{without-member}
use Rattle.core_sound.proofs.LiveKept.{live_after}
use Rattle.core_sound.proofs.HoldsFound.{some_is}
use Rattle.core_sound.proofs.Sources.{map-member}
use Rattle.core_sound.proofs.Tests.{cond_cases, same_number, same_bytes-self}

-- ---- actors at work

find-passes : {X : Type 0} (p : X → Bool) (xs : List X) (x : X) → find p xs ≡ Some x → p x ≡ true
find-passes p [] x e = absurd (cc)
find-passes p (z ∷ xs) x e = cond_cases (p z) (Some z) (find p xs) (Some x) e (λ d i. ap p (sym (some_is i)) ∙ d) (λ d i. find-passes p xs x i)

find-last : {X : Type 0} (p : X → Bool) (xs : List X) (y x : X) → find p (xs ++ y ∷ []) ≡ Some x → (find p xs ≡ Some x) ⊎ ((y ≡ x) × (p y ≡ true))
find-last p [] y x e = cond_cases (p y) (Some y) None (Some x) e (λ d i. inr (some_is i, d)) (λ d i. absurd (cc))
find-last p (z ∷ xs) y x e = (elim (p z) as (λ b. cond b (Some z) (find p (xs ++ y ∷ [])) ≡ Some x → (cond b (Some z) (find p xs) ≡ Some x) ⊎ ((y ≡ x) × (p y ≡ true))) [
  | true ↦ λ i. inl i
  | false ↦ λ i. find-last p xs y x i
]) e

different : (n a b : ℕ) → (n == b) ≡ true → (a == b) ≡ false → (n == a) ≡ false
different n a b e f = grind (arith, nat_tests)

live_back : (a b : ℕ) (xs : List Live) (x : Live) → live_of (without b xs) a ≡ Some x → (live_of xs a ≡ Some x) × ((a == b) ≡ false)
live_back a b [] x e = absurd (cc)
live_back a b (z ∷ xs) x e = (elim (z.actor.0 == b) as (λ c. (z.actor.0 == b) ≡ c → live_of (cond (not c) (z ∷ without b xs) (without b xs)) a ≡ Some x → (live_of (z ∷ xs) a ≡ Some x) × ((a == b) ≡ false)) [
  | true ↦ λ d i. let w = live_back a b xs x i in (ap (λ c. cond c (Some z) (live_of xs a)) (different z.actor.0 a b d w.1) ∙ w.0, w.1)
  | false ↦ λ d i. cond_cases (z.actor.0 == a) (Some z) (live_of (without b xs) a) (Some x) i
      (λ f j. (ap (λ c. cond c (Some z) (live_of xs a)) f ∙ j, ap (λ n. n == b) (sym (same_number z.actor.0 a f)) ∙ d))
      (λ f j. let w = live_back a b xs x j in (ap (λ c. cond c (Some z) (live_of xs a)) f ∙ w.0, w.1))
]) refl e

hold_back : (live : List Live) (a b : ℕ) (h : Hold) → HasHold (without b live) a h → HasHold live a h
hold_back live a b h k = record { activity = k.activity; at_work = (live_back a b live k.activity k.at_work).0; held = k.held }

hold_other : (live : List Live) (a b : ℕ) (h : Hold) → HasHold (without b live) a h → (a == b) ≡ false
hold_other live a b h k = (live_back a b live k.activity k.at_work).1

not_same : {P : Type 0} (a b m n : ℕ) → (a == b) ≡ false → (m == a) ≡ true → (n == b) ≡ true → m ≡ n → P
not_same a b m n e f g h = absurd (grind (arith, nat_tests))

-- holds of two live actors exclude nothing
apart : (live : List Live) → HoldsApart live → (a b : ℕ) (h k : Hold) → (a == b) ≡ false → HasHold live a h → HasHold live b k → excludes h k ≡ false
apart live s a b h k n x y =
    s.at x.activity y.activity h k (member-find _ live x.activity x.at_work) (member-find _ live y.activity y.at_work)
    (λ e. not_same a b x.activity.actor.0 y.activity.actor.0 n (find-passes _ live x.activity x.at_work) (find-passes _ live y.activity y.at_work) e) x.held y.held

-- both holds of one actor fit one job
pub both_fit : (live : List Live) → HoldsFit live → (a : ℕ) (h k : Hold) → HasHold live a h → HasHold live a k → (job : Job) × FitsJob h job × FitsJob k job
both_fit live s a h k x y = (
  x.activity.job,
  s.at x.activity h (member-find _ live x.activity x.at_work) x.held,
  subst (λ (l : Live). FitsJob k l.job) (some_is (sym y.at_work ∙ x.at_work)) (s.at y.activity k (member-find _ live y.activity y.at_work) y.held),
)

one_take : (job : Job) (name t n u : List ℕ) → FitsJob (holds.Take name t) job → FitsJob (holds.Take n u) job → name ≡ n
one_take (jobs.Snapshot v m) name t n u f g = sym f.1 ∙ g.1
one_take _ name t n u f g = absurd f

pub use_erase : (job : Job) (n m : List ℕ) → FitsJob (holds.Use n) job → FitsJob (holds.Erase m) job → ⊥
use_erase (jobs.DeleteSnapshot x) n m f g = f
use_erase _ n m f g = g

pub take_erase : (job : Job) (n t m : List ℕ) → FitsJob (holds.Take n t) job → FitsJob (holds.Erase m) job → ⊥
take_erase (jobs.DeleteSnapshot x) n t m f g = f
take_erase _ n t m f g = g

-- ---- what a start asks of snapshots

there : (b : Bool) (rest : Option Reply) → unwrap_or (option_or (when (not b) SnapshotNotFound) rest) Fine ≡ Fine → b ≡ true
there true rest e = refl
there false rest e = absurd (cc)

not_there : (c b : Bool) → unwrap_or (option_or (when c TableNotFound) (option_or (when b SnapshotExists) None)) Fine ≡ Fine → b ≡ false
not_there true b e = absurd (cc)
not_there false true e = absurd (cc)
not_there false false e = refl

abbrev name_of : Hold → List ℕ
name_of (holds.Use n) = n
name_of (holds.Take n t) = n
name_of _ = []

no_map : {A P : Type 0} (f : A → Hold) (h : Hold) (xs : List A) → ((x : A) → f x ≡ h → ⊥) → Member h (map f xs) → P
no_map f h xs n m = let w = map-member f h xs m in absurd (n w.0 w.2)

used_there : (un : List RegionKey) (files : Files) (p : Plain) (job : Job) (name : List ℕ) → Member (holds.Use name) (holds_of un p job) → reply_with files p job ≡ Fine → is_snapshot p name ≡ true
used_there un files p (jobs.Clone s t) name (inl d) e = absurd (cc)
used_there un files p (jobs.Clone s t) name (inr (inl d)) e = ap (is_snapshot p) (sym (ap name_of d)) ∙ there (is_snapshot p s) _ e
used_there un files p (jobs.Clone s t) name (inr (inr d)) e = absurd d
used_there un files p (jobs.Restore s) name m e = elim (member-append (holds.Use name) (map holds.Table (option_to_list (table_of_snapshot p s))) (holds.Use s ∷ []) m) [
  | inl k ↦ no_map holds.Table (holds.Use name) _ (λ x i. absurd (cc)) k
  | inr k ↦ elim k [ inl d ↦ ap (is_snapshot p) (sym (ap name_of d)) ∙ there (is_snapshot p s) _ e | inr d ↦ absurd d ]
]
used_there un files p (jobs.Flush t) name m e = no_map holds.Flush (holds.Use name) _ (λ x i. absurd (cc)) m
used_there un files p (jobs.Compact t major) name m e = no_map holds.Compact (holds.Use name) _ (λ x i. absurd (cc)) m
used_there un files p (jobs.Discharge t) name m e = no_map holds.Compact (holds.Use name) _ (λ x i. absurd (cc)) m
used_there un files p (jobs.Split t row) name m e = no_map holds.Region (holds.Use name) _ (λ x i. absurd (cc)) m
used_there un files p jobs.Janitor name m e = no_map holds.Region (holds.Use name) _ (λ x i. absurd (cc)) m
used_there un files p jobs.ListSnapshots name m e = absurd m
used_there un files p (jobs.Put t c) name m e = absurd m
used_there un files p (jobs.Scan t) name m e = absurd m
used_there un files p _ name (inl d) e = absurd (cc)
used_there un files p _ name (inr d) e = absurd d

taken_there : (un : List RegionKey) (files : Files) (p : Plain) (job : Job) (name t : List ℕ) → Member (holds.Take name t) (holds_of un p job) → reply_with files p job ≡ Fine → is_snapshot p name ≡ false
taken_there un files p (jobs.Snapshot u s) name t (inl d) e = ap (is_snapshot p) (sym (ap name_of d)) ∙ not_there (not (is_table p u)) (is_snapshot p s) e
taken_there un files p (jobs.Snapshot u s) name t (inr d) e = absurd d
taken_there un files p (jobs.Clone s u) name t (inl d) e = absurd (cc)
taken_there un files p (jobs.Clone s u) name t (inr (inl d)) e = absurd (cc)
taken_there un files p (jobs.Clone s u) name t (inr (inr d)) e = absurd d
taken_there un files p (jobs.Restore s) name t m e = elim (member-append (holds.Take name t) (map holds.Table (option_to_list (table_of_snapshot p s))) (holds.Use s ∷ []) m) [
  | inl k ↦ no_map holds.Table (holds.Take name t) _ (λ x i. absurd (cc)) k
  | inr k ↦ elim k [ inl d ↦ absurd (cc) | inr d ↦ absurd d ]
]
taken_there un files p (jobs.Flush u) name t m e = no_map holds.Flush (holds.Take name t) _ (λ x i. absurd (cc)) m
taken_there un files p (jobs.Compact u major) name t m e = no_map holds.Compact (holds.Take name t) _ (λ x i. absurd (cc)) m
taken_there un files p (jobs.Discharge u) name t m e = no_map holds.Compact (holds.Take name t) _ (λ x i. absurd (cc)) m
taken_there un files p (jobs.Split u row) name t m e = no_map holds.Region (holds.Take name t) _ (λ x i. absurd (cc)) m
taken_there un files p jobs.Janitor name t m e = no_map holds.Region (holds.Take name t) _ (λ x i. absurd (cc)) m
taken_there un files p jobs.ListSnapshots name t m e = absurd m
taken_there un files p (jobs.Put u c) name t m e = absurd m
taken_there un files p (jobs.Scan u) name t m e = absurd m
taken_there un files p _ name t (inl d) e = absurd (cc)
taken_there un files p _ name t (inr d) e = absurd d

-- a snapshot is there exactly where its plain copy is
none_is : {A : Type 0} (o : Option A) → is_some o ≡ false → o ≡ None
none_is None e = refl
none_is (Some x) e = absurd (cc)

-- ---- names in maps

insert-some : (m : Names Snapshot) (k n : List ℕ) (v : Snapshot) → IsSome (get m n) → IsSome (get (insert m k v) n)
insert-some m k n v h = subst IsSome (sym (get-insert nat_list_cmp_total m k v n)) ((elim (eq_by_cmp bytes_cmp n k) as (λ b. IsSome (cond b (Some v) (get m n))) [ true ↦ refl | false ↦ h ]))

insert-itself : (m : Names Snapshot) (k n : List ℕ) (v : Snapshot) → n ≡ k → IsSome (get (insert m k v) n)
insert-itself m k n v e =
    subst IsSome (sym (get-insert nat_list_cmp_total m k v n))
    (subst (λ b. IsSome (cond b (Some v) (get m n))) (sym (sym (texts_ties n k) ∙ ap (same_bytes n) (sym e) ∙ same_bytes-self n)) refl)

insert-none : (m : Names Snapshot) (k n : List ℕ) (v : Snapshot) → (n ≡ k → ⊥) → get m n ≡ None → get (insert m k v) n ≡ None
insert-none m k n v d h = get-insert nat_list_cmp_total m k v n ∙ (elim (eq_by_cmp bytes_cmp n k) as (λ b. eq_by_cmp bytes_cmp n k ≡ b → cond b (Some v) (get m n) ≡ None) [ true ↦ λ e. absurd (d (eq_name n k e)) | false ↦ λ e. h ]) refl

remove-some : (m : Names Snapshot) (k n : List ℕ) → (n ≡ k → ⊥) → IsSome (get m n) → IsSome (get (remove m k) n)
remove-some m k n d h = subst IsSome (sym (get-remove nat_list_cmp_total m k n)) ((elim (eq_by_cmp bytes_cmp n k) as (λ b. eq_by_cmp bytes_cmp n k ≡ b → IsSome (cond b None (get m n))) [ true ↦ λ e. absurd (d (eq_name n k e)) | false ↦ λ e. h ]) refl)

remove-none : (m : Names Snapshot) (k n : List ℕ) → get m n ≡ None → get (remove m k) n ≡ None
remove-none m k n h = get-remove nat_list_cmp_total m k n ∙ (elim (eq_by_cmp bytes_cmp n k) as (λ b. cond b None (get m n) ≡ None) [ true ↦ refl | false ↦ h ])

-- ---- steps

-- the part of another actor
part-other : (a w : ℕ) (v : Parted) (parted : ℕ → Parted) (b : Bool) → (set_actor a v parted w).done ≡ b → (w == a) ≡ false → (parted w).done ≡ b
part-other a w v parted b e n = sym (ap (λ c. (cond c v (parted w)).done) n) ∙ e

part-own : (a w : ℕ) (v : Parted) (parted : ℕ → Parted) (b : Bool) → (set_actor a v parted w).done ≡ b → (w == a) ≡ true → v.done ≡ b
part-own a w v parted b e n = sym (ap (λ c. (cond c v (parted w)).done) n) ∙ e

-- whether it is this actor
this_one : {P : Type 0} (w a : ℕ) → ((w == a) ≡ true → P) → ((w == a) ≡ false → P) → P
this_one {P} w a f g = (elim (w == a) as (λ b. (w == a) ≡ b → P) [ true ↦ f | false ↦ g ]) refl

ended_held : (a : ℕ) (live : List Live) (snapshots : Names Snapshot) (parted : ℕ → Parted) → SnapshotsHeld live snapshots parted → SnapshotsHeld (without a live) snapshots (set_actor a no_part parted)
ended_held a live snapshots parted h = record {
  used = λ w n k. h.used w n (hold_back live w a _ k);
  taken = λ w n t k e. h.taken w n t (hold_back live w a _ k) (part-other a w no_part parted false e (hold_other live w a _ k));
  done = λ w n t k e. h.done w n t (hold_back live w a _ k) (part-other a w no_part parted true e (hold_other live w a _ k));
}

-- a part of the manifest changes nothing of this
written_held : (a : ℕ) (v : Parted) (live : List Live) (snapshots : Names Snapshot) (parted : ℕ → Parted) → v.done ≡ (parted a).done → SnapshotsHeld live snapshots parted → SnapshotsHeld live snapshots (set_actor a v parted)
written_held a v live snapshots parted d h = record {
  used = h.used;
  taken = λ w n t k e. h.taken w n t k (back w false e);
  done = λ w n t k e. h.done w n t k (back w true e);
}
  where
    back : (w : ℕ) (b : Bool) → (set_actor a v parted w).done ≡ b → (parted w).done ≡ b
    back w b e = this_one w a (λ i. ap (λ x. (parted x).done) (same_number w a i) ∙ sym d ∙ part-own a w v parted b e i) (λ i. part-other a w v parted b e i)

started_held : (job : Job) (a : Actor) (hs : List Hold) (un : List RegionKey) (files : Files) (s : Parts) → hs ≡ holds_of un s.plain job → reply_with files s.plain job ≡ Fine → a.0 ≡ s.begun → IsSound s
    → SnapshotsHeld (s.plain.live ++ record { actor = a; job = job; holds = hs } ∷ []) s.snapshots (set_actor a.0 no_part s.parted)
started_held job a hs un files s o f b h = record {
  used = λ w n k. elim (find-last _ s.plain.live _ k.activity k.at_work) [
    | inl i ↦ h.held.used w n (record { activity = k.activity; at_work = i; held = k.held })
    | inr i ↦ h.alike.at n ∙
        (used_there un files s.plain job n (subst (Member (holds.Use n)) o (subst (λ (l : Live). Member (holds.Use n) l.holds) (sym i.0) k.held)) f)
  ];
  taken = λ w n t k e. elim (find-last _ s.plain.live _ k.activity k.at_work) [
    | inl i ↦ h.held.taken w n t (record { activity = k.activity; at_work = i; held = k.held }) (part-other a.0 w no_part s.parted false e (not_new w k.activity i))
    | inr i ↦ none_is (get s.snapshots n) (h.alike.at n ∙
        taken_there un files s.plain job n t (subst (Member (holds.Take n t)) o (subst (λ (l : Live). Member (holds.Take n t) l.holds) (sym i.0) k.held)) f)
  ];
  done = λ w n t k e. elim (find-last _ s.plain.live _ k.activity k.at_work) [
    | inl i ↦ h.held.done w n t (record { activity = k.activity; at_work = i; held = k.held }) (part-other a.0 w no_part s.parted true e (not_new w k.activity i))
    | inr i ↦ (let z : false ≡ true = part-own a.0 w no_part s.parted true e (turned a.0 w i.1) in absurd (cc))
  ];
}
  where
    turned : (m n : ℕ) → (m == n) ≡ true → (n == m) ≡ true
    turned m n e = grind (arith, nat_tests)

    fresh : (w m c : ℕ) → (m == w) ≡ true → m < c → a.0 ≡ c → (w == a.0) ≡ false
    fresh w m c e i j = grind (arith, nat_tests)

    not_new : (w : ℕ) (l : Live) → live_of s.plain.live w ≡ Some l → (w == a.0) ≡ false
    not_new w l i = fresh w l.actor.0 s.begun (find-passes _ s.plain.live l i) (h.numbered.below l (member-find _ s.plain.live l i)) b

completed_held : (a : ℕ) (name t : List ℕ) (x : Snapshot) (v : Parted) (s : Parts) → v.done ≡ true → HasHold s.plain.live a (holds.Take name t) → IsSound s
    → SnapshotsHeld s.plain.live (insert s.snapshots name x) (set_actor a v s.parted)
completed_held a name t x v s d m h = record {
  used = λ w n k. insert-some s.snapshots name n x (h.held.used w n k);
  taken = λ w n u k e. this_one w a (λ i. let z : true ≡ false = sym d ∙ part-own a w v s.parted false e i in absurd (cc))
      (λ i. insert-none s.snapshots name n x (λ j. clash w n u i k j) (h.held.taken w n u k (part-other a w v s.parted false e i)));
  done = λ w n u k e. this_one w a
      (λ i. let z = both_fit s.plain.live h.fits a (holds.Take n u) (holds.Take name t) (subst (λ y. HasHold s.plain.live y (holds.Take n u)) (same_number w a i) k) m in insert-itself s.snapshots name n x (one_take z.0 n u name t z.1 z.2))
      (λ i. insert-some s.snapshots name n x (h.held.done w n u k (part-other a w v s.parted true e i)));
}
  where
    clash : (w : ℕ) (n u : List ℕ) → (w == a) ≡ false → HasHold s.plain.live w (holds.Take n u) → n ≡ name → ⊥
    clash w n u i k j = let z : true ≡ false = sym (or_left (same_bytes n name) (same_bytes u t) (ap (same_bytes n) (sym j) ∙ same_bytes-self n)) ∙ apart s.plain.live h.apart w a (holds.Take n u) (holds.Take name t) i k m in absurd (cc)

erased_held : (a : ℕ) (name : List ℕ) (s : Parts) → HasHold s.plain.live a (holds.Erase name) → IsSound s → SnapshotsHeld s.plain.live (remove s.snapshots name) s.parted
erased_held a name s m h = record {
  used = λ w n k. remove-some s.snapshots name n (λ j. this_one w a
      (λ i. let z = both_fit s.plain.live h.fits a (holds.Use n) (holds.Erase name) (subst (λ y. HasHold s.plain.live y (holds.Use n)) (same_number w a i) k) m in use_erase z.0 n name z.1 z.2)
      (λ i. let z : true ≡ false = sym (ap (same_bytes name) j ∙ same_bytes-self name) ∙ apart s.plain.live h.apart a w (holds.Erase name) (holds.Use n) (other w i) m k in absurd (cc))) (h.held.used w n k);
  taken = λ w n t k e. remove-none s.snapshots name n (h.held.taken w n t k e);
  done = λ w n t k e. remove-some s.snapshots name n (λ j. this_one w a
      (λ i. let z = both_fit s.plain.live h.fits a (holds.Take n t) (holds.Erase name) (subst (λ y. HasHold s.plain.live y (holds.Take n t)) (same_number w a i) k) m in take_erase z.0 n t name z.1 z.2)
      (λ i. let z : true ≡ false = sym (ap (same_bytes name) j ∙ same_bytes-self name) ∙ apart s.plain.live h.apart a w (holds.Erase name) (holds.Take n t) (other w i) m k in absurd (cc))) (h.held.done w n t k e);
}
  where
    other : (w : ℕ) → (w == a) ≡ false → (a == w) ≡ false
    other w e = grind (arith, nat_tests)

held_by_step : (p : Step) (s : Parts) → Allows p s → IsSound s → SnapshotsHeld (live_by p s.plain.live) (snapshots_by p s.snapshots) (parted_by p s.parted)
held_by_step (step.Start who job (started.Live actor) drawn) s a h = started_held job actor drawn.holds a.unreferenced a.files s a.holds a.answered.0 a.answered.1.number h
held_by_step (step.End actor refusal) s a h = ended_held actor.0 s.plain.live s.snapshots s.parted h.held
held_by_step (step.Abandon actor) s a h = ended_held actor.0 s.plain.live s.snapshots s.parted h.held
held_by_step (step.Manifest actor parts.Info name moment bytes) s a h = written_held actor.0 _ s.plain.live s.snapshots s.parted refl h.held
held_by_step (step.Manifest actor parts.Data name moment bytes) s a h = written_held actor.0 _ s.plain.live s.snapshots s.parted refl h.held
held_by_step (step.Complete actor name copied) s a h = completed_held actor.0 name a.table copied _ s refl a.take h
held_by_step (step.Uncomplete actor name) s a h = erased_held actor.0 name s a.erase h
held_by_step _ s a h = h.held

pub snapshots_kept : (p : Step) (s : Parts) → Allows p s → IsSound s → SnapshotsHeld (after_all s.plain (events_of p)).live (snapshots_by p s.snapshots) (parted_by p s.parted)
snapshots_kept p s a h = subst (λ live. SnapshotsHeld live (snapshots_by p s.snapshots) (parted_by p s.parted)) (sym (live_after p s a)) (held_by_step p s a h)

-- ---- the uses of jobs

holds_use : (un : List RegionKey) (p : Plain) (job : Job) (name : List ℕ) → used_by job ≡ Some name → Member (holds.Use name) (holds_of un p job)
holds_use un p (jobs.Clone n t) name e = inr (inl (ap holds.Use (some_is e)))
holds_use un p (jobs.Restore n) name e = member-behind (holds.Use name) (map holds.Table (option_to_list (table_of_snapshot p n))) (holds.Use n ∷ []) (inl (ap holds.Use (some_is e)))
holds_use un p _ name e = absurd (cc)

uses_by_step : (p : Step) (s : Parts) → Allows p s → IsSound s → HasUses (live_by p s.plain.live)
uses_by_step (step.Start who job (started.Live actor) drawn) s a h = record {
  at = λ l name m e. elim (member-append l s.plain.live (record { actor = actor; job = job; holds = drawn.holds } ∷ []) m) [
    | inl i ↦ h.uses.at l name i e
    | inr i ↦ elim i [
      | inl d ↦ subst (λ (x : Live). Member (holds.Use name) x.holds) d (subst (Member (holds.Use name)) (sym a.holds) (holds_use a.unreferenced s.plain job name (ap (λ (x : Live). used_by x.job) d ∙ e)))
      | inr d ↦ absurd d
    ]
  ];
}
uses_by_step (step.End actor refusal) s a h = record { at = λ l name m e. h.uses.at l name (without-member actor.0 l s.plain.live m) e }
uses_by_step (step.Abandon actor) s a h = record { at = λ l name m e. h.uses.at l name (without-member actor.0 l s.plain.live m) e }
uses_by_step _ s a h = h.uses

pub uses_kept : (p : Step) (s : Parts) → Allows p s → IsSound s → HasUses (after_all s.plain (events_of p)).live
uses_kept p s a h = subst HasUses (sym (live_after p s a)) (uses_by_step p s a h)
