-- Each step keeps what an open pass knows of captures and snapshots.
use Rattle.std.proofs.Common.{◌≡◌, ◌⊎◌, ℕ, ◌&&◌, ◌||◌, ◌==◌, true, false, cond, List, [], ◌∷◌, Option, Some, None, refl, sym, ap, ◌∙◌, subst, inl, inr}
use Rattle.std.specs.Prelude.{map, option_map, unwrap_or, is_some, Ok}
use Rattle.std.specs.Option.{option_or}
use Rattle.std.specs.FinMap.{get, keys, remove}
use Rattle.std.specs.Cmp.Lexicographic.{texts_ties}
use Rattle.hb_layout.specs.declared.base.Base.{Base}
use Rattle.plain_model.specs.declared.hold.Hold.{Hold}
use Rattle.plain_model.specs.declared.hold.Hold.TheVariants as holds
use Rattle.plain_model.specs.declared.job.Job.{Job}
use Rattle.plain_model.specs.declared.job.Job.TheVariants as jobs
use Rattle.plain_model.specs.declared.reply.Reply.TheVariants.{Fine, Taking}
use Rattle.plain_model.specs.declared.region_key.RegionKey.{RegionKey}
use Rattle.hb_cell.specs.Order.{same_bytes, is_below}
use Rattle.plain_model.specs.Names.{Names}
use Rattle.plain_model.specs.Keys.{same_key}
use Rattle.plain_model.specs.declared.parts.Live.{Live}
use Rattle.plain_model.specs.Replies.{Files, reply_with, taken_by, taken_names, least_name, lesser_name}
use Rattle.core_model.specs.declared.entry.Entry.{Entry}
use Rattle.core_model.specs.declared.region_files.RegionFiles.{RegionFiles}
use Rattle.core_model.specs.declared.snapshot.Snapshot.{Snapshot}
use Rattle.core_model.specs.declared.targets.Why.TheVariants as why
use Rattle.core_model.specs.declared.step.Started.TheVariants as started
use Rattle.core_model.specs.declared.step.Step.{Step}
use Rattle.core_model.specs.declared.step.Step.TheVariants as step
use Rattle.core_model.specs.ActorFacts.{PassKnows}
use Rattle.core_model.specs.Actors.{HasHold}
use Rattle.core_model.specs.ActorChanges.{captures_by}
use Rattle.core_model.specs.Allows.{Allows}
use Rattle.core_model.specs.Entries.{base_of}
use Rattle.core_model.specs.FileChanges.{snapshots_by}
use Rattle.cell_sight.specs.Member.{Member}
use Rattle.core_model.specs.PassChanges.{pass_by, touched, read_by, spared, opened_by, ended, is_one_of, snapshot_entries, snapshot_bases, without_name}
use Rattle.core_model.specs.Sound.{IsSound}
use Rattle.core_model.specs.StartGuards.{needs_moment}
use Rattle.core_model.specs.State.{Parts, Pass}
use Rattle.core_sound.proofs.Copied.{copied-member}
use Rattle.core_sound.proofs.Lists.{or_left, or_right, map_some, member-map, member-front, member-behind, member-find, one_of-member, key-member, get-put, get-taken, member-without}
use Rattle.core_sound.proofs.Tests.{cond_cases, same_bytes-true}

abbrev Captures : Type 0
Captures = ℕ → RegionKey → Option RegionFiles

-- what a changed pass knows, by what it knew
knows_map : (f : Pass → Pass) (pass : Option Pass) (snapshots : Names Snapshot) (captures : Captures)
    → ((q : Pass) (a : ℕ) (r : RegionKey) (l : RegionFiles) (e : Entry) → pass ≡ Some q → captures a r ≡ Some l → Member e l.entries → (f q).touched (base_of e) ≡ true)
    → ((q : Pass) (name : List ℕ) (x : Snapshot) (e : Entry) → pass ≡ Some q → get snapshots name ≡ Some x → Member e (snapshot_entries x)
    → Member name (f q).unread ⊎ (((f q).read (base_of e) ≡ true) ⊎ ((f q).touched (base_of e) ≡ true)))
    → PassKnows (option_map f pass) snapshots captures
knows_map f pass snapshots captures kc ks = record {
  captured = λ p a r l e i j m. let w = map_some f pass p i in subst (λ (y : Pass). y.touched (base_of e) ≡ true) w.2 (kc w.0 a r l e w.1 j m);
  completed = λ p name x e i j m. let w = map_some f pass p i in
      subst (λ (y : Pass). Member name y.unread ⊎ ((y.read (base_of e) ≡ true) ⊎ (y.touched (base_of e) ≡ true))) w.2 (ks w.0 name x e w.1 j m);
}

-- a pass that has gained names knows what it knew, and new captures of these
knows_touched : (bs : List Base) (pass : Option Pass) (snapshots : Names Snapshot) (captures more : Captures) → PassKnows pass snapshots captures
    → ((a : ℕ) (r : RegionKey) (l : RegionFiles) (e : Entry) → more a r ≡ Some l → Member e l.entries → (captures a r ≡ Some l) ⊎ Member (base_of e) bs)
    → PassKnows (option_map (touched bs) pass) snapshots more
knows_touched bs pass snapshots captures more h k = knows_map (touched bs) pass snapshots more
    (λ q a r l e i j m. elim (k a r l e j m) [
      | inl c ↦ or_right (is_one_of bs (base_of e)) _ (h.captured q a r l e i c m)
      | inr c ↦ or_left _ _ (one_of-member (base_of e) bs c)
    ])
    (λ q name x e i j m. elim (h.completed q name x e i j m) [
      | inl u ↦ inl u
      | inr v ↦ elim v [ inl d ↦ inr (inl d) | inr t ↦ inr (inr (or_right (is_one_of bs (base_of e)) _ t)) ]
    ])

-- the same where nothing is captured
knows_named : (bs : List Base) (pass : Option Pass) (snapshots : Names Snapshot) (captures : Captures) → PassKnows pass snapshots captures → PassKnows (option_map (touched bs) pass) snapshots captures
knows_named bs pass snapshots captures h = knows_touched bs pass snapshots captures captures h (λ a r l e j m. inl j)

-- what one region's capture adds
new_capture : (a : ℕ) (r : RegionKey) (l : RegionFiles) (captures : Captures) (w : ℕ) (q : RegionKey) (k : RegionFiles) (e : Entry)
    → cond ((w == a) && same_key q r) (Some l) (captures w q) ≡ Some k → Member e k.entries → (captures w q ≡ Some k) ⊎ Member (base_of e) (map base_of l.entries)
new_capture a r l captures w q k e i m = cond_cases ((w == a) && same_key q r) (Some l) (captures w q) (Some k) i
    (λ d j. let z : l ≡ k = (cc) in inr (member-map base_of e l.entries (subst (λ (x : RegionFiles). Member e x.entries) (sym z) m)))
    (λ d j. inl j)

-- ---- a pass that begins: nobody takes a snapshot

taken-hold : (name t : List ℕ) (hs : List Hold) → Member (holds.Take name t) hs → Member name (taken_by hs)
taken-hold name t [] i = absurd i
taken-hold name t (h ∷ hs) (inl e) = subst (λ x. Member name (taken_by (x ∷ hs))) (sym e) (inl refl)
taken-hold name t (holds.Take n u ∷ hs) (inr i) = inr (taken-hold name t hs i)
taken-hold name t (_ ∷ hs) (inr i) = taken-hold name t hs i

taken-live : (name t : List ℕ) (l : Live) (ls : List Live) → Member l ls → Member (holds.Take name t) l.holds → Member name (taken_names ls)
taken-live name t l [] i m = absurd i
taken-live name t l (x ∷ xs) (inl e) m = member-front name (taken_by x.holds) (taken_names xs) (taken-hold name t x.holds (subst (λ (y : Live). Member (holds.Take name t) y.holds) (sym e) m))
taken-live name t l (x ∷ xs) (inr i) m = member-behind name (taken_by x.holds) (taken_names xs) (taken-live name t l xs i m)

lesser-some : {P : Type 0} (n : List ℕ) (o : Option (List ℕ)) → lesser_name n o ≡ None → P
lesser-some n None e = absurd (cc)
lesser-some n (Some m) e = cond_cases (is_below m n) (Some m) (Some n) None e (λ d i. absurd (cc)) (λ d i. absurd (cc))

none-least : {P : Type 0} (name : List ℕ) (ns : List (List ℕ)) → least_name ns ≡ None → Member name ns → P
none-least name [] e i = absurd i
none-least name (n ∷ ns) e i = lesser-some n (least_name ns) e

not_taking : (o : Option (List ℕ)) → unwrap_or (option_or (option_map Taking o) None) Fine ≡ Fine → o ≡ None
not_taking None e = refl
not_taking (Some n) e = absurd (cc)

no_take : {P : Type 0} (files : Files) (s : Parts) (a : ℕ) (name t : List ℕ) → reply_with files s.plain jobs.Clean ≡ Fine → HasHold s.plain.live a (holds.Take name t) → P
no_take files s a name t e h = none-least name (taken_names s.plain.live) (not_taking (least_name (taken_names s.plain.live)) e) (taken-live name t h.activity s.plain.live (member-find _ s.plain.live h.activity h.at_work) h.held)

is_clean : (job : Job) → needs_moment job ≡ true → job ≡ jobs.Clean
is_clean jobs.Clean e = refl
is_clean _ e = absurd (cc)

knows_opened : (s : Parts) (files : Files) (job : Job) (a moment : ℕ) → needs_moment job ≡ true → reply_with files s.plain job ≡ Fine → IsSound s
    → PassKnows (Some (record { actor = a; moment = moment; unread = keys s.snapshots; read = λ b. false; touched = λ b. false })) s.snapshots s.captures
knows_opened s files job a moment n e h = record {
  captured = λ p w r l x i j m. let t = h.captures.at w r l j in no_take files s w t.0 r.table (subst (λ y. reply_with files s.plain y ≡ Fine) (is_clean job n) e) t.1;
  completed = λ p name x y i j m. inl (subst (λ (q : Pass). Member name q.unread) (some_is i) (key-member s.snapshots name x j));
}
  where
    some_is : {A : Type 0} {x y : A} → Some x ≡ Some y → x ≡ y
    some_is e = (cc)

-- ---- a pass that ends

knows_ended : (a : ℕ) (pass : Option Pass) (snapshots : Names Snapshot) (captures : Captures) → PassKnows pass snapshots captures
    → PassKnows (ended a pass) snapshots (λ w r. cond (w == a) None (captures w r))
knows_ended a None snapshots captures h = record { captured = λ p w r l e i j m. absurd (cc); completed = λ p name x e i j m. absurd (cc) }
knows_ended a (Some q) snapshots captures h = record {
  captured = λ p w r l e i j m. cond_cases (q.actor == a) None (Some q) (Some p) i (λ d k. absurd (cc)) (λ d k. h.captured p w r l e k (cond_cases (w == a) None (captures w r) (Some l) j (λ b c. absurd (cc)) (λ b c. c)) m);
  completed = λ p name x e i j m. cond_cases (q.actor == a) None (Some q) (Some p) i (λ d k. absurd (cc)) (λ d k. h.completed p name x e k j m);
}

-- ---- all steps

pub pass_kept : (p : Step) (s : Parts) → Allows p s → IsSound s → PassKnows (pass_by p s.lists s.snapshots s.pass) (snapshots_by p s.snapshots) (captures_by p s.lists s.captures)
pass_kept (step.Start who job (started.Live actor) drawn) s a h =
    (elim drawn.moment as (λ o. drawn.moment ≡ o → PassKnows (opened_by actor.0 o (keys s.snapshots) (map (λ (x : List ℕ × Entry). base_of x.1) drawn.plan.entries) s.pass) s.snapshots s.captures) [
      | Some m ↦ λ e. knows_opened s a.files job actor.0 m (sym a.answered.1.moment ∙ moment_is drawn.moment m e) a.answered.0 h
      | None ↦ λ e. knows_named (map (λ (x : List ℕ × Entry). base_of x.1) drawn.plan.entries) s.pass s.snapshots s.captures h.pass
    ]) refl
  where
    moment_is : (o : Option ℕ) (m : ℕ) → o ≡ Some m → is_some o ≡ true
    moment_is o m e = ap is_some e
pass_kept (step.End actor refusal) s a h = knows_ended actor.0 s.pass s.snapshots s.captures h.pass
pass_kept (step.Abandon actor) s a h = knows_ended actor.0 s.pass s.snapshots s.captures h.pass
pass_kept (step.PassRead actor name) s a h = knows_map (read_by name (snapshot_bases (get s.snapshots name))) s.pass s.snapshots s.captures
    (λ q w r l e i j m. h.pass.captured q w r l e i j m)
    (λ q n x e i j m. elim (h.pass.completed q n x e i j m) [
      | inl u ↦ (elim (same_bytes n name) as (λ b. same_bytes n name ≡ b → Member n (without_name name q.unread) ⊎ (((is_one_of (snapshot_bases (get s.snapshots name)) (base_of e) || q.read (base_of e)) ≡ true) ⊎ (q.touched (base_of e) ≡ true))) [
        | true ↦ λ d. inr (inl (or_left _ _ (one_of-member (base_of e) (snapshot_bases (get s.snapshots name))
            (subst (λ o. Member (base_of e) (snapshot_bases o)) (sym j ∙ ap (get s.snapshots) (same_bytes-true n name d)) (member-map base_of e (snapshot_entries x) m)))))
        | false ↦ λ d. inl (member-without n name q.unread d u)
      ]) refl
      | inr v ↦ elim v [ inl d ↦ inr (inl (or_right (is_one_of (snapshot_bases (get s.snapshots name)) (base_of e)) _ d)) | inr t ↦ inr (inr t) ]
    ])
pass_kept (step.Uncomplete actor name) s a h = knows_map (spared name) s.pass (remove s.snapshots name) s.captures
    (λ q w r l e i j m. h.pass.captured q w r l e i j m)
    (λ q n x e i j m. get-taken s.snapshots name n x j (λ d k. elim (h.pass.completed q n x e i k m) [
      | inl u ↦ inl (member-without n name q.unread (texts_ties n name ∙ d) u)
      | inr v ↦ inr v
    ]))
pass_kept (step.Complete actor name copied) s a h = record {
  captured = h.pass.captured;
  completed = λ q n x e i j m. get-put s.snapshots name copied n x j
      (λ d k. let w = copied-member (s.captures actor.0) a.table s.plain e (subst (λ y. Member e (snapshot_entries y)) (sym k ∙ a.copied) m) in inr (inr (h.pass.captured q actor.0 w.0 w.1 e i w.2 w.3)))
      (λ k. h.pass.completed q n x e i k m);
}
pass_kept (step.Capture actor region) s a h =
    knows_touched (map base_of (s.lists region).entries) s.pass s.snapshots s.captures _ h.pass (λ w r l e j m. new_capture actor.0 region (s.lists region) s.captures w r l e j m)
pass_kept (step.CommitList actor region number name why.Capture list cells planned) s a h =
    knows_touched (map base_of list.entries) s.pass s.snapshots s.captures _ h.pass (λ w r l e j m. new_capture actor.0 region list s.captures w r l e j m)
pass_kept (step.Pin actor target (Ok region) major) s a h = knows_named (map base_of (s.lists region).entries) s.pass s.snapshots s.captures h.pass
pass_kept (step.Place actor from base cells) s a h = knows_named (base ∷ []) s.pass s.snapshots s.captures h.pass
pass_kept (step.Link actor base region) s a h = knows_named (base ∷ []) s.pass s.snapshots s.captures h.pass
pass_kept (step.Half actor entry region bytes) s a h = knows_named (base_of entry ∷ []) s.pass s.snapshots s.captures h.pass
pass_kept _ s a h = h.pass
