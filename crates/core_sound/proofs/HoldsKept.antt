-- Each step keeps that no two live actors have holds that exclude each other.
use Rattle.std.proofs.Common.{◌≡◌, ◌≢◌, ℕ, ◌&&◌, ◌||◌, ◌==◌, Bool, true, false, not, cond, List, [], ◌∷◌, ◌++◌, Option, Some, None, refl, sym, ap, ◌∙◌, subst, inl, inr}
use Rattle.std.specs.Prelude.{map, find, nat_lt, option_map, option_and_then, unwrap_or, option_to_list}
use Rattle.std.specs.List.{list_any}
use Rattle.std.specs.Option.{option_or}
use Rattle.plain_model.specs.declared.who.Actor.{Actor}
use Rattle.plain_model.specs.declared.hold.Hold.{Hold}
use Rattle.plain_model.specs.declared.hold.Hold.TheVariants as holds
use Rattle.plain_model.specs.declared.job.Job.{Job}
use Rattle.plain_model.specs.declared.job.Job.TheVariants as jobs
use Rattle.plain_model.specs.declared.region_key.RegionKey.{RegionKey}
use Rattle.plain_model.specs.declared.reply.Reply.{Reply}
use Rattle.plain_model.specs.declared.reply.Reply.TheVariants.{Fine, InUse, SnapshotNotFound}
use Rattle.plain_model.specs.After.{after_all}
use Rattle.hb_cell.specs.Order.{same_bytes}
use Rattle.plain_model.specs.Conflicts.{excludes, is_answered, blocks, waits_for_take}
use Rattle.plain_model.specs.Held.{least, lesser, first_hold, holder, held_by, blocks_any}
use Rattle.plain_model.specs.Holds.{holds_of}
use Rattle.plain_model.specs.LiveEvents.{without}
use Rattle.plain_model.specs.Plain.{Plain}
use Rattle.plain_model.specs.declared.parts.Live.{Live}
use Rattle.plain_model.specs.Replies.{Files, reply_with, uses, when}
use Rattle.plain_model.specs.Found.{table_of_snapshot, is_snapshot}
use Rattle.core_model.specs.declared.step.Started.TheVariants as started
use Rattle.core_model.specs.declared.step.Step.{Step}
use Rattle.core_model.specs.declared.step.Step.TheVariants as step
use Rattle.core_model.specs.ActorFacts.{HoldsApart}
use Rattle.core_model.specs.Allows.{Allows}
use Rattle.core_model.specs.Events.{events_of}
use Rattle.cell_sight.specs.Member.{Member}
use Rattle.core_model.specs.LiveChanges.{live_by}
use Rattle.core_model.specs.Sound.{IsSound}
use Rattle.core_model.specs.State.{Parts}
use Rattle.core_sound.proofs.Lists.{or_left, or_right, member-append}
use Rattle.core_sound.proofs.LiveKept.{live_after}
use Rattle.core_sound.proofs.Sources.{map-member}
use Rattle.core_sound.proofs.Tests.{cond_cases, same_bytes-true, same_bytes-self}

-- ---- nobody in the way

any-member : {X : Type 0} (p : X → Bool) (xs : List X) (x : X) → Member x xs → p x ≡ true → list_any p xs ≡ true
any-member p [] x i e = absurd i
any-member p (y ∷ ys) x (inl d) e = or_left (p y) _ (ap p d ∙ e)
any-member p (y ∷ ys) x (inr i) e = or_right (p y) _ (any-member p ys x i e)

lesser-some : {P : Type 0} (a : Live) (o : Option Live) → lesser a o ≡ None → P
lesser-some a None e = absurd (cc)
lesser-some a (Some b) e = cond_cases (nat_lt b.actor.0 a.actor.0) (Some b) (Some a) None e (λ d i. absurd (cc)) (λ d i. absurd (cc))

-- where none is the least that passes a test, none passes it
none-least : (p : Live → Bool) (live : List Live) (l : Live) → least p live ≡ None → Member l live → p l ≡ false
none-least p [] l e i = absurd i
none-least p (a ∷ as') l e (inl d) = cond_cases (p a) (lesser a (least p as')) (least p as') None e (λ k j. lesser-some a _ j) (λ k j. ap p (sym d) ∙ k)
none-least p (a ∷ as') l e (inr i) = cond_cases (p a) (lesser a (least p as')) (least p as') None e (λ k j. lesser-some a _ j) (λ k j. none-least p as' l j i)

some-find : {X : Type 0} (p : X → Bool) (xs : List X) → list_any p xs ≡ true → find p xs ≢ None
some-find p [] e = λ k. absurd (cc)
some-find p (x ∷ xs) e = (elim (p x) as (λ b. (b || list_any p xs) ≡ true → cond b (Some x) (find p xs) ≢ None) [ true ↦ λ d k. absurd (cc) | false ↦ λ d. some-find p xs d ]) e

of_lesser : (p : Live → Bool) (a : Live) (o : Option Live) (l : Live) → p a ≡ true → ((m : Live) → o ≡ Some m → p m ≡ true) → lesser a o ≡ Some l → p l ≡ true
of_lesser p a None l k f j = ap p (let z : l ≡ a = (cc) in z) ∙ k
of_lesser p a (Some b) l k f j = cond_cases (nat_lt b.actor.0 a.actor.0) (Some b) (Some a) (Some l) j (λ d i. f l i) (λ d i. ap p (let z : l ≡ a = (cc) in z) ∙ k)

least-passes : (p : Live → Bool) (live : List Live) (l : Live) → least p live ≡ Some l → p l ≡ true
least-passes p [] l e = absurd (cc)
least-passes p (a ∷ as') l e = cond_cases (p a) (lesser a (least p as')) (least p as') (Some l) e (λ k j. of_lesser p a (least p as') l k (λ m i. least-passes p as' m i) j) (λ k j. least-passes p as' l j)

-- where nobody holds what passes a test, no hold of a live actor passes it
abbrev with_actor : Actor → Hold → Actor × Hold
with_actor a h = (a, h)

none_map : (a : Actor) (o : Option Hold) → o ≢ None → option_map (with_actor a) o ≢ None
none_map a None n k = n refl
none_map a (Some h) n k = absurd (cc)

first-some : (p : Hold → Bool) (a : Live) → list_any p a.holds ≡ true → first_hold p a ≢ None
first-some p a e = none_map a.actor (find p a.holds) (some-find p a.holds e)

no-holder : (p : Hold → Bool) (live : List Live) (o : Option Live) → least (λ (a : Live). list_any p a.holds) live ≡ o → option_and_then (first_hold p) o ≡ None → o ≡ None
no-holder p live None e k = refl
no-holder p live (Some a) e k = absurd (first-some p a (least-passes (λ (a : Live). list_any p a.holds) live a e) k)

pub none-holds : (p : Hold → Bool) (live : List Live) (l : Live) (h : Hold) → holder p live ≡ None → Member l live → Member h l.holds → p h ≡ false
none-holds p live l h e i m = (elim (p h) as (λ b. p h ≡ b → b ≡ false) [
  | true ↦ λ d. let z : true ≡ false = sym (any-member p l.holds h m d) ∙ none-least (λ (a : Live). list_any p a.holds) live l (no-holder p live _ refl e) i in absurd (cc)
  | false ↦ λ d. refl
]) refl

-- ---- what is asked for and what is held exclude nothing

pair_apart : (a b c d : Bool) → (((a || b) || c) && not d) ≡ false → (d ≡ true → (a ≡ false) × (b ≡ false)) → (a ≡ false) × (b ≡ false)
pair_apart a b c true e f = f refl
pair_apart true b c false e f = absurd (cc)
pair_apart false true c false e f = absurd (cc)
pair_apart false false c false e f = (refl, refl)

-- the conflicts that a reply answers
answered : (k h : Hold) → is_answered k h ≡ true → ((name : List ℕ) → k ≡ holds.Erase name → uses name h ≡ false) → (excludes k h ≡ false) × (excludes h k ≡ false)
answered holds.Pass (holds.Take name t) e f = (refl, refl)
answered (holds.Erase name) (holds.Use other) e f = (flip name other (f name refl), refl)
  where
    flip : (x y : List ℕ) → same_bytes y x ≡ false → same_bytes x y ≡ false
    flip x y i = (elim (same_bytes x y) as (λ b. same_bytes x y ≡ b → b ≡ false) [
      | true ↦ λ d. let z : true ≡ false = sym (same_bytes-self y) ∙ ap (same_bytes y) (sym (same_bytes-true x y d)) ∙ i in absurd (cc)
      | false ↦ λ d. refl
    ]) refl
answered _ _ e f = absurd (cc)

none-blocks : (asked : List Hold) (h k : Hold) → blocks_any asked h ≡ false → Member k asked → blocks k h ≡ false
none-blocks asked h k e m = (elim (blocks k h) as (λ b. blocks k h ≡ b → b ≡ false) [
  | true ↦ λ d. let z : true ≡ false = sym (any-member (λ x. blocks x h) asked k m d) ∙ e in absurd (cc)
  | false ↦ λ d. refl
]) refl

apart_held : (live : List Live) (asked : List Hold) → held_by live asked ≡ None → ((name : List ℕ) → Member (holds.Erase name) asked → holder (uses name) live ≡ None)
    → (l : Live) (h k : Hold) → Member l live → Member h l.holds → Member k asked → (excludes k h ≡ false) × (excludes h k ≡ false)
apart_held live asked e f l h k i m n = pair_apart (excludes k h) (excludes h k) (waits_for_take k h) (is_answered k h) (none-blocks asked h k (none-holds (blocks_any asked) live l h e i m) n)
    (λ d. answered k h d (λ name z. none-holds (uses name) live l h (f name (subst (λ x. Member x asked) z n)) i m))

-- ---- a deletion is of a snapshot that nobody uses

no_map : {A P : Type 0} (f : A → Hold) (name : List ℕ) (xs : List A) → ((x : A) → f x ≡ holds.Erase name → ⊥) → Member (holds.Erase name) (map f xs) → P
no_map f name xs n m = let w = map-member f (holds.Erase name) xs m in absurd (n w.0 w.2)

erase_job : (un : List RegionKey) (p : Plain) (job : Job) (name : List ℕ) → Member (holds.Erase name) (holds_of un p job) → job ≡ jobs.DeleteSnapshot name
erase_job un p (jobs.DeleteSnapshot s) name (inl e) = ap (λ (h : Hold). jobs.DeleteSnapshot (erased h)) e
  where
    erased : Hold → List ℕ
    erased (holds.Erase n) = n
    erased _ = []
erase_job un p (jobs.DeleteSnapshot s) name (inr e) = absurd e
erase_job un p (jobs.Flush t) name m = no_map holds.Flush name _ (λ x e. absurd (cc)) m
erase_job un p (jobs.Compact t major) name m = no_map holds.Compact name _ (λ x e. absurd (cc)) m
erase_job un p (jobs.Discharge t) name m = no_map holds.Compact name _ (λ x e. absurd (cc)) m
erase_job un p (jobs.Split t row) name m = no_map holds.Region name _ (λ x e. absurd (cc)) m
erase_job un p jobs.Janitor name m = no_map holds.Region name _ (λ x e. absurd (cc)) m
erase_job un p (jobs.Restore s) name m = elim (member-append (holds.Erase name) (map holds.Table (option_to_list (table_of_snapshot p s))) (holds.Use s ∷ []) m) [
  | inl k ↦ no_map holds.Table name _ (λ x e. absurd (cc)) k
  | inr k ↦ elim k [ inl e ↦ absurd (cc) | inr e ↦ absurd e ]
]
erase_job un p (jobs.Clone s t) name (inl e) = absurd (cc)
erase_job un p (jobs.Clone s t) name (inr (inl e)) = absurd (cc)
erase_job un p (jobs.Clone s t) name (inr (inr e)) = absurd e
erase_job un p jobs.ListSnapshots name m = absurd m
erase_job un p (jobs.Put t c) name m = absurd m
erase_job un p (jobs.Scan t) name m = absurd m
erase_job un p _ name (inl e) = absurd (cc)
erase_job un p _ name (inr e) = absurd e

-- nobody uses a snapshot whose deletion is not refused
first_none : (o q : Option Reply) → unwrap_or (option_or o (option_or q None)) Fine ≡ Fine → (o ≡ Some Fine → ⊥) → (q ≡ Some Fine → ⊥) → q ≡ None
first_none None None e f g = refl
first_none None (Some r) e f g = absurd (g (ap Some e))
first_none (Some r) q e f g = absurd (f (ap Some e))

unused : (files : Files) (p : Plain) (name : List ℕ) → reply_with files p (jobs.DeleteSnapshot name) ≡ Fine → holder (uses name) p.live ≡ None
unused files p name e = no_user (least (λ (l : Live). list_any (uses name) l.holds) p.live) (first_none (when (not (is_snapshot p name)) SnapshotNotFound) _ e (λ k. not_when (not (is_snapshot p name)) k) (λ k. not_used _ k))
  where
    not_when : (b : Bool) → when b SnapshotNotFound ≡ Some Fine → ⊥
    not_when true k = absurd (cc)
    not_when false k = absurd (cc)

    not_used : (o : Option Live) → option_map (λ (l : Live). InUse l.actor) o ≡ Some Fine → ⊥
    not_used None k = absurd (cc)
    not_used (Some l) k = absurd (cc)

    no_user : (o : Option Live) → option_map (λ (l : Live). InUse l.actor) o ≡ None → option_and_then (first_hold (uses name)) o ≡ None
    no_user None k = refl
    no_user (Some l) k = absurd (cc)

-- ---- all steps

new_apart : (live : List Live) (new : Live) → HoldsApart live → ((l : Live) (h k : Hold) → Member l live → Member h l.holds → Member k new.holds → (excludes k h ≡ false) × (excludes h k ≡ false)) → HoldsApart (live ++ new ∷ [])
new_apart live new a f = record {
  at = λ l m h k i j n x y. elim (member-append l live (new ∷ []) i) [
    | inl p ↦ elim (member-append m live (new ∷ []) j) [
      | inl q ↦ a.at l m h k p q n x y
      | inr q ↦ elim q [ inl e ↦ (f l h k p x (subst (λ (z : Live). Member k z.holds) (sym e) y)).1 | inr e ↦ absurd e ]
    ]
    | inr p ↦ elim p [
      | inl d ↦ elim (member-append m live (new ∷ []) j) [
        | inl q ↦ (f m k h q y (subst (λ (z : Live). Member h z.holds) (sym d) x)).0
        | inr q ↦ elim q [ inl e ↦ absurd (n (ap (λ (z : Live). z.actor.0) (sym d ∙ e))) | inr e ↦ absurd e ]
      ]
      | inr e ↦ absurd e
    ]
  ];
}

pub without-member : (a : ℕ) (l : Live) (live : List Live) → Member l (without a live) → Member l live
without-member a l [] i = i
without-member a l (x ∷ xs) i = (elim (x.actor.0 == a) as (λ b. Member l (cond (not b) (x ∷ without a xs) (without a xs)) → Member l (x ∷ xs)) [
  | true ↦ λ k. inr (without-member a l xs k)
  | false ↦ λ k. elim k [ inl e ↦ inl e | inr j ↦ inr (without-member a l xs j) ]
]) i

fewer_apart : (a : ℕ) (live : List Live) → HoldsApart live → HoldsApart (without a live)
fewer_apart a live h = record { at = λ l m x y i j n p q. h.at l m x y (without-member a l live i) (without-member a m live j) n p q }

apart_by_step : (p : Step) (s : Parts) → Allows p s → IsSound s → HoldsApart (live_by p s.plain.live)
apart_by_step (step.Start who job (started.Live actor) drawn) s a h = new_apart s.plain.live _ h.apart
    (λ l x k i m n. apart_held s.plain.live drawn.holds a.free
    (λ name e. unused a.files s.plain name (subst (λ j. reply_with a.files s.plain j ≡ Fine) (erase_job a.unreferenced s.plain job name (subst (Member (holds.Erase name)) a.holds e)) a.answered.0)) l x k i m n)
apart_by_step (step.End actor refusal) s a h = fewer_apart actor.0 s.plain.live h.apart
apart_by_step (step.Abandon actor) s a h = fewer_apart actor.0 s.plain.live h.apart
apart_by_step _ s a h = h.apart

pub apart_kept : (p : Step) (s : Parts) → Allows p s → IsSound s → HoldsApart (after_all s.plain (events_of p)).live
apart_kept p s a h = subst HoldsApart (sym (live_after p s a)) (apart_by_step p s a h)
