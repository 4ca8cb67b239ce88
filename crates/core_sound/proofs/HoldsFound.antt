-- The holds of live actors before and after a step.
use Rattle.std.proofs.Common.{◌≡◌, ◌⊎◌, ℕ, ◌==◌, true, false, not, cond, List, [], ◌∷◌, ◌++◌, Option, Some, None, refl, sym, ap, ◌∙◌, subst, inl, inr}
use Rattle.std.specs.Prelude.{option_map}
use Rattle.plain_model.specs.declared.hold.Hold.{Hold}
use Rattle.plain_model.specs.Conflicts.{excludes}
use Rattle.plain_model.specs.LiveEvents.{live_of, without, job_of}
use Rattle.plain_model.specs.declared.parts.Live.{Live}
use Rattle.core_model.specs.ActorFacts.{HoldsApart, HoldsFit, FitsJob}
use Rattle.core_model.specs.Actors.{HasHold}
use Rattle.cell_sight.specs.Member.{Member}
use Rattle.core_sound.proofs.Lists.{member-find}
use Rattle.core_sound.proofs.Tests.{cond_cases, same_number}

pub some_is : {A : Type 0} {x y : A} → Some x ≡ Some y → x ≡ y
some_is e = (cc)

pub actor_found : (xs : List Live) (a : ℕ) (x : Live) → live_of xs a ≡ Some x → x.actor.0 ≡ a
actor_found [] a x e = absurd (cc)
actor_found (z ∷ xs) a x e = cond_cases (z.actor.0 == a) (Some z) (live_of xs a) (Some x) e
    (λ d i. ap (λ (y : Live). y.actor.0) (sym (some_is i)) ∙ same_number z.actor.0 a d)
    (λ d i. actor_found xs a x i)

-- ---- a new actor

pub found_joined : (xs : List Live) (new : Live) (a : ℕ) (x : Live) → live_of (xs ++ new ∷ []) a ≡ Some x → (live_of xs a ≡ Some x) ⊎ ((new.actor.0 ≡ a) × (new ≡ x))
found_joined [] new a x e = cond_cases (new.actor.0 == a) (Some new) None (Some x) e (λ d i. inr (same_number new.actor.0 a d, some_is i)) (λ d i. absurd (cc))
found_joined (z ∷ xs) new a x e = cond_cases (z.actor.0 == a) (Some z) (live_of (xs ++ new ∷ []) a) (Some x) e
    (λ d i. inl (ap (λ b. cond b (Some z) (live_of xs a)) d ∙ i))
    (λ d i. elim (found_joined xs new a x i) [
      | inl k ↦ inl (ap (λ b. cond b (Some z) (live_of xs a)) d ∙ k)
      | inr k ↦ inr k
    ])

pub hold_joined : (xs : List Live) (new : Live) (a : ℕ) (h : Hold) → HasHold (xs ++ new ∷ []) a h → HasHold xs a h ⊎ ((new.actor.0 ≡ a) × Member h new.holds)
hold_joined xs new a h k = elim (found_joined xs new a k.activity k.at_work) [
  | inl e ↦ inl (record { activity = k.activity; at_work = e; held = k.held })
  | inr e ↦ inr (e.0, subst (λ (x : Live). Member h x.holds) (sym e.1) k.held)
]

-- ---- an actor that leaves

pub none_left : (b : ℕ) (xs : List Live) → live_of (without b xs) b ≡ None
none_left b [] = refl
none_left b (z ∷ xs) = (elim (z.actor.0 == b) as (λ c. z.actor.0 == b ≡ c → live_of (cond (not c) (z ∷ without b xs) (without b xs)) b ≡ None) [
  | true ↦ λ d. none_left b xs
  | false ↦ λ d. ap (λ c. cond c (Some z) (live_of (without b xs) b)) d ∙ none_left b xs
]) refl

pub found_left : (a b : ℕ) (xs : List Live) (x : Live) → live_of (without b xs) a ≡ Some x → live_of xs a ≡ Some x
found_left a b [] x e = e
found_left a b (z ∷ xs) x e = (elim (z.actor.0 == b) as (λ c. z.actor.0 == b ≡ c → live_of (cond (not c) (z ∷ without b xs) (without b xs)) a ≡ Some x → cond (z.actor.0 == a) (Some z) (live_of xs a) ≡ Some x) [
  | true ↦ λ d i. (elim (z.actor.0 == a) as (λ c. z.actor.0 == a ≡ c → cond c (Some z) (live_of xs a) ≡ Some x) [
    | true ↦ λ k. let w : a ≡ b = sym (same_number z.actor.0 a k) ∙ same_number z.actor.0 b d in
        let n : None ≡ Some x = sym (none_left b xs) ∙ ap (live_of (without b xs)) (sym w) ∙ i in absurd (cc)
    | false ↦ λ k. found_left a b xs x i
  ]) refl
  | false ↦ λ d i. cond_cases (z.actor.0 == a) (Some z) (live_of (without b xs) a) (Some x) i
      (λ k j. ap (λ c. cond c (Some z) (live_of xs a)) k ∙ j)
      (λ k j. ap (λ c. cond c (Some z) (live_of xs a)) k ∙ found_left a b xs x j)
]) refl e

pub hold_left : (xs : List Live) (a b : ℕ) (h : Hold) → HasHold (without b xs) a h → HasHold xs a h
hold_left xs a b h k = record { activity = k.activity; at_work = found_left a b xs k.activity k.at_work; held = k.held }

-- ---- two holds

-- holds of different actors do not exclude each other
pub holds_apart : (live : List Live) (a b : ℕ) (h k : Hold) → HoldsApart live → HasHold live a h → HasHold live b k → (a ≡ b → ⊥) → excludes h k ≡ false
holds_apart live a b h k o x y n = o.at x.activity y.activity h k (member-find _ live x.activity x.at_work) (member-find _ live y.activity y.at_work)
    (λ e. n (sym (actor_found live a x.activity x.at_work) ∙ e ∙ actor_found live b y.activity y.at_work)) x.held y.held

-- a hold fits the actor's job
pub hold_fits : (live : List Live) (a : ℕ) (h : Hold) → HoldsFit live → (x : HasHold live a h) → FitsJob h x.activity.job
hold_fits live a h f x = f.at x.activity h (member-find _ live x.activity x.at_work) x.held

pub hold_job : (live : List Live) (a : ℕ) (h : Hold) → (x : HasHold live a h) → job_of live a ≡ Some x.activity.job
hold_job live a h x = ap (λ (o : Option Live). option_map (λ (l : Live). l.job) o) x.at_work
