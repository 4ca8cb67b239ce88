-- The least of several actors, joined one by one.
use Rattle.std.proofs.Common.{◌≡◌, ℕ, ◌+◌, ◌<◌, ◌≤◌, Bool, true, false, List, map, drop, length, get_or, Option, Some, None, refl, sym, ap, ◌∙◌, inl, inr, arith}
use Rattle.std.specs.Prelude.{if◌then◌else◌}
use Rattle.std.proofs.lemmas.Bool.{cases_lt, lt-ltb, le-ltb}
use Rattle.plain_model.specs.declared.parts.Live.{Live}
use Rattle.plain_model.specs.Held.{least, lesser}
use Rattle.plain_tables.proofs.Walks.{drop-step}
use Rattle.world_state.specs.declared.at_work.AtWork.{AtWork}
use Rattle.world_state.specs.Works.{live_in}
use Rattle.world_steps.specs.Starts.{lesser_of}

-- the lesser of two, by their numbers
lower : (a b : Live) → b.actor.0 < a.actor.0 → lesser a (Some b) ≡ Some b
lower a b h = ap (λ (x : Bool). if x then Some b else Some a) (lt-ltb b.actor.0 a.actor.0 h)

higher : (a b : Live) → a.actor.0 ≤ b.actor.0 → lesser a (Some b) ≡ Some a
higher a b h = ap (λ (x : Bool). if x then Some b else Some a) (le-ltb b.actor.0 a.actor.0 h)

pub lesser-lower : (a : Option Live) (x : Live) (b : Live) → a ≡ Some x → b.actor.0 < x.actor.0 → lesser_of a (Some b) ≡ Some b
lesser-lower a x b e h = ap (λ (y : Option Live). lesser_of y (Some b)) e ∙ lower x b h

-- of three
three : (a b c : Live) → lesser_of (lesser a (Some b)) (Some c) ≡ lesser_of (Some a) (lesser b (Some c))
three a b c = elim (cases_lt b.actor.0 a.actor.0) [
  | inl h ↦ (let l : lesser_of (lesser a (Some b)) (Some c) ≡ lesser b (Some c) = ap (λ (x : Option Live). lesser_of x (Some c)) (lower a b h) in
      elim (cases_lt c.actor.0 b.actor.0) [
        | inl k ↦ (l ∙ lower b c k ∙ sym (ap (lesser_of (Some a)) (lower b c k) ∙ lower a c (omega (arith, h, k))))
        | inr k ↦ (l ∙ higher b c k ∙ sym (ap (lesser_of (Some a)) (higher b c k) ∙ lower a b h))
      ])
  | inr h ↦ (let l : lesser_of (lesser a (Some b)) (Some c) ≡ lesser a (Some c) = ap (λ (x : Option Live). lesser_of x (Some c)) (higher a b h) in
      elim (cases_lt c.actor.0 b.actor.0) [
        | inl k ↦ (l ∙ sym (ap (lesser_of (Some a)) (lower b c k)))
        | inr k ↦ (l ∙ higher a c (omega (arith, h, k)) ∙ sym (ap (lesser_of (Some a)) (higher b c k) ∙ higher a b h))
      ])
]

joined : (x y z : Option Live) → lesser_of (lesser_of x y) z ≡ lesser_of x (lesser_of y z)
joined None y z = refl
joined (Some a) None z = refl
joined (Some a) (Some b) None = none (lesser a (Some b))
  where
    none : (x : Option Live) → lesser_of x None ≡ x
    none None = refl
    none (Some c) = refl
joined (Some a) (Some b) (Some c) = three a b c

-- ---- a walk over activities

-- the least of those passed and of those that follow
abbrev pub seen_least : (Live → Bool) → Option Live → List AtWork → Option Live
seen_least p before works = lesser_of before (least p (map live_in works))

-- one that passes the test is joined
pub least-more : (p : Live → Bool) (before after : Option Live) (works : List AtWork) (i : ℕ) (work : AtWork) (all : Option Live) → i < length works → work ≡ get_or works i work → p (live_in work) ≡ true
    → after ≡ lesser_of before (Some (live_in work)) → seen_least p before (drop i works) ≡ all → seen_least p after (drop (i + 1) works) ≡ all
least-more p before after works i work all lt is t j was =
    let rest = least p (map live_in (drop (i + 1) works)) in
    ap (λ x. lesser_of x rest) j ∙ joined before (Some (live_in work)) rest
    ∙ sym (ap (seen_least p before) (drop-step works i work lt is) ∙ ap (λ (b : Bool). lesser_of before (if b then lesser (live_in work) rest else rest)) t) ∙ was

-- one that doesn't is passed over
pub least-same : (p : Live → Bool) (before : Option Live) (works : List AtWork) (i : ℕ) (work : AtWork) (all : Option Live) → i < length works → work ≡ get_or works i work → p (live_in work) ≡ false
    → seen_least p before (drop i works) ≡ all → seen_least p before (drop (i + 1) works) ≡ all
least-same p before works i work all lt is t was =
    let rest = least p (map live_in (drop (i + 1) works)) in
    sym (ap (seen_least p before) (drop-step works i work lt is) ∙ ap (λ (b : Bool). lesser_of before (if b then lesser (live_in work) rest else rest)) t) ∙ was
