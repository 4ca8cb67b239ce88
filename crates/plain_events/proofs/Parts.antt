-- What is found in the lists of a state.
use Rattle.std.proofs.lemmas.Bool.Decides.{nat_tests}
use Rattle.std.proofs.Common.{◌≡◌, arith, ℕ, ◌==◌, not, ◌&&◌, Bool, ◌≤◌, List, [], ◌∷◌, ◌++◌, length, drop, refl, sym, ap, ◌∙◌, cond, true, false, Option, None, IfOk, Result, Ok, Err}
use Rattle.std.proofs.lemmas.List.{drop_all, append-nil}
use Rattle.hb_cell.specs.declared.cell.Cell.{Cell}
use Rattle.hb_records.specs.declared.region_info.RegionInfo.{RegionInfo}
use Rattle.plain_model.specs.declared.parts.RegionCopy.{RegionCopy}
use Rattle.plain_model.specs.CellEvents.{cells_by_key, numbers_by_key}
use Rattle.plain_model.specs.declared.region_key.RegionKey.{RegionKey}
use Rattle.plain_model.specs.Keys.{same_key, set_at, set_each}
use Rattle.plain_model.specs.declared.who.Actor.{Actor}
use Rattle.plain_model.specs.LiveEvents.{cleared}
use Rattle.plain_events.specs.Parts.{by_region, by_actor, without_actor}

-- ---- by region

-- what is set in front is set
pub set_before : {A : Type 0} (xs ys : List (RegionKey × A)) (f : RegionKey → A) → set_each (xs ++ ys) f ≡ set_each xs (set_each ys f)
set_before [] ys f = refl
set_before (x ∷ xs) ys f = λ i k. cond (same_key k x.0) x.1 (set_before xs ys f i k)

-- ---- by actor

same_actor : {A : Type 0} (x y a : ℕ) (s : Bool) (v r : Option A) → (x == y) ≡ true → cond (a == y) None r ≡ cond (a == y) None (cond (a == x && s) v r)
same_actor x y a s v r p =
    let q : x ≡ y = grind (arith, nat_tests) in
    rw q (elim (a == y) as (λ b. cond b None r ≡ cond b None (cond (b && s) v r)) [
      | true ↦ refl
      | false ↦ refl
    ])

other_actor : {A : Type 0} (x y a : ℕ) (s : Bool) (v r : Option A) → (x == y) ≡ false → cond (a == x && s) v (cond (a == y) None r) ≡ cond (a == y) None (cond (a == x && s) v r)
other_actor x y a s v r p = elim (a == y) as (λ b. (a == y) ≡ b → cond (a == x && s) v (cond b None r) ≡ cond b None (cond (a == x && s) v r)) [
  | true ↦ λ q. let n : (a == x) ≡ false = grind (arith, nat_tests) in rw n refl
  | false ↦ λ q. refl
] refl

-- without an actor's entries, it has nothing
cleared_at : {A : Type 0} (es : List (Actor × RegionKey × Option A)) (actor : Actor) (a : ℕ) (k : RegionKey) → by_actor (without_actor actor es) a k ≡ cond (a == actor.0) None (by_actor es a k)
cleared_at {A} [] actor a k = none_either (a == actor.0)
  where
    none_either : (b : Bool) → ◌≡◌ {A = Option A} None (cond b None None)
    none_either true = refl
    none_either false = refl
cleared_at {A} (e ∷ es) actor a k =
    elim (e.0.0 == actor.0) as (λ b. (e.0.0 == actor.0) ≡ b → by_actor (cond (not b) (e ∷ without_actor actor es) (without_actor actor es)) a k ≡ cond (a == actor.0) None (cond (a == e.0.0 && same_key k e.1) e.2 (by_actor es a k))) [
      | true ↦ λ p. cleared_at es actor a k ∙ same_actor e.0.0 actor.0 a (same_key k e.1) e.2 (by_actor es a k) p
      | false ↦ λ p. ap (cond (a == e.0.0 && same_key k e.1) e.2) (cleared_at es actor a k) ∙ other_actor e.0.0 actor.0 a (same_key k e.1) e.2 (by_actor es a k) p
    ] refl

pub cleared_by : {A : Type 0} (es : List (Actor × RegionKey × Option A)) (actor : Actor) → by_actor (without_actor actor es) ≡ cleared actor.0 (by_actor es)
cleared_by es actor = λ i a k. cleared_at es actor a k i

-- ---- copies

no_copies : (rs : List RegionInfo) → cells_by_key rs [] ≡ []
no_copies [] = refl
no_copies (r ∷ rs) = refl

no_numbers : (rs : List RegionInfo) → numbers_by_key rs [] ≡ []
no_numbers [] = refl
no_numbers (r ∷ rs) = refl

-- past the last copy, nothing comes
pub cells_done : (out all : List (RegionKey × List Cell)) (rs : List RegionInfo) (cs : List RegionCopy) (i : ℕ) → length cs ≤ i → out ++ cells_by_key (drop i rs) (drop i cs) ≡ all → out ≡ all
cells_done out all rs cs i past is = sym (append-nil out) ∙ ap (λ xs. out ++ xs) (sym (ap (cells_by_key (drop i rs)) (drop_all i cs past) ∙ no_copies (drop i rs))) ∙ is

pub numbers_done : (out all : List (RegionKey × ℕ)) (rs : List RegionInfo) (cs : List RegionCopy) (i : ℕ) → length cs ≤ i → out ++ numbers_by_key (drop i rs) (drop i cs) ≡ all → out ≡ all
numbers_done out all rs cs i past is = sym (append-nil out) ∙ ap (λ xs. out ++ xs) (sym (ap (numbers_by_key (drop i rs)) (drop_all i cs past) ∙ no_numbers (drop i rs))) ∙ is

-- two values set in front of others
pub two_set : {E : Type 0} (r : Result (List (RegionKey × List Cell)) E) (k l : RegionKey) (v w x y : List Cell) (es : List (RegionKey × List Cell)) → IfOk r (λ all. all ≡ (k, v) ∷ (l, w) ∷ es) → v ≡ x → w ≡ y
    → IfOk r (λ all. by_region [] all ≡ set_at k x (set_at l y (by_region [] es)))
two_set (Ok all) k l v w x y es h p q = ap (by_region []) h ∙ ap (λ z. set_at k z (set_at l w (by_region [] es))) p ∙ ap (λ z. set_at k x (set_at l z (by_region [] es))) q
two_set (Err e) k l v w x y es h p q = tt
