-- Which places a writing call concerns, and when two calls don't meet.
use Rattle.std.specs.Prelude.{◌≡◌, ℕ, List, [], ◌∷◌, Bool, true, false}
use Rattle.std.specs.List.{list_any}
use Rattle.ns_tree.specs.Places.{is_below, is_within}
use Rattle.ns_tree.specs.Step.{Write, Create, Append, Rename, Delete, Touch}

-- the places that a call names
abbrev pub places_of : Write → List (List ℕ)
places_of (Create place bytes) = place ∷ []
places_of (Append place bytes) = place ∷ []
places_of (Rename from to) = from ∷ to ∷ []
places_of (Delete place) = place ∷ []
places_of (Touch place moment) = place ∷ []

-- whether a place is one that a call names, or lies below one
abbrev pub is_reached : Write → List ℕ → Bool
is_reached call q = list_any (λ p. is_within p q) (places_of call)

-- whether a place that a call names lies below a place
abbrev pub is_passed : Write → List ℕ → Bool
is_passed call q = list_any (λ p. is_below q p) (places_of call)

-- no place lies at or below places of both calls, and none of one call's places below those of the other
pub record AreApart (call other : Write) : Type 0 where
  pub reached : (q : List ℕ) → is_reached call q ≡ true → is_reached other q ≡ false
  pub passed : (q : List ℕ) → is_passed call q ≡ true → is_reached other q ≡ false
  pub passing : (q : List ℕ) → is_passed other q ≡ true → is_reached call q ≡ false
