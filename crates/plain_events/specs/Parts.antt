-- What the lists of a state stand for. The last of what was set stands first.
use Rattle.std.specs.Prelude.{ℕ, ◌==◌, not, List, [], ◌∷◌, filter, Option, None}
use Rattle.plain_model.specs.declared.region_key.RegionKey.{RegionKey}
use Rattle.plain_model.specs.declared.who.Actor.{Actor}
use Rattle.plain_model.specs.Keys.{set_each, set_for}

-- a value for each region: the first of its entries, or this one
abbrev pub by_region : {A : Type 0} → A → List (RegionKey × A) → RegionKey → A
by_region unset entries = set_each entries (λ k. unset)

-- a value for each actor and region
abbrev pub by_actor : {A : Type 0} → List (Actor × RegionKey × Option A) → ℕ → RegionKey → Option A
by_actor [] = λ a k. None
by_actor (e ∷ es) = set_for e.0.0 e.1 e.2 (by_actor es)

-- what the other actors keep
abbrev pub without_actor : {A : Type 0} → Actor → List (Actor × RegionKey × Option A) → List (Actor × RegionKey × Option A)
without_actor actor entries = filter (λ e. not (e.0.0 == actor.0)) entries
