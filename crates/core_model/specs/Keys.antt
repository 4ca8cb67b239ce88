-- Values by a base, by an actor or by a name, and members of lists.
use Rattle.std.specs.Prelude.{ℕ, Bool, not, cond, ◌==◌, ◌&&◌, List}
use Rattle.hb_layout.specs.declared.base.Base.{Base}
use Rattle.plain_model.specs.declared.region_key.RegionKey.{RegionKey}
use Rattle.hb_cell.specs.Order.{same_bytes}

abbrev pub same_bool : Bool → Bool → Bool
same_bool a b = cond a b (not b)

abbrev pub same_base : Base → Base → Bool
same_base a b = same_bytes a.table b.table && (same_bytes a.region b.region && (same_bytes a.family b.family && same_bytes a.name b.name))

-- the region that a base belongs to
abbrev pub home : Base → RegionKey
home b = record { table = b.table; region = b.region }

-- the values of all bases, actors or names, with that of one changed
abbrev pub set_base : {A : Type 0} → Base → A → (Base → A) → Base → A
set_base b v f = λ c. cond (same_base c b) v (f c)

abbrev pub set_actor : {A : Type 0} → ℕ → A → (ℕ → A) → ℕ → A
set_actor a v f = λ w. cond (w == a) v (f w)

abbrev pub set_name : {A : Type 0} → List ℕ → A → (List ℕ → A) → List ℕ → A
set_name n v f = λ m. cond (same_bytes m n) v (f m)
