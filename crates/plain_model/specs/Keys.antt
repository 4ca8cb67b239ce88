-- Regions by their keys, and a value for each of them.
use Rattle.std.specs.Prelude.{ℕ, Bool, cond, ◌==◌, ◌&&◌, List, [], ◌∷◌}
use Rattle.hb_names.specs.RegionName.{encoded_of}
use Rattle.hb_records.specs.declared.region_info.RegionInfo.{RegionInfo}
use Rattle.plain_model.specs.declared.region_key.RegionKey.{RegionKey}
use Rattle.hb_cell.specs.Order.{same_bytes}

-- the encoded name of a region
abbrev pub encoded : RegionInfo → List ℕ
encoded info = encoded_of (record { table = info.table; start = info.start; id = info.id })

-- the key of a region
abbrev pub key_of : RegionInfo → RegionKey
key_of info = record { table = info.table; region = encoded info }

-- the region of a table with this encoded name
abbrev pub key_at : List ℕ → List ℕ → RegionKey
key_at table region = record { table = table; region = region }

-- whether two keys are equal
abbrev pub same_key : RegionKey → RegionKey → Bool
same_key a b = same_bytes a.table b.table && same_bytes a.region b.region

-- the values of all regions, with that of one changed
abbrev pub set_at : {A : Type 0} → RegionKey → A → (RegionKey → A) → RegionKey → A
set_at key value f = λ k. cond (same_key k key) value (f k)

-- the same for an actor's values
abbrev pub set_for : {A : Type 0} → ℕ → RegionKey → A → (ℕ → RegionKey → A) → ℕ → RegionKey → A
set_for actor key value f = λ a k. cond (a == actor && same_key k key) value (f a k)

-- with those of some regions changed, the first of a list first
abbrev pub set_each : {A : Type 0} → List (RegionKey × A) → (RegionKey → A) → RegionKey → A
set_each [] f = f
set_each (x ∷ xs) f = set_at x.0 x.1 (set_each xs f)
