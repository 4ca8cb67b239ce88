-- Maps by names.
use Rattle.std.specs.Prelude.{ℕ, List, Option, Some, None}
use Rattle.std.specs.FinMap.{FinMap, get, insert}
use Rattle.hb_cell.specs.Order.{bytes_cmp}

-- values by their names, in byte order of the names
abbrev pub Names : Type 0 → Type 0
Names X = FinMap bytes_cmp X

-- the map with the value of a name changed, where there is one
abbrev pub change_found : {X : Type 0} → List ℕ → (X → X) → Names X → Option X → Names X
change_found name f m None = m
change_found name f m (Some x) = insert m name (f x)

abbrev pub change : {X : Type 0} → List ℕ → (X → X) → Names X → Names X
change name f m = change_found name f m (get m name)
