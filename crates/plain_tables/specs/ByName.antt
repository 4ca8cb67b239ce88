-- Maps by names, as the lists that stand for them.
use Rattle.std.specs.Prelude.{ℕ, List, [], ◌∷◌, Option, Some, None}
use Rattle.std.specs.FinMap.{empty, insert, remove, from_entries}
use Rattle.plain_model.specs.Names.{Names}

-- the map with the value of a name set, or taken away
abbrev pub put : {X : Type 0} → List ℕ → Option X → Names X → Names X
put name None m = remove m name
put name (Some x) m = insert m name x

-- the map of what was set, the last of it first
abbrev pub by_name : {X : Type 0} → List (List ℕ × Option X) → Names X
by_name [] = empty
by_name (e ∷ es) = put e.0 e.1 (by_name es)

-- the map of a sorted map's entries
abbrev pub by_entry : {X : Type 0} → List (List ℕ × X) → Names X
by_entry entries = from_entries entries
