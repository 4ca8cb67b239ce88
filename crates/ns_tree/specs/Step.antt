-- The writing calls of a store, as steps on its tree.
use Rattle.std.specs.Prelude.{ℕ, List, ◌++◌, Option, Some, None, option_map, Bool, ◌&&◌, ◌||◌, cond, map}
use Rattle.std.specs.FinMap.{get, contains_key, insert, remove, from_entries, entries, keys}
use Rattle.std.specs.List.{list_any}
use Rattle.ns_tree.specs.declared.file.FileState.{FileState}
use Rattle.ns_tree.specs.declared.namespace.NsError.{NsError}
use Rattle.ns_tree.specs.declared.namespace.NsError.TheVariants.{Missing, Inside}
use Rattle.ns_tree.specs.Places.{is_below, is_within, is_too_deep, target_of, moved_place}
use Rattle.ns_tree.specs.Tree.{Tree, create_refusal, is_taken}

-- a writing call with what it is given: a place, and besides bytes, another place or a moment
pub data Write : Type 0 where
  Create : List ℕ → List ℕ → Write
  Append : List ℕ → List ℕ → Write
  Rename : List ℕ → List ℕ → Write
  Delete : List ℕ → Write
  Touch : List ℕ → ℕ → Write

-- the tree with a file at a place, where there is one to put there
abbrev pub put_if_some : Option FileState → List ℕ → Tree → Tree
put_if_some None place tree = tree
put_if_some (Some file) place tree = insert tree place file

-- a file with bytes added at its end
abbrev pub with_bytes_added : List ℕ → FileState → FileState
with_bytes_added bytes file = record { bytes = file.bytes ++ bytes; moment = file.moment }

-- a file with another moment
abbrev pub with_moment : ℕ → FileState → FileState
with_moment moment file = record { bytes = file.bytes; moment = moment }

-- the tree with the files at or below `from` at the same places at or below `to`, with their bytes and moments
abbrev pub moved : List ℕ → List ℕ → Tree → Tree
moved from to tree = from_entries (map (λ e. (moved_place from to e.0, e.1)) (entries tree))

-- the tree that a call leaves
abbrev pub step : Write → Tree → Tree
step (Create place bytes) tree = insert tree place (record { bytes = bytes; moment = 0 })
step (Append place bytes) tree = put_if_some (option_map (with_bytes_added bytes) (get tree place)) place tree
step (Rename from to) tree = moved from to tree
step (Delete place) tree = remove tree place
step (Touch place moment) tree = put_if_some (option_map (with_moment moment) (get tree place)) place tree

-- why no file at a place can be changed: there is none
abbrev pub change_refusal : List ℕ → Tree → Option NsError
change_refusal place tree = cond (contains_key tree place) None (Some Missing)

-- whether a rename would move files into themselves, or one too deep
abbrev pub is_inside : List ℕ → List ℕ → Tree → Bool
is_inside from to tree = is_below from to || list_any (λ place. is_within from place && is_too_deep (target_of from to place)) (keys tree)

-- why nothing can be renamed: nothing stands at or below `from`; else, it would go inside itself or too deep; else, nothing can
-- be made at `to`
abbrev pub rename_refusal : List ℕ → List ℕ → Tree → Option NsError
rename_refusal from to tree = cond (is_taken from tree) (cond (is_inside from to tree) (Some Inside) (create_refusal to tree)) (Some Missing)

-- why a call does nothing, the first cause in the order of the list, or none where it is done
abbrev pub refusal : Write → Tree → Option NsError
refusal (Create place bytes) tree = create_refusal place tree
refusal (Append place bytes) tree = change_refusal place tree
refusal (Rename from to) tree = rename_refusal from to tree
refusal (Delete place) tree = change_refusal place tree
refusal (Touch place moment) tree = change_refusal place tree
