-- The files of a store, as a map from places to files in byte order of the places' texts.
use Rattle.std.specs.Prelude.{◌≡◌, ℕ, List, Option, Some, None, Bool, false, cond, IsTrue}
use Rattle.std.specs.List.{filter, list_any}
use Rattle.std.specs.FinMap.{FinMap, keys, contains_key}
use Rattle.std.specs.Ordering.{nat_cmp}
use Rattle.std.specs.Cmp.Lexicographic.{slice_cmp}
use Rattle.ns_tree.specs.declared.file.FileState.{FileState}
use Rattle.ns_tree.specs.declared.namespace.NsError.{NsError}
use Rattle.ns_tree.specs.declared.namespace.NsError.TheVariants.{Exists, BelowFile}
use Rattle.hb_names.specs.Place.{IsPlace}
use Rattle.ns_tree.specs.Places.{is_below, is_within}

-- the map
abbrev pub Tree : Type 0
Tree = FinMap (slice_cmp nat_cmp) FileState

-- no file stands below a file
abbrev pub HasNoFileBelowAFile : Tree → Type 0
HasNoFileBelowAFile tree = (file place : List ℕ) → IsTrue (contains_key tree file) → IsTrue (is_below file place) → contains_key tree place ≡ false

-- every file stands at a place
abbrev pub HasPlaces : Tree → Type 0
HasPlaces tree = (place : List ℕ) → IsTrue (contains_key tree place) → IsPlace place

-- what every tree of files keeps
pub record IsTree (tree : Tree) : Type 0 where
  pub apart : HasNoFileBelowAFile tree
  pub placed : HasPlaces tree

-- whether a file stands at a place or below it
abbrev pub is_taken : List ℕ → Tree → Bool
is_taken place tree = list_any (is_within place) (keys tree)

-- whether a place lies below a file
abbrev pub is_below_file : List ℕ → Tree → Bool
is_below_file place tree = list_any (λ file. is_below file place) (keys tree)

-- why no file can be made at a place, if so: a file stands there or below; else, it lies below a file
abbrev pub create_refusal : List ℕ → Tree → Option NsError
create_refusal place tree = cond (is_taken place tree) (Some Exists) (cond (is_below_file place tree) (Some BelowFile) None)

-- the places of the files below a directory, or of all files, in byte order of the whole text
abbrev pub listing : Option (List ℕ) → Tree → List (List ℕ)
listing None tree = keys tree
listing (Some dir) tree = filter (is_below dir) (keys tree)
