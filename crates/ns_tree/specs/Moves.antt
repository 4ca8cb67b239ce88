-- What a rename moves.
use Rattle.std.specs.Prelude.{◌≡◌, ℕ, List, Bool, true, false, ◌&&◌, cond, None}
use Rattle.std.specs.FinMap.{get, contains_key}
use Rattle.std.specs.List.{list_any}
use Rattle.std.specs.Ordering.{eq_by_cmp, nat_cmp}
use Rattle.std.specs.Cmp.Lexicographic.{slice_cmp}
use Rattle.ns_tree.specs.declared.moves.Move.{Move}
use Rattle.ns_tree.specs.Places.{is_within, target_of}
use Rattle.ns_tree.specs.Tree.{Tree, is_taken}

-- a file's place and where it goes
abbrev pub move_of : List ℕ → List ℕ → List ℕ → Move
move_of from to place = record { old = place; new = target_of from to place }

-- whether a place is among these
abbrev pub is_among : List (List ℕ) → List ℕ → Bool
is_among places q = list_any (eq_by_cmp (slice_cmp nat_cmp) q) places

-- whether a file moves from a place
abbrev pub is_source : List Move → List ℕ → Bool
is_source moves q = list_any (λ m. eq_by_cmp (slice_cmp nat_cmp) q m.old) moves

-- whether a file moves to a place
abbrev pub is_target : List Move → List ℕ → Bool
is_target moves q = list_any (λ m. eq_by_cmp (slice_cmp nat_cmp) q m.new) moves

-- the places are those of the files at or below a place
abbrev pub AreSources : List ℕ → Tree → List (List ℕ) → Type 0
AreSources from tree places = (q : List ℕ) → is_among places q ≡ (is_within from q && contains_key tree q)

-- a file of the tree at or below `from` goes where it belongs
pub record IsMove (from to : List ℕ) (tree : Tree) (m : Move) : Type 0 where
  pub inside : is_within from m.old ≡ true
  pub goes : m.new ≡ target_of from to m.old
  pub stands : contains_key tree m.old ≡ true

-- files can be moved: neither place lies within the other, and nothing stands at the new one or below
pub record IsMovable (from to : List ℕ) (tree : Tree) : Type 0 where
  pub apart : is_within from to ≡ false
  pub back : is_within to from ≡ false
  pub free : is_taken to tree ≡ false

-- each target has the file of its source, and every other place what it had
abbrev pub IsCopied : List ℕ → List ℕ → List Move → Tree → Tree → Type 0
IsCopied from to moves old new = (q : List ℕ) → get new q ≡ cond (is_target moves q) (get old (target_of to from q)) (get old q)

-- no source has a file, and every other place has what it had
abbrev pub IsClearedOfSources : List Move → Tree → Tree → Type 0
IsClearedOfSources moves old new = (q : List ℕ) → get new q ≡ cond (is_source moves q) None (get old q)

-- no target has a file, and every other place has what it had
abbrev pub IsClearedOfTargets : List Move → Tree → Tree → Type 0
IsClearedOfTargets moves old new = (q : List ℕ) → get new q ≡ cond (is_target moves q) None (get old q)
