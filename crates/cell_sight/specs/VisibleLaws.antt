-- What is to be shown of the visible cells, each as the contract of a law of its own.
use Rattle.std.specs.Prelude.{◌≡◌, ◌↔◌, ◌≤◌, ℕ, Bool, true, false, List, [], ◌∷◌, filter, length}
use Rattle.std.specs.Ordering.{is_lt}
use Rattle.std.specs.List.{list_any, list_all}
use Rattle.hb_cell.specs.declared.cell.Cell.{Cell}
use Rattle.hb_cell.specs.Order.{key_cmp}
use Rattle.hb_cell.specs.Order.{is_below}
use Rattle.hb_cell.specs.Hiding.{hides, same_column}
use Rattle.cell_sight.specs.Same.{Same, sorted}
use Rattle.cell_sight.specs.Member.{Member}
use Rattle.cell_sight.specs.Visible.{is_put, same_version, is_newer, versions_of, visible}

-- a put of the list that none of its markers hides
abbrev pub IsUnhidden : List Cell → Cell → Type 0
IsUnhidden cells c = Member c cells × (is_put c.kind ≡ true) × (list_any (λ marker. hides marker c) cells ≡ false)

-- and no other such put of its column and timestamp has a greater number, or its number and a lesser value
pub record IsWinner (cells : List Cell) (c : Cell) : Type 0 where
  pub unhidden : IsUnhidden cells c
  pub number : (d : Cell) → IsUnhidden cells d → same_version d c ≡ true → d.seq ≤ c.seq
  pub value : (d : Cell) → IsUnhidden cells d → same_version d c ≡ true → d.seq ≡ c.seq → is_below d.value c.value ≡ false

-- the cells ascend strictly in key order
abbrev pub Rises : List Cell → Type 0
Rises [] = Unit {0}
Rises (c ∷ cs) = (list_all (λ d. is_lt (key_cmp c d)) cs ≡ true) × Rises cs

-- some winners of its column with greater timestamps are as many as its family has versions
abbrev pub IsOutdated : List (List ℕ × ℕ) → List Cell → Cell → Type 0
IsOutdated families cells c =
    (newer : List Cell) × Rises newer × ((d : Cell) → Member d newer → IsWinner cells d × (is_newer d c ≡ true))
    × (versions_of families c.family ≤ length newer)

-- a cell is visible exactly where it is a winner, and not outdated
abbrev pub ShowsExactly : List (List ℕ × ℕ) → List Cell → Type 0
ShowsExactly families cells = (c : Cell) → Member c (visible families cells) ↔ (IsWinner cells c × (IsOutdated families cells c → ⊥))

-- the visible cells ascend strictly in key order
abbrev pub Ascends : List (List ℕ × ℕ) → List Cell → Type 0
Ascends families cells = Rises (visible families cells)

-- the same cells show the same, in whatever order they came
abbrev pub SameSeen : List (List ℕ × ℕ) → List Cell → List Cell → Type 0
SameSeen families xs ys = Same xs ys → visible families xs ≡ visible families ys

-- lists with the same cells are equal in key order
abbrev pub SameSorted : List Cell → List Cell → Type 0
SameSorted xs ys = Same xs ys ↔ (sorted xs ≡ sorted ys)

-- cells put in key order, as a merge and a minor compaction put them, are the same cells
abbrev pub SameInOrder : List Cell → Type 0
SameInOrder cells = Same (sorted cells) cells

-- what is visible shows as it is
abbrev pub SeenAgain : List (List ℕ × ℕ) → List Cell → Type 0
SeenAgain families cells = visible families (visible families cells) ≡ visible families cells

-- rows are judged one by one: those of some rows show what they show in the whole list
abbrev pub SeenByRow : List (List ℕ × ℕ) → (List ℕ → Bool) → List Cell → Type 0
SeenByRow families p cells = visible families (filter (λ c. p c.row) cells) ≡ filter (λ c. p c.row) (visible families cells)

-- so are families
abbrev pub SeenByFamily : List (List ℕ × ℕ) → (List ℕ → Bool) → List Cell → Type 0
SeenByFamily families p cells = visible families (filter (λ c. p c.family) cells) ≡ filter (λ c. p c.family) (visible families cells)

-- what is visible of a whole is visible among any part that has it, and that has with each put of its column all of
-- the whole that hides that put
abbrev pub SeenAmong : List (List ℕ × ℕ) → List Cell → List Cell → Cell → Type 0
SeenAmong families whole part c =
    ((d : Cell) → Member d part → Member d whole)
    → ((d m : Cell) → Member d part → same_column d c ≡ true → Member m whole → hides m d ≡ true → Member m part)
    → Member c (visible families whole) → Member c part → Member c (visible families part)
