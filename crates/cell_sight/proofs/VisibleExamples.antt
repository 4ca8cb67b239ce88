-- Worked examples of what a read shows.
use Rattle.std.proofs.Common.{◌≡◌, ℕ, List, [], ◌∷◌, codes, refl}
use Rattle.hb_cell.specs.declared.cell.Cell.{Cell}
use Rattle.hb_cell.specs.declared.kind.Kind.{Kind}
use Rattle.hb_cell.specs.declared.kind.Kind.TheVariants.{Put, Delete, DeleteColumn, DeleteFamily}
use Rattle.cell_sight.specs.Visible.{visible}

-- a cell of row r and family f
abbrev cell : List ℕ → Kind → ℕ → ℕ → List ℕ → Cell
cell qualifier kind ts seq value =
    record { row = codes "r"; family = codes "f"; qualifier = qualifier; ts = ts; kind = kind; seq = seq; value = value }

-- a put, and a marker, of its column q
abbrev put : ℕ → ℕ → List ℕ → Cell
put ts seq value = cell (codes "q") Put ts seq value

abbrev marker : Kind → ℕ → ℕ → Cell
marker kind ts seq = cell (codes "q") kind ts seq []

-- so many versions of family f
abbrev keep : ℕ → List (List ℕ × ℕ)
keep n = (codes "f", n) ∷ []

-- of two puts at one timestamp the later one shows
later : visible (keep 1) (put 5 1 (codes "a") ∷ put 5 2 (codes "b") ∷ []) ≡ put 5 2 (codes "b") ∷ []
later = refl

-- of two with one number the lesser value shows
lesser : visible (keep 3) (put 5 1 (codes "b") ∷ put 5 1 (codes "a") ∷ []) ≡ put 5 1 (codes "a") ∷ []
lesser = refl

-- as many timestamps show as the family has versions, the greatest first
versions : visible (keep 2) (put 1 1 (codes "a") ∷ put 3 2 (codes "b") ∷ put 2 3 (codes "c") ∷ []) ≡ put 3 2 (codes "b") ∷ put 2 3 (codes "c") ∷ []
versions = refl

-- a family that the schema lacks shows nothing
lacking : visible [] (put 1 1 (codes "a") ∷ []) ≡ []
lacking = refl

-- a Delete hides its timestamp alone, whatever the numbers say
deleted : visible (keep 3) (marker Delete 2 1 ∷ put 2 9 (codes "b") ∷ put 1 2 (codes "a") ∷ []) ≡ put 1 2 (codes "a") ∷ []
deleted = refl

-- a DeleteColumn hides up to its timestamp
column : visible (keep 3) (marker DeleteColumn 10 1 ∷ put 9 2 (codes "a") ∷ put 11 3 (codes "b") ∷ []) ≡ put 11 3 (codes "b") ∷ []
column = refl

-- a DeleteFamily of another qualifier hides too, wherever it stands in key order
family : visible (keep 3) (put 4 1 (codes "a") ∷ cell (codes "z") DeleteFamily 4 2 [] ∷ []) ≡ []
family = refl
