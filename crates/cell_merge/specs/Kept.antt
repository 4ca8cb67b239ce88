-- What the private fields of the visible cells stand for. No public clause speaks of it.
use Rattle.std.specs.Prelude.{ℕ, ◌+◌, ◌-◌, nat_lt, ◌&&◌, ◌||◌, not, if◌then◌else◌, Bool, false, List, [], ◌∷◌, ◌++◌, length, filter, slice_get, Option, Some, None}
use Rattle.hb_cell.specs.declared.cell.Cell.{Cell}
use Rattle.hb_cell.specs.declared.kind.Kind.{Kind}
use Rattle.hb_cell.specs.declared.kind.Kind.TheVariants.{Put, Delete, DeleteColumn, DeleteFamily}
use Rattle.hb_cell.specs.Hiding.{hides, same_family, same_column}
use Rattle.cell_sight.specs.Visible.{same_version, versions_of}

-- what is kept of cells that came in key order: the puts that may show, all of one row and family; how many of them
-- are of the column of the last one; and of the markers of each kind the one that matters
pub record Kept : Type 0 where
  pub held : List Cell
  pub shown : ℕ
  pub family : Option Cell
  pub column : Option Cell
  pub version : Option Cell

abbrev pub empty : Kept
empty = record { held = []; shown = 0; family = None; column = None; version = None }

-- there is a cell, and the test passes it with another
abbrev pub passes : (Cell → Cell → Bool) → Option Cell → Cell → Bool
passes test None c = false
passes test (Some d) c = test d c

abbrev pub is_hidden : Option Cell → Cell → Bool
is_hidden = passes hides

abbrev pub last_of : List Cell → Option Cell
last_of cells = slice_get cells (length cells - 1)

-- how many puts of a cell's column are held
abbrev pub shown_in : Kept → Cell → ℕ
shown_in kept c = if passes same_column (last_of kept.held) c then kept.shown else 0

-- a put that nothing hides so far, the first of its version, and one of the newest of its column
abbrev pub may_show : List (List ℕ × ℕ) → Kept → Cell → Bool
may_show families kept c =
    not (is_hidden kept.family c) && (not (is_hidden kept.column c || is_hidden kept.version c)
    && (not (passes same_version (last_of kept.held) c) && nat_lt (shown_in kept c) (versions_of families c.family)))

abbrev pub with_put : List (List ℕ × ℕ) → Kept → Cell → Kept
with_put families kept c = if may_show families kept c then record kept { held = kept.held ++ c ∷ []; shown = shown_in kept c + 1 } else kept

-- of two markers of a kind the one that hides what the other hides
abbrev pub wider : Option Cell → Cell → Option Cell
wider marker c = if is_hidden marker c then marker else Some c

abbrev pub absorb_as : Kind → List (List ℕ × ℕ) → Kept → Cell → Kept
absorb_as Put families kept c = with_put families kept c
absorb_as Delete families kept c = record kept { version = Some c }
absorb_as DeleteColumn families kept c = record kept { column = wider kept.column c }
absorb_as DeleteFamily families kept c = record kept { family = wider kept.family c }

-- what is kept once the next cell has come
abbrev pub absorb : List (List ℕ × ℕ) → Kept → Cell → Kept
absorb families kept c = absorb_as c.kind families kept c

-- what a marker of the family leaves of the puts
abbrev pub alive : Option Cell → List Cell → List Cell
alive marker cells = filter (λ c. not (is_hidden marker c)) cells

-- the next cell is of another row or family than the puts
abbrev pub ends : Kept → Cell → Bool
ends kept c = passes (λ d e. not (same_family d e)) (last_of kept.held) c

-- what shows of what is kept and of the cells that are still to come
abbrev pub run : List (List ℕ × ℕ) → Kept → List Cell → List Cell
run families kept [] = alive kept.family kept.held
run families kept (c ∷ cs) =
    if ends kept c then alive kept.family kept.held ++ run families (absorb families empty c) cs
    else run families (absorb families kept c) cs
