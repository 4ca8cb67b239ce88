-- The cells that a read shows, judged over the whole list (HBase Reference Guide, Versions and Deletes).
use Rattle.std.specs.Prelude.{ℕ, nat_lt, ◌==◌, ◌&&◌, not, if◌then◌else◌, Bool, true, false, List, [], ◌∷◌, filter, count_by}
use Rattle.std.specs.List.{list_any}
use Rattle.hb_cell.specs.declared.cell.Cell.{Cell}
use Rattle.hb_cell.specs.declared.kind.Kind.{Kind}
use Rattle.hb_cell.specs.declared.kind.Kind.TheVariants.{Put, Delete, DeleteColumn, DeleteFamily}
use Rattle.hb_cell.specs.Order.{same_bytes}
use Rattle.hb_cell.specs.Hiding.{hides, same_column}
use Rattle.cell_sight.specs.Same.{sorted}

abbrev pub is_put : Kind → Bool
is_put Put = true
is_put Delete = false
is_put DeleteColumn = false
is_put DeleteFamily = false

-- the puts that no marker of the list hides
abbrev pub unhidden : List Cell → List Cell
unhidden cells = filter (λ c. is_put c.kind && not (list_any (λ marker. hides marker c) cells)) cells

-- of one row, column and timestamp
abbrev pub same_version : Cell → Cell → Bool
same_version a b = same_column a b && a.ts == b.ts

-- of each row, column and timestamp the first: of puts in key order, that of the greatest sequence number, then
-- of the least value
abbrev pub firsts : List Cell → List Cell
firsts [] = []
firsts (c ∷ cs) = c ∷ filter (λ d. not (same_version c d)) (firsts cs)

-- how many versions a read shows of a family: of its first line, and none where it has no line
abbrev pub versions_of : List (List ℕ × ℕ) → List ℕ → ℕ
versions_of [] family = 0
versions_of (f ∷ fs) family = if same_bytes f.0 family then f.1 else versions_of fs family

-- of one column, and with a greater timestamp
abbrev pub is_newer : Cell → Cell → Bool
is_newer a b = same_column a b && nat_lt b.ts a.ts

-- of each column those of the greatest timestamps, as many as its family has versions
abbrev pub newest : List (List ℕ × ℕ) → List Cell → List Cell
newest families cells = filter (λ c. nat_lt (count_by (λ d. is_newer d c) cells) (versions_of families c.family)) cells

-- the cells that a read of this list shows, in key order
abbrev pub visible : List (List ℕ × ℕ) → List Cell → List Cell
visible families cells = newest families (firsts (unhidden (sorted cells)))
