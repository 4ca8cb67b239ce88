-- The type codes of HBase's KeyValue.Type that stored cells have.
use Rattle.std.specs.Prelude.{ℕ, ◌==◌, if◌then◌else◌, Option, Some, None}
use Rattle.hb_cell.specs.declared.kind.Kind.{Kind}
use Rattle.hb_cell.specs.declared.kind.Kind.TheVariants.{Put, Delete, DeleteColumn, DeleteFamily}

-- the code of a kind
abbrev pub code : Kind → ℕ
code Put = 4
code Delete = 8
code DeleteColumn = 12
code DeleteFamily = 14

-- the kind of a code
abbrev pub kind_of : ℕ → Option Kind
kind_of n =
    if n == 4 then Some Put
    else (if n == 8 then Some Delete
    else (if n == 12 then Some DeleteColumn
    else (if n == 14 then Some DeleteFamily else None)))
