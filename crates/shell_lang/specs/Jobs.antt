-- What the lines of the language ask for, as functions of their arguments.
use Rattle.std.specs.Prelude.{ℕ, true, false, cond, List, [], ◌∷◌, Option, unwrap_or}
use Rattle.hb_cell.specs.declared.kind.Kind.{Kind}
use Rattle.hb_cell.specs.declared.kind.Kind.TheVariants as cell
use Rattle.plain_model.specs.declared.put_cell.PutCell.{PutCell}
use Rattle.plain_model.specs.declared.job.Job.{Job}
use Rattle.plain_model.specs.declared.job.Job.TheVariants as job
use Rattle.shell_line.specs.declared.line_kind.LineKind.{LineKind}
use Rattle.shell_line.specs.declared.line_kind.LineKind.TheVariants as kind
use Rattle.shell_value.specs.Cut.{before, behind, has_mark}
use Rattle.shell_value.specs.Quotes.{rest_of, value_of, number_of, values_of, behind_values}

-- a table, a row, a column, a value, and a timestamp or none; 58 is the colon behind a family
abbrev pub put_job : List ℕ → Job
put_job table =
    let row = rest_of table in
    let column = rest_of row in
    let bytes = rest_of column in
    job.Put (value_of table) (record {
      row = value_of row;
      family = before 58 (value_of column);
      qualifier = behind 58 (value_of column);
      ts = number_of (rest_of bytes);
      kind = cell.Put;
      value = value_of bytes;
    })

-- a marker of a row's family or column
abbrev pub marker_of : List ℕ → List ℕ → List ℕ → Option ℕ → Kind → PutCell
marker_of row family qualifier ts kind = record { row = row; family = family; qualifier = qualifier; ts = ts; kind = kind; value = [] }

-- the marker of a column: of one timestamp where 'version' stands behind it, or else of all up to one; or, without a
-- colon, that of a family; 39 is the quote
abbrev pub deleted_marker : List ℕ → List ℕ → List ℕ → PutCell
deleted_marker row deleted end =
    cond (has_mark 58 deleted)
    (marker_of row (before 58 deleted) (behind 58 deleted) (number_of end) (cond (has_mark 39 end) cell.Delete cell.DeleteColumn))
    (marker_of row deleted [] (number_of end) cell.DeleteFamily)

-- a table, a row, and a column or a family, and a timestamp or none
abbrev pub delete_job : List ℕ → Job
delete_job table =
    let row = rest_of table in
    let deleted = rest_of row in
    job.Put (value_of table) (deleted_marker (value_of row) (value_of deleted) (rest_of deleted))

-- the rows behind the word splits, where that stands
abbrev pub splits_of : List ℕ → List (List ℕ)
splits_of end = cond (has_mark 39 end) (value_of end ∷ values_of 998 (rest_of end)) []

-- a table, its families, how many versions each shows, which is 1 where none is told, and its splits
abbrev pub create_job : List ℕ → Job
create_job table =
    let families = rest_of table in
    let end = behind_values 16 families in
    job.Create (value_of table) (values_of 16 families) (unwrap_or (number_of (before 39 end)) 1) (splits_of end)

-- what a line of each kind asks for, by its arguments
abbrev pub job_of : LineKind → List ℕ → Job
job_of kind.Create bytes = create_job bytes
job_of kind.Put bytes = put_job bytes
job_of kind.Delete bytes = delete_job bytes
job_of kind.Scan bytes = job.Scan (value_of bytes)
job_of kind.Flush bytes = job.Flush (value_of bytes)
job_of kind.Compact bytes = job.Compact (value_of bytes) false
job_of kind.MajorCompact bytes = job.Compact (value_of bytes) true
job_of kind.Disable bytes = job.Disable (value_of bytes)
job_of kind.Enable bytes = job.Enable (value_of bytes)
job_of kind.Drop bytes = job.Drop (value_of bytes)
job_of kind.Split bytes = job.Split (value_of bytes) (value_of (rest_of bytes))
job_of kind.Snapshot bytes = job.Snapshot (value_of bytes) (value_of (rest_of bytes))
job_of kind.ListSnapshots bytes = job.ListSnapshots
job_of kind.DeleteSnapshot bytes = job.DeleteSnapshot (value_of bytes)
job_of kind.CloneSnapshot bytes = job.Clone (value_of bytes) (value_of (rest_of bytes))
job_of kind.RestoreSnapshot bytes = job.Restore (value_of bytes)
job_of kind.Bulkload bytes = job.Bulk (value_of bytes) (value_of (rest_of bytes))
job_of kind.CatalogjanitorRun bytes = job.Janitor
job_of kind.CleanerChoreRun bytes = job.Clean
