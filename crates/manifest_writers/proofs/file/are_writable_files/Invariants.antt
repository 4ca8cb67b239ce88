use Rattle.std.proofs.Common.{None, length}
use Rattle.std.specs.Prelude.{◌↔◌}
use Rattle.std.specs.Option.{option_copied}
use Rattle.hb_grammar.specs.Rows.{RowsFrom}
use Rattle.manifest_writers.specs.Writable.{IsFileBehind}
use Rattle.manifest_writers.proofs.file.are_writable_files.Given as goal

-- all files are right where those are that are left, behind the last one
abbrev pub invariant-loop-rest : goal.invariant-loop-rest
invariant-loop-rest l = RowsFrom IsFileBehind (option_copied l.last) l.rest ↔ RowsFrom IsFileBehind None l.files

abbrev pub decreases-loop-rest : goal.decreases-loop-rest
decreases-loop-rest l = length l.rest
