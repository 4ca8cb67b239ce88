use Rattle.std.proofs.Common.{arith}
use Rattle.manifest_writers.proofs.file.is_writable_file.Goals as goal

pub returns-then-has_split_row : goal.returns-then-has_split_row
returns-then-has_split_row c = (
  λ yes. record { family = c.as_slice-family.ensures.valid; name = c.has_entry_name.ensures.0 yes; half = c.has_split_row.ensures.0 c.if-has_split_row.true; size = omega arith },
  λ is. c.has_entry_name.ensures.1 is.name,
)
