-- What a writer answers.
use Rattle.std.specs.Prelude.{◌≡◌, Bool, true, false, Result, Ok, Err}
use Rattle.hfile_write.specs.declared.fault.AddError.{AddError}
use Rattle.hfile_write.specs.declared.fault.AddError.TheVariants as errors

-- a cell is taken only where it stands above the last one, and refused for its place exactly where it does not
abbrev pub Judges : Bool → Result (Unit {0}) AddError → Type 0
Judges above (Ok x) = above ≡ true
Judges above (Err errors.NotAscending) = above ≡ false
Judges above (Err errors.NoMemory) = above ≡ true
