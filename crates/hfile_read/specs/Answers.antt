-- What a reader of a part of an HFile answers: what the test of this part gives, unless memory ran out.
use Rattle.std.specs.Prelude.{◌≡◌, ℕ, Result, Ok, Err}
use Rattle.hfile_block.specs.declared.fault.HFileError.{HFileError}
use Rattle.hfile_block.specs.declared.fault.HFileError.TheVariants as errors
use Rattle.hfile_index.specs.declared.fault.BadIndex.{BadIndex}
use Rattle.hfile_index.specs.declared.fault.BadIndex.TheVariants as indexes

-- what a fault says, unless it is want of memory
abbrev pub Says : HFileError → Type 0 → Type 0
Says errors.NoMemory fact = Unit {0}
Says _ fact = fact

-- a fault is the one that a test gives
abbrev pub Fails : {Y : Type 0} → HFileError → Result Y HFileError → Type 0
Fails e read = Says e (read ≡ Err e)

-- what a reader answered, seen by view, is what a test gives
abbrev pub Gives : {X Y : Type 0} → (X → Y) → Result X HFileError → Result Y HFileError → Type 0
Gives view (Ok x) read = read ≡ Ok (view x)
Gives view (Err e) read = Fails e read

-- what a reader left behind is what a test gives
abbrev pub Leaves : {X Y : Type 0} → Result X HFileError → Y → Result Y HFileError → Type 0
Leaves (Ok x) after read = read ≡ Ok after
Leaves (Err e) after read = Fails e read

-- the fault of the index is the place that a test gives
abbrev pub IsWrong : {Y : Type 0} → BadIndex → Result Y ℕ → Type 0
IsWrong (indexes.BadIndex at) read = read ≡ Err at
IsWrong indexes.NoMemory read = Unit {0}

-- what a reader of the index answered, seen by view, is what a test gives
abbrev pub Finds : {X Y : Type 0} → (X → Y) → Result X BadIndex → Result Y ℕ → Type 0
Finds view (Ok x) read = read ≡ Ok (view x)
Finds view (Err e) read = IsWrong e read
