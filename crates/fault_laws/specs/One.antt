-- Faults that some bytes have but one of.
use Rattle.std.specs.Prelude.{◌≡◌, ◌⊎◌, ℕ, List}
use Rattle.field_reader.specs.declared.fault.RecordError.{RecordError}
use Rattle.field_reader.specs.declared.fault.RecordError.TheVariants.{NoMemory}

-- two faults are the same, or one of them is want of memory
abbrev pub IsSame : RecordError → RecordError → Type 0
IsSame e f = (e ≡ NoMemory) ⊎ ((f ≡ NoMemory) ⊎ (e ≡ f))

-- two faults of the same bytes are the same
abbrev pub HasOne : (List ℕ → RecordError → Type 0) → Type 0
HasOne fault = (bytes : List ℕ) (e f : RecordError) → fault bytes e → fault bytes f → IsSame e f
