-- Where bytes are no record: the first field, in the order of the bytes, that is not in its grammar, and of an inner
-- message the field within it; or at the end of a message the least of its fields that are missing.
use Rattle.std.specs.Prelude.{◌≡◌, ◌≢◌, ◌⊎◌, ℕ, ◌+◌, ◌-◌, ◌<◌, ◌^◌, ◌==◌, Bool, true, false, Option, Some, None, List, [], ◌∷◌, ◌++◌, length, Result, Ok, Err}
use Rattle.wire_fields.specs.Fields.{Part, number, eight, four, text, field_bytes}
use Rattle.wire_fields.specs.Message.{IsMessage, IsPart, AreParts, message_bytes, later}
use Rattle.field_rules.specs.declared.unmade.Unmade.{Unmade}
use Rattle.field_rules.specs.declared.unmade.Unmade.TheVariants.{Missing, Needless}
use Rattle.field_reader.specs.declared.fault.RecordError.{RecordError}
use Rattle.field_reader.specs.declared.fault.RecordError.TheVariants.{BadRecord, MissingField, NoMemory}

-- a fault at this place, or want of memory
abbrev pub IsAt : ℕ → RecordError → Type 0
IsAt at (BadRecord place) = place ≡ at
IsAt at (MissingField id) = ⊥
IsAt at NoMemory = Unit {0}

abbrev pub IsNoNumber : Part → Type 0
IsNoNumber part = (n : ℕ) → part ≢ number n

abbrev pub IsNoText : Part → Type 0
IsNoText part = (bytes : List ℕ) → part ≢ text bytes

-- a value that spells nothing, which is told of its field; or want of memory
abbrev pub Whole : {V : Type 0} → (Part → V → Type 0) → Part → ℕ → ℕ → RecordError → Type 0
Whole {V} spells part at inside (BadRecord place) = (place ≡ at) × ((v : V) → spells part v → ⊥)
Whole spells part at inside (MissingField id) = ⊥
Whole spells part at inside NoMemory = Unit {0}

-- a value that should be a message, which has this fault where it stands
abbrev pub Within : (List ℕ → ℕ → RecordError → Type 0) → Part → ℕ → ℕ → RecordError → Type 0
Within fault (number n) at inside e = IsAt at e
Within fault (eight n) at inside e = IsAt at e
Within fault (four n) at inside e = IsAt at e
Within fault (text bytes) at inside e = fault bytes inside e

-- a field of this number whose value is wrong; or want of memory
abbrev pub Wrong : ℕ → (Part → ℕ → ℕ → RecordError → Type 0) → ℕ × Part → ℕ → ℕ → RecordError → Type 0
Wrong id faults p at inside (BadRecord place) = (p.0 ≡ id) × faults p.1 at inside (BadRecord place)
Wrong id faults p at inside (MissingField missing) = (p.0 ≡ id) × faults p.1 at inside (MissingField missing)
Wrong id faults p at inside NoMemory = Unit {0}

infixr 4 ◌or◌
abbrev pub ◌or◌ : (ℕ × Part → ℕ → ℕ → RecordError → Type 0) → (ℕ × Part → ℕ → ℕ → RecordError → Type 0) → ℕ × Part → ℕ → ℕ → RecordError → Type 0
(f or g) p at inside e = f p at inside e ⊎ g p at inside e

-- the bytes of a value are the last of its field
abbrev pub value_len : Part → ℕ
value_len (number n) = 0
value_len (eight n) = 0
value_len (four n) = 0
value_len (text bytes) = length bytes

-- how many bytes stand before them
abbrev pub header : ℕ × Part → ℕ
header p = length (field_bytes p.0 p.1) - value_len p.1

-- the bytes of a value stand at a place that 64 bits hold, to their end
abbrev pub IsInside : Part → ℕ → Type 0
IsInside part inside = inside + value_len part < 2 ^ 64

-- no field stands at the front of the bytes
abbrev pub BeginsWithNoField : List ℕ → Type 0
BeginsWithNoField bytes = (p : ℕ × Part) (rest : List ℕ) → IsPart p → bytes ≢ field_bytes p.0 p.1 ++ rest

-- the first fault of a message's fields, which stands at a place: those before it are in their grammar
pub data FieldsFault {S : Type 0} (rules : List (ℕ × Part) → S → Type 0) (wrong : List (ℕ × Part) → ℕ × Part → ℕ → ℕ → RecordError → Type 0)
    (bytes : List ℕ) (place : ℕ) : RecordError → Type 0 where
  cut : (parts : List (ℕ × Part)) (values : S) (rest : List ℕ) → AreParts parts → rules parts values → bytes ≡ message_bytes parts ++ rest → rest ≢ [] → BeginsWithNoField rest
      → FieldsFault rules wrong bytes place (BadRecord (place + length (message_bytes parts)))
  wrong_field : (parts : List (ℕ × Part)) (values : S) (p : ℕ × Part) (rest : List ℕ) (e : RecordError) → AreParts parts → rules parts values → IsPart p
      → bytes ≡ message_bytes parts ++ (field_bytes p.0 p.1 ++ rest) → (let at = place + length (message_bytes parts) in wrong parts p at (at + header p) e)
      → FieldsFault rules wrong bytes place e

-- a place, where it is asked for
abbrev pub here_place : Bool → ℕ → Option ℕ
here_place true at = Some at
here_place false at = None

-- where the last field with a number stands, of fields that stand from a place on
abbrev pub last_place : ℕ → ℕ → List (ℕ × Part) → Option ℕ
last_place id at [] = None
last_place id at (p ∷ parts) = later (here_place (p.0 == id) at) (last_place id (at + length (field_bytes p.0 p.1)) parts)

-- why the bytes, which stand at a place, are no message whose fields have these rules and of which a value is made
pub data RecordFault {S V : Type 0} (rules : List (ℕ × Part) → S → Type 0) (wrong : List (ℕ × Part) → ℕ × Part → ℕ → ℕ → RecordError → Type 0)
    (made : S → Result V Unmade) (bytes : List ℕ) (place : ℕ) : RecordError → Type 0 where
  of_fields : (e : RecordError) → FieldsFault rules wrong bytes place e → RecordFault rules wrong made bytes place e
  missing : (parts : List (ℕ × Part)) (values : S) (id : ℕ) → IsMessage bytes parts → rules parts values → made values ≡ Err (Missing id)
      → RecordFault rules wrong made bytes place (MissingField id)
  needless : (parts : List (ℕ × Part)) (values : S) (id at : ℕ) → IsMessage bytes parts → rules parts values → made values ≡ Err (Needless id)
      → last_place id 0 parts ≡ Some at → RecordFault rules wrong made bytes place (BadRecord (place + at))

-- why no value was made of a message's fields, which stands at a place
abbrev pub IsUntold : {V : Type 0} → Result V Unmade → List ℕ → ℕ → RecordError → Type 0
IsUntold (Ok v) bytes place e = ⊥
IsUntold (Err (Missing id)) bytes place e = e ≡ MissingField id
IsUntold (Err (Needless id)) bytes place e = (parts : List (ℕ × Part)) (at : ℕ) → IsMessage bytes parts → last_place id 0 parts ≡ Some at → e ≡ BadRecord (place + at)

-- bytes with a fault spell nothing: only want of memory keeps a record from being read
abbrev pub Excludes : {V : Type 0} → (List ℕ → V → Type 0) → (List ℕ → RecordError → Type 0) → Type 0
Excludes {V} spells fault = (bytes : List ℕ) (v : V) (e : RecordError) → spells bytes v → fault bytes e → e ≡ NoMemory
