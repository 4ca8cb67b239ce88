-- A message of protobuf is its fields, one after another (Protocol Buffers, Encoding, Message Structure). A field
-- that is not repeated counts with its last value; fields of other numbers are passed over.
use Rattle.std.specs.Prelude.{◌≡◌, ◌≤◌, ◌⊎◌, ℕ, ◌+◌, ◌==◌, if◌then◌else◌, List, [], ◌∷◌, ◌++◌, length, drop, map, Bool, true, false, Option, Some, None, Err}
use Rattle.std.specs.List.{flat_map, filter_map, AllByRecursion}
use Rattle.hb_wire.specs.declared.fault.WireError.{WireError}
use Rattle.wire_fields.specs.declared.message.PlacedField.{PlacedField}
use Rattle.wire_fields.specs.declared.field.FieldValue.{FieldValue}
use Rattle.wire_fields.specs.Fields.{Part, number, eight, four, text, field_bytes, Fits, IsId, field_at, part_of}

-- the spelling of some fields, each a number and a value
abbrev pub message_bytes : List (ℕ × Part) → List ℕ
message_bytes parts = flat_map (λ (p : ℕ × Part). field_bytes p.0 p.1) parts

abbrev pub IsPart : ℕ × Part → Type 0
IsPart p = IsId p.0 × Fits p.1

abbrev pub AreParts : List (ℕ × Part) → Type 0
AreParts parts = AllByRecursion IsPart parts

-- the bytes are a message of these fields
abbrev pub IsMessage : List ℕ → List (ℕ × Part) → Type 0
IsMessage bytes parts = AreParts parts × (bytes ≡ message_bytes parts)

-- the fields of some bytes, as numbers and values
abbrev pub parts_of : List ℕ → List PlacedField → List (ℕ × Part)
parts_of bytes fields = map (λ f. (f.number, part_of bytes f.value)) fields

-- fields stand one after another from a place on, each at the place that is told
abbrev pub AreAt : List ℕ → ℕ → List PlacedField → Type 0
AreAt bytes place [] = Unit {0}
AreAt bytes place (f ∷ fields) = (f.at ≡ place) × AreAt bytes (place + length (field_bytes f.number (part_of bytes f.value))) fields

-- the bytes up to a place are these fields, and there they end or no field can be read
pub record IsSplit (bytes : List ℕ) (fields : List PlacedField) (end : ℕ) : Type 0 where
  pub fit : AreParts (parts_of bytes fields)
  pub whole : bytes ≡ message_bytes (parts_of bytes fields) ++ drop end bytes
  pub here : end ≡ length (message_bytes (parts_of bytes fields))
  pub within : end ≤ length bytes
  pub places : AreAt bytes 0 fields
  pub stops : (end ≡ length bytes) ⊎ ((e : WireError) × (field_at end (drop end bytes) ≡ Err e))

-- the last value of a field
abbrev pub later : {A : Type 0} → Option A → Option A → Option A
later before None = before
later before (Some x) = Some x

abbrev pub last_value : ℕ → List PlacedField → Option FieldValue
last_value id [] = None
last_value id (f ∷ fields) = later (if f.number == id then Some f.value else None) (last_value id fields)

abbrev pub last_part : ℕ → List (ℕ × Part) → Option Part
last_part id [] = None
last_part id (p ∷ parts) = later (if p.0 == id then Some p.1 else None) (last_part id parts)

-- a value that is a number, where it is asked for
abbrev pub number_part : Bool → Part → Option ℕ
number_part true (number n) = Some n
number_part true (eight n) = None
number_part true (four n) = None
number_part true (text bytes) = None
number_part false part = None

-- the last number that a field has, of the values that are numbers: a value of another kind is no value of the field
abbrev pub number_here : ℕ → ℕ × Part → Option ℕ
number_here id p = number_part (p.0 == id) p.1

abbrev pub last_number : ℕ → List (ℕ × Part) → Option ℕ
last_number id [] = None
last_number id (p ∷ parts) = later (number_here id p) (last_number id parts)

-- a value that is bytes, where it is asked for
abbrev pub text_part : Bool → Part → Option (List ℕ)
text_part true (number n) = None
text_part true (eight n) = None
text_part true (four n) = None
text_part true (text bytes) = Some bytes
text_part false part = None

-- the values of a field that are bytes, in their order: a value of another kind is no value of the field
abbrev pub text_here : ℕ → ℕ × Part → Option (List ℕ)
text_here id p = text_part (p.0 == id) p.1

abbrev pub texts : ℕ → List (ℕ × Part) → List (List ℕ)
texts id parts = filter_map (text_here id) parts
