-- The fields of a message of protobuf (Protocol Buffers, Encoding, Message Structure): a tag, which tells the
-- number of the field and the kind of its value, and the value.
use Rattle.std.specs.Prelude.{◌≡◌, ◌≤◌, ◌<◌, ◌++◌, ℕ, ◌+◌, ◌-◌, ◌*◌, ◌/◌, ◌%◌, ◌^◌, ◌==◌, nat_lt, nat_le, if◌then◌else◌, List, length, take, drop, Result, Ok, Err}
use Rattle.byteorder.specs.Endian.{little_bytes, little_number}
use Rattle.hb_wire.specs.declared.fault.WireError.{WireError}
use Rattle.hb_wire.specs.declared.fault.WireError.TheVariants.{Short, Overlong, BadWire}
use Rattle.wire_fields.specs.declared.field.Field.{Field}
use Rattle.wire_fields.specs.declared.field.FieldValue.{FieldValue}
use Rattle.wire_fields.specs.declared.field.FieldValue.TheVariants.{Varint, Fixed64, Fixed32, Bytes}
use Rattle.wire_fields.specs.Varint.{varint, varint_at}

-- a value, with its bytes where it has some
pub data Part : Type 0 where
  number : ℕ → Part
  eight : ℕ → Part
  four : ℕ → Part
  text : List ℕ → Part

-- the code of a value's kind
abbrev pub kind : Part → ℕ
kind (number n) = 0
kind (eight n) = 1
kind (four n) = 5
kind (text bytes) = 2

-- the bytes of a value
abbrev pub value_bytes : Part → List ℕ
value_bytes (number n) = varint n
value_bytes (eight n) = little_bytes 8 n
value_bytes (four n) = little_bytes 4 n
value_bytes (text bytes) = varint (length bytes) ++ bytes

-- the spelling of a field
unfoldable pub field_bytes : ℕ → Part → List ℕ
field_bytes id part = varint (8 * id + kind part) ++ value_bytes part

-- a number of a field, and a value, that have a spelling
abbrev pub Fits : Part → Type 0
Fits (number n) = n < 2 ^ 64
Fits (eight n) = n < 2 ^ 64
Fits (four n) = n < 2 ^ 32
Fits (text bytes) = length bytes < 2 ^ 64

abbrev pub IsId : ℕ → Type 0
IsId id = (1 ≤ id) × (id < 2 ^ 29)

-- ---- reading

infixl 10 ◌>>=◌
abbrev pub ◌>>=◌ : {A B : Type 0} → Result A WireError → (A → Result B WireError) → Result B WireError
(Ok x) >>= f = f x
(Err e) >>= f = Err e

-- a value of so many bytes
abbrev pub fixed_at : ℕ → (ℕ → FieldValue) → List ℕ → Result (FieldValue × ℕ) WireError
fixed_at width value bytes =
    if nat_lt (length bytes) width then Err (Short (width - length bytes)) else Ok (value (little_number width bytes), width)

-- so many bytes, behind their count, which takes some bytes itself
abbrev pub text_of : ℕ → ℕ × ℕ → List ℕ → Result (FieldValue × ℕ) WireError
text_of place n bytes =
    let left = length bytes - n.1 in
    if nat_lt left n.0 then Err (Short (n.0 - left)) else Ok (Bytes (place + n.1) n.0, n.1 + n.0)

-- the value at the front of the bytes, which stand at a place, and how many bytes it takes; or the first fault
unfoldable pub value_at : ℕ → ℕ → List ℕ → Result (FieldValue × ℕ) WireError
value_at tag place bytes =
    if tag % 8 == 0 then (do
      n ← varint_at bytes
      Ok (Varint n.0, n.1))
    else (if tag % 8 == 1 then fixed_at 8 Fixed64 bytes
    else (if tag % 8 == 5 then fixed_at 4 Fixed32 bytes
    else (if tag % 8 == 2 then (do
      n ← varint_at bytes
      text_of place n bytes)
    else Err (BadWire tag))))

-- the field whose tag, with how many bytes it takes, stands at the front of the bytes
abbrev pub field_of : ℕ → ℕ × ℕ → List ℕ → Result (Field × ℕ) WireError
field_of place tag bytes =
    if nat_le (2 ^ 32) tag.0 then Err Overlong
    else (if tag.0 / 8 == 0 then Err (BadWire tag.0)
    else (do
      value ← value_at tag.0 (place + tag.1) (drop tag.1 bytes)
      Ok (record { number = tag.0 / 8; value = value.0 }, tag.1 + value.1)))

-- the field at the front of the bytes, which stand at a place, and how many bytes it takes; or the first fault
unfoldable pub field_at : ℕ → List ℕ → Result (Field × ℕ) WireError
field_at place bytes = do
  tag ← varint_at bytes
  field_of place tag bytes

-- the value that a field of some bytes has
abbrev pub part_of : List ℕ → FieldValue → Part
part_of bytes (Varint n) = number n
part_of bytes (Fixed64 n) = eight n
part_of bytes (Fixed32 n) = four n
part_of bytes (Bytes from len) = text (take len (drop from bytes))

-- the field with this number and value was found, as long as its spelling
abbrev pub Finds : List ℕ → Result (Field × ℕ) WireError → ℕ → Part → Type 0
Finds bytes (Ok x) id part = (x.0.number ≡ id) × (part_of bytes x.0.value ≡ part) × (x.1 ≡ length (field_bytes id part))
Finds bytes (Err e) id part = ⊥
