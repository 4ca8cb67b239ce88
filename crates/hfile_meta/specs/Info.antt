-- The file info of an HFile (HBase Reference Guide, HFile format, file info; HFileInfo): `PBUF`, and a message with its
-- length before it, whose field 1 is repeated: each value of it is a message that has a key and a value.
use Rattle.std.specs.Prelude.{◌≡◌, ◌<◌, ℕ, ◌^◌, Bool, true, false, ◌&&◌, not, nat_eq, if◌then◌else◌, List, [], ◌∷◌, ◌++◌, length, codes, Option, Some, None, Result, Ok, Err}
use Rattle.std.specs.List.{list_any}
use Rattle.std.specs.Cmp.Lexicographic.{pointwise}
use Rattle.wire_fields.specs.Fields.{Part}
use Rattle.wire_fields.specs.Message.{IsMessage, texts, later}
use Rattle.hfile_meta.specs.declared.fault.MetaError.{MetaError}
use Rattle.hfile_meta.specs.declared.fault.MetaError.TheVariants as errors
use Rattle.hfile_meta.specs.declared.info.Info.{Info}
use Rattle.hfile_meta.specs.Trailer.{delimited}

-- the last of a list
abbrev pub last_of : {A : Type 0} → List A → Option A
last_of [] = None
last_of (x ∷ xs) = later (Some x) (last_of xs)

-- a message that has this key in its field 1 and this value in its field 2, each the last one there
abbrev pub IsPair : List ℕ → List ℕ × List ℕ → Type 0
IsPair bytes pair = (parts : List (ℕ × Part)) × IsMessage bytes parts × (last_of (texts 1 parts) ≡ Some pair.0) × (last_of (texts 2 parts) ≡ Some pair.1)

abbrev pub ArePairs : List (List ℕ) → List (List ℕ × List ℕ) → Type 0
ArePairs [] [] = Unit {0}
ArePairs (bytes ∷ more) (pair ∷ pairs) = IsPair bytes pair × ArePairs more pairs
ArePairs [] (pair ∷ pairs) = ⊥
ArePairs (bytes ∷ more) [] = ⊥

-- the content is a file info of these pairs
pub record IsInfo (content : List ℕ) (pairs : List (List ℕ × List ℕ)) : Type 0 where
  pub message : List ℕ
  pub parts : List (ℕ × Part)
  pub small : length message < 2 ^ 64
  pub whole : content ≡ codes "PBUF" ++ delimited message
  pub is : IsMessage message parts
  pub are : ArePairs (texts 1 parts) pairs

abbrev pub same : List ℕ → List ℕ → Bool
same = pointwise nat_eq

-- a pair that says that the data blocks are encoded (HBase HFileDataBlockEncoder.DATA_BLOCK_ENCODING)
abbrev pub is_encoding : List ℕ × List ℕ → Bool
is_encoding pair = same pair.0 (codes "DATA_BLOCK_ENCODING") && not (same pair.1 (codes "NONE"))

abbrev pub is_encoded : List (List ℕ × List ℕ) → Bool
is_encoded pairs = list_any is_encoding pairs

-- the value of the last pair with a key
abbrev pub value_here : List ℕ → List ℕ × List ℕ → Option (List ℕ)
value_here key (k, value) = if same k key then Some value else None

abbrev pub last_value : List ℕ → List (List ℕ × List ℕ) → Option (List ℕ)
last_value key [] = None
last_value key (pair ∷ pairs) = later (value_here key pair) (last_value key pairs)

-- each cell has its sequence number: the last pair with this key says version 1 (HBase HFileWriterImpl)
abbrev pub is_version_one : Option (List ℕ) → Bool
is_version_one None = false
is_version_one (Some value) = same value (0 ∷ 0 ∷ 0 ∷ 1 ∷ [])

abbrev pub with_numbers : List (List ℕ × List ℕ) → Bool
with_numbers pairs = is_version_one (last_value (codes "KEY_VALUE_VERSION") pairs)

-- there is one list of pairs for a content
abbrev pub HasOnePairs : List ℕ → Type 0
HasOnePairs content = (pairs others : List (List ℕ × List ℕ)) → IsInfo content pairs → IsInfo content others → pairs ≡ others

-- what a file info is answered with: its pairs, or that the blocks are encoded, or that it is none
abbrev pub IsInfoAnswer : List ℕ → Result Info MetaError → Type 0
IsInfoAnswer content (Ok info) = IsInfo content info.pairs × (is_encoded info.pairs ≡ false)
IsInfoAnswer content (Err errors.Encoded) = (pairs : List (List ℕ × List ℕ)) × IsInfo content pairs × (is_encoded pairs ≡ true)
IsInfoAnswer content (Err (errors.BadInfo at)) = (at ≡ 0) × ((pairs : List (List ℕ × List ℕ)) → IsInfo content pairs → ⊥)
IsInfoAnswer content (Err errors.NoMemory) = Unit {0}
IsInfoAnswer content (Err _) = ⊥
