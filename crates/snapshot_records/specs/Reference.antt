-- A reference to one half of a file (HBase Reference): after the prefix PBUF a message of
--   1 the row at which the file was split, required
--   2 the half, required: TOP 0, from the row on, or BOTTOM 1
use Rattle.std.specs.Prelude.{◌≡◌, ◌≤◌, ℕ, List, ◌++◌, length, codes, Bool, true, false, Option, Result, Ok}
use Rattle.wire_fields.specs.Fields.{Part, number}
use Rattle.field_rules.specs.declared.unmade.Unmade.{Unmade}
use Rattle.field_rules.specs.Values.{Text}
use Rattle.field_rules.specs.Rules.{Last, ◌&◌}
use Rattle.field_rules.specs.Record.{◌>>=◌, need, IsRecord}
use Rattle.snapshot_records.specs.declared.reference.Reference.{Reference}

-- a row at which a file can be split
pub record IsSplitRow (row : List ℕ) : Type 0 where
  pub least : 1 ≤ length row
  pub most : length row ≤ 32767

-- the code of a half
abbrev pub half_code : Bool → ℕ
half_code true = 0
half_code false = 1

abbrev pub IsHalf : Part → Bool → Type 0
IsHalf x top = x ≡ number (half_code top)

abbrev pub reference_rules : List (ℕ × Part) → Option (List ℕ) × Option Bool → Type 0
reference_rules = Last (Text IsSplitRow) 1 & Last IsHalf 2

abbrev pub reference_made : Option (List ℕ) × Option Bool → Result Reference Unmade
reference_made values = do
  row ← need 1 values.0
  top ← need 2 values.1
  Ok (record { row = row; top = top })

-- the message without its prefix, as it stands in a manifest
abbrev pub IsReferenceMessage : List ℕ → Reference → Type 0
IsReferenceMessage = IsRecord reference_rules reference_made

-- the bytes of a file that is a half
pub record IsReference (bytes : List ℕ) (reference : Reference) : Type 0 where
  pub rest : List ℕ
  pub prefix : bytes ≡ codes "PBUF" ++ rest
  pub message : IsReferenceMessage rest reference
