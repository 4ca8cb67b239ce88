-- The files of a family in a manifest (HBase SnapshotRegionManifest, FamilyFiles and StoreFile):
--   1 the family's name, required
--   2 a file, repeated:
--       1 its name, required
--       2 which half it is: there exactly where the name is that of a half
--       3 its size in bytes, or 0
use Rattle.std.specs.Prelude.{◌≡◌, ◌⊎◌, ℕ, List, map, Bool, true, false, Option, Some, None, unwrap_or, Result, Ok, Err}
use Rattle.std.specs.List.{flat_map}
use Rattle.wire_fields.specs.Fields.{Part}
use Rattle.field_rules.specs.declared.unmade.Unmade.{Unmade}
use Rattle.field_rules.specs.declared.unmade.Unmade.TheVariants.{Missing, Needless}
use Rattle.field_rules.specs.Values.{Text, Inner, AnyNumber}
use Rattle.field_rules.specs.Rules.{Last, Repeated, ◌&◌}
use Rattle.field_rules.specs.Record.{◌>>=◌, need, IsRecord}
use Rattle.hb_names.specs.FamilyName.{IsFamilyName}
use Rattle.hb_file_names.specs.FileName.{IsFileName}
use Rattle.hb_file_names.specs.LinkName.{IsLinkName}
use Rattle.hb_file_names.specs.RefName.{IsRefName}
use Rattle.snapshot_records.specs.declared.reference.Reference.{Reference}
use Rattle.snapshot_records.specs.Reference.{IsReferenceMessage}

-- the name of a file, a link or a half, and whether it is that of a half
abbrev pub IsEntryName : List ℕ → List ℕ × Bool → Type 0
IsEntryName bytes (name, true) = (name ≡ bytes) × IsRefName bytes
IsEntryName bytes (name, false) = (name ≡ bytes) × (IsFileName bytes ⊎ IsLinkName bytes) × (IsRefName bytes → ⊥)

-- the name, the half if it is one, and the size
abbrev pub File : Type 0
File = List ℕ × Option Reference × ℕ

abbrev pub FileValues : Type 0
FileValues = Option (List ℕ × Bool) × (Option Reference × Option ℕ)

abbrev pub file_rules : List (ℕ × Part) → FileValues → Type 0
file_rules = Last (Inner IsEntryName) 1 & (Last (Inner IsReferenceMessage) 2 & Last AnyNumber 3)

-- a half has its reference, and nothing else has one
abbrev pub half_made : Bool → Option Reference → Result (Option Reference) Unmade
half_made true None = Err (Missing 2)
half_made true (Some reference) = Ok (Some reference)
half_made false None = Ok None
half_made false (Some reference) = Err (Needless 2)

abbrev pub file_made : FileValues → Result File Unmade
file_made (name, (reference, size)) = do
  name ← need 1 name
  half ← half_made name.1 reference
  Ok (name.0, half, unwrap_or size 0)

abbrev pub IsFile : List ℕ → File → Type 0
IsFile = IsRecord file_rules file_made

abbrev pub files_rules : List (ℕ × Part) → Option (List ℕ) × List File → Type 0
files_rules = Last (Text IsFamilyName) 1 & Repeated (Inner IsFile) 2

abbrev pub files_made : Option (List ℕ) × List File → Result (List ℕ × List File) Unmade
files_made values = do
  name ← need 1 values.0
  Ok (name, values.1)

abbrev pub IsFamilyFiles : List ℕ → List ℕ × List File → Type 0
IsFamilyFiles = IsRecord files_rules files_made

-- each file with its family
abbrev pub entries : List (List ℕ × List File) → List (List ℕ × List ℕ × Option Reference × ℕ)
entries families = flat_map (λ (f : List ℕ × List File). map (λ (x : File). (f.0, x.0, x.1, x.2)) f.1) families
