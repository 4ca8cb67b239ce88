-- No field of these messages is needless, but the reference of a file that is no half.
use Rattle.std.proofs.Common.{◌≡◌, ◌≢◌, ℕ, ◌+◌, true, false, eqb, cond, List, [], ◌∷◌, length, Option, Some, None, Result, Ok, Err, ◌⊎◌, inl, refl, ap, subst}
use Rattle.std.specs.Prelude.{IfErr}
use Rattle.wire_fields.specs.Fields.{Part, field_bytes}
use Rattle.wire_fields.specs.Message.{later}
use Rattle.field_rules.specs.declared.unmade.Unmade.TheVariants.{Needless}
use Rattle.field_rules.specs.Rules.{values_of, Spell, last_of, Last}
use Rattle.field_reader.specs.declared.fault.RecordError.{RecordError}
use Rattle.field_reader.specs.Faults.{last_place, here_place}
use Rattle.hb_records.specs.declared.table_schema.TableSchema.{TableSchema}
use Rattle.snapshot_records.specs.declared.manifest.RegionManifest.{RegionManifest}
use Rattle.snapshot_records.specs.declared.reference.Reference.{Reference}
use Rattle.snapshot_records.specs.Schema.{attribute_made, family_made, schema_made}
use Rattle.snapshot_records.specs.Files.{File, FileValues, file_made, files_made}
use Rattle.snapshot_records.specs.Manifest.{PartValues, part_made, manifest_made}

pub attribute_needs : (v : Option (List ℕ) × Option (List ℕ)) (id : ℕ) → attribute_made v ≡ Err (Needless id) → ⊥
attribute_needs (None, value) id e = cc
attribute_needs (Some name, value) id e = cc

pub family_needs : (v : Option (List ℕ) × List (Option ℕ)) (id : ℕ) → family_made v ≡ Err (Needless id) → ⊥
family_needs (None, counts) id e = cc
family_needs (Some name, counts) id e = cc

pub schema_needs : (v : Option (List ℕ) × List (List ℕ × ℕ)) (id : ℕ) → schema_made v ≡ Err (Needless id) → ⊥
schema_needs (None, families) id e = cc
schema_needs (Some table, families) id e = cc

pub files_needs : (v : Option (List ℕ) × List File) (id : ℕ) → files_made v ≡ Err (Needless id) → ⊥
files_needs (None, files) id e = cc
files_needs (Some name, files) id e = cc

pub part_needs : (v : PartValues) (id : ℕ) → part_made v ≡ Err (Needless id) → ⊥
part_needs (version, (None, (families, seq))) id e = cc
part_needs (version, (Some info, (families, None))) id e = cc
part_needs (version, (Some info, (families, Some seq))) id e = cc

pub manifest_needs : (v : Option TableSchema × List RegionManifest) (id : ℕ) → manifest_made v ≡ Err (Needless id) → ⊥
manifest_needs (None, regions) id e = cc
manifest_needs (Some schema, regions) id e = cc

later_some : {A : Type 0} (o : Option A) (a : A) → (b : A) × (later o (Some a) ≡ Some b)
later_some o a = (a, refl)

later_here : {A : Type 0} (a : A) (o : Option A) → (b : A) × (later (Some a) o ≡ Some b)
later_here a None = (a, refl)
later_here a (Some b) = (b, refl)

-- a field that has a value stands somewhere
last_place-some : (id at : ℕ) (parts : List (ℕ × Part)) → values_of id parts ≢ [] → (there : ℕ) × (last_place id at parts ≡ Some there)
last_place-some id at [] some = absurd (some refl)
last_place-some id at (p ∷ parts) some =
    let next = at + length (field_bytes p.0 p.1) in
    elim (eqb p.0 id) as (λ b. cond b (p.1 ∷ values_of id parts) (values_of id parts) ≢ [] → (there : ℕ) × (later (here_place b at) (last_place id next parts) ≡ Some there)) [
      | true ↦ λ _. later_here at (last_place id next parts)
      | false ↦ λ more. let rest = last_place-some id next parts more in (rest.0, ap (later None) rest.1)
    ] some

some_last : {V : Type 0} (spells : Part → V → Type 0) (xs : List Part) (vs : List V) (v : V) → Spell spells xs vs → Some v ≡ last_of vs → xs ≢ []
some_last spells [] [] v each is none = cc
some_last spells [] (w ∷ vs) v each is none = absurd each
some_last spells (x ∷ xs) vs v each is none = cc

-- a reference that is needless stands where it was found
pub file_needs : (spells : Part → Reference → Type 0) (parts : List (ℕ × Part)) (v : FileValues) → Last spells 2 parts v.1.0 → (id : ℕ) → file_made v ≡ Err (Needless id)
    → (at : ℕ) × (last_place id 0 parts ≡ Some at)
file_needs spells parts (None, (half, size)) last id e = absurd cc
file_needs spells parts (Some (name, true), (None, size)) last id e = absurd cc
file_needs spells parts (Some (name, true), (Some half, size)) last id e = absurd cc
file_needs spells parts (Some (name, false), (None, size)) last id e = absurd cc
file_needs spells parts (Some (name, false), (Some half, size)) last id e =
    let found = last_place-some 2 0 parts (some_last spells (values_of 2 parts) last.all half last.each last.counts) in
    let same : 2 ≡ id = cc in
    (found.0, subst (λ n. last_place n 0 parts ≡ Some found.0) same found.1)

-- a fault is one of two
pub fault_first : {V : Type 0} (result : Result V RecordError) (p q : RecordError → Type 0) → IfErr result p → IfErr result (λ e. p e ⊎ q e)
fault_first (Ok v) p q fault = fault
fault_first (Err e) p q fault = inl fault
