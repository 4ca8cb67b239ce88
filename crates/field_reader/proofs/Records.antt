-- Records of what the walk over a message's fields found.
use Rattle.std.proofs.Common.{◌≡◌, ℕ, List, Option, Some, None, Result, Ok, Err, refl, sym, ap, subst, ◌∙◌}
use Rattle.std.specs.Prelude.{IfOk, IfErr}
use Rattle.wire_fields.specs.Fields.{Part}
use Rattle.wire_fields.specs.Message.{IsMessage}
use Rattle.field_rules.specs.declared.unmade.Unmade.{Unmade}
use Rattle.field_rules.specs.declared.unmade.Unmade.TheVariants.{Missing, Needless}
use Rattle.field_rules.specs.Record.{IsRecord}
use Rattle.field_reader.specs.declared.fault.RecordError.{RecordError}
use Rattle.field_reader.specs.declared.fault.RecordError.TheVariants.{BadRecord, MissingField, NoMemory}
use Rattle.field_reader.specs.Faults.{FieldsFault, cut, wrong_field, RecordFault, of_fields, missing, needless, last_place, IsUntold}

-- a record is made of the fields that were found
pub IsRecord-told : {S V : Type 0} (rules : List (ℕ × Part) → S → Type 0) (made : S → Result V Unmade) (bytes : List ℕ) (s : S) (result : Result V RecordError)
    → (parts : List (ℕ × Part)) × IsMessage bytes parts × rules parts s → IfOk result (λ v. made s ≡ Ok v) → IfOk result (IsRecord rules made bytes)
IsRecord-told rules made bytes s (Ok v) found whole = record { parts = found.0; values = s; message = found.1; spelled = found.2; whole = whole }
IsRecord-told rules made bytes s (Err e) found whole = whole

module _ {S T V : Type 0} (rules : List (ℕ × Part) → S → Type 0) (rules' : List (ℕ × Part) → T → Type 0) (view : S → T)
    (wrong : List (ℕ × Part) → ℕ × Part → ℕ → ℕ → RecordError → Type 0) (made : T → Result V Unmade) (bytes : List ℕ) (place : ℕ)
    (seen : (parts : List (ℕ × Part)) (s : S) → rules parts s → rules' parts (view s)) where
  FieldsFault-view : (e : RecordError) → FieldsFault rules wrong bytes place e → FieldsFault rules' wrong bytes place e
  FieldsFault-view _ (cut parts values rest fit spelled whole some none) = cut parts (view values) rest fit (seen parts values spelled) whole some none
  FieldsFault-view _ (wrong_field parts values p rest e fit spelled is whole fault) = wrong_field parts (view values) p rest e fit (seen parts values spelled) is whole fault

  -- a fault of the fields is one of the record
  pub RecordFault-fields : (e : RecordError) → FieldsFault rules wrong bytes place e → RecordFault rules' wrong made bytes place e
  RecordFault-fields e fault = of_fields e (FieldsFault-view e fault)

  untold : (s : S) (parts : List (ℕ × Part)) → IsMessage bytes parts → rules parts s → ((id : ℕ) → made (view s) ≡ Err (Needless id) → (at : ℕ) × (last_place id 0 parts ≡ Some at))
      → (r : Result V Unmade) → made (view s) ≡ r → (e : RecordError) → IsUntold r bytes place e → RecordFault rules' wrong made bytes place e
  untold s parts message spelled stands (Ok v) is e told = absurd told
  untold s parts message spelled stands (Err (Missing id)) is e told =
      subst (λ (x : RecordError). RecordFault rules' wrong made bytes place x) (sym told) (missing parts (view s) id message (seen parts s spelled) is)
  untold s parts message spelled stands (Err (Needless id)) is e told =
      let there = stands id is in
      subst (λ (x : RecordError). RecordFault rules' wrong made bytes place x) (sym (told parts there.0 message there.1)) (needless parts (view s) id there.0 message (seen parts s spelled) is there.1)

  pub RecordFault-told : (s : S) (result : Result V RecordError) → (found : (parts : List (ℕ × Part)) × IsMessage bytes parts × rules parts s)
      → ((id : ℕ) → made (view s) ≡ Err (Needless id) → (at : ℕ) × (last_place id 0 found.0 ≡ Some at))
      → IfErr result (IsUntold (made (view s)) bytes place) → IfErr result (RecordFault rules' wrong made bytes place)
  RecordFault-told s (Ok v) found stands fault = fault
  RecordFault-told s (Err e) found stands fault = untold s found.0 found.1 found.2 stands (made (view s)) refl e fault
