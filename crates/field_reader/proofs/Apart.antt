-- Bytes with a fault are no record.
use Rattle.std.proofs.Common.{◌≡◌, ℕ, ◌+◌, ◌⊎◌, Bool, true, false, cond, eqb, List, [], ◌∷◌, ◌++◌, Option, Some, None, Result, Ok, Err, refl, sym, ap, subst, ◌∙◌, append_assoc, inl, inr}
use Rattle.std.proofs.lemmas.Bool.{eq-eqb}
use Rattle.wire_fields.specs.Fields.{Part, number, eight, four, text, field_bytes}
use Rattle.wire_fields.specs.Message.{IsMessage, IsPart, AreParts, message_bytes}
use Rattle.wire_fields.proofs.Messages.{GoesOn-message_bytes}
use Rattle.field_rules.specs.declared.unmade.Unmade.{Unmade}
use Rattle.field_rules.specs.declared.unmade.Unmade.TheVariants.{Missing, Needless}
use Rattle.field_rules.specs.Values.{Inner, OneValue}
use Rattle.field_rules.specs.Rules.{values_of, Spell, Repeated, Last, ◌&◌}
use Rattle.field_rules.specs.Record.{IsRecord}
use Rattle.field_rules.proofs.OneValues.{same_parts}
use Rattle.field_reader.specs.declared.fault.RecordError.{RecordError}
use Rattle.field_reader.specs.declared.fault.RecordError.TheVariants.{BadRecord, MissingField, NoMemory}
use Rattle.field_reader.specs.Faults.{IsAt, Whole, Within, Wrong, ◌or◌, BeginsWithNoField, FieldsFault, cut, wrong_field, RecordFault, of_fields, missing, needless, Excludes}
use Rattle.field_reader.proofs.Walks.{AreParts-push, message_bytes-push}

-- a value with a fault spells nothing
abbrev pub ValueExcludes : {V : Type 0} → (Part → V → Type 0) → (Part → ℕ → ℕ → RecordError → Type 0) → Type 0
ValueExcludes {V} spells faults = (x : Part) (at inside : ℕ) (e : RecordError) (v : V) → faults x at inside e → spells x v → e ≡ NoMemory

-- a field with a fault is among none that spell something
abbrev pub FieldExcludes : {S : Type 0} → (List (ℕ × Part) → S → Type 0) → (List (ℕ × Part) → ℕ × Part → ℕ → ℕ → RecordError → Type 0) → Type 0
FieldExcludes {S} rules wrong = (before others : List (ℕ × Part)) (p : ℕ × Part) (at inside : ℕ) (e : RecordError) (values : S) → wrong before p at inside e → rules (before ++ p ∷ others) values → e ≡ NoMemory

pub Whole-excludes : {V : Type 0} (spells : Part → V → Type 0) → ValueExcludes spells (Whole spells)
Whole-excludes spells x at inside (BadRecord place) v fault is = absurd (fault.1 v is)
Whole-excludes spells x at inside (MissingField id) v fault is = absurd fault
Whole-excludes spells x at inside NoMemory v fault is = refl

pub Within-excludes : {V : Type 0} (spells : List ℕ → V → Type 0) (fault : List ℕ → ℕ → RecordError → Type 0)
    → ((bytes : List ℕ) (place : ℕ) (e : RecordError) (v : V) → fault bytes place e → spells bytes v → e ≡ NoMemory) → ValueExcludes (Inner spells) (Within fault)
Within-excludes spells fault apart (number n) at inside e v told is = absurd is
Within-excludes spells fault apart (eight n) at inside e v told is = absurd is
Within-excludes spells fault apart (four n) at inside e v told is = absurd is
Within-excludes spells fault apart (text bytes) at inside e v told is = apart bytes inside e v told is

pub values_of-append : (id : ℕ) (xs ys : List (ℕ × Part)) → values_of id (xs ++ ys) ≡ values_of id xs ++ values_of id ys
values_of-append id [] ys = refl
values_of-append id (q ∷ xs) ys =
    let rest = values_of-append id xs ys in
    elim (eqb q.0 id) as (λ b. cond b (q.1 ∷ values_of id (xs ++ ys)) (values_of id (xs ++ ys)) ≡ cond b (q.1 ∷ values_of id xs) (values_of id xs) ++ values_of id ys) [
      | true ↦ ap (λ (zs : List Part). q.1 ∷ zs) rest
      | false ↦ rest
    ]

pub Spell-here : {V : Type 0} (spells : Part → V → Type 0) (xs : List Part) (x : Part) (ys : List Part) (vs : List V) → Spell spells (xs ++ x ∷ ys) vs → (v : V) × spells x v
Spell-here spells [] x ys [] each = absurd each
Spell-here spells [] x ys (v ∷ vs) each = (v, each.0)
Spell-here spells (y ∷ xs) x ys [] each = absurd each
Spell-here spells (y ∷ xs) x ys (v ∷ vs) each = Spell-here spells xs x ys vs each.1

one_of : {V : Type 0} (spells : Part → V → Type 0) (id : ℕ) (before others : List (ℕ × Part)) (p : ℕ × Part) (vs : List V) → p.0 ≡ id → Spell spells (values_of id (before ++ p ∷ others)) vs → (v : V) × spells p.1 v
one_of spells id before others p vs same each =
    let here : values_of id (p ∷ others) ≡ p.1 ∷ values_of id others = ap (λ (b : Bool). cond b (p.1 ∷ values_of id others) (values_of id others)) (eq-eqb p.0 id same) in
    let split = values_of-append id before (p ∷ others) ∙ ap (λ (zs : List Part). values_of id before ++ zs) here in
    Spell-here spells (values_of id before) p.1 (values_of id others) vs (subst (λ zs. Spell spells zs vs) split each)

wrong_here : {V : Type 0} (spells : Part → V → Type 0) (faults : Part → ℕ → ℕ → RecordError → Type 0) (id : ℕ) (before others : List (ℕ × Part)) (p : ℕ × Part) (at inside : ℕ) (e : RecordError) (vs : List V)
    → ValueExcludes spells faults → Wrong id faults p at inside e → Spell spells (values_of id (before ++ p ∷ others)) vs → e ≡ NoMemory
wrong_here spells faults id before others p at inside (BadRecord place) vs apart wrong each =
    let one = one_of spells id before others p vs wrong.0 each in apart p.1 at inside (BadRecord place) one.0 wrong.1 one.1
wrong_here spells faults id before others p at inside (MissingField n) vs apart wrong each =
    let one = one_of spells id before others p vs wrong.0 each in apart p.1 at inside (MissingField n) one.0 wrong.1 one.1
wrong_here spells faults id before others p at inside NoMemory vs apart wrong each = refl

pub Last-excludes : {V : Type 0} (spells : Part → V → Type 0) (faults : Part → ℕ → ℕ → RecordError → Type 0) (id : ℕ) → ValueExcludes spells faults → FieldExcludes (Last spells id) (λ before. Wrong id faults)
Last-excludes spells faults id apart before others p at inside e values wrong last = wrong_here spells faults id before others p at inside e last.all apart wrong last.each

pub Repeated-excludes : {V : Type 0} (spells : Part → V → Type 0) (faults : Part → ℕ → ℕ → RecordError → Type 0) (id : ℕ) → ValueExcludes spells faults → FieldExcludes (Repeated spells id) (λ before. Wrong id faults)
Repeated-excludes spells faults id apart before others p at inside e values wrong all = wrong_here spells faults id before others p at inside e values apart wrong all.each

pub &-excludes : {A B : Type 0} (f : List (ℕ × Part) → A → Type 0) (g : List (ℕ × Part) → B → Type 0) (u w : List (ℕ × Part) → ℕ × Part → ℕ → ℕ → RecordError → Type 0)
    → FieldExcludes f u → FieldExcludes g w → FieldExcludes (f & g) (λ before. u before or w before)
&-excludes f g u w first second before others p at inside e values wrong both = elim wrong [
  | inl here ↦ first before others p at inside e values.0 here both.0
  | inr there ↦ second before others p at inside e values.1 there both.1
]

some_front : (others : List (ℕ × Part)) (rest : List ℕ) → AreParts others → rest ≡ message_bytes others → (rest ≡ [] → ⊥) → BeginsWithNoField rest → ⊥
some_front [] rest fit is some none = some is
some_front (p ∷ others) rest fit is some none = none p (message_bytes others) fit.0 is

fields_apart : {S : Type 0} (rules : List (ℕ × Part) → S → Type 0) (wrong : List (ℕ × Part) → ℕ × Part → ℕ → ℕ → RecordError → Type 0) (bytes : List ℕ) (place : ℕ) (e : RecordError) (parts : List (ℕ × Part)) (values : S)
    → FieldExcludes rules wrong → FieldsFault rules wrong bytes place e → IsMessage bytes parts → rules parts values → e ≡ NoMemory
fields_apart rules wrong bytes place _ parts values apart (cut before vs rest fit spelled whole some none) message is =
    let on = GoesOn-message_bytes before parts rest fit message.0 (sym whole ∙ message.1) in
    absurd (some_front on.others rest on.fit on.behind some none)
fields_apart rules wrong bytes place _ parts values apart (wrong_field before vs p rest e fit spelled is_part whole told) message is =
    let front = before ++ p ∷ [] in
    let all : message_bytes front ++ rest ≡ message_bytes parts =
    ap (λ (m : List ℕ). m ++ rest) (message_bytes-push before p) ∙ append_assoc (message_bytes before) (field_bytes p.0 p.1) rest ∙ sym whole ∙ message.1 in
    let on = GoesOn-message_bytes front parts rest (AreParts-push before p fit is_part) message.0 all in
    let joined : parts ≡ before ++ p ∷ on.others = on.joined ∙ append_assoc before (p ∷ []) on.others in
    apart before on.others p _ _ e values told (subst (λ ps. rules ps values) joined is)

ok_or_err : {V : Type 0} (v : V) (u : Unmade) (r : Result V Unmade) → r ≡ Ok v → r ≡ Err u → ⊥
ok_or_err v u r a b = cc

-- bytes with a fault are no record
pub RecordFault-excludes : {S V : Type 0} (rules : List (ℕ × Part) → S → Type 0) (wrong : List (ℕ × Part) → ℕ × Part → ℕ → ℕ → RecordError → Type 0) (made : S → Result V Unmade) → OneValue rules → FieldExcludes rules wrong
    → (bytes : List ℕ) (place : ℕ) (e : RecordError) (v : V) → RecordFault rules wrong made bytes place e → IsRecord rules made bytes v → e ≡ NoMemory
RecordFault-excludes rules wrong made one apart bytes place _ v (of_fields e fault) is = fields_apart rules wrong bytes place e is.parts is.values apart fault is.message is.spelled
RecordFault-excludes rules wrong made one apart bytes place _ v (missing parts values id message spelled lacks) is =
    let same = same_parts bytes parts is.parts message is.message in
    let values_same = one is.parts values is.values (subst (λ ps. rules ps values) same spelled) is.spelled in
    absurd (ok_or_err v (Missing id) (made values) (ap made values_same ∙ is.whole) lacks)
RecordFault-excludes rules wrong made one apart bytes place _ v (needless parts values id at message spelled lacks there) is =
    let same = same_parts bytes parts is.parts message is.message in
    let values_same = one is.parts values is.values (subst (λ ps. rules ps values) same spelled) is.spelled in
    absurd (ok_or_err v (Needless id) (made values) (ap made values_same ∙ is.whole) lacks)
