-- Bytes have one fault of a message, where the rules of its fields leave each field one.
use Rattle.std.proofs.Common.{◌≡◌, ℕ, ◌+◌, ◌⊎◌, Bool, true, false, cond, eqb, List, [], ◌∷◌, ◌++◌, length, Option, Some, None, Result, Ok, Err, refl, sym, ap, subst, ◌∙◌, inl, inr}
use Rattle.std.proofs.lemmas.Bool.{eq-eqb}
use Rattle.wire_fields.specs.Fields.{Part, number, eight, four, text, field_bytes}
use Rattle.wire_fields.specs.Message.{IsMessage, IsPart, AreParts, message_bytes}
use Rattle.field_rules.specs.declared.unmade.Unmade.{Unmade}
use Rattle.field_rules.specs.declared.unmade.Unmade.TheVariants.{Missing, Needless}
use Rattle.field_rules.specs.Values.{Inner, OneValue}
use Rattle.field_rules.specs.Rules.{Repeated, Last, ◌&◌}
use Rattle.field_rules.specs.Record.{IsRecord}
use Rattle.field_rules.proofs.OneValues.{same_parts, OneValue-Inner, OneValue-Repeated, OneValue-Last, OneValue-&, OneValue-IsRecord}
use Rattle.field_reader.specs.declared.fault.RecordError.{RecordError}
use Rattle.field_reader.specs.declared.fault.RecordError.TheVariants.{BadRecord, MissingField, NoMemory}
use Rattle.field_reader.specs.Faults.{IsAt, Whole, Within, Wrong, ◌or◌, header, FieldsFault, cut, wrong_field, RecordFault, of_fields, missing, needless, last_place}
use Rattle.field_reader.proofs.Apart.{ValueExcludes, FieldExcludes, Whole-excludes, Within-excludes, Last-excludes, Repeated-excludes, &-excludes, RecordFault-excludes}
use Rattle.fault_laws.specs.One.{IsSame}
use Rattle.fault_laws.proofs.Fronts.{fronts, same, left, right, one_field}

pub IsSame-sym : (e f : RecordError) → IsSame e f → IsSame f e
IsSame-sym e f (inl none) = inr (inl none)
IsSame-sym e f (inr (inl none)) = inl none
IsSame-sym e f (inr (inr both)) = inr (inr (sym both))

pub IsSame-at : (at : ℕ) (e f : RecordError) → IsAt at e → IsAt at f → IsSame e f
IsSame-at at NoMemory f a b = inl refl
IsSame-at at (BadRecord x) NoMemory a b = inr (inl refl)
IsSame-at at (BadRecord x) (BadRecord y) a b = inr (inr (ap BadRecord (a ∙ sym b)))
IsSame-at at (BadRecord x) (MissingField y) a b = absurd b
IsSame-at at (MissingField x) f a b = absurd a

-- ---- values

-- a value spells one thing and has one fault, and not both
pub record IsValueTold {V : Type 0} (spells : Part → V → Type 0) (faults : Part → ℕ → ℕ → RecordError → Type 0) : Type 0 where
  pub one : OneValue spells
  pub excludes : ValueExcludes spells faults
  pub alike : (x : Part) (at inside : ℕ) (e f : RecordError) → faults x at inside e → faults x at inside f → IsSame e f

-- bytes are one record and have one fault, and not both
pub record IsMessageTold {V : Type 0} (spells : List ℕ → V → Type 0) (fault : List ℕ → ℕ → RecordError → Type 0) : Type 0 where
  pub one : OneValue spells
  pub excludes : (bytes : List ℕ) (place : ℕ) (e : RecordError) (v : V) → fault bytes place e → spells bytes v → e ≡ NoMemory
  pub alike : (bytes : List ℕ) (place : ℕ) (e f : RecordError) → fault bytes place e → fault bytes place f → IsSame e f

whole_alike : {V : Type 0} (spells : Part → V → Type 0) (x : Part) (at inside : ℕ) (e f : RecordError) → Whole spells x at inside e → Whole spells x at inside f → IsSame e f
whole_alike spells x at inside NoMemory f a b = inl refl
whole_alike spells x at inside (BadRecord p) NoMemory a b = inr (inl refl)
whole_alike spells x at inside (BadRecord p) (BadRecord q) a b = inr (inr (ap BadRecord (a.0 ∙ sym b.0)))
whole_alike spells x at inside (BadRecord p) (MissingField q) a b = absurd b
whole_alike spells x at inside (MissingField p) f a b = absurd a

pub Whole-told : {V : Type 0} (spells : Part → V → Type 0) → OneValue spells → IsValueTold spells (Whole spells)
Whole-told spells one = record { one = one; excludes = Whole-excludes spells; alike = whole_alike spells }

within_alike : (fault : List ℕ → ℕ → RecordError → Type 0) → ((bytes : List ℕ) (place : ℕ) (e f : RecordError) → fault bytes place e → fault bytes place f → IsSame e f)
    → (x : Part) (at inside : ℕ) (e f : RecordError) → Within fault x at inside e → Within fault x at inside f → IsSame e f
within_alike fault alike (number n) at inside e f a b = IsSame-at at e f a b
within_alike fault alike (eight n) at inside e f a b = IsSame-at at e f a b
within_alike fault alike (four n) at inside e f a b = IsSame-at at e f a b
within_alike fault alike (text bytes) at inside e f a b = alike bytes inside e f a b

pub Within-told : {V : Type 0} (spells : List ℕ → V → Type 0) (fault : List ℕ → ℕ → RecordError → Type 0) → IsMessageTold spells fault → IsValueTold (Inner spells) (Within fault)
Within-told spells fault told =
    record { one = OneValue-Inner spells told.one; excludes = Within-excludes spells fault told.excludes; alike = within_alike fault told.alike }

-- ---- fields

abbrev pub Has : List ℕ → ℕ → Type 0
Has [] n = ⊥
Has (id ∷ ids) n = (n ≡ id) ⊎ Has ids n

abbrev pub lacks : ℕ → List ℕ → Bool
lacks id [] = true
lacks id (x ∷ ids) = cond (eqb id x) false (lacks id ids)

behind_cond : (b c : Bool) → cond b false c ≡ true → c ≡ true
behind_cond true c e = cc
behind_cond false c e = e

not_first : (b c : Bool) → b ≡ true → cond b false c ≡ true → ⊥
not_first true c is e = cc
not_first false c is e = cc

not_both : (id n : ℕ) (ids : List ℕ) → n ≡ id → Has ids n → lacks id ids ≡ true → ⊥
not_both id n [] is has none = has
not_both id n (x ∷ ids) is (inl here) none = not_first (eqb id x) (lacks id ids) (eq-eqb id x (sym is ∙ here)) none
not_both id n (x ∷ ids) is (inr more) none = not_both id n ids is more (behind_cond (eqb id x) (lacks id ids) none)

-- fields spell one thing; a field that is wrong has one of these numbers and one fault, and then they spell nothing
pub record IsTold {S : Type 0} (rules : List (ℕ × Part) → S → Type 0) (wrong : List (ℕ × Part) → ℕ × Part → ℕ → ℕ → RecordError → Type 0) (ids : List ℕ) : Type 0 where
  pub one : OneValue rules
  pub excludes : FieldExcludes rules wrong
  pub numbered : (before : List (ℕ × Part)) (p : ℕ × Part) (at inside : ℕ) (e : RecordError) → wrong before p at inside e → (e ≡ NoMemory) ⊎ Has ids p.0
  pub alike : (before : List (ℕ × Part)) (p : ℕ × Part) (at inside : ℕ) (e f : RecordError) → wrong before p at inside e → wrong before p at inside f → IsSame e f

pub wrong_numbered : (id : ℕ) (faults : Part → ℕ → ℕ → RecordError → Type 0) (p : ℕ × Part) (at inside : ℕ) (e : RecordError) → Wrong id faults p at inside e → (e ≡ NoMemory) ⊎ Has (id ∷ []) p.0
wrong_numbered id faults p at inside (BadRecord x) a = inr (inl a.0)
wrong_numbered id faults p at inside (MissingField x) a = inr (inl a.0)
wrong_numbered id faults p at inside NoMemory a = inl refl

pub wrong_alike : (id : ℕ) (faults : Part → ℕ → ℕ → RecordError → Type 0) → ((x : Part) (at inside : ℕ) (e f : RecordError) → faults x at inside e → faults x at inside f → IsSame e f)
    → (p : ℕ × Part) (at inside : ℕ) (e f : RecordError) → Wrong id faults p at inside e → Wrong id faults p at inside f → IsSame e f
wrong_alike id faults alike p at inside NoMemory f a b = inl refl
wrong_alike id faults alike p at inside (BadRecord x) NoMemory a b = inr (inl refl)
wrong_alike id faults alike p at inside (BadRecord x) (BadRecord y) a b = alike p.1 at inside (BadRecord x) (BadRecord y) a.1 b.1
wrong_alike id faults alike p at inside (BadRecord x) (MissingField y) a b = alike p.1 at inside (BadRecord x) (MissingField y) a.1 b.1
wrong_alike id faults alike p at inside (MissingField x) NoMemory a b = inr (inl refl)
wrong_alike id faults alike p at inside (MissingField x) (BadRecord y) a b = alike p.1 at inside (MissingField x) (BadRecord y) a.1 b.1
wrong_alike id faults alike p at inside (MissingField x) (MissingField y) a b = alike p.1 at inside (MissingField x) (MissingField y) a.1 b.1

pub Last-told : {V : Type 0} (spells : Part → V → Type 0) (faults : Part → ℕ → ℕ → RecordError → Type 0) (id : ℕ) → IsValueTold spells faults → IsTold (Last spells id) (λ before. Wrong id faults) (id ∷ [])
Last-told spells faults id told = record {
  one = OneValue-Last spells id told.one;
  excludes = Last-excludes spells faults id told.excludes;
  numbered = λ before. wrong_numbered id faults;
  alike = λ before. wrong_alike id faults told.alike;
}

pub Repeated-told : {V : Type 0} (spells : Part → V → Type 0) (faults : Part → ℕ → ℕ → RecordError → Type 0) (id : ℕ) → IsValueTold spells faults → IsTold (Repeated spells id) (λ before. Wrong id faults) (id ∷ [])
Repeated-told spells faults id told = record {
  one = OneValue-Repeated spells id told.one;
  excludes = Repeated-excludes spells faults id told.excludes;
  numbered = λ before. wrong_numbered id faults;
  alike = λ before. wrong_alike id faults told.alike;
}

apart : (id : ℕ) (ids : List ℕ) (n : ℕ) (e f : RecordError) → lacks id ids ≡ true → (e ≡ NoMemory) ⊎ Has (id ∷ []) n → (f ≡ NoMemory) ⊎ Has ids n → IsSame e f
apart id ids n e f none (inl lost) b = inl lost
apart id ids n e f none (inr has) (inl lost) = inr (inl lost)
apart id ids n e f none (inr (inl is)) (inr more) = absurd (not_both id n ids is more none)
apart id ids n e f none (inr (inr never)) (inr more) = absurd never

pub &-told : {A B : Type 0} (f : List (ℕ × Part) → A → Type 0) (g : List (ℕ × Part) → B → Type 0) (u w : List (ℕ × Part) → ℕ × Part → ℕ → ℕ → RecordError → Type 0) (id : ℕ) (ids : List ℕ)
    → lacks id ids ≡ true → IsTold f u (id ∷ []) → IsTold g w ids → IsTold (f & g) (λ before. u before or w before) (id ∷ ids)
&-told f g u w id ids none first second = record {
  one = OneValue-& f g first.one second.one;
  excludes = &-excludes f g u w first.excludes second.excludes;
  numbered = λ before p at inside e wrong. elim wrong [
    | inl a ↦ elim (first.numbered before p at inside e a) [
      | inl lost ↦ inl lost
      | inr has ↦ elim has [
        | inl is ↦ inr (inl is)
        | inr never ↦ absurd never
      ]
    ]
    | inr b ↦ elim (second.numbered before p at inside e b) [
      | inl lost ↦ inl lost
      | inr has ↦ inr (inr has)
    ]
  ];
  alike = λ before p at inside x y one other. elim one [
    | inl a ↦ elim other [
      | inl b ↦ first.alike before p at inside x y a b
      | inr b ↦ apart id ids p.0 x y none (first.numbered before p at inside x a) (second.numbered before p at inside y b)
    ]
    | inr a ↦ elim other [
      | inl b ↦ IsSame-sym y x (apart id ids p.0 y x none (first.numbered before p at inside y b) (second.numbered before p at inside x a))
      | inr b ↦ second.alike before p at inside x y a b
    ]
  ];
}

-- ---- messages

-- fields that go on behind a wrong one spell nothing
behind : {S : Type 0} (rules : List (ℕ × Part) → S → Type 0) (wrong : List (ℕ × Part) → ℕ × Part → ℕ → ℕ → RecordError → Type 0) → FieldExcludes rules wrong
    → (xs ys others : List (ℕ × Part)) (p q : ℕ × Part) (rest more : List ℕ) (values : S) (at inside : ℕ) (f : RecordError) → rules xs values → xs ≡ ys ++ q ∷ others
    → IsPart p → IsPart q → field_bytes p.0 p.1 ++ rest ≡ field_bytes q.0 q.1 ++ more → wrong ys p at inside f → f ≡ NoMemory
behind rules wrong excludes xs ys others p q rest more values at inside f spelled fields is_p is_q starts bad =
    let first : p ≡ q = one_field p q rest more is_p is_q starts in
    excludes ys others p at inside f values bad (subst (λ zs. rules zs values) (fields ∙ ap (λ (x : ℕ × Part). ys ++ x ∷ others) (sym first)) spelled)

cut_wrong : {S : Type 0} (rules : List (ℕ × Part) → S → Type 0) (wrong : List (ℕ × Part) → ℕ × Part → ℕ → ℕ → RecordError → Type 0) → FieldExcludes rules wrong
    → (bytes a rest : List ℕ) (xs ys : List (ℕ × Part)) (values : S) (p : ℕ × Part) (at inside : ℕ) (f : RecordError) → AreParts xs → rules xs values → bytes ≡ message_bytes xs ++ a
    → ((q : ℕ × Part) (more : List ℕ) → IsPart q → a ≡ field_bytes q.0 q.1 ++ more → ⊥)
    → AreParts ys → IsPart p → bytes ≡ message_bytes ys ++ (field_bytes p.0 p.1 ++ rest) → wrong ys p at inside f → f ≡ NoMemory
cut_wrong rules wrong excludes bytes a rest xs ys values p at inside f fit_x spelled whole_x none fit_y is_p whole_y bad =
    elim (fronts xs ys a (field_bytes p.0 p.1 ++ rest) fit_x fit_y (sym whole_x ∙ whole_y)) [
      | same fields rests ↦ absurd (none p rest is_p rests)
      | left q others more is fields starts ↦ behind rules wrong excludes xs ys others p q rest more values at inside f spelled fields is_p is starts bad
      | right q others more is fields starts ↦ absurd (none q more is starts)
    ]

fields_alike : {S : Type 0} (rules : List (ℕ × Part) → S → Type 0) (wrong : List (ℕ × Part) → ℕ × Part → ℕ → ℕ → RecordError → Type 0) (ids : List ℕ) → IsTold rules wrong ids
    → (bytes : List ℕ) (place : ℕ) (e f : RecordError) → FieldsFault rules wrong bytes place e → FieldsFault rules wrong bytes place f → IsSame e f
fields_alike rules wrong ids told bytes place _ _ (cut xs vs a fit_x spelled_x whole_x some_x none_x) (cut ys ws b fit_y spelled_y whole_y some_y none_y) =
    elim (fronts xs ys a b fit_x fit_y (sym whole_x ∙ whole_y)) [
      | same fields rests ↦ inr (inr (ap (λ (zs : List (ℕ × Part)). BadRecord (place + length (message_bytes zs))) fields))
      | left q others rest is fields starts ↦ absurd (none_y q rest is starts)
      | right p others rest is fields starts ↦ absurd (none_x p rest is starts)
    ]
fields_alike rules wrong ids told bytes place _ f (cut xs vs a fit_x spelled_x whole_x some_x none_x) (wrong_field ys ws p rest _ fit_y spelled_y is_p whole_y bad) =
    inr (inl (cut_wrong rules wrong told.excludes bytes a rest xs ys vs p _ _ f fit_x spelled_x whole_x none_x fit_y is_p whole_y bad))
fields_alike rules wrong ids told bytes place e _ (wrong_field ys ws p rest _ fit_y spelled_y is_p whole_y bad) (cut xs vs a fit_x spelled_x whole_x some_x none_x) =
    inl (cut_wrong rules wrong told.excludes bytes a rest xs ys vs p _ _ e fit_x spelled_x whole_x none_x fit_y is_p whole_y bad)
fields_alike rules wrong ids told bytes place e f (wrong_field xs vs p a _ fit_x spelled_x is_p whole_x bad_x) (wrong_field ys ws q b _ fit_y spelled_y is_q whole_y bad_y) =
    elim (fronts xs ys (field_bytes p.0 p.1 ++ a) (field_bytes q.0 q.1 ++ b) fit_x fit_y (sym whole_x ∙ whole_y)) [
      | same fields rests ↦
          let first : p ≡ q = one_field p q a b is_p is_q rests in
          let there = subst (λ zs. wrong zs q (place + length (message_bytes zs)) (place + length (message_bytes zs) + header q) f) (sym fields) bad_y in
          let here = subst (λ x. wrong xs x (place + length (message_bytes xs)) (place + length (message_bytes xs) + header x) f) (sym first) there in
          told.alike xs p (place + length (message_bytes xs)) (place + length (message_bytes xs) + header p) e f bad_x here
      | left r others more is fields starts ↦ inr (inl (behind rules wrong told.excludes xs ys others q r b more vs _ _ f spelled_x fields is_q is starts bad_y))
      | right r others more is fields starts ↦ inl (behind rules wrong told.excludes ys xs others p r a more ws _ _ e spelled_y fields is_p is starts bad_x)
    ]

spelled_none : {S : Type 0} (rules : List (ℕ × Part) → S → Type 0) (wrong : List (ℕ × Part) → ℕ × Part → ℕ → ℕ → RecordError → Type 0) (ids : List ℕ) → IsTold rules wrong ids
    → (bytes : List ℕ) (place : ℕ) (e : RecordError) (parts : List (ℕ × Part)) (values : S) → FieldsFault rules wrong bytes place e → IsMessage bytes parts → rules parts values → e ≡ NoMemory
spelled_none {S} rules wrong ids told bytes place e parts values fault message spelled =
    let made : S → Result S Unmade = λ (s : S). Ok s in
    RecordFault-excludes rules wrong made told.one told.excludes bytes place e values (of_fields e fault)
    (record { parts = parts; values = values; message = message; spelled = spelled; whole = refl })

abbrev unmade_number : {V : Type 0} → Result V Unmade → ℕ
unmade_number (Ok v) = 0
unmade_number (Err (Missing id)) = id
unmade_number (Err (Needless id)) = id

not_both_unmade : {V : Type 0} (r : Result V Unmade) (i j : ℕ) → r ≡ Err (Missing i) → r ≡ Err (Needless j) → ⊥
not_both_unmade r i j a b = cc

some_same : (x y : ℕ) (o : Option ℕ) → o ≡ Some x → o ≡ Some y → x ≡ y
some_same x y o a b = cc

record_alike : {S V : Type 0} (rules : List (ℕ × Part) → S → Type 0) (wrong : List (ℕ × Part) → ℕ × Part → ℕ → ℕ → RecordError → Type 0) (ids : List ℕ) (made : S → Result V Unmade) → IsTold rules wrong ids
    → (bytes : List ℕ) (place : ℕ) (e f : RecordError) → RecordFault rules wrong made bytes place e → RecordFault rules wrong made bytes place f → IsSame e f
record_alike rules wrong ids made told bytes place _ _ (of_fields e a) (of_fields f b) = fields_alike rules wrong ids told bytes place e f a b
record_alike rules wrong ids made told bytes place _ _ (of_fields e a) (missing qs ws j n t k) = inl (spelled_none rules wrong ids told bytes place e qs ws a n t)
record_alike rules wrong ids made told bytes place _ _ (of_fields e a) (needless qs ws j y n t k u) = inl (spelled_none rules wrong ids told bytes place e qs ws a n t)
record_alike rules wrong ids made told bytes place _ _ (missing ps vs i m s l) (of_fields f b) = inr (inl (spelled_none rules wrong ids told bytes place f ps vs b m s))
record_alike rules wrong ids made told bytes place _ _ (needless ps vs i x m s l o) (of_fields f b) = inr (inl (spelled_none rules wrong ids told bytes place f ps vs b m s))
record_alike rules wrong ids made told bytes place _ _ (missing ps vs i m s l) (missing qs ws j n t k) =
    let parts : ps ≡ qs = same_parts bytes ps qs m n in
    let values : vs ≡ ws = told.one qs vs ws (subst (λ zs. rules zs vs) parts s) t in
    inr (inr (ap (λ r. MissingField (unmade_number r)) (sym l ∙ ap made values ∙ k)))
record_alike rules wrong ids made told bytes place _ _ (missing ps vs i m s l) (needless qs ws j y n t k u) =
    let parts : ps ≡ qs = same_parts bytes ps qs m n in
    let values : vs ≡ ws = told.one qs vs ws (subst (λ zs. rules zs vs) parts s) t in
    absurd (not_both_unmade (made ws) i j (sym (ap made values) ∙ l) k)
record_alike rules wrong ids made told bytes place _ _ (needless ps vs i x m s l o) (missing qs ws j n t k) =
    let parts : ps ≡ qs = same_parts bytes ps qs m n in
    let values : vs ≡ ws = told.one qs vs ws (subst (λ zs. rules zs vs) parts s) t in
    absurd (not_both_unmade (made ws) j i k (sym (ap made values) ∙ l))
record_alike rules wrong ids made told bytes place _ _ (needless ps vs i x m s l o) (needless qs ws j y n t k u) =
    let parts : ps ≡ qs = same_parts bytes ps qs m n in
    let values : vs ≡ ws = told.one qs vs ws (subst (λ zs. rules zs vs) parts s) t in
    let numbers : i ≡ j = ap unmade_number (sym l ∙ ap made values ∙ k) in
    let moved = ap (λ (zs : List (ℕ × Part)). last_place i 0 zs) parts ∙ ap (λ (id : ℕ). last_place id 0 qs) numbers in
    inr (inr (ap (λ (at : ℕ). BadRecord (place + at)) (some_same x y (last_place j 0 qs) (sym moved ∙ o) u)))

pub Record-told : {S V : Type 0} (rules : List (ℕ × Part) → S → Type 0) (wrong : List (ℕ × Part) → ℕ × Part → ℕ → ℕ → RecordError → Type 0) (ids : List ℕ) (made : S → Result V Unmade)
    → IsTold rules wrong ids → IsMessageTold (IsRecord rules made) (RecordFault rules wrong made)
Record-told rules wrong ids made told = record {
  one = OneValue-IsRecord rules made told.one;
  excludes = RecordFault-excludes rules wrong made told.one told.excludes;
  alike = record_alike rules wrong ids made told;
}
