-- One field more.
use Rattle.std.proofs.Common.{◌≡◌, ℕ, Bool, true, false, cond, eqb, List, [], ◌∷◌, ◌++◌, Option, Some, None, refl, sym, ap, subst, ◌∙◌, arith}
use Rattle.std.proofs.lemmas.Bool.{eq-eqb, ne_eqb}
use Rattle.std.proofs.lemmas.List.{append-nil}
use Rattle.wire_fields.specs.Fields.{Part}
use Rattle.wire_fields.specs.Message.{later}
use Rattle.field_rules.specs.Rules.{values_of, Spell, last_of, Repeated, Last}
use Rattle.field_reader.specs.declared.fault.RecordError.{RecordError}
use Rattle.field_reader.specs.declared.fault.RecordError.TheVariants.{BadRecord, MissingField, NoMemory}
use Rattle.field_reader.specs.Faults.{Wrong}

abbrev one_value : ℕ → ℕ × Part → List Part
one_value id p = cond (eqb p.0 id) (p.1 ∷ []) []

values_of-push : (id : ℕ) (parts : List (ℕ × Part)) (p : ℕ × Part) → values_of id (parts ++ p ∷ []) ≡ values_of id parts ++ one_value id p
values_of-push id [] p = refl
values_of-push id (q ∷ parts) p =
    let rest = values_of-push id parts p in
    elim (eqb q.0 id) as (λ b. cond b (q.1 ∷ values_of id (parts ++ p ∷ [])) (values_of id (parts ++ p ∷ [])) ≡ cond b (q.1 ∷ values_of id parts) (values_of id parts) ++ one_value id p) [
      | true ↦ ap (λ (xs : List Part). q.1 ∷ xs) rest
      | false ↦ rest
    ]

pub values_of-more : (id : ℕ) (parts : List (ℕ × Part)) (n : ℕ) (x : Part) → n ≡ id → values_of id (parts ++ (n, x) ∷ []) ≡ values_of id parts ++ x ∷ []
values_of-more id parts n x same = values_of-push id parts (n, x) ∙ ap (λ (b : Bool). values_of id parts ++ cond b (x ∷ []) []) (eq-eqb n id same)

pub values_of-same : (id : ℕ) (parts : List (ℕ × Part)) (n : ℕ) (x : Part) → (n ≡ id → ⊥) → values_of id (parts ++ (n, x) ∷ []) ≡ values_of id parts
values_of-same id parts n x other = values_of-push id parts (n, x) ∙ ap (λ (b : Bool). values_of id parts ++ cond b (x ∷ []) []) (ne_eqb n id other) ∙ append-nil (values_of id parts)

pub Spell-push : {V : Type 0} (spells : Part → V → Type 0) (xs : List Part) (vs : List V) (x : Part) (v : V) → Spell spells xs vs → spells x v → Spell spells (xs ++ x ∷ []) (vs ++ v ∷ [])
Spell-push spells [] [] x v each is = (is, tt)
Spell-push spells [] (w ∷ vs) x v each is = absurd each
Spell-push spells (y ∷ xs) [] x v each is = absurd each
Spell-push spells (y ∷ xs) (w ∷ vs) x v each is = (each.0, Spell-push spells xs vs x v each.1 is)

last_of-push : {V : Type 0} (vs : List V) (v : V) → last_of (vs ++ v ∷ []) ≡ Some v
last_of-push [] v = refl
last_of-push (w ∷ vs) v = ap (later (Some w)) (last_of-push vs v)

pub Last-none : {V : Type 0} (spells : Part → V → Type 0) (id : ℕ) → Last spells id [] None
Last-none spells id = record { all = []; each = tt; counts = refl }

pub Last-more : {V : Type 0} (spells : Part → V → Type 0) (id n : ℕ) (parts : List (ℕ × Part)) (o : Option V) (x : Part) (v : V)
    → Last spells id parts o → n ≡ id → spells x v → Last spells id (parts ++ (n, x) ∷ []) (Some v)
Last-more spells id n parts o x v last same is = record {
  all = last.all ++ v ∷ [];
  each = subst (λ xs. Spell spells xs (last.all ++ v ∷ [])) (sym (values_of-more id parts n x same)) (Spell-push spells (values_of id parts) last.all x v last.each is);
  counts = sym (last_of-push last.all v);
}

pub Last-same : {V : Type 0} (spells : Part → V → Type 0) (id n : ℕ) (parts : List (ℕ × Part)) (o : Option V) (x : Part)
    → Last spells id parts o → (n ≡ id → ⊥) → Last spells id (parts ++ (n, x) ∷ []) o
Last-same spells id n parts o x last other = record {
  all = last.all;
  each = subst (λ xs. Spell spells xs last.all) (sym (values_of-same id parts n x other)) last.each;
  counts = last.counts;
}

pub Repeated-more : {V : Type 0} (spells : Part → V → Type 0) (id n : ℕ) (parts : List (ℕ × Part)) (vs : List V) (x : Part) (v : V)
    → Repeated spells id parts vs → n ≡ id → spells x v → Repeated spells id (parts ++ (n, x) ∷ []) (vs ++ v ∷ [])
Repeated-more spells id n parts vs x v so_far same is = record {
  each = subst (λ xs. Spell spells xs (vs ++ v ∷ [])) (sym (values_of-more id parts n x same)) (Spell-push spells (values_of id parts) vs x v so_far.each is);
}

pub Repeated-same : {V : Type 0} (spells : Part → V → Type 0) (id n : ℕ) (parts : List (ℕ × Part)) (vs : List V) (x : Part)
    → Repeated spells id parts vs → (n ≡ id → ⊥) → Repeated spells id (parts ++ (n, x) ∷ []) vs
Repeated-same spells id n parts vs x so_far other = record {
  each = subst (λ xs. Spell spells xs vs) (sym (values_of-same id parts n x other)) so_far.each;
}

-- a value that is wrong makes its field wrong
pub Wrong-value : (id : ℕ) (faults : Part → ℕ → ℕ → RecordError → Type 0) (p : ℕ × Part) (at inside : ℕ) (e : RecordError)
    → p.0 ≡ id → faults p.1 at inside e → Wrong id faults p at inside e
Wrong-value id faults p at inside (BadRecord place) same fault = (same, fault)
Wrong-value id faults p at inside (MissingField missing) same fault = (same, fault)
Wrong-value id faults p at inside NoMemory same fault = tt
