use Rattle.std.proofs.Common.{◌≡◌, ◌≢◌, ℕ, ◌<◌, ◌^◌, List, ◌++◌, drop, refl, sym, ◌∙◌, arith, inl, inr, Result, Ok, Err}
use Rattle.std.specs.Prelude.{IfErr}
use Rattle.std.proofs.lemmas.Bool.{cases_lt}
use Rattle.std.specs.Fmt.{decimal}
use Rattle.hb_grammar.specs.TextOf.{IsTextOf}
use Rattle.commit_line.specs.Line.{ended, IsNumber}
use Rattle.commit_line.specs.ListError.{IsValueAt, IsFrontFaultAt, IsFileRefusal}
use Rattle.commit_line.specs.declared.error.ListError.{ListError}
use Rattle.commit_line.specs.declared.error.ListError.TheVariants.{BadList, NoMemory}
use Rattle.commit_line.specs.Numbered.{IsListNumber, HasOtherNumber, IsNumberedRefusal}
use Rattle.commit_line.proofs.NumberToldLemmas.{IsTold-number_line}

-- what begins with the line of a number does not begin with that of another
pub number_alone : (text : List ℕ) (number : ℕ) (bytes : List ℕ) (end : ℕ) → IsValueAt IsListNumber (λ n. text ++ ended (decimal n)) bytes 0 number end →
    HasOtherNumber text number bytes → ⊥
number_alone text number bytes end found has =
    has.differs (IsTold-number_line text 1 9_223_372_036_854_775_807 (omega arith) has.other number has.rest (drop end bytes) has.limit found.is_valid (sym has.whole ∙ found.whole))

-- what begins with the line of no number does not
pub number_none : (text : List ℕ) (number : ℕ) (bytes : List ℕ) (place : ℕ) → IsFrontFaultAt (IsTextOf IsListNumber (λ n. text ++ ended (decimal n))) bytes 0 place →
    HasOtherNumber text number bytes → ⊥
number_none text number bytes place fault has =
    fault.2.none (text ++ ended (decimal has.other)) has.rest (has.other, has.limit, refl) (sym has.whole)

-- two numbers that cannot differ are the same
pub number_same : (m n : ℕ) → (m ≢ n → ⊥) → m ≡ n
number_same m n same = elim (cases_lt m n) as (λ _. m ≡ n) [
  | inl less ↦ absurd (same (λ e. omega arith))
  | inr le ↦ elim (cases_lt n m) as (λ _. m ≡ n) [ inl more ↦ absurd (same (λ e. omega arith)) | inr ge ↦ omega arith ]
]

-- what begins with the line of a number has that one, where it has no other
pub number_told : (text : List ℕ) (number n : ℕ) (bytes rest : List ℕ) → IsListNumber n → bytes ≡ (text ++ ended (decimal n)) ++ rest →
    (HasOtherNumber text number bytes → ⊥) → n ≡ number
number_told text number n bytes rest limit whole none =
    number_same n number (λ differs. none (record { other = n; rest = rest; limit = limit; differs = differs; whole = whole }))

-- and has no other where that is the number
pub number_only : (text : List ℕ) (number n : ℕ) (bytes rest : List ℕ) → IsListNumber n → bytes ≡ (text ++ ended (decimal n)) ++ rest →
    n ≡ number → HasOtherNumber text number bytes → ⊥
number_only text number n bytes rest limit whole same has =
    has.differs (IsTold-number_line text 1 9_223_372_036_854_775_807 (omega arith) has.other n has.rest rest has.limit limit (sym has.whole ∙ whole) ∙ same)

-- a refusal of a file is one of a file of this number, where it has no other
pub IsNumberedRefusal-none : (text : List ℕ) (spells : List ℕ → Type 0) (number : ℕ) (bytes : List ℕ) (error : ListError) →
    (HasOtherNumber text number bytes → ⊥) → IsFileRefusal spells bytes error → IsNumberedRefusal text spells number bytes error
IsNumberedRefusal-none text spells number bytes (BadList place) none refused = inr (none, refused)
IsNumberedRefusal-none text spells number bytes NoMemory none refused = tt

-- so is each of a result
pub IfErr-numbered : {V : Type 0} (text : List ℕ) (spells : List ℕ → Type 0) (number : ℕ) (bytes : List ℕ) (result : Result V ListError) →
    (HasOtherNumber text number bytes → ⊥) → IfErr result (IsFileRefusal spells bytes) → IfErr result (IsNumberedRefusal text spells number bytes)
IfErr-numbered text spells number bytes (Ok value) none refused = tt
IfErr-numbered text spells number bytes (Err error) none refused = IsNumberedRefusal-none text spells number bytes error none refused
