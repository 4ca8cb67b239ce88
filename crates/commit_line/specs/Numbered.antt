use Rattle.std.specs.Prelude.{◌≡◌, ◌≢◌, ◌⊎◌, ℕ, List, ◌++◌, Result, Ok, Err}
use Rattle.std.specs.Fmt.{decimal}
use Rattle.hb_grammar.specs.Grammar.{IsFault}
use Rattle.commit_line.specs.declared.error.BadText.{BadText}
use Rattle.commit_line.specs.declared.error.ListError.{ListError}
use Rattle.commit_line.specs.declared.error.ListError.TheVariants.{BadList, NoMemory}
use Rattle.commit_line.specs.Line.{ended, IsNumber}
use Rattle.commit_line.specs.declared.line.TheConstants.{MAX_NUMBER}

-- the number of a list or set: 1 to 2 ^ 63 - 1
abbrev pub IsListNumber : ℕ → Type 0
IsListNumber = IsNumber 1 MAX_NUMBER

-- the bytes begin with a text, a number of a list or set that is another than this, and a line feed
pub record HasOtherNumber (text : List ℕ) (number : ℕ) (bytes : List ℕ) : Type 0 where
  pub other : ℕ
  pub rest : List ℕ
  pub limit : IsListNumber other
  pub differs : other ≢ number
  pub whole : bytes ≡ (text ++ ended (decimal other)) ++ rest

-- whether they do, at place 0
abbrev pub IsNumberChecked : List ℕ → ℕ → List ℕ → Result Unit BadText → Type 0
IsNumberChecked text number bytes (Ok _) = HasOtherNumber text number bytes → ⊥
IsNumberChecked text number bytes (Err bad) = HasOtherNumber text number bytes × (bad.0 ≡ 0)

-- a refusal to read the bytes as a file of the kind that has this number behind its first text: another number stands at
-- place 0, before any fault; without one the place is that of the fault; or there was no memory
abbrev pub IsNumberedRefusal : List ℕ → (List ℕ → Type 0) → ℕ → List ℕ → ListError → Type 0
IsNumberedRefusal text spells number bytes (BadList place) =
    (HasOtherNumber text number bytes × (place ≡ 0)) ⊎ ((HasOtherNumber text number bytes → ⊥) × IsFault spells bytes place)
IsNumberedRefusal text spells number bytes NoMemory = Unit {0}
