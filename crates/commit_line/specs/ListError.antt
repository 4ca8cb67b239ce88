use Rattle.std.specs.Prelude.{◌≡◌, ◌≤◌, ◌<◌, ℕ, ◌+◌, ◌-◌, List, [], ◌∷◌, ◌++◌, length, take, drop, Result, Ok, Err}
use Rattle.hb_grammar.specs.Grammar.{IsFault}
use Rattle.hb_grammar.specs.Front.{IsFrontFault}
use Rattle.hb_grammar.specs.Marked.{Marked}
use Rattle.hb_grammar.specs.TextOf.{IsTextOf}
use Rattle.commit_line.specs.declared.error.BadText.{BadText}
use Rattle.commit_line.specs.declared.error.ListError.{ListError}
use Rattle.commit_line.specs.declared.error.ListError.TheVariants.{BadList, NoMemory}

-- what stands from a place on is no string of the kind, and the other place is that of its fault
abbrev pub IsFaultAt : (List ℕ → Type 0) → List ℕ → ℕ → ℕ → Type 0
IsFaultAt spells bytes at place = (inner : ℕ) × (place ≡ at + inner) × IsFault spells (drop at bytes) inner

-- the same of a string of the kind at the front of that
abbrev pub IsFrontFaultAt : (List ℕ → Type 0) → List ℕ → ℕ → ℕ → Type 0
IsFrontFaultAt spells bytes at place = (inner : ℕ) × (place ≡ at + inner) × IsFrontFault spells (drop at bytes) inner

-- a refusal to read the bytes as a file of the kind: its place is that of their fault; or there was no memory
abbrev pub IsFileRefusal : (List ℕ → Type 0) → List ℕ → ListError → Type 0
IsFileRefusal spells bytes (BadList place) = IsFault spells bytes place
IsFileRefusal spells bytes NoMemory = Unit {0}

-- the same of what stands from a place on
abbrev pub IsRefusalAt : (List ℕ → Type 0) → List ℕ → ℕ → ListError → Type 0
IsRefusalAt spells bytes at (BadList place) = IsFaultAt spells bytes at place
IsRefusalAt spells bytes at NoMemory = Unit {0}

-- the same of a string of the kind at the front of that
abbrev pub IsFrontRefusal : (List ℕ → Type 0) → List ℕ → ℕ → ListError → Type 0
IsFrontRefusal spells bytes at (BadList place) = IsFrontFaultAt spells bytes at place
IsFrontRefusal spells bytes at NoMemory = Unit {0}

-- a string of the kind and its mark stand between two places
pub record IsWord (spells : List ℕ → Type 0) (mark : ℕ) (bytes : List ℕ) (at end : ℕ) : Type 0 where
  pub order : at < end
  pub within : end ≤ length bytes
  pub spelled : spells (take (end - 1 - at) (drop at bytes))
  pub whole : drop at bytes ≡ (take (end - 1 - at) (drop at bytes) ++ mark ∷ []) ++ drop end bytes

-- where the string of the kind ends that stands at a place, mark and all; or the place of the fault where none does
abbrev pub IsWordEnd : (List ℕ → Type 0) → ℕ → List ℕ → ℕ → Result ℕ BadText → Type 0
IsWordEnd spells mark bytes at (Ok end) = IsWord spells mark bytes at end
IsWordEnd spells mark bytes at (Err bad) = IsFrontFaultAt (Marked spells mark) bytes at bad.0

-- a valid value's text stands between two places
pub record IsValueAt {V : Type 0} (valid : V → Type 0) (text : V → List ℕ) (bytes : List ℕ) (at : ℕ) (value : V) (end : ℕ) : Type 0 where
  pub is_valid : valid value
  pub within : end ≤ length bytes
  pub place : end ≡ at + length (text value)
  pub whole : drop at bytes ≡ text value ++ drop end bytes

-- the value whose text stands at a place, and where that ends; or why there is none
abbrev pub IsRead : {V : Type 0} → (V → Type 0) → (V → List ℕ) → List ℕ → ℕ → Result (V × ℕ) ListError → Type 0
IsRead valid text bytes at (Ok read) = IsValueAt valid text bytes at read.0 read.1
IsRead valid text bytes at (Err error) = IsFrontRefusal (IsTextOf valid text) bytes at error

-- the same where it takes no memory: or the place of the fault where there is none
abbrev pub IsFound : {V : Type 0} → (V → Type 0) → (V → List ℕ) → List ℕ → ℕ → Result (V × ℕ) BadText → Type 0
IsFound valid text bytes at (Ok found) = IsValueAt valid text bytes at found.0 found.1
IsFound valid text bytes at (Err bad) = IsFrontFaultAt (IsTextOf valid text) bytes at bad.0
