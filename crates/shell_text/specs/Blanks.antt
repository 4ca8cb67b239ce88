-- Blanks between the words of a line.
use Rattle.std.proofs.Common.{◌≡◌, ℕ, List, [], ◌∷◌, Bool, true, false, refl}
use Rattle.hb_grammar.specs.Grammar.{IsLive}
use Rattle.hb_grammar.specs.Joined.{Joined}

-- blanks, and at least one where some are wanted; 32 is the blank
abbrev pub BlanksFrom : Bool → List ℕ → Type 0
BlanksFrom true [] = ⊥
BlanksFrom false [] = Unit {0}
BlanksFrom some (byte ∷ bytes) = (byte ≡ 32) × BlanksFrom false bytes

-- there are such blanks
pub IsLive-BlanksFrom : (some : Bool) → IsLive (BlanksFrom some)
IsLive-BlanksFrom true = (32 ∷ [], (refl, tt))
IsLive-BlanksFrom false = ([], tt)

-- a string of a grammar, behind any blanks where it may be padded
abbrev pub PaddedFrom : Bool → (List ℕ → Type 0) → List ℕ → Type 0
PaddedFrom true inner = Joined (BlanksFrom false) inner
PaddedFrom false inner = inner

-- a padded grammar that has a string has one without blanks
pub IsLive-PaddedFrom : (padding : Bool) (inner : List ℕ → Type 0) → IsLive inner → IsLive (PaddedFrom padding inner)
IsLive-PaddedFrom true inner live = (live.0, record { front = []; back = live.0; whole = refl; in_first = tt; in_second = live.1 })
IsLive-PaddedFrom false inner live = live

-- where padding may come, the grammar itself begins with no blank
abbrev pub IsPaddable : Bool → (List ℕ → Type 0) → Type 0
IsPaddable padding inner = (rest : List ℕ) → padding ≡ true → inner (32 ∷ rest) → ⊥
