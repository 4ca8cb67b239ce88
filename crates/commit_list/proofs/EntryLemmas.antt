use Rattle.std.proofs.Common.{◌≡◌, ℕ, ◌-◌, ◌≤◌, List, [], ◌∷◌, ◌++◌, length, take, drop, get_or, refl, ap, arith}
use Rattle.hb_grammar.specs.Grammar.{IsLive, Same}
use Rattle.hb_grammar.specs.Marked.{Marked}
use Rattle.hb_grammar.specs.TextOf.{IsTextOf, IsTold, IsPair, pair_text}
use Rattle.hb_grammar.proofs.SameLemmas.{Same_trans, Same-Marked}
use Rattle.hb_grammar.proofs.TextOfLemmas.{IsTold-IsPair}
use Rattle.hb_grammar.proofs.MarkedTextLemmas.{IsTold-marked, Same-marked}
use Rattle.hb_names.specs.FamilyName.{IsFamilyName}
use Rattle.commit_line.specs.declared.error.ListError.{ListError}
use Rattle.commit_line.specs.Line.{field, ended}
use Rattle.commit_line.specs.ListError.{IsFrontRefusal, IsWord, IsValueAt}
use Rattle.commit_line.proofs.WordLemmas.{Same-marked_word, IsTold-word}
use Rattle.commit_line.proofs.ReadLemmas.{IsFrontRefusal-Same, IsFrontRefusal-IsPair_first, IsFrontRefusal-IsPair_second, IsValueAt-IsPair, IsValueAt-IsWord, IsValueAt-map, Same-map}
use Rattle.commit_list.specs.declared.list_entry.EntryKind.{EntryKind}
use Rattle.commit_list.specs.declared.list_entry.EntryKind.TheVariants.{Own, Link, Half}
use Rattle.commit_list.specs.declared.list_entry.ListEntry.{ListEntry}
use Rattle.commit_list.specs.ListEntry.{IsKind, kind_word, IsNameOf, IsEntry, entry_text}
use Rattle.commit_list.proofs.FreeLemmas.{Avoids-kind_word, Avoids-IsNameOf}
use Rattle.region_set.proofs.FamilyLineLemmas.{Avoids-IsFamilyName}
use Rattle.commit_list.proofs.LiveLemmas.{IsLive-IsFamilyName, IsLive-IsNameOf}

-- the word of a kind and a blank
abbrev kind_field : EntryKind → List ℕ
kind_field kind = field (kind_word kind)

-- a family and a name of a kind
abbrev AreNames : EntryKind → List ℕ × List ℕ → Type 0
AreNames kind = IsPair IsFamilyName (λ _. IsNameOf kind)

-- as the line of an entry has them
abbrev names_text : List ℕ × List ℕ → List ℕ
names_text = pair_text field ended

-- a kind, and a family and a name of it
abbrev AreParts : EntryKind × (List ℕ × List ℕ) → Type 0
AreParts = IsPair IsKind AreNames

-- as the line of an entry
abbrev parts_text : EntryKind × (List ℕ × List ℕ) → List ℕ
parts_text = pair_text kind_field names_text

-- the entry of these parts
abbrev entry_of : EntryKind × (List ℕ × List ℕ) → ListEntry
entry_of parts = record { kind = parts.0; family = parts.1.0; name = parts.1.1 }

-- the parts of an entry
abbrev parts_of : ListEntry → EntryKind × (List ℕ × List ℕ)
parts_of entry = (entry.kind, (entry.family, entry.name))

-- the lines of parts are those of entries
Same-IsEntry : Same (IsTextOf AreParts parts_text) (IsTextOf IsEntry entry_text)
Same-IsEntry =
    Same-map AreParts parts_text IsEntry entry_text entry_of parts_of (λ parts ok. record { family = ok.1.0; name = ok.1.1 })
    (λ entry ok. (tt, (ok.family, ok.name))) (λ parts. refl) (λ entry. refl)

-- no two kinds have the same word
kind_word-injective : (v w : EntryKind) → IsKind v → IsKind w → kind_word v ≡ kind_word w → v ≡ w
kind_word-injective Own Own ok ok' e = refl
kind_word-injective Own Link ok ok' e = let first = ap (λ (x : List ℕ). get_or x 0 0) e in absurd (omega arith)
kind_word-injective Own Half ok ok' e = let first = ap (λ (x : List ℕ). get_or x 0 0) e in absurd (omega arith)
kind_word-injective Link Own ok ok' e = let first = ap (λ (x : List ℕ). get_or x 0 0) e in absurd (omega arith)
kind_word-injective Link Link ok ok' e = refl
kind_word-injective Link Half ok ok' e = let first = ap (λ (x : List ℕ). get_or x 0 0) e in absurd (omega arith)
kind_word-injective Half Own ok ok' e = let first = ap (λ (x : List ℕ). get_or x 0 0) e in absurd (omega arith)
kind_word-injective Half Link ok ok' e = let first = ap (λ (x : List ℕ). get_or x 0 0) e in absurd (omega arith)
kind_word-injective Half Half ok ok' e = refl

-- a kind is told by its word and a blank
IsTold-kind : IsTold IsKind kind_field
IsTold-kind = IsTold-marked IsKind kind_word 32 Avoids-kind_word kind_word-injective

-- a family by its name and a blank
IsTold-family : IsTold IsFamilyName field
IsTold-family = IsTold-word IsFamilyName 32 Avoids-IsFamilyName

-- a name by itself and a line feed
IsTold-name : (kind : EntryKind) → IsTold (IsNameOf kind) ended
IsTold-name kind = IsTold-word (IsNameOf kind) 10 (Avoids-IsNameOf kind)

-- an entry is told by its line
pub IsTold-IsEntry : IsTold IsEntry entry_text
IsTold-IsEntry v w a b ok ok' e =
    let names = λ (kind : EntryKind) (_ : IsKind kind). IsTold-IsPair IsFamilyName field (λ _. IsNameOf kind) ended IsTold-family (λ _ _. IsTold-name kind) in
    let parts = IsTold-IsPair IsKind kind_field AreNames names_text IsTold-kind names (parts_of v) (parts_of w) a b
    (tt, (ok.family, ok.name)) (tt, (ok'.family, ok'.name)) e in
    ap entry_of parts

-- there are a family and a name of each kind
IsLive-AreNames : (kind : EntryKind) → IsKind kind → IsLive (IsTextOf (AreNames kind) names_text)
IsLive-AreNames kind ok =
    let family = IsLive-IsFamilyName in
    let name = IsLive-IsNameOf kind in
    (field family.0 ++ ended name.0, ((family.0, name.0), (family.1, name.1), refl))

-- there is a name of a kind in a line
IsLive-ended : (kind : EntryKind) → IsLive (IsTextOf (IsNameOf kind) ended)
IsLive-ended kind = let name = IsLive-IsNameOf kind in (ended name.0, (name.0, name.1, refl))

-- a kind's word that a blank ends is the kind's
pub IsValueAt-kind : (spells : List ℕ → Type 0) (bytes : List ℕ) (at end : ℕ) → at ≤ length bytes → IsWord spells 32 bytes at end → (kind : EntryKind) →
    kind_word kind ≡ take (end - 1 - at) (drop at bytes) → IsValueAt IsKind kind_field bytes at kind end
IsValueAt-kind spells bytes at end within word kind e = IsValueAt-IsWord IsKind kind_word spells 32 bytes at end within word kind tt e

-- a word that a mark ends is its own
pub IsValueAt-word : (spells a : List ℕ → Type 0) (mark : ℕ) → Same spells a → (bytes : List ℕ) (at end : ℕ) → at ≤ length bytes →
    IsWord spells mark bytes at end → IsValueAt a (λ word. word ++ mark ∷ []) bytes at (take (end - 1 - at) (drop at bytes)) end
IsValueAt-word spells a mark same bytes at end within word =
    let text = take (end - 1 - at) (drop at bytes) in
    IsValueAt-IsWord a (λ word. word) spells mark bytes at end within word text (same.forth text word.spelled) refl

-- a kind, a family and a name one behind another are an entry
pub IsValueAt-IsEntry : (bytes : List ℕ) (at family_at name_at end : ℕ) (kind : EntryKind) (family name : List ℕ) →
    IsValueAt IsKind kind_field bytes at kind family_at → IsValueAt IsFamilyName field bytes family_at family name_at →
    IsValueAt (IsNameOf kind) ended bytes name_at name end → IsValueAt IsEntry entry_text bytes at (entry_of (kind, (family, name))) end
IsValueAt-IsEntry bytes at family_at name_at end kind family name first second third =
    let names = IsValueAt-IsPair IsFamilyName field (λ _. IsNameOf kind) ended bytes family_at name_at end family name second third in
    let parts = IsValueAt-IsPair IsKind kind_field AreNames names_text bytes at family_at end kind (family, name) first names in
    IsValueAt-map AreParts parts_text IsEntry entry_text entry_of (λ parts ok. record { family = ok.1.0; name = ok.1.1 }) (λ parts. refl)
    bytes at end (kind, (family, name)) parts

-- a refusal of the kind's word is one of the entry
pub IsFrontRefusal-kind : (spells : List ℕ → Type 0) → Same spells (IsTextOf IsKind kind_word) → (bytes : List ℕ) (at : ℕ) (error : ListError) →
    IsFrontRefusal (Marked spells 32) bytes at error → IsFrontRefusal (IsTextOf IsEntry entry_text) bytes at error
IsFrontRefusal-kind spells same bytes at error refused =
    let words = Same_trans (Marked spells 32) (Marked (IsTextOf IsKind kind_word) 32) (IsTextOf IsKind kind_field)
    (Same-Marked spells (IsTextOf IsKind kind_word) 32 same) (Same-marked IsKind kind_word 32) in
    IsFrontRefusal-Same (IsTextOf AreParts parts_text) (IsTextOf IsEntry entry_text) Same-IsEntry bytes at error
    (IsFrontRefusal-IsPair_first IsKind kind_field AreNames names_text IsLive-AreNames bytes at error
    (IsFrontRefusal-Same (Marked spells 32) (IsTextOf IsKind kind_field) words bytes at error refused))

-- behind a kind, so is a refusal of a family's name
pub IsFrontRefusal-family : (spells : List ℕ → Type 0) → Same spells IsFamilyName → (bytes : List ℕ) (at mid : ℕ) (kind : EntryKind) →
    IsValueAt IsKind kind_field bytes at kind mid → (error : ListError) → IsFrontRefusal (Marked spells 32) bytes mid error →
    IsFrontRefusal (IsTextOf IsEntry entry_text) bytes at error
IsFrontRefusal-family spells same bytes at mid kind first error refused =
    let word = IsFrontRefusal-Same (Marked spells 32) (IsTextOf IsFamilyName field) (Same-marked_word spells IsFamilyName 32 same) bytes mid error refused in
    let names = IsFrontRefusal-IsPair_first IsFamilyName field (λ _. IsNameOf kind) ended (λ _ _. IsLive-ended kind) bytes mid error word in
    IsFrontRefusal-Same (IsTextOf AreParts parts_text) (IsTextOf IsEntry entry_text) Same-IsEntry bytes at error
    (IsFrontRefusal-IsPair_second IsKind kind_field AreNames names_text IsTold-kind bytes at mid kind first error names)

-- and behind both, a refusal of a name
pub IsFrontRefusal-name : (spells : List ℕ → Type 0) (bytes : List ℕ) (at family_at name_at : ℕ) (kind : EntryKind) (family : List ℕ) →
    Same spells (IsNameOf kind) → IsValueAt IsKind kind_field bytes at kind family_at → IsValueAt IsFamilyName field bytes family_at family name_at →
    (error : ListError) → IsFrontRefusal (Marked spells 10) bytes name_at error → IsFrontRefusal (IsTextOf IsEntry entry_text) bytes at error
IsFrontRefusal-name spells bytes at family_at name_at kind family same first second error refused =
    let word = IsFrontRefusal-Same (Marked spells 10) (IsTextOf (IsNameOf kind) ended) (Same-marked_word spells (IsNameOf kind) 10 same) bytes name_at error refused in
    let names = IsFrontRefusal-IsPair_second IsFamilyName field (λ _. IsNameOf kind) ended IsTold-family bytes family_at name_at family second error word in
    IsFrontRefusal-Same (IsTextOf AreParts parts_text) (IsTextOf IsEntry entry_text) Same-IsEntry bytes at error
    (IsFrontRefusal-IsPair_second IsKind kind_field AreNames names_text IsTold-kind bytes at family_at kind first error names)
