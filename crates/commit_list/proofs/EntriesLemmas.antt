use Rattle.std.proofs.Common.{◌≡◌, ℕ, ◌+◌, ◌-◌, ◌≤◌, ◌<◌, List, [], ◌∷◌, ◌++◌, length, take, drop, get_or, refl, sym, subst, ap, ◌∙◌, append_assoc, arith, Bool, true, false, not, nat_eq, codes, Option, Some, None}
use Rattle.std.proofs.lemmas.List.{drop_more, drop_all}
use Rattle.std.proofs.lemmas.Bool.Decides.{nat_tests}
use Rattle.std.specs.List.{flat_map, AllByRecursion}
use Rattle.hb_grammar.specs.Grammar.{IsLive, IsFault, Same}
use Rattle.hb_grammar.specs.TextOf.{IsTextOf, IsTold}
use Rattle.hb_grammar.specs.Rows.{RowsFrom, RowsThen, IsBegun}
use Rattle.hb_grammar.proofs.RowsLemmas.{IsApart, rows-injective}
use Rattle.commit_line.specs.declared.error.ListError.{ListError}
use Rattle.commit_line.specs.declared.error.ListError.TheVariants.{BadList}
use Rattle.commit_line.specs.Line.{field, ended}
use Rattle.commit_line.specs.ListError.{IsFrontRefusal, IsRefusalAt}
use Rattle.commit_line.specs.Rows.{AreRows}
use Rattle.commit_line.proofs.RowLemmas.{IsRefusalAt-row, IsRefusalAt-tail}
use Rattle.commit_line.proofs.NumberLineLemmas.{take_rest}
use Rattle.commit_line.proofs.RefusalLemmas.{IsRefusalAt-Same}
use Rattle.commit_list.specs.declared.list_entry.EntryKind.{EntryKind}
use Rattle.commit_list.specs.declared.list_entry.EntryKind.TheVariants.{Own, Link, Half}
use Rattle.commit_list.specs.declared.list_entry.ListEntry.{ListEntry}
use Rattle.commit_list.specs.ListEntry.{kind_word, IsEntry, entry_text}
use Rattle.commit_list.specs.RegionList.{entries_text}
use Rattle.commit_list.proofs.EntryLemmas.{IsTold-IsEntry}

-- an entry may begin with the byte: it is not the e of the last line
abbrev pub begins_entry : ℕ → Bool
begins_entry byte = not (nat_eq byte 101)

-- the last line
abbrev pub IsLastLine : List ℕ → Type 0
IsLastLine bytes = bytes ≡ ended (codes "end")

-- an entry, whichever stands before it
abbrev pub IsEntryAfter : Option ListEntry → ListEntry → Type 0
IsEntryAfter last = IsEntry

-- an entry begins with the first byte of its kind's word
IsBegun-kind_word : (kind : EntryKind) (rest : List ℕ) → IsBegun begins_entry (field (kind_word kind) ++ rest)
IsBegun-kind_word Own rest = refl
IsBegun-kind_word Link rest = refl
IsBegun-kind_word Half rest = refl

-- the last line begins as no entry does
not_begun-end : (rest : List ℕ) → IsBegun begins_entry (ended (codes "end") ++ rest) → ⊥
not_begun-end rest begun = cc

-- entries stand apart from the last line
pub IsApart-IsEntry : IsApart IsEntryAfter entry_text IsLastLine begins_entry
IsApart-IsEntry = record {
  rows = λ last entry ok. IsBegun-kind_word entry.kind (field entry.family ++ ended entry.name);
  tails = λ bytes e begun. not_begun-end [] (subst (IsBegun begins_entry) e begun);
  told = λ last. IsTold-IsEntry;
}

-- entries are rows of which each may follow any
RowsFrom-AllByRecursion : (last : Option ListEntry) (entries : List ListEntry) → AllByRecursion IsEntry entries → RowsFrom IsEntryAfter last entries
RowsFrom-AllByRecursion last [] each = tt
RowsFrom-AllByRecursion last (entry ∷ entries) each = (each.0, RowsFrom-AllByRecursion (Some entry) entries each.1)

-- and each of such rows is an entry
pub AllByRecursion-RowsFrom : (last : Option ListEntry) (entries : List ListEntry) → RowsFrom IsEntryAfter last entries → AllByRecursion IsEntry entries
AllByRecursion-RowsFrom last [] each = tt
AllByRecursion-RowsFrom last (entry ∷ entries) each = (each.0, AllByRecursion-RowsFrom (Some entry) entries each.1)

-- such rows before the last line are the lines of entries
Same-entries : Same (RowsThen IsEntryAfter entry_text IsLastLine None) (IsTextOf (AllByRecursion IsEntry) entries_text)
Same-entries = record {
  forth = λ bytes s. (s.rows, AllByRecursion-RowsFrom None s.rows s.each, s.whole ∙ ap (λ (x : List ℕ). flat_map entry_text s.rows ++ x) s.in_tail);
  back = λ bytes s. record { rows = s.0; back = ended (codes "end"); each = RowsFrom-AllByRecursion None s.0 s.1; in_tail = refl; whole = s.2 };
}

-- entries are told by their lines and the last one
pub IsTold-entries : IsTold (AllByRecursion IsEntry) entries_text
IsTold-entries v w a b ok ok' e =
    let last : List ℕ = ended (codes "end") in
    let whole : flat_map entry_text v ++ (last ++ a) ≡ flat_map entry_text w ++ (last ++ b) =
    sym (append_assoc (flat_map entry_text v) last a) ∙ e ∙ append_assoc (flat_map entry_text w) last b in
    rows-injective IsEntryAfter entry_text IsLastLine begins_entry IsApart-IsEntry None v w (RowsFrom-AllByRecursion None v ok) (RowsFrom-AllByRecursion None w ok')
    (last ++ a) (last ++ b) (not_begun-end a) (not_begun-end b) whole

-- there are lines of entries: those of none
pub IsLive-entries : IsLive (IsTextOf (AllByRecursion IsEntry) entries_text)
IsLive-entries = (entries_text [], ([], tt, refl))

-- a place whose byte isn't an e begins as an entry does
pub IsBegun-at : (bytes : List ℕ) (place : ℕ) → place < length bytes → (get_or bytes place 0 ≡ 101 → ⊥) → IsBegun begins_entry (drop place bytes)
IsBegun-at bytes place below other =
    let begins : begins_entry (get_or bytes place 0) ≡ true = grind (arith, nat_tests) in
    subst (IsBegun begins_entry) (sym (drop_more bytes place 0 below)) begins

-- one whose byte is an e begins otherwise
pub not_begun-at : (bytes : List ℕ) (place : ℕ) → place < length bytes → get_or bytes place 0 ≡ 101 → IsBegun begins_entry (drop place bytes) → ⊥
not_begun-at bytes place below same begun =
    let begins : begins_entry (get_or bytes place 0) ≡ true = subst (IsBegun begins_entry) (drop_more bytes place 0 below) begun in
    let other : begins_entry (get_or bytes place 0) ≡ false = ap begins_entry same in
    cc

-- and so does the end of the bytes
pub not_begun-end_of : (bytes : List ℕ) (place : ℕ) → length bytes ≤ place → IsBegun begins_entry (drop place bytes) → ⊥
not_begun-end_of bytes place within begun = subst (IsBegun begins_entry) (drop_all place bytes within) begun

-- the entries up to a place, and the last line there, are all that stands
pub entries-AreRows : (bytes : List ℕ) (at place : ℕ) (entries : List ListEntry) → AreRows IsEntryAfter entry_text bytes at entries place →
    take (length bytes - place) (drop place bytes) ≡ ended (codes "end") → AllByRecursion IsEntry entries × (drop at bytes ≡ entries_text entries)
entries-AreRows bytes at place entries rows e = (
  AllByRecursion-RowsFrom None entries rows.each,
  rows.whole ∙ ap (λ (x : List ℕ). flat_map entry_text entries ++ x) (sym (take_rest bytes place) ∙ e),
)

-- a refusal of the entry behind some is one of the entries
pub IsRefusalAt-entry : (bytes : List ℕ) (at place : ℕ) (entries : List ListEntry) → AreRows IsEntryAfter entry_text bytes at entries place →
    IsBegun begins_entry (drop place bytes) → (error : ListError) → IsFrontRefusal (IsTextOf IsEntry entry_text) bytes place error →
    IsRefusalAt (IsTextOf (AllByRecursion IsEntry) entries_text) bytes at error
IsRefusalAt-entry bytes at place entries rows begun error refused =
    IsRefusalAt-Same (RowsThen IsEntryAfter entry_text IsLastLine None) (IsTextOf (AllByRecursion IsEntry) entries_text) Same-entries bytes at error
    (IsRefusalAt-row IsEntryAfter entry_text IsLastLine begins_entry IsApart-IsEntry (ended (codes "end"), refl) bytes at place entries rows begun error refused)

-- and so is the fault of the last line
pub IsRefusalAt-last_line : (bytes : List ℕ) (at place : ℕ) (entries : List ListEntry) → AreRows IsEntryAfter entry_text bytes at entries place →
    (IsBegun begins_entry (drop place bytes) → ⊥) → (inner : ℕ) → IsFault IsLastLine (take (length bytes - place) (drop place bytes)) inner →
    IsRefusalAt (IsTextOf (AllByRecursion IsEntry) entries_text) bytes at (BadList (place + inner))
IsRefusalAt-last_line bytes at place entries rows other inner fault =
    let there : IsRefusalAt IsLastLine bytes place (BadList (place + inner)) =
    (inner, refl, subst (λ (x : List ℕ). IsFault IsLastLine x inner) (take_rest bytes place) fault) in
    IsRefusalAt-Same (RowsThen IsEntryAfter entry_text IsLastLine None) (IsTextOf (AllByRecursion IsEntry) entries_text) Same-entries bytes at (BadList (place + inner))
    (IsRefusalAt-tail IsEntryAfter entry_text IsLastLine begins_entry IsApart-IsEntry bytes at place entries rows other (BadList (place + inner)) there)
