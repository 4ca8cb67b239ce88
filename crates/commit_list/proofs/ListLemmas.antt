use Rattle.std.proofs.Common.{◌≡◌, ℕ, List, [], ◌++◌, refl, sym, ap, ◌∙◌, arith, codes, Result, Ok, Err}
use Rattle.std.specs.Prelude.{IfOk, IfErr}
use Rattle.std.proofs.lemmas.List.{append-nil}
use Rattle.std.specs.List.{AllByRecursion}
use Rattle.hb_grammar.specs.Grammar.{IsLive, Same}
use Rattle.hb_grammar.specs.TextOf.{IsTextOf, IsTold, IsPair, pair_text}
use Rattle.hb_grammar.proofs.TextOfLemmas.{IsTold-IsPair}
use Rattle.commit_line.specs.declared.error.ListError.{ListError}
use Rattle.commit_line.specs.declared.error.ListError.TheVariants.{BadList, NoMemory}
use Rattle.commit_line.specs.Line.{field, IsNumber, number_line}
use Rattle.commit_line.specs.Numbered.{HasOtherNumber}
use Rattle.commit_line.proofs.NumberedLemmas.{number_only, number_told}
use Rattle.commit_line.specs.ListError.{IsFileRefusal, IsRefusalAt, IsFrontRefusal, IsValueAt}
use Rattle.commit_line.proofs.NumberToldLemmas.{IsTold-number_line, IsLive-number_line}
use Rattle.commit_line.proofs.ReadLemmas.{Same-map}
use Rattle.commit_line.proofs.RefusalLemmas.{IsRefusalAt-Same, IsRefusalAt-IsPair_first, IsRefusalAt-IsPair_second, IsFileRefusal-IsRefusalAt}
use Rattle.commit_list.specs.declared.list_entry.ListEntry.{ListEntry}
use Rattle.commit_list.specs.declared.region_list.RegionList.{RegionList}
use Rattle.commit_list.specs.ListEntry.{IsEntry}
use Rattle.commit_list.specs.RegionList.{IsRegionList, region_list_text, entries_text, IsListFile, GivesList}
use Rattle.commit_list.proofs.EntriesLemmas.{IsTold-entries, IsLive-entries}

-- a list's number
abbrev IsListNumber : ℕ → Type 0
IsListNumber = IsNumber 1 9_223_372_036_854_775_807

-- a list's sequence number
abbrev IsListSeq : ℕ → Type 0
IsListSeq = IsNumber 0 9_223_372_036_854_775_807

-- each entry is one
abbrev AreEntries : List ListEntry → Type 0
AreEntries = AllByRecursion IsEntry

-- the line of a number
abbrev list_line : ℕ → List ℕ
list_line = number_line (codes "list")

-- the line of a sequence number
abbrev seq_line : ℕ → List ℕ
seq_line = number_line (codes "seq")

-- what stands behind the number
abbrev IsBody : ℕ × List ListEntry → Type 0
IsBody = IsPair IsListSeq (λ _. AreEntries)

-- as its lines
abbrev body_text : ℕ × List ListEntry → List ℕ
body_text = pair_text seq_line entries_text

-- the parts of a list
abbrev AreParts : ℕ × (ℕ × List ListEntry) → Type 0
AreParts = IsPair IsListNumber (λ _. IsBody)

-- as its lines
abbrev parts_text : ℕ × (ℕ × List ListEntry) → List ℕ
parts_text = pair_text list_line body_text

-- the list of these parts
abbrev list_of : ℕ × (ℕ × List ListEntry) → RegionList
list_of parts = record { number = parts.0; seq = parts.1.0; entries = parts.1.1 }

-- the parts of a list
abbrev parts_of : RegionList → ℕ × (ℕ × List ListEntry)
parts_of list = (list.number, (list.seq, list.entries))

-- the lines of parts are those of lists
Same-IsListFile : Same (IsTextOf AreParts parts_text) IsListFile
Same-IsListFile =
    Same-map AreParts parts_text IsRegionList region_list_text list_of parts_of (λ parts ok. record { number = ok.0; seq = ok.1.0; entries = ok.1.1 })
    (λ list ok. (ok.number, (ok.seq, ok.entries))) (λ parts. refl) (λ list. refl)

-- a number is told by its line
IsTold-list_line : IsTold IsListNumber list_line
IsTold-list_line = IsTold-number_line (field (codes "list")) 1 9_223_372_036_854_775_807 (omega arith)

-- a sequence number by its
IsTold-seq_line : IsTold IsListSeq seq_line
IsTold-seq_line = IsTold-number_line (field (codes "seq")) 0 9_223_372_036_854_775_807 (omega arith)

-- there is what stands behind a number
IsLive-IsBody : IsLive (IsTextOf IsBody body_text)
IsLive-IsBody =
    let seq = IsLive-number_line (field (codes "seq")) 0 9_223_372_036_854_775_807 (omega arith) in
    let entries = IsLive-entries in
    (seq_line seq.1.0 ++ entries_text entries.1.0, ((seq.1.0, entries.1.0), (seq.1.1, entries.1.1), refl))

-- a list is told by its lines
pub IsTold-IsRegionList : IsTold IsRegionList region_list_text
IsTold-IsRegionList v w a b ok ok' e =
    let body = IsTold-IsPair IsListSeq seq_line (λ _. AreEntries) entries_text IsTold-seq_line (λ _ _. IsTold-entries) in
    let parts = IsTold-IsPair IsListNumber list_line (λ _. IsBody) body_text IsTold-list_line (λ _ _. body) (parts_of v) (parts_of w) a b
    (ok.number, (ok.seq, ok.entries)) (ok'.number, (ok'.seq, ok'.entries)) e in
    ap list_of parts

-- two lists with the same lines are equal
pub region_list_text-injective : (v w : RegionList) → IsRegionList v → IsRegionList w → region_list_text v ≡ region_list_text w → v ≡ w
region_list_text-injective v w ok ok' e =
    IsTold-IsRegionList v w [] [] ok ok' (append-nil (region_list_text v) ∙ e ∙ sym (append-nil (region_list_text w)))

-- a refusal of the parts is one of the list
IsRefusal-parts : (bytes : List ℕ) (error : ListError) → IsRefusalAt (IsTextOf AreParts parts_text) bytes 0 error → IsFileRefusal IsListFile bytes error
IsRefusal-parts bytes error refused =
    IsFileRefusal-IsRefusalAt IsListFile bytes error (IsRefusalAt-Same (IsTextOf AreParts parts_text) IsListFile Same-IsListFile bytes 0 error refused)

-- a refusal of the number's line is one of the list
pub IsRefusal-number : (bytes : List ℕ) (error : ListError) → IsFrontRefusal (IsTextOf IsListNumber list_line) bytes 0 error → IsFileRefusal IsListFile bytes error
IsRefusal-number bytes error refused =
    IsRefusal-parts bytes error (IsRefusalAt-IsPair_first IsListNumber list_line (λ _. IsBody) body_text (λ _ _. IsLive-IsBody) bytes 0 error refused)

-- behind it, so is a refusal of the sequence number's
pub IsRefusal-seq : (bytes : List ℕ) (seq_at number : ℕ) → IsValueAt IsListNumber list_line bytes 0 number seq_at → (error : ListError) →
    IsFrontRefusal (IsTextOf IsListSeq seq_line) bytes seq_at error → IsFileRefusal IsListFile bytes error
IsRefusal-seq bytes seq_at number first error refused =
    let body = IsRefusalAt-IsPair_first IsListSeq seq_line (λ _. AreEntries) entries_text (λ _ _. IsLive-entries) bytes seq_at error refused in
    IsRefusal-parts bytes error (IsRefusalAt-IsPair_second IsListNumber list_line (λ _. IsBody) body_text IsTold-list_line bytes 0 seq_at number first error body)

-- and behind both, a refusal of the entries
pub IsRefusal-entries : (bytes : List ℕ) (seq_at entries_at number seq : ℕ) → IsValueAt IsListNumber list_line bytes 0 number seq_at →
    IsValueAt IsListSeq seq_line bytes seq_at seq entries_at → (error : ListError) → IsRefusalAt (IsTextOf AreEntries entries_text) bytes entries_at error →
    IsFileRefusal IsListFile bytes error
IsRefusal-entries bytes seq_at entries_at number seq first second error refused =
    let body = IsRefusalAt-IsPair_second IsListSeq seq_line (λ _. AreEntries) entries_text IsTold-seq_line bytes seq_at entries_at seq second error refused in
    IsRefusal-parts bytes error (IsRefusalAt-IsPair_second IsListNumber list_line (λ _. IsBody) body_text IsTold-list_line bytes 0 seq_at number first error body)

-- an answer that is right gives the list of the bytes
pub GivesList-from : (bytes : List ℕ) (result : Result RegionList ListError) → IfOk result (λ list. IsRegionList list × (bytes ≡ region_list_text list)) →
    IfErr result (IsFileRefusal IsListFile bytes) → (list : RegionList) → IsRegionList list → bytes ≡ region_list_text list → GivesList result list
GivesList-from bytes (Ok found) read fault list ok e = region_list_text-injective found list read.0 ok (sym read.1 ∙ e)
GivesList-from bytes (Err NoMemory) read fault list ok e = tt
GivesList-from bytes (Err (BadList place)) read fault list ok e = fault.not_spelled (list, ok, e)

-- what stands behind the number's line
abbrev behind_number : RegionList → List ℕ
behind_number list = seq_line list.seq ++ entries_text list.entries

-- the text of a list of this number begins with no other
pub number_only-list : (bytes : List ℕ) (number : ℕ) (list : RegionList) → IsRegionList list → bytes ≡ region_list_text list → list.number ≡ number →
    HasOtherNumber (codes "list ") number bytes → ⊥
number_only-list bytes number list ok e same = number_only (codes "list ") number list.number bytes (behind_number list) ok.number e same

-- a list that is read has the number, where its bytes begin with no other
pub number_told-list : (bytes : List ℕ) (number : ℕ) (result : Result RegionList ListError) → (HasOtherNumber (codes "list ") number bytes → ⊥) →
    IfOk result (λ list. IsRegionList list × (bytes ≡ region_list_text list)) → IfOk result (λ list. list.number ≡ number)
number_told-list bytes number (Ok list) none found = number_told (codes "list ") number list.number bytes (behind_number list) found.0.number found.1 none
number_told-list bytes number (Err error) none found = tt
