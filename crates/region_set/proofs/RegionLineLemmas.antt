use Rattle.std.proofs.Common.{◌≡◌, ℕ, ◌≤◌, List, length, Bool, Option, Some, None, IfSome, option_map, refl, sym, subst, ap, ◌∙◌, arith, codes}
use Rattle.hb_grammar.specs.Grammar.{IsLive, Same}
use Rattle.hb_grammar.specs.Marked.{Marked, Avoids}
use Rattle.hb_grammar.specs.TextOf.{IsTextOf, IsTold, IsPair, pair_text}
use Rattle.hb_grammar.proofs.AvoidsLemmas.{Avoids-Free, Free-text}
use Rattle.hb_grammar.proofs.TextOfLemmas.{IsTold-IsPair}
use Rattle.hb_grammar.proofs.RowsLemmas.{IsApart}
use Rattle.hb_grammar.specs.Rows.{IsBegun}
use Rattle.hb_records.specs.declared.region_info.RegionInfo.{RegionInfo}
use Rattle.hb_row_text.specs.RowText.{row_text, IsRowText}
use Rattle.commit_line.specs.declared.error.ListError.{ListError}
use Rattle.commit_line.specs.Line.{field}
use Rattle.commit_line.specs.ListError.{IsFrontRefusal, IsValueAt, IsWord}
use Rattle.commit_line.proofs.ReadLemmas.{IsFrontRefusal-Same, IsFrontRefusal-IsPair_first, IsFrontRefusal-IsPair_second, IsValueAt-IsPair, IsValueAt-IsWord, IsValueAt-map, Same-map}
use Rattle.region_set.specs.RegionLine.{IsRow, IsRegion, IsRegionBehind, region_text, begins_region}
use Rattle.region_set.specs.RegionParts.{least_id, start_bound, bound_text, IsId, id_field, IsRest, rest_text, AreParts, parts_text, region_of}
use Rattle.region_set.proofs.RegionOrderLemmas.{IsRow-IsStart, IsRow-start_bound, least_id-small, IsId-IsRegionBehind, IsStart-IsRegionBehind, IsRegionBehind-IsStart}
use Rattle.region_set.proofs.RegionPartsLemmas.{IsTold-IsId, IsTold-IsRest, IsLive-IsRest, IsFrontRefusal-marked}

-- the word of a region's line is one alone
abbrev IsLineWord : Unit {0} → Type 0
IsLineWord one = Unit {0}

-- the word of a region's line
abbrev line_word : Unit {0} → List ℕ
line_word one = codes "region"

-- the word and a blank
abbrev line_field : Unit {0} → List ℕ
line_field one = field (codes "region")

-- a region's line in parts
abbrev IsLine : Option (RegionInfo × Bool) → Unit {0} × (ℕ × (Bool × (List ℕ × Option (List ℕ)))) → Type 0
IsLine last = IsPair IsLineWord (λ _. AreParts last)

-- its text
abbrev line_text : Unit {0} × (ℕ × (Bool × (List ℕ × Option (List ℕ)))) → List ℕ
line_text = pair_text line_field parts_text

-- the parts of a region
abbrev parts_of : RegionInfo × Bool → ℕ × (Bool × (List ℕ × Option (List ℕ)))
parts_of region = (region.0.id, (region.1, (region.0.start, region.0.end)))

-- a bound on starts is the text of a row key
IsRowText-map : (bound : Option (List ℕ)) → ((row : List ℕ) → bound ≡ Some row → IsRow row) → (text : List ℕ) → option_map row_text bound ≡ Some text → IsRowText text
IsRowText-map None ok text e = cc
IsRowText-map (Some row) ok text e =
    let is_row = ok row refl in record { row = row; small = is_row.small; limit = is_row.limit; whole = let same : row_text row ≡ text = cc in sym same }

-- so is the least start behind a region
pub IsRowText-bound_text : (last : Option (RegionInfo × Bool)) (id : ℕ) → IfSome last (λ region. IsRow region.0.start) → (text : List ℕ) →
    bound_text last id ≡ Some text → IsRowText text
IsRowText-bound_text last id ok text e = IsRowText-map (start_bound last id) (IsRow-start_bound last id ok) text e

-- a region's start is a row key
IfSome-IsRegion : (table : List ℕ) (last : Option (RegionInfo × Bool)) → IfSome last (IsRegion table) → IfSome last (λ region. IsRow region.0.start)
IfSome-IsRegion table None ok = tt
IfSome-IsRegion table (Some last) ok = ok.start

-- parts of a line are those of a region that may stand behind another
IsRegionBehind-region_of : (table : List ℕ) (last : Option (RegionInfo × Bool)) → IfSome last (λ region. IsRow region.0.start) →
    (line : Unit {0} × (ℕ × (Bool × (List ℕ × Option (List ℕ))))) → IsLine last line → IsRegionBehind table last (region_of table line.1)
IsRegionBehind-region_of table last row line ok =
    let id = ok.1.0 in
    let start = ok.1.1.1.0 in
    let end = ok.1.1.1.1 in
    let region : IsRegion table (region_of table line.1) =
    record { of_table = refl; id = id.1; start = IsRow-IsStart (bound_text last line.1.0) line.1.1.1.0 start; end = end.0; end_some = end.1 } in
    IsRegionBehind-IsStart table last (region_of table line.1) row region id start

-- a region that may stand behind another is a region
IsRegion-IsRegionBehind : (table : List ℕ) (last : Option (RegionInfo × Bool)) (region : RegionInfo × Bool) → IsRegionBehind table last region → IsRegion table region
IsRegion-IsRegionBehind table None region ok = ok
IsRegion-IsRegionBehind table (Some last) region ok = ok.0

-- and has the parts of such a line
IsLine-IsRegionBehind : (table : List ℕ) (last : Option (RegionInfo × Bool)) → IfSome last (λ region. IsRow region.0.start) →
    (region : RegionInfo × Bool) → IsRegionBehind table last region → IsLine last (tt, parts_of region)
IsLine-IsRegionBehind table last row region ok =
    let is_region = IsRegion-IsRegionBehind table last region ok in
    (tt, (IsId-IsRegionBehind table last region ok, (tt, (IsStart-IsRegionBehind table last region row ok, (is_region.end, is_region.end_some)))))

-- the lines in parts are those of regions
Same-IsLine : (table : List ℕ) (last : Option (RegionInfo × Bool)) → IfSome last (λ region. IsRow region.0.start) →
    Same (IsTextOf (IsLine last) line_text) (IsTextOf (IsRegionBehind table last) region_text)
Same-IsLine table last row =
    Same-map (IsLine last) line_text (IsRegionBehind table last) region_text (λ line. region_of table line.1) (λ region. (tt, parts_of region))
    (IsRegionBehind-region_of table last row) (IsLine-IsRegionBehind table last row) (λ line. refl) (λ region. refl)

-- the word is told
IsTold-IsLineWord : IsTold IsLineWord line_field
IsTold-IsLineWord v w a b ok ok' e = refl

-- behind the word, parts are told by their text
IsTold-AreParts : (last : Option (RegionInfo × Bool)) → IsTold (AreParts last) parts_text
IsTold-AreParts last =
    IsTold-IsPair (IsId (least_id last)) id_field (λ id. IsRest (bound_text last id)) rest_text (IsTold-IsId (least_id last)) (λ id _. IsTold-IsRest (bound_text last id))

-- a line is told by its text
IsTold-IsLine : (last : Option (RegionInfo × Bool)) → IsTold (IsLine last) line_text
IsTold-IsLine last = IsTold-IsPair IsLineWord line_field (λ _. AreParts last) parts_text IsTold-IsLineWord (λ _ _. IsTold-AreParts last)

-- a region of a table is the one of its parts
region_of-parts_of : (table : List ℕ) (region : RegionInfo × Bool) → region.0.table ≡ table → region ≡ region_of table (parts_of region)
region_of-parts_of table region e = λ i. (record { id = region.0.id; table = e i; start = region.0.start; end = region.0.end }, region.1)

-- a region is told by its line
pub IsTold-IsRegionBehind : (table : List ℕ) (last : Option (RegionInfo × Bool)) → IsTold (IsRegionBehind table last) region_text
IsTold-IsRegionBehind table last v w a b ok ok' e =
    let first = IsRegion-IsRegionBehind table last v ok in
    let second = IsRegion-IsRegionBehind table last w ok' in
    let same = IsTold-IsLine None (tt, parts_of v) (tt, parts_of w) a b (IsLine-IsRegionBehind table None tt v first) (IsLine-IsRegionBehind table None tt w second) e in
    region_of-parts_of table v first.of_table ∙ ap (λ (line : Unit {0} × (ℕ × (Bool × (List ℕ × Option (List ℕ))))). region_of table line.1) same ∙
    sym (region_of-parts_of table w second.of_table)

-- regions are apart from what begins otherwise
pub IsApart-IsRegionBehind : (table : List ℕ) (tail : List ℕ → Type 0) → ((bytes : List ℕ) → tail bytes → IsBegun begins_region bytes → ⊥) →
    IsApart (IsRegionBehind table) region_text tail begins_region
IsApart-IsRegionBehind table tail other = record { rows = λ last v ok. refl; tails = other; told = IsTold-IsRegionBehind table }

-- there are parts behind a region
IsLive-AreParts : (table : List ℕ) (last : Option (RegionInfo × Bool)) → IfSome last (IsRegion table) → IsLive (IsTextOf (AreParts last) parts_text)
IsLive-AreParts table last ok =
    let low = least_id last in
    let least : low ≤ low = omega arith in
    let rest = IsLive-IsRest (bound_text last low) (IsRowText-bound_text last low (IfSome-IsRegion table last ok)) in
    (parts_text (low, rest.1.0), ((low, rest.1.0), ((least, least_id-small table last ok), rest.1.1), refl))

-- the word has no blank
pub Avoids-line_word : Avoids (λ b. b ≡ codes "region") 32
Avoids-line_word = Avoids-Free (λ b. b ≡ codes "region") 32 (Free-text (codes "region") 32 (refl, (refl, (refl, (refl, (refl, (refl, tt)))))))

-- the word that a region's line begins with
IsFrontRefusal-line_word : (bytes : List ℕ) (at : ℕ) (error : ListError) → IsFrontRefusal (Marked (λ b. b ≡ codes "region") 32) bytes at error →
    IsFrontRefusal (IsTextOf IsLineWord line_field) bytes at error
IsFrontRefusal-line_word bytes at error refused =
    let words : Same (λ b. b ≡ codes "region") (IsTextOf IsLineWord line_word) = record { forth = λ b e. (tt, tt, e); back = λ b spelled. spelled.2 } in
    IsFrontRefusal-marked (λ b. b ≡ codes "region") IsLineWord line_word 32 words bytes at error refused

-- a refusal of the word is one of the region
pub IsFrontRefusal-word : (table : List ℕ) (last : Option (RegionInfo × Bool)) → IfSome last (IsRegion table) → (bytes : List ℕ) (at : ℕ) (error : ListError) →
    IsFrontRefusal (Marked (λ b. b ≡ codes "region") 32) bytes at error → IsFrontRefusal (IsTextOf (IsRegionBehind table last) region_text) bytes at error
IsFrontRefusal-word table last ok bytes at error refused =
    let row = IfSome-IsRegion table last ok in
    IsFrontRefusal-Same (IsTextOf (IsLine last) line_text) (IsTextOf (IsRegionBehind table last) region_text) (Same-IsLine table last row) bytes at error
    (IsFrontRefusal-IsPair_first IsLineWord line_field (λ _. AreParts last) parts_text (λ _ _. IsLive-AreParts table last ok) bytes at error
    (IsFrontRefusal-line_word bytes at error refused))

-- the word stands at a place
IsValueAt-line_word : (bytes : List ℕ) (at mid : ℕ) → at ≤ length bytes → IsWord (λ b. b ≡ codes "region") 32 bytes at mid →
    IsValueAt IsLineWord line_field bytes at tt mid
IsValueAt-line_word bytes at mid within word =
    IsValueAt-IsWord IsLineWord line_word (λ b. b ≡ codes "region") 32 bytes at mid within word tt tt (sym word.spelled)

-- behind it, so is a refusal of the parts
pub IsFrontRefusal-parts : (table : List ℕ) (last : Option (RegionInfo × Bool)) → IfSome last (IsRegion table) → (bytes : List ℕ) (at mid : ℕ) → at ≤ length bytes →
    IsWord (λ b. b ≡ codes "region") 32 bytes at mid → (error : ListError) → IsFrontRefusal (IsTextOf (AreParts last) parts_text) bytes mid error →
    IsFrontRefusal (IsTextOf (IsRegionBehind table last) region_text) bytes at error
IsFrontRefusal-parts table last ok bytes at mid within word error refused =
    IsFrontRefusal-Same (IsTextOf (IsLine last) line_text) (IsTextOf (IsRegionBehind table last) region_text) (Same-IsLine table last (IfSome-IsRegion table last ok)) bytes at error
    (IsFrontRefusal-IsPair_second IsLineWord line_field (λ _. AreParts last) parts_text IsTold-IsLineWord bytes at mid tt
    (IsValueAt-line_word bytes at mid within word) error refused)

-- the word and parts are a region
pub IsValueAt-region_of : (table : List ℕ) (last : Option (RegionInfo × Bool)) → IfSome last (IsRegion table) → (bytes : List ℕ) (at mid end : ℕ) → at ≤ length bytes →
    IsWord (λ b. b ≡ codes "region") 32 bytes at mid → (parts : ℕ × (Bool × (List ℕ × Option (List ℕ)))) → IsValueAt (AreParts last) parts_text bytes mid parts end →
    IsValueAt (IsRegionBehind table last) region_text bytes at (region_of table parts) end
IsValueAt-region_of table last ok bytes at mid end within word parts found =
    IsValueAt-map (IsLine last) line_text (IsRegionBehind table last) region_text (λ line. region_of table line.1)
    (IsRegionBehind-region_of table last (IfSome-IsRegion table last ok)) (λ line. refl) bytes at end (tt, parts)
    (IsValueAt-IsPair IsLineWord line_field (λ _. AreParts last) parts_text bytes at mid end tt parts (IsValueAt-line_word bytes at mid within word) found)

-- a refusal of the id is one of the parts
pub IsFrontRefusal-id : (last : Option (RegionInfo × Bool)) → IfSome last (λ region. IsRow region.0.start) → (bytes : List ℕ) (at : ℕ) (error : ListError) →
    IsFrontRefusal (IsTextOf (IsId (least_id last)) id_field) bytes at error → IsFrontRefusal (IsTextOf (AreParts last) parts_text) bytes at error
IsFrontRefusal-id last row bytes at error refused =
    IsFrontRefusal-IsPair_first (IsId (least_id last)) id_field (λ id. IsRest (bound_text last id)) rest_text
    (λ id _. IsLive-IsRest (bound_text last id) (IsRowText-bound_text last id row)) bytes at error refused

-- behind an id, so is a refusal of the rest
pub IsFrontRefusal-rest : (last : Option (RegionInfo × Bool)) (bytes : List ℕ) (at mid id : ℕ) → IsValueAt (IsId (least_id last)) id_field bytes at id mid →
    (bound : Option (List ℕ)) → bound ≡ bound_text last id → (error : ListError) → IsFrontRefusal (IsTextOf (IsRest bound) rest_text) bytes mid error →
    IsFrontRefusal (IsTextOf (AreParts last) parts_text) bytes at error
IsFrontRefusal-rest last bytes at mid id first bound e error refused =
    IsFrontRefusal-IsPair_second (IsId (least_id last)) id_field (λ id. IsRest (bound_text last id)) rest_text (IsTold-IsId (least_id last)) bytes at mid id first error
    (subst (λ b. IsFrontRefusal (IsTextOf (IsRest b) rest_text) bytes mid error) e refused)

-- an id and the rest are the parts
pub IsValueAt-parts : (last : Option (RegionInfo × Bool)) (bytes : List ℕ) (at mid end id : ℕ) → IsValueAt (IsId (least_id last)) id_field bytes at id mid →
    (bound : Option (List ℕ)) → bound ≡ bound_text last id → (rest : Bool × (List ℕ × Option (List ℕ))) → IsValueAt (IsRest bound) rest_text bytes mid rest end →
    IsValueAt (AreParts last) parts_text bytes at (id, rest) end
IsValueAt-parts last bytes at mid end id first bound e rest second =
    IsValueAt-IsPair (IsId (least_id last)) id_field (λ id. IsRest (bound_text last id)) rest_text bytes at mid end id rest first
    (subst (λ b. IsValueAt (IsRest b) rest_text bytes mid rest end) e second)
