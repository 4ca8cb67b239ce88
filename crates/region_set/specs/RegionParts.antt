use Rattle.std.specs.Prelude.{ℕ, ◌<◌, ◌≤◌, ◌^◌, nat_lt, cond, List, length, Bool, Option, Some, None, IfSome, option_map}
use Rattle.std.specs.Fmt.{decimal}
use Rattle.hb_grammar.specs.AtLeast.{IsAtLeast}
use Rattle.hb_grammar.specs.TextOf.{IsPair, pair_text}
use Rattle.hb_records.specs.declared.region_info.RegionInfo.{RegionInfo}
use Rattle.hb_row_text.specs.RowText.{row_text}
use Rattle.hb_row_text.specs.NextRow.{next_row}
use Rattle.commit_line.specs.Line.{field, ended}
use Rattle.region_set.specs.RegionLine.{IsRow, split_word, end_text}
use Rattle.hb_row_text.specs.declared.row_text.TheConstants.{MAX_ROW}

-- an id where there is no next row, and else 0
abbrev pub id_unless : Option (List ℕ) → ℕ → ℕ
id_unless None id = id
id_unless (Some next) id = 0

-- the least id that a region behind another can have: that one's where its start has no next row
abbrev pub least_id : Option (RegionInfo × Bool) → ℕ
least_id None = 0
least_id (Some last) = id_unless (next_row MAX_ROW last.0.start) last.0.id

-- the least start of a region of this id behind another: that one's where the id is not below its id, and else the row next to that
abbrev pub start_bound : Option (RegionInfo × Bool) → ℕ → Option (List ℕ)
start_bound None id = None
start_bound (Some last) id = cond (nat_lt id last.0.id) (next_row MAX_ROW last.0.start) (Some last.0.start)

-- its text
abbrev pub bound_text : Option (RegionInfo × Bool) → ℕ → Option (List ℕ)
bound_text last id = option_map row_text (start_bound last id)

-- an id from the least one on
abbrev pub IsId : ℕ → ℕ → Type 0
IsId low id = (low ≤ id) × (id < 2 ^ 64)

-- each word that tells whether a region is split is one
abbrev pub IsSplit : Bool → Type 0
IsSplit split = Unit {0}

-- a start whose text is not below the bound, if there is one
abbrev pub IsStart : Option (List ℕ) → List ℕ → Type 0
IsStart None row = IsRow row
IsStart (Some bound) row = IsRow row × IsAtLeast bound (row_text row)

-- an end: a row key of at least a byte, where there is one
abbrev pub IsEnd : Option (List ℕ) → Type 0
IsEnd end = IfSome end IsRow × IfSome end (λ row. 0 < length row)

-- an id and a blank
abbrev pub id_field : ℕ → List ℕ
id_field id = field (decimal id)

-- the word that tells whether a region is split, and a blank
abbrev pub split_field : Bool → List ℕ
split_field split = field (split_word split)

-- a start and a blank
abbrev pub start_field : List ℕ → List ℕ
start_field row = field (row_text row)

-- an end and a line feed
abbrev pub end_line : Option (List ℕ) → List ℕ
end_line end = ended (end_text end)

-- a start from a bound on, and an end
abbrev pub AreBounds : Option (List ℕ) → List ℕ × Option (List ℕ) → Type 0
AreBounds bound = IsPair (IsStart bound) (λ _. IsEnd)

-- as the line of a region has them
abbrev pub bounds_text : List ℕ × Option (List ℕ) → List ℕ
bounds_text = pair_text start_field end_line

-- what stands behind a region's id: whether it is split, and its bounds
abbrev pub IsRest : Option (List ℕ) → Bool × (List ℕ × Option (List ℕ)) → Type 0
IsRest bound = IsPair IsSplit (λ _. AreBounds bound)

-- as the line of a region has it
abbrev pub rest_text : Bool × (List ℕ × Option (List ℕ)) → List ℕ
rest_text = pair_text split_field bounds_text

-- what stands behind the word of a region's line: an id and the rest, behind another region if there is one
abbrev pub AreParts : Option (RegionInfo × Bool) → ℕ × (Bool × (List ℕ × Option (List ℕ))) → Type 0
AreParts last = IsPair (IsId (least_id last)) (λ id. IsRest (bound_text last id))

-- as the line has it
abbrev pub parts_text : ℕ × (Bool × (List ℕ × Option (List ℕ))) → List ℕ
parts_text = pair_text id_field rest_text

-- the region of a table that has these parts
abbrev pub region_of : List ℕ → ℕ × (Bool × (List ℕ × Option (List ℕ))) → RegionInfo × Bool
region_of table parts = (record { id = parts.0; table = table; start = parts.1.1.0; end = parts.1.1.1 }, parts.1.0)
