-- Which store files of a family a minor compaction takes, by their sizes, the oldest first
-- (HBase Reference Guide, Compaction; RatioBasedCompactionPolicy).
use Rattle.std.specs.Prelude.{◌≡◌, ℕ, ◌+◌, ◌-◌, ◌*◌, ◌<◌, min, nat_lt, ◌&&◌, ◌||◌, not, if◌then◌else◌, Bool, true, false, List, length, take, drop, sum, slice_index, Option, Some, None}
use Rattle.act_compact.specs.declared.selection.SelectParams.{SelectParams}

-- the sizes of the files behind a position that could be taken with it, together
abbrev pub behind : SelectParams → List ℕ → ℕ → ℕ
behind params sizes at = sum (take (params.max - 1) (drop (at + 1) sizes))

-- above the least size that counts, and above so many tenths of those behind it
abbrev pub is_too_large : SelectParams → List ℕ → ℕ → Bool
is_too_large params sizes at =
    nat_lt params.min_size (slice_index sizes at) && nat_lt (params.ratio_tenths * behind params sizes at) (10 * slice_index sizes at)

-- too few files are left from a position on
abbrev pub are_too_few : SelectParams → List ℕ → ℕ → Bool
are_too_few params sizes at = nat_lt (length sizes) (at + params.min)

-- the first position that is not too large, or from which too few are left
pub record IsStart (params : SelectParams) (sizes : List ℕ) (start : ℕ) : Type 0 where
  pub here : are_too_few params sizes start || not (is_too_large params sizes start) ≡ true
  pub earlier : (at : ℕ) → at < start → are_too_few params sizes at || not (is_too_large params sizes at) ≡ false

-- from the start on as many as may be taken, or none
abbrev pub IsSelected : SelectParams → List ℕ → Option (ℕ × ℕ) → Type 0
IsSelected params sizes range = (start : ℕ) × IsStart params sizes start
    × (range ≡ (if are_too_few params sizes start then None else Some (start, min (start + params.max) (length sizes))))
