use Rattle.std.proofs.Common.{◌≡◌, ℕ, zero, suc, ◌<◌, List, [], ◌∷◌, length, drop, get_or, Bool, true, Option, Some, None, IfSome, arith}
use Rattle.hb_grammar.specs.Rows.{RowsFrom, last_of, IsBegun}
use Rattle.hb_records.specs.declared.region_info.RegionInfo.{RegionInfo}
use Rattle.region_set.specs.RegionLine.{IsRegion, IsRegionBehind}

-- the last of some regions is one
pub IsRegion-last_of : (table : List ℕ) (last : Option (RegionInfo × Bool)) (rows : List (RegionInfo × Bool)) → IfSome last (IsRegion table) →
    RowsFrom (IsRegionBehind table) last rows → IfSome (last_of last rows) (IsRegion table)
IsRegion-last_of table last [] ok each = ok
IsRegion-last_of table None (row ∷ rows) ok each = IsRegion-last_of table (Some row) rows each.0 each.1
IsRegion-last_of table (Some last) (row ∷ rows) ok each = IsRegion-last_of table (Some row) rows each.0.0 each.1

-- what stands from a place on begins with the byte there
pub IsBegun-drop : (first : ℕ → Bool) (bytes : List ℕ) (at : ℕ) → at < length bytes → first (get_or bytes at 0) ≡ true → IsBegun first (drop at bytes)
IsBegun-drop first [] at below e = absurd (omega arith)
IsBegun-drop first (x ∷ bytes) zero below e = e
IsBegun-drop first (x ∷ bytes) (suc at) below e = IsBegun-drop first bytes at (omega arith) e
