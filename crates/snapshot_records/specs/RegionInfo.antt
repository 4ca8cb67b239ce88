-- A region (HBase RegionInfo):
--   1 its id, required
--   2 its table, required
--   3 the row at which it starts; absent or empty where it has no lower bound
--   4 the row before which it ends; absent or empty where it has no upper bound
use Rattle.std.specs.Prelude.{◌≤◌, ℕ, List, [], ◌∷◌, length, Option, Some, None, unwrap_or, Result, Ok}
use Rattle.wire_fields.specs.Fields.{Part}
use Rattle.field_rules.specs.declared.unmade.Unmade.{Unmade}
use Rattle.field_rules.specs.Values.{Text, Inner, AnyNumber}
use Rattle.field_rules.specs.Rules.{Last, ◌&◌}
use Rattle.field_rules.specs.Record.{◌>>=◌, need, IsRecord}
use Rattle.hb_records.specs.declared.region_info.RegionInfo.{RegionInfo}
use Rattle.snapshot_records.specs.TableMessage.{IsTableMessage}

-- a row that bounds a region, or no bytes
abbrev pub IsBound : List ℕ → Type 0
IsBound bytes = length bytes ≤ 32767

-- no bytes count as none
abbrev pub some_bytes : List ℕ → Option (List ℕ)
some_bytes [] = None
some_bytes (b ∷ bytes) = Some (b ∷ bytes)

abbrev pub RegionValues : Type 0
RegionValues = Option ℕ × (Option (List ℕ) × (Option (List ℕ) × Option (List ℕ)))

abbrev pub region_rules : List (ℕ × Part) → RegionValues → Type 0
region_rules = Last AnyNumber 1 & (Last (Inner IsTableMessage) 2 & (Last (Text IsBound) 3 & Last (Text IsBound) 4))

abbrev pub region_made : RegionValues → Result RegionInfo Unmade
region_made (id, (table, (start, end))) = do
  id ← need 1 id
  table ← need 2 table
  Ok (record { id = id; table = table; start = unwrap_or start []; end = some_bytes (unwrap_or end []) })

abbrev pub IsRegionInfo : List ℕ → RegionInfo → Type 0
IsRegionInfo = IsRecord region_rules region_made
