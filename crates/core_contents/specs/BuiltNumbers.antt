-- The list of a region that is being built has the number that the region will begin with.
use Rattle.std.specs.Prelude.{◌≡◌, ◌⊎◌, ℕ, List, [], ◌++◌}
use Rattle.hb_records.specs.declared.region_info.RegionInfo.{RegionInfo}
use Rattle.plain_model.specs.declared.region_key.RegionKey.{RegionKey}
use Rattle.plain_model.specs.Keys.{key_of}
use Rattle.plain_model.specs.LiveEvents.{job_of}
use Rattle.cell_sight.specs.Member.{Member}
use Rattle.core_model.specs.declared.entry.Entry.{Entry}
use Rattle.core_model.specs.declared.region_files.RegionFiles.{RegionFiles}
use Rattle.core_model.specs.Entries.{no_list}
use Rattle.core_model.specs.ListGuards.{HasNumber}
use Rattle.core_model.specs.Plans.{planned_for}
use Rattle.core_model.specs.State.{Parts}

-- its entries are the first that are planned, and it has its number where they are all
pub record HasBuilt (a : ℕ) (r : RegionKey) (l : RegionFiles) (s : Parts) : Type 0 where
  pub rest : List Entry
  pub first : planned_for (s.plans a).entries r ≡ l.entries ++ rest
  pub number : rest ≡ [] → HasNumber (job_of s.plain.live a) r a l.seq s

-- it is not built yet, or so built
abbrev pub IsBuilding : ℕ → RegionKey → RegionFiles → Parts → Type 0
IsBuilding a r l s = (l ≡ no_list) ⊎ HasBuilt a r l s

pub record BuiltNumbers (s : Parts) : Type 0 where
  pub at : (a : ℕ) (i : RegionInfo) → Member i (s.plans a).regions → IsBuilding a (key_of i) (s.lists (key_of i)) s
