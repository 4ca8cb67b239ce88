-- What a step makes of the tables, and the regions that it adds.
use Rattle.std.specs.Prelude.{List, [], ◌∷◌}
use Rattle.hb_records.specs.declared.region_info.RegionInfo.{RegionInfo}
use Rattle.plain_model.specs.declared.event.Event.{Event}
use Rattle.plain_model.specs.declared.event.Event.TheVariants as event
use Rattle.plain_model.specs.Names.{Names}
use Rattle.plain_model.specs.declared.parts.PlainSnapshot.{PlainSnapshot}
use Rattle.plain_model.specs.declared.parts.PlainTable.{PlainTable}
use Rattle.plain_model.specs.TableEvents.{tables_on}
use Rattle.core_model.specs.declared.step.Step.{Step}
use Rattle.core_model.specs.declared.step.Step.TheVariants as step

abbrev pub tables_by : Step → Names PlainSnapshot → Names PlainTable → Names PlainTable
tables_by (step.CommitRegions actor table number name set change) snapshots tables = tables_on change snapshots tables
tables_by _ snapshots tables = tables

-- the regions that an event adds
abbrev pub added_by : Event → List RegionInfo
added_by (event.Create schema regions) = regions
added_by (event.Split t parent low high) = low ∷ high ∷ []
added_by (event.Clone name t regions) = regions
added_by (event.Restore name regions) = regions
added_by _ = []
