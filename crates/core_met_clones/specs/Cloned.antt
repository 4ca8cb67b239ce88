-- A journal of allowed entries that clones a table and drops the first one.
use Rattle.std.specs.Prelude.{◌≡◌, ℕ, List, [], ◌∷◌, Some, None}
use Rattle.std.specs.FinMap.{get}
use Rattle.hb_layout.specs.declared.base.Base.{Base}
use Rattle.ns_tree.specs.declared.file.FileState.{FileState}
use Rattle.plain_model.specs.declared.region_key.RegionKey.{RegionKey}
use Rattle.core_model.specs.declared.entry.Entry.TheVariants.{Link}
use Rattle.core_model.specs.declared.journal.JournalEntry.{JournalEntry}
use Rattle.core_model.specs.Actors.{IsRegion}
use Rattle.core_model.specs.Allows.{AllowsAll}
use Rattle.core_model.specs.Entries.{cells_in}
use Rattle.core_model.specs.Replay.{replay}
use Rattle.core_model.specs.Site.{Live, Archived}
use Rattle.core_model.specs.State.{Parts}
use Rattle.core_sound.specs.Laws.{bare_opening}
use Rattle.core_met.specs.Met.{cell}

-- in this state a region's list has one link, with the cell, to an archived file of a table that is gone
pub record HasClone (s : Parts) : Type 0 where
  pub region : RegionKey
  pub there : IsRegion s.plain.tables region
  pub file : Base
  pub listed : (s.lists region).entries ≡ Link file ∷ []
  pub cells : cells_in s.made (s.lists region).entries ≡ cell ∷ []
  pub dropped : get s.plain.tables file.table ≡ None
  pub moved : s.disk (Live file) ≡ None
  pub archive : FileState
  pub archived : s.disk (Archived file) ≡ Some archive

-- a journal of allowed entries, from an empty store, leads there
pub record CloneIsMet (ttl : ℕ) : Type 0 where
  pub entries : List JournalEntry
  pub allowed : AllowsAll (bare_opening 1 ttl) entries
  pub cloned : HasClone (replay (bare_opening 1 ttl) entries).now
