-- Journals of allowed entries.
use Rattle.std.specs.Prelude.{◌≡◌, ℕ, List, [], ◌∷◌, codes, Some}
use Rattle.std.specs.FinMap.{get}
use Rattle.hb_cell.specs.declared.cell.Cell.{Cell}
use Rattle.hb_cell.specs.declared.kind.Kind.TheVariants as kinds
use Rattle.hb_layout.specs.declared.base.Base.{Base}
use Rattle.plain_model.specs.declared.region_key.RegionKey.{RegionKey}
use Rattle.core_model.specs.declared.entry.Entry.TheVariants.{Own}
use Rattle.core_model.specs.declared.journal.JournalEntry.{JournalEntry}
use Rattle.core_model.specs.declared.snapshot.Snapshot.{Snapshot}
use Rattle.core_model.specs.Actors.{IsRegion}
use Rattle.core_model.specs.Allows.{AllowsAll}
use Rattle.core_model.specs.Entries.{cells_in}
use Rattle.core_model.specs.PassChanges.{snapshot_entries}
use Rattle.core_model.specs.Replay.{replay}
use Rattle.core_model.specs.State.{Parts}
use Rattle.core_sound.specs.Laws.{bare_opening}

-- a cell of the row r, the family f and the qualifier q
abbrev pub cell : Cell
cell = record { row = codes "r"; family = codes "f"; qualifier = codes "q"; ts = 5; kind = kinds.Put; seq = 1; value = codes "v" }

-- in this state a region's list has one file, with the cell
pub record HasFlushed (s : Parts) : Type 0 where
  pub region : RegionKey
  pub there : IsRegion s.plain.tables region
  pub file : Base
  pub listed : (s.lists region).entries ≡ Own file ∷ []
  pub cells : cells_in s.made (s.lists region).entries ≡ cell ∷ []

-- a journal of allowed entries, from an empty store, leads there
pub record FlushIsMet (ttl : ℕ) : Type 0 where
  pub entries : List JournalEntry
  pub allowed : AllowsAll (bare_opening 1 ttl) entries
  pub flushed : HasFlushed (replay (bare_opening 1 ttl) entries).now

-- in this state a complete snapshot has the cell
pub record HasSnapshot (s : Parts) : Type 0 where
  pub name : List ℕ
  pub snapshot : Snapshot
  pub complete : get s.snapshots name ≡ Some snapshot
  pub cells : cells_in s.made (snapshot_entries snapshot) ≡ cell ∷ []

-- a journal of allowed entries, from an empty store, leads there
pub record SnapshotIsMet (ttl : ℕ) : Type 0 where
  pub entries : List JournalEntry
  pub allowed : AllowsAll (bare_opening 1 ttl) entries
  pub taken : HasSnapshot (replay (bare_opening 1 ttl) entries).now
