-- A journal of allowed entries that splits a region.
use Rattle.std.specs.Prelude.{◌≡◌, ℕ, true, false, List, [], ◌∷◌, codes, Some}
use Rattle.hb_layout.specs.declared.base.Base.{Base}
use Rattle.ns_tree.specs.declared.file.FileState.{FileState}
use Rattle.plain_model.specs.declared.region_key.RegionKey.{RegionKey}
use Rattle.core_model.specs.declared.entry.Entry.{Entry}
use Rattle.core_model.specs.declared.entry.Entry.TheVariants.{Half}
use Rattle.core_model.specs.declared.journal.JournalEntry.{JournalEntry}
use Rattle.core_model.specs.Actors.{InSet}
use Rattle.core_model.specs.Allows.{AllowsAll}
use Rattle.core_model.specs.Entries.{cells_in, file_of}
use Rattle.core_model.specs.Replay.{replay}
use Rattle.core_model.specs.Site.{Live}
use Rattle.core_model.specs.State.{Parts}
use Rattle.core_sound.specs.Laws.{bare_opening}
use Rattle.core_met.specs.Met.{cell}

-- the row of the split, below that of the cell
abbrev pub row : List ℕ
row = codes "m"

-- a region has this one entry, whose file stands
pub record HasOnly (s : Parts) (r : RegionKey) (e : Entry) : Type 0 where
  pub listed : (s.lists r).entries ≡ e ∷ []
  pub pointer : FileState
  pub stands : s.disk (Live (file_of r e)) ≡ Some pointer

-- in this state a region is split, and each of two others has a half of one file: the upper has the cell
pub record HasSplit (s : Parts) : Type 0 where
  pub parent : RegionKey
  pub split : InSet s.plain.tables parent true
  pub lower : RegionKey
  pub lower_open : InSet s.plain.tables lower false
  pub upper : RegionKey
  pub upper_open : InSet s.plain.tables upper false
  pub file : Base
  pub lower_half : HasOnly s lower (Half file false parent.region row false)
  pub upper_half : HasOnly s upper (Half file false parent.region row true)
  pub lower_cells : cells_in s.made (s.lists lower).entries ≡ []
  pub upper_cells : cells_in s.made (s.lists upper).entries ≡ cell ∷ []

-- a journal of allowed entries, from an empty store, leads there
pub record SplitIsMet (ttl : ℕ) : Type 0 where
  pub entries : List JournalEntry
  pub allowed : AllowsAll (bare_opening 1 ttl) entries
  pub split : HasSplit (replay (bare_opening 1 ttl) entries).now
