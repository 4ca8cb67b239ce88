-- A journal of allowed entries whose pass deletes an archived file.
use Rattle.std.specs.Prelude.{◌≡◌, ℕ, false, List, [], ◌∷◌, Some, None}
use Rattle.hb_layout.specs.declared.base.Base.{Base}
use Rattle.plain_model.specs.declared.region_key.RegionKey.{RegionKey}
use Rattle.plain_model.specs.declared.who.Actor.{Actor}
use Rattle.core_model.specs.declared.entry.Entry.TheVariants.{Own}
use Rattle.core_model.specs.declared.journal.JournalEntry.{JournalEntry}
use Rattle.core_model.specs.declared.step.Step.TheVariants.{DeleteArchived}
use Rattle.cell_sight.specs.Member.{Member}
use Rattle.core_model.specs.Actors.{IsRegion}
use Rattle.core_model.specs.Allows.{AllowsAll}
use Rattle.core_model.specs.Entries.{cells_in}
use Rattle.core_model.specs.Replay.{replay}
use Rattle.core_model.specs.Site.{Live, Archived}
use Rattle.core_model.specs.State.{Parts}
use Rattle.core_sound.specs.Laws.{bare_opening}
use Rattle.core_met.specs.Met.{cell}

-- in this state a file that had the cell stands nowhere, and a region's list has the cell in another
pub record HasCleaned (s : Parts) (file : Base) : Type 0 where
  pub had : s.made file ≡ Some (cell ∷ [])
  pub moved : s.disk (Live file) ≡ None
  pub deleted : s.disk (Archived file) ≡ None
  pub region : RegionKey
  pub there : IsRegion s.plain.tables region
  pub other : Base
  pub listed : (s.lists region).entries ≡ Own other ∷ []
  pub cells : cells_in s.made (s.lists region).entries ≡ cell ∷ []

-- a journal of allowed entries, from an empty store, deletes the archived file and leads there
pub record DeletionIsMet (ttl : ℕ) : Type 0 where
  pub entries : List JournalEntry
  pub allowed : AllowsAll (bare_opening 1 ttl) entries
  pub actor : Actor
  pub file : Base
  pub worker : ℕ
  pub deletes : Member {X = JournalEntry} (record { worker = worker; step = DeleteArchived actor file; failed = false }) entries
  pub cleaned : HasCleaned (replay (bare_opening 1 ttl) entries).now file
