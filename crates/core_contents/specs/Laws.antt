-- What the files of the core hold, each as the contract of a law of its own.
use Rattle.std.specs.Prelude.{◌≡◌, ℕ, ◌≤◌, true, false, List, [], ◌++◌, map, take, Some, ◌∷◌}
use Rattle.std.specs.List.{AllZip}
use Rattle.std.specs.FinMap.{get}
use Rattle.hb_cell.specs.declared.cell.Cell.{Cell}
use Rattle.cell_sight.specs.Member.{Member}
use Rattle.cell_sight.specs.Same.{Same}
use Rattle.cell_sight.specs.Visible.{visible}
use Rattle.plain_model.specs.declared.region_key.RegionKey.{RegionKey}
use Rattle.plain_model.specs.declared.who.Actor.{Actor}
use Rattle.plain_model.specs.Found.{families_of, open_in}
use Rattle.plain_model.specs.SnapshotEvents.{captured}
use Rattle.core_model.specs.declared.entry.Entry.{Entry}
use Rattle.core_model.specs.declared.entry.Entry.TheVariants.{Own}
use Rattle.core_model.specs.declared.journal.JournalEntry.{JournalEntry}
use Rattle.core_model.specs.declared.opening.Opening.{Opening}
use Rattle.core_model.specs.declared.region_files.RegionFiles.{RegionFiles}
use Rattle.core_model.specs.declared.snapshot.CopiedRegion.{CopiedRegion}
use Rattle.core_model.specs.declared.snapshot.Snapshot.{Snapshot}
use Rattle.core_model.specs.declared.step.Step.{Step}
use Rattle.core_model.specs.declared.step.Step.TheVariants as step
use Rattle.core_model.specs.declared.targets.Why.TheVariants as why
use Rattle.core_model.specs.Actors.{IsRegion}
use Rattle.core_model.specs.Allows.{Allows, AllowsAll}
use Rattle.core_model.specs.Entries.{cells_in}
use Rattle.core_model.specs.ListGuards.{Compacts, Loads}
use Rattle.core_model.specs.Opened.{opened}
use Rattle.core_model.specs.Recipes.{frozen_cells}
use Rattle.core_model.specs.Replay.{after, replay}
use Rattle.core_model.specs.SnapshotGuards.{CanComplete}
use Rattle.core_model.specs.Sound.{IsSound}
use Rattle.core_model.specs.State.{Parts}
use Rattle.core_sound.specs.Laws.{bare_opening}
use Rattle.core_contents.specs.ContentFacts.{IsCopy}
use Rattle.core_contents.specs.Faithful.{IsFaithful, IsFaithfulState}

-- a step that is allowed in a sound and faithful state leads to a faithful one, while no more names are drawn than a journal
-- has room for
abbrev pub KeepsFaithful : Step → Parts → Type 0
KeepsFaithful p s = s.files ≤ 4_194_304 → Allows p s → IsSound s → IsFaithful s → IsFaithful (after p s)

-- so does each front of a journal of allowed entries, done or failed
abbrev pub LeadsToFaithful : Opening → List JournalEntry → ℕ → Type 0
LeadsToFaithful o es k = IsSound (opened o) → IsFaithful (opened o) → AllowsAll o es → IsFaithfulState (replay o (take k es))

abbrev pub BeginsFaithful : ℕ → ℕ → Type 0
BeginsFaithful epoch ttl = IsFaithful (opened (bare_opening epoch ttl))

-- the cells that the files of a region have
abbrev pub file_cells : Parts → RegionKey → List Cell
file_cells s r = cells_in s.made (s.lists r).entries

-- over an empty store, the files of each region have its cells in the plain machine, after every front of a journal of allowed
-- entries; and so they would with the operation of a failed entry done
pub record HasRegionCells (s : Parts) (r : RegionKey) : Type 0 where
  pub same : IsRegion s.plain.tables r → Same (file_cells s r) (s.plain.stable r)

abbrev pub HasCellsAfter : ℕ → ℕ → List JournalEntry → ℕ → RegionKey → Type 0
HasCellsAfter epoch ttl es k r =
    AllowsAll (bare_opening epoch ttl) es → HasRegionCells (replay (bare_opening epoch ttl) (take k es)).now r × HasRegionCells (replay (bare_opening epoch ttl) (take k es)).other r

-- ---- snapshots

-- a snapshot that is completed has, region by region, the cells that were captured
pub record HasCaptured (a : ℕ) (name : List ℕ) (x : Snapshot) (table : List ℕ) (s t : Parts) : Type 0 where
  pub complete : get t.snapshots name ≡ Some x
  pub regions : AllZip (IsCopy t.made) x.regions (captured (s.plain.captures a) (open_in s.plain table))

abbrev pub CompletesCaptures : Actor → List ℕ → Snapshot → Parts → Type 0
CompletesCaptures actor name x s = s.files ≤ 4_194_304 → (g : CanComplete actor.0 name x s) → IsSound s → IsFaithful s → HasCaptured actor.0 name x g.table s (after (step.Complete actor name x) s)

-- the step deletes the snapshot
abbrev pub Deletes : Step → List ℕ → Type 0
Deletes (step.Uncomplete actor snapshot) name = snapshot ≡ name
Deletes _ name = ⊥

-- until then it stays, and the entries of each of its regions have the same cells
pub record StaysAs (name : List ℕ) (x : Snapshot) (s t : Parts) : Type 0 where
  pub complete : get t.snapshots name ≡ Some x
  pub cells : (r : CopiedRegion) → Member r x.regions → cells_in t.made r.entries ≡ cells_in s.made r.entries

abbrev pub StaysComplete : Step → Parts → List ℕ → Snapshot → Type 0
StaysComplete p s name x = s.files ≤ 4_194_304 → Allows p s → IsSound s → get s.snapshots name ≡ Some x → (Deletes p name → ⊥) → StaysAs name x s (after p s)

-- so it is as long as no entry of a journal deletes it
abbrev pub NoneDeletes : List JournalEntry → List ℕ → Type 0
NoneDeletes [] name = Unit {0}
NoneDeletes (e ∷ es) name = (Deletes e.step name → ⊥) × NoneDeletes es name

abbrev pub StaysCompleteIn : Opening → List JournalEntry → List JournalEntry → List ℕ → Snapshot → Type 0
StaysCompleteIn o es more name x = IsSound (opened o) → AllowsAll o (es ++ more) → get (replay o es).now.snapshots name ≡ Some x → NoneDeletes more name → StaysAs name x (replay o es).now (replay o (es ++ more)).now

-- what is captured with a flush, in one step, is the region with the flushed cells
pub record HasCapturedNow (a : ℕ) (r : RegionKey) (l : RegionFiles) (s t : Parts) : Type 0 where
  pub capture : t.captures a r ≡ Some l
  pub whole : Same (cells_in t.made l.entries) (file_cells s r ++ frozen_cells s.plain r)

abbrev pub CapturesFlush : Actor → RegionKey → ℕ → List ℕ → RegionFiles → List Cell → List (List ℕ × Entry) → Parts → Type 0
CapturesFlush actor r n name l cells more s =
    Allows (step.CommitList actor r n name why.Capture l cells more) s → HasCapturedNow actor.0 r l s (after (step.CommitList actor r n name why.Capture l cells more) s)

-- ---- commits

-- the cells of all files of a load join the region's in one step
abbrev pub JoinsAtOnce : Actor → RegionKey → ℕ → List ℕ → RegionFiles → List Cell → List (List ℕ × Entry) → Parts → Type 0
JoinsAtOnce actor r n name l cells more s =
    (g : Loads actor.0 r l cells more s) → Same (file_cells (after (step.CommitList actor r n name why.Bulk l cells more) s) r) (file_cells s r ++ cells_in s.made (map Own g.added))

-- steps that change no region's cells: a minor compaction's commit, an archiving, a discharge (stamps, archives, unlinks)
-- and a cleaning
abbrev pub IsQuietStep : Step → Type 0
IsQuietStep (step.CommitList actor region number name (why.Compact false) list cells more) = Unit {0}
IsQuietStep (step.Stamp actor base moment) = Unit {0}
IsQuietStep (step.Archive actor base) = Unit {0}
IsQuietStep (step.Unlink actor entry region) = Unit {0}
IsQuietStep (step.PassRead actor snapshot) = Unit {0}
IsQuietStep (step.CleanBackRef actor base region) = Unit {0}
IsQuietStep (step.DeleteArchived actor base) = Unit {0}
IsQuietStep _ = ⊥

abbrev pub KeepsCells : Step → Parts → RegionKey → Type 0
KeepsCells p s r = IsQuietStep p → s.files ≤ 4_194_304 → Allows p s → IsSound s → IsFaithful s → IsRegion s.plain.tables r → Same (file_cells (after p s) r) (file_cells s r)

-- a major compaction leaves the visible cells of what it pinned, and all that came later
pub record LeavesVisible (pinned : List Entry) (r : RegionKey) (s t : Parts) : Type 0 where
  pub later : List Entry
  pub front : (s.lists r).entries ≡ pinned ++ later
  pub cells : Same (file_cells t r) (visible (families_of s.plain r.table) (cells_in s.made pinned) ++ cells_in s.made later)

abbrev pub CompactsVisibly : Actor → RegionKey → ℕ → List ℕ → RegionFiles → List Cell → List (List ℕ × Entry) → Parts → Type 0
CompactsVisibly actor r n name l cells more s =
    s.files ≤ 4_194_304 → Allows (step.CommitList actor r n name (why.Compact true) l cells more) s → IsSound s → IsFaithful s
    → (g : Compacts actor.0 r true l cells more s) → LeavesVisible g.pinned.entries r s (after (step.CommitList actor r n name (why.Compact true) l cells more) s)
