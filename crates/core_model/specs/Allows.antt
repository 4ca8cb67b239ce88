-- When a step is allowed, and an entry of a journal.
use Rattle.std.specs.Prelude.{◌≡◌, ◌≢◌, ◌⊎◌, ℕ, ◌+◌, ◌<◌, true, false, List, [], ◌∷◌, length, Option, Some, None}
use Rattle.core_model.specs.declared.entry.Entry.TheVariants as entries
use Rattle.core_model.specs.declared.journal.JournalEntry.{JournalEntry}
use Rattle.core_model.specs.declared.opening.Opening.{Opening}
use Rattle.core_model.specs.declared.step.Step.{Step}
use Rattle.core_model.specs.declared.step.Step.TheVariants as step
use Rattle.core_model.specs.Actors.{IsLive, IsRegion, MayFreeze}
use Rattle.core_model.specs.StartGuards.{CanPut, CanStart, CanPin}
use Rattle.core_model.specs.FileGuards.{CanWrite, CanPlace, CanStamp, CanArchive, CanBackRef, CanRefer, CanHalf, CanUnlink, CanDropOld}
use Rattle.core_model.specs.ListGuards.{CanCommitList}
use Rattle.core_model.specs.SetGuards.{CanCommitRegions}
use Rattle.core_model.specs.SnapshotGuards.{CanCapture, CanManifest, CanComplete, CanUncomplete}
use Rattle.core_model.specs.PassGuards.{CanPassRead, CanCleanBackRef, CanDeleteArchived}
use Rattle.core_model.specs.Replay.{after, begun}
use Rattle.core_model.specs.Replay as replay
use Rattle.core_model.specs.State.{Parts, State}
use Rattle.core_model.specs.declared.journal.TheConstants.{JOURNAL_LIMIT}

abbrev pub Allows : Step → Parts → Type 0
Allows (step.ListSnapshots who) s = Unit {0}
Allows (step.PutCell who table put moment joined) s = CanPut table put moment joined s.plain
Allows (step.Start who job started drawn) s = CanStart job started drawn s
Allows (step.End actor refusal) s = IsLive s.plain.live actor.0
Allows (step.Abandon actor) s = IsLive s.plain.live actor.0
Allows (step.Freeze actor region) s = MayFreeze s.plain.live actor.0 region × IsRegion s.plain.tables region
Allows (step.WriteTmp actor recipe name cells bytes) s = CanWrite actor.0 recipe name cells s
Allows (step.Place actor from base cells) s = CanPlace actor.0 from base cells s
Allows (step.CommitList actor region number name why list cells planned) s = CanCommitList actor.0 region number name why list cells planned s
Allows (step.Capture actor region) s = CanCapture actor.0 region s
Allows (step.CommitRegions actor table number name set change) s = CanCommitRegions actor.0 table number name set change s
Allows (step.DropOld actor file) s = CanDropOld actor.0 file s
Allows (step.Pin actor target found major) s = CanPin actor.0 target found major s.plain
-- an actor without pins makes no such entry
Allows (step.Unpin actor) s = IsLive s.plain.live actor.0 × (s.pins actor.0 ≢ [])
Allows (step.Stamp actor base moment) s = CanStamp actor.0 base s
Allows (step.Archive actor base) s = CanArchive actor.0 base s
Allows (step.BackRef actor base region) s = CanBackRef actor.0 base region s
Allows (step.Link actor base region) s = CanRefer actor.0 (entries.Link base) region s
Allows (step.Half actor entry region bytes) s = CanHalf actor.0 entry region s
Allows (step.Unlink actor entry region) s = CanUnlink actor.0 entry region s
Allows (step.Manifest actor part snapshot moment bytes) s = CanManifest actor.0 part snapshot moment s
Allows (step.Complete actor snapshot copied) s = CanComplete actor.0 snapshot copied s
Allows (step.Uncomplete actor snapshot) s = CanUncomplete actor.0 snapshot s
Allows (step.PassRead actor snapshot) s = CanPassRead actor.0 snapshot s
Allows (step.CleanBackRef actor base region) s = CanCleanBackRef actor.0 base region s
Allows (step.DeleteArchived actor base) s = CanDeleteArchived actor.0 base s

-- the steps that a closed world takes
abbrev pub IsEnding : Step → Type 0
IsEnding (step.End actor refusal) = Unit {0}
IsEnding (step.Abandon actor) = Unit {0}
IsEnding (step.Unpin actor) = Unit {0}
IsEnding _ = ⊥

-- the steps that write to the store, which can fail
abbrev pub IsWriting : Step → Type 0
IsWriting (step.ListSnapshots who) = ⊥
IsWriting (step.PutCell who table put moment joined) = ⊥
IsWriting (step.Start who job started drawn) = ⊥
IsWriting (step.End actor refusal) = ⊥
IsWriting (step.Abandon actor) = ⊥
IsWriting (step.Freeze actor region) = ⊥
IsWriting (step.Capture actor region) = ⊥
IsWriting (step.Pin actor target found major) = ⊥
IsWriting (step.Unpin actor) = ⊥
IsWriting (step.PassRead actor snapshot) = ⊥
IsWriting _ = Unit {0}

-- the journal has room for the step: its entries and live actors, with one more for a start, are below the limit
abbrev pub room_of : Step → ℕ
room_of (step.Start who job started drawn) = 1
room_of _ = 0

abbrev pub HasRoom : ℕ → Step → State → Type 0
HasRoom n (step.End actor refusal) s = Unit {0}
HasRoom n (step.Abandon actor) s = Unit {0}
HasRoom n (step.Unpin actor) s = Unit {0}
HasRoom n p s = n + length s.now.plain.live + room_of p < JOURNAL_LIMIT

-- the worker of a step: that of who asks, else the actor's
abbrev pub worker_of : Step → (ℕ → Option ℕ) → Option ℕ
worker_of (step.ListSnapshots who) owners = Some who.worker
worker_of (step.PutCell who table put moment joined) owners = Some who.worker
worker_of (step.Start who job started drawn) owners = Some who.worker
worker_of (step.End actor refusal) owners = owners actor.0
worker_of (step.Abandon actor) owners = owners actor.0
worker_of (step.Freeze actor region) owners = owners actor.0
worker_of (step.WriteTmp actor recipe name cells bytes) owners = owners actor.0
worker_of (step.Place actor from base cells) owners = owners actor.0
worker_of (step.CommitList actor region number name why list cells planned) owners = owners actor.0
worker_of (step.Capture actor region) owners = owners actor.0
worker_of (step.CommitRegions actor table number name set change) owners = owners actor.0
worker_of (step.DropOld actor file) owners = owners actor.0
worker_of (step.Pin actor target found major) owners = owners actor.0
worker_of (step.Unpin actor) owners = owners actor.0
worker_of (step.Stamp actor base moment) owners = owners actor.0
worker_of (step.Archive actor base) owners = owners actor.0
worker_of (step.BackRef actor base region) owners = owners actor.0
worker_of (step.Link actor base region) owners = owners actor.0
worker_of (step.Half actor entry region bytes) owners = owners actor.0
worker_of (step.Unlink actor entry region) owners = owners actor.0
worker_of (step.Manifest actor part snapshot moment bytes) owners = owners actor.0
worker_of (step.Complete actor snapshot copied) owners = owners actor.0
worker_of (step.Uncomplete actor snapshot) owners = owners actor.0
worker_of (step.PassRead actor snapshot) owners = owners actor.0
worker_of (step.CleanBackRef actor base region) owners = owners actor.0
worker_of (step.DeleteArchived actor base) owners = owners actor.0

-- the n-th entry is its worker's, and its step's guard holds; a closed world takes endings alone
abbrev pub AllowsEntry : ℕ → JournalEntry → State → Type 0
AllowsEntry n e s =
    ((worker_of e.step s.now.owners ≡ Some e.worker) × Allows e.step s.now)
    × (((s.closed ≡ None) × HasRoom n e.step s × (e.failed ≡ true → IsWriting e.step)) ⊎ ((s.closed ≢ None) × (e.failed ≡ false) × IsEnding e.step))

abbrev pub AllowsFrom : ℕ → State → List JournalEntry → Type 0
AllowsFrom n s [] = Unit {0}
AllowsFrom n s (e ∷ es) = AllowsEntry n e s × AllowsFrom (n + 1) (replay.step n s e) es

-- each entry of a journal is allowed in the state before it
abbrev pub AllowsAll : Opening → List JournalEntry → Type 0
AllowsAll o es = AllowsFrom 0 (begun o) es
