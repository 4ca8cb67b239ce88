-- What holds of every journal of allowed entries, each as the contract of a law of its own.
use Rattle.std.specs.Prelude.{◌≡◌, ◌≢◌, ℕ, ◌≤◌, false, List, [], ◌++◌, take, Some}
use Rattle.std.specs.FinMap.{empty}
use Rattle.hb_layout.specs.declared.base.Base.{Base}
use Rattle.ns_tree.specs.declared.file.FileState.{FileState}
use Rattle.plain_model.specs.declared.hold.Hold.{Hold}
use Rattle.plain_model.specs.declared.who.Actor.{Actor}
use Rattle.plain_model.specs.Conflicts.{excludes}
use Rattle.core_model.specs.declared.journal.JournalEntry.{JournalEntry}
use Rattle.core_model.specs.declared.opening.Opening.{Opening}
use Rattle.core_model.specs.declared.step.Step.{Step}
use Rattle.core_model.specs.declared.step.Step.TheVariants.{DeleteArchived}
use Rattle.core_model.specs.Actors.{HasHold}
use Rattle.core_model.specs.Allows.{Allows, AllowsAll}
use Rattle.core_model.specs.Disk.{HasPlace, live_of, archived_of}
use Rattle.core_model.specs.Named.{IsNamed}
use Rattle.core_model.specs.Opened.{opened}
use Rattle.core_model.specs.Replay.{after, replay}
use Rattle.core_model.specs.Site.{Archived}
use Rattle.core_model.specs.Sound.{IsSound, IsSoundState}
use Rattle.core_model.specs.State.{Parts}
use Rattle.core_model.specs.declared.journal.TheConstants.{JOURNAL_LIMIT}

-- a step that is allowed in a sound state leads to a sound one, while no more names are drawn than a journal has room for
abbrev pub KeepsSound : Step → Parts → Type 0
KeepsSound p s = s.files ≤ JOURNAL_LIMIT → Allows p s → IsSound s → IsSound (after p s)

-- so does each front of a journal of allowed entries, done or failed
abbrev pub LeadsToSound : Opening → List JournalEntry → ℕ → Type 0
LeadsToSound o es k = IsSound (opened o) → AllowsAll o es → IsSoundState (replay o (take k es))

-- an opening of a store without files, by its number and its time to live
abbrev pub bare_opening : ℕ → ℕ → Opening
bare_opening epoch ttl = record { epoch = epoch; ttl = ttl; tree = Some empty; found = record { places = []; cells = []; lists = []; sets = []; snapshots = [] } }

abbrev pub BeginsSound : ℕ → ℕ → Type 0
BeginsSound epoch ttl = IsSound (opened (bare_opening epoch ttl))

-- a base that is named has a place
abbrev pub HasNamedPlace : Parts → Base → Type 0
HasNamedPlace s b = IsSound s → IsNamed s b → HasPlace (live_of s.disk) (archived_of s.disk) b

-- the base of an allowed deletion is not named
abbrev pub DeletesUnnamed : Actor → Base → Parts → Type 0
DeletesUnnamed actor b s = Allows (DeleteArchived actor b) s → IsSound s → IsNamed s b → ⊥

-- a base that is archived and not named is not named after an allowed step
abbrev pub StaysUnnamed : Step → Parts → Base → Type 0
StaysUnnamed p s b = Allows p s → IsSound s → (f : FileState) → s.disk (Archived b) ≡ Some f → (IsNamed s b → ⊥) → IsNamed (after p s) b → ⊥

-- nor after more entries of a journal, as long as it has been archived
abbrev pub StaysUnnamedIn : Opening → List JournalEntry → List JournalEntry → Base → Type 0
StaysUnnamedIn o es more b =
    IsSound (opened o) → AllowsAll o (es ++ more) → ((j : ℕ) → (f : FileState) × ((replay o (es ++ take j more)).now.disk (Archived b) ≡ Some f))
    → (IsNamed (replay o es).now b → ⊥) → IsNamed (replay o (es ++ more)).now b → ⊥

-- holds of two live actors do not exclude each other
abbrev pub HoldsStandApart : Parts → ℕ → ℕ → Hold → Hold → Type 0
HoldsStandApart s a b h k = IsSound s → HasHold s.plain.live a h → HasHold s.plain.live b k → a ≢ b → excludes h k ≡ false
