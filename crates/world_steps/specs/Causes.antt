-- What the calls of a world leave, and why they are refused.
use Rattle.std.specs.Prelude.{◌≡◌, ◌≢◌, ◌⊎◌, ℕ, ◌+◌, ◌<◌, ◌≤◌, Bool, true, List, [], ◌∷◌, ◌++◌, length, Some, None}
use Rattle.std.specs.FinMap.{get}
use Rattle.hb_causes.specs.Faults.{Rose}
use Rattle.core_model.specs.declared.journal.TheConstants.{JOURNAL_LIMIT}
use Rattle.core_model.specs.declared.step.Step.{Step}
use Rattle.core_model.specs.FileChanges.{set_number}
use Rattle.core_model.specs.Ops.{op_of}
use Rattle.core_places.specs.Places.{gone_at, made_at, place_at}
use Rattle.plain_model.specs.declared.put_cell.TheConstants.{MAX_NUMBER}
use Rattle.world_steps.specs.declared.refusal.Cause.{Cause}
use Rattle.world_steps.specs.declared.refusal.Cause.TheVariants as cause
use Rattle.world_steps.specs.declared.refusal.Counter.TheVariants as counter
use Rattle.world_steps.specs.declared.refusal.Refusal.{Refusal}
use Rattle.world_steps.specs.declared.refusal.Refusal.TheVariants as refusal
use Rattle.world_steps.specs.World.{Seen, entry_of, state_of}

-- ---- what is left

-- one entry more: a step of this worker, done or failed
pub record Adds (worker : ℕ) (p : Step) (failed : Bool) (a b : Seen) : Type 0 where
  pub opening : b.opening ≡ a.opening
  pub entries : b.entries ≡ a.entries ++ entry_of worker p failed ∷ []

-- nothing: neither an entry nor a change of a file
pub record Keeps (a b : Seen) : Type 0 where
  pub opening : b.opening ≡ a.opening
  pub entries : b.entries ≡ a.entries
  pub told : b.told ≡ a.told

-- ---- causes

-- it is open, and there is room for an entry that begins so many activities
pub record TakesEntry (starts : ℕ) (a : Seen) : Type 0 where
  pub free : (state_of a).closed ≡ None
  pub room : length a.entries + length (state_of a).now.plain.live + starts < JOURNAL_LIMIT

-- there is none
pub record IsFull (starts : ℕ) (a : Seen) : Type 0 where
  pub free : (state_of a).closed ≡ None
  pub full : JOURNAL_LIMIT ≤ length a.entries + length (state_of a).now.plain.live + starts

-- why a call that reads and writes no file is stopped
abbrev pub IsShut : ℕ → Seen → Cause → Type 0
IsShut starts a cause.NoMemory = Unit {0}
IsShut starts a (cause.Closed n) = (state_of a).closed ≡ Some n
IsShut starts a cause.JournalFull = IsFull starts a
IsShut starts a _ = ⊥

abbrev pub RefusesNoted : ℕ → Seen → Seen → Refusal → Type 0
RefusesNoted starts a b (refusal.Stop c) = Keeps a b × IsShut starts a c
RefusesNoted starts a b _ = ⊥

-- a store's call failed: the entry failed, and closed the world
pub record IsFault (worker : ℕ) (p : Step) (a b : Seen) : Type 0 where
  pub adds : Adds worker p true a b
  pub rose : Rose a.faults b.faults
  pub takes : TakesEntry 0 a

-- a store that does not tell its tree answered that a file was there, or was not
pub record IsDamage (p : Step) (place : List ℕ) (a b : Seen) : Type 0 where
  pub keeps : Keeps a b
  pub at : (place_at (gone_at (op_of p)) ≡ Some place) ⊎ (place_at (made_at (op_of p)) ≡ Some place)
  pub untold : a.told ≡ None
  pub takes : TakesEntry 0 a

-- why a call that writes a file by this step is stopped
abbrev pub StopsWrite : ℕ → Step → Seen → Seen → Cause → Type 0
StopsWrite worker p a b cause.NoMemory = Keeps a b
StopsWrite worker p a b (cause.Closed n) = Keeps a b × ((state_of a).closed ≡ Some n)
StopsWrite worker p a b cause.JournalFull = Keeps a b × IsFull 0 a
StopsWrite worker p a b cause.NsFault = IsFault worker p a b
StopsWrite worker p a b (cause.Damaged place damage) = IsDamage p place a b
StopsWrite worker p a b (cause.Spent c) = ⊥

abbrev pub RefusesWrite : ℕ → Step → Seen → Seen → Refusal → Type 0
RefusesWrite worker p a b (refusal.Stop c) = StopsWrite worker p a b c
RefusesWrite worker p a b _ = ⊥

-- ---- a commit

abbrev pub number_of : List ℕ → Seen → ℕ
number_of table a = set_number (get (state_of a).now.sets table)

-- the table's newest set has another number than was asked for
pub record IsMoved (table : List ℕ) (n m : ℕ) (a b : Seen) : Type 0 where
  pub keeps : Keeps a b
  pub takes : TakesEntry 0 a
  pub number : number_of table a ≡ m
  pub other : m ≢ n

-- no number is left for another set
pub record IsSpent (table : List ℕ) (n : ℕ) (a b : Seen) : Type 0 where
  pub keeps : Keeps a b
  pub takes : TakesEntry 0 a
  pub number : number_of table a ≡ n
  pub spent : MAX_NUMBER ≤ n

abbrev pub RefusesCommit : List ℕ → ℕ → ℕ → Step → Seen → Seen → Refusal → Type 0
RefusesCommit table n worker p a b (refusal.Stop (cause.Spent c)) = (c ≡ counter.Set) × IsSpent table n a b
RefusesCommit table n worker p a b (refusal.Stop c) = StopsWrite worker p a b c
RefusesCommit table n worker p a b (refusal.Moved m) = IsMoved table n m a b
RefusesCommit table n worker p a b _ = ⊥
