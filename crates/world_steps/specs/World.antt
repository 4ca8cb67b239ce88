-- A world as contracts see it, and what its type keeps.
use Rattle.std.specs.Prelude.{◌≡◌, ◌⊎◌, ℕ, Bool, List, Option, option_map, unwrap_or, IfSome}
use Rattle.hb_layout.specs.Lawful.{IsEpoch}
use Rattle.ns_tree.specs.Tree.{Tree}
use Rattle.core_model.specs.declared.journal.JournalEntry.{JournalEntry}
use Rattle.core_model.specs.declared.opening.Opening.{Opening}
use Rattle.core_model.specs.declared.step.Step.{Step}
use Rattle.core_model.specs.Allows.{AllowsAll}
use Rattle.core_model.specs.Opened.{opened}
use Rattle.core_model.specs.Replay.{begun, replay}
use Rattle.core_model.specs.Sound.{IsSound}
use Rattle.core_model.specs.State.{State}
use Rattle.core_trees.specs.Trees.{BeginsWith, HaveNames, trees_after}
use Rattle.core_bytes.specs.Laws.{WriteFrom}
use Rattle.core_bytes.specs.Stored.{TablesAgree}

-- its store, its clock, and its journal so far
pub record Journaled (N C : Type 0) : Type 0 where
  pub ns : N
  pub clock : C
  pub opening : Opening
  pub entries : List JournalEntry

-- what its store tells, how many of the store's calls failed, and the journal
pub record Seen : Type 0 where
  pub told : Option Tree
  pub faults : ℕ
  pub opening : Opening
  pub entries : List JournalEntry

abbrev pub seen : {N C : Type 0} → (N → Option Tree) → (N → ℕ) → Journaled N C → Seen
seen told faults w = record { told = told w.ns; faults = faults w.ns; opening = w.opening; entries = w.entries }

-- the state after the journal
abbrev pub state_of : Seen → State
state_of w = replay w.opening w.entries

abbrev pub state_at : {N C : Type 0} → Journaled N C → State
state_at w = replay w.opening w.entries

abbrev pub entry_of : ℕ → Step → Bool → JournalEntry
entry_of worker p failed = record { worker = worker; step = p; failed = failed }

-- the worker of an actor
abbrev pub owner_in : State → ℕ → ℕ
owner_in s actor = unwrap_or (s.now.owners actor) 0

-- ---- what the type keeps

-- what a store was opened with: it begins sound; a tree that it tells was found whole; its tables are those of its newest sets
pub record IsOpened (o : Opening) : Type 0 where
  pub sound : IsSound (opened o)
  pub told : IfSome o.tree (BeginsWith o)
  pub epoch : IsEpoch o.epoch
  pub tables : TablesAgree (opened o).sets (opened o).plain.tables

-- each entry is allowed in the state before it, has its names in their grammars, and writes what it says
pub record IsLawful (o : Opening) (es : List JournalEntry) : Type 0 where
  pub allowed : AllowsAll o es
  pub names : HaveNames es
  pub writes : WriteFrom 0 (begun o) es

-- the trees of a journal over a store that tells one: with an operation that failed last not done, and done
abbrev pub tree_now : Opening → List JournalEntry → Option Tree
tree_now o es = option_map (λ (tree : Tree). (trees_after tree es).now) o.tree

abbrev pub tree_other : Opening → List JournalEntry → Option Tree
tree_other o es = option_map (λ (tree : Tree). (trees_after tree es).other) o.tree

-- what the store tells is one of them
abbrev pub Tells : Option Tree → Opening → List JournalEntry → Type 0
Tells told o es = (told ≡ tree_now o es) ⊎ (told ≡ tree_other o es)

pub record IsWorld (told : Option Tree) (o : Opening) (es : List JournalEntry) : Type 0 where
  pub opened : IsOpened o
  pub lawful : IsLawful o es
  pub tells : Tells told o es
