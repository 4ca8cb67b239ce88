-- What holds of a store's tree, each as the contract of a law of its own.
use Rattle.std.specs.Prelude.{ℕ, ◌≤◌, List, ◌∷◌, ◌++◌, take}
use Rattle.std.specs.FinMap.{empty}
use Rattle.ns_tree.specs.Tree.{Tree}
use Rattle.core_model.specs.declared.journal.JournalEntry.{JournalEntry}
use Rattle.core_model.specs.declared.opening.Opening.{Opening}
use Rattle.core_model.specs.declared.step.Step.{Step}
use Rattle.core_model.specs.Allows.{Allows, AllowsAll}
use Rattle.core_model.specs.Opened.{opened}
use Rattle.core_model.specs.Replay.{after, replay}
use Rattle.core_model.specs.Sound.{IsSound}
use Rattle.core_model.specs.State.{Parts}
use Rattle.core_sound.specs.Laws.{bare_opening}
use Rattle.core_sites.specs.Calls.{IsAccepted}
use Rattle.core_sites.specs.Shows.{Shows}
use Rattle.core_trees.specs.Filed.{IsFiled, IsFiledState}
use Rattle.core_trees.specs.Trees.{HasNames, HaveNames, call_by, tree_by, trees_after, AreShown, BeginsWith}

-- the store does not refuse an allowed step
abbrev pub AcceptsStep : Step → Parts → Tree → Type 0
AcceptsStep p s tree = s.files ≤ 4_194_304 → HasNames p → Allows p s → IsSound s → IsFiled s → Shows tree s.disk → IsAccepted (call_by p) tree

-- it makes of the tree what the step makes of the state
abbrev pub ShowsStep : Step → Parts → Tree → Type 0
ShowsStep p s tree = s.files ≤ 4_194_304 → HasNames p → Allows p s → IsSound s → IsFiled s → Shows tree s.disk → Shows (tree_by p tree) (after p s).disk

abbrev pub KeepsFiled : Step → Parts → Type 0
KeepsFiled p s = Allows p s → IsSound s → IsFiled s → IsFiled (after p s)

abbrev pub LeadsToFiled : Opening → List JournalEntry → ℕ → Type 0
LeadsToFiled o es k = IsSound (opened o) → IsFiled (opened o) → AllowsAll o es → IsFiledState (replay o (take k es))

-- each front of a journal of allowed entries leads to trees that show its states
abbrev pub ShowsJournal : Opening → Tree → List JournalEntry → ℕ → Type 0
ShowsJournal o tree es k = BeginsWith o tree → HaveNames es → AllowsAll o es → AreShown (trees_after tree (take k es)) (replay o (take k es))

-- and the store refuses no entry behind others
abbrev pub AcceptsJournal : Opening → Tree → List JournalEntry → JournalEntry → List JournalEntry → Type 0
AcceptsJournal o tree es e more = BeginsWith o tree → HaveNames (es ++ e ∷ more) → AllowsAll o (es ++ e ∷ more) → IsAccepted (call_by e.step) (trees_after tree es).now

abbrev pub BeginsBare : ℕ → ℕ → Type 0
BeginsBare epoch ttl = BeginsWith (bare_opening epoch ttl) empty
