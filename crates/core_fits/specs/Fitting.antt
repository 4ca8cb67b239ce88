-- That each tree of a journal is valid.
use Rattle.std.specs.Prelude.{ℕ, List, take}
use Rattle.hb_layout.specs.Lawful.{IsEpoch}
use Rattle.ns_tree.specs.Tree.{Tree}
use Rattle.core_model.specs.declared.journal.JournalEntry.{JournalEntry}
use Rattle.core_model.specs.declared.opening.Opening.{Opening}
use Rattle.core_model.specs.Allows.{AllowsAll}
use Rattle.core_model.specs.Replay.{begun}
use Rattle.core_trees.specs.Trees.{HaveNames, trees_after}
use Rattle.core_bytes.specs.Laws.{WriteFrom}
use Rattle.core_opens.specs.Begins.{CanBegin}
use Rattle.core_opens.specs.Valid.{IsValid}

-- after each front of a journal of allowed entries that write what they say, the trees are valid
abbrev pub StaysValid : Opening → Tree → List JournalEntry → ℕ → Type 0
StaysValid o tree es k =
    CanBegin o tree → IsEpoch o.epoch → HaveNames es → AllowsAll o es → WriteFrom 0 (begun o) es
    → IsValid (trees_after tree (take k es)).now × IsValid (trees_after tree (take k es)).other
