-- A journal from an empty store that makes a table, and the tree that it leaves.
use Rattle.std.specs.Prelude.{◌≡◌, ℕ, List, codes, Some}
use Rattle.std.specs.FinMap.{empty}
use Rattle.ns_tree.specs.declared.file.FileState.{FileState}
use Rattle.core_model.specs.declared.journal.JournalEntry.{JournalEntry}
use Rattle.core_model.specs.Allows.{AllowsAll}
use Rattle.core_model.specs.Disk.{disk_of}
use Rattle.core_model.specs.Replay.{begun}
use Rattle.core_model.specs.Site.{RegionSet}
use Rattle.core_sound.specs.Laws.{bare_opening}
use Rattle.core_trees.specs.Trees.{HaveNames, trees_after}
use Rattle.core_bytes.specs.Laws.{WriteFrom}
use Rattle.core_opens.specs.Valid.{IsValid}

pub record TableIsMade (ttl : ℕ) : Type 0 where
  pub entries : List JournalEntry
  -- all that the law on valid trees asks of a journal
  pub names : HaveNames entries
  pub allowed : AllowsAll (bare_opening 1 ttl) entries
  pub writes : WriteFrom 0 (begun (bare_opening 1 ttl)) entries
  -- the tree that it leaves, with the first set of the table
  pub valid : IsValid (trees_after empty entries).now
  pub file : FileState
  pub stands : disk_of (trees_after empty entries).now (RegionSet (codes "t") 1) ≡ Some file
