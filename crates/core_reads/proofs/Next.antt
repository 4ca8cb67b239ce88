-- The next opening has the tables of the state before it.
use Rattle.std.proofs.Common.{ℕ, List, take}
use Rattle.ns_tree.specs.Tree.{Tree}
use Rattle.core_model.specs.declared.journal.JournalEntry.{JournalEntry}
use Rattle.core_model.specs.declared.opening.Opening.{Opening}
use Rattle.core_model.specs.Opened.{opened}
use Rattle.core_model.specs.Replay.{replay}
use Rattle.core_trees.specs.Trees.{trees_after, BeginsWith}
use Rattle.core_trees.proofs.Shown.{begun_shown, filed_replay, journal_shown}
use Rattle.core_bytes.specs.Written.{IsWritten}
use Rattle.core_bytes.proofs.Journals.{written_replay}
use Rattle.core_reads.specs.Laws.{IsShown, IsLife, TellsNext, TellsFailed}
use Rattle.core_reads.proofs.Told.{tables_told}

pub now_shown : (o : Opening) (tree : Tree) (es : List JournalEntry) (k : ℕ) → IsLife o tree es → IsShown (trees_after tree (take k es)).now (replay o (take k es)).now
now_shown o tree es k l = record {
  shows = (journal_shown o tree es k l.begins l.names l.allowed).now;
  filed = (filed_replay o es k l.begins.sound l.begins.filed l.allowed).now;
  written = (written_replay o es k l.begins.sound l.begins_written l.allowed l.writes).now;
}

pub other_shown : (o : Opening) (tree : Tree) (es : List JournalEntry) (k : ℕ) → IsLife o tree es → IsShown (trees_after tree (take k es)).other (replay o (take k es)).other
other_shown o tree es k l = record {
  shows = (journal_shown o tree es k l.begins l.names l.allowed).other;
  filed = (filed_replay o es k l.begins.sound l.begins.filed l.allowed).other;
  written = (written_replay o es k l.begins.sound l.begins_written l.allowed l.writes).other;
}

pub begins_shown : (next : Opening) (tree : Tree) → BeginsWith next tree → IsWritten (opened next) → IsShown tree (opened next)
begins_shown next tree b w = record { shows = (begun_shown next tree b).now; filed = b.filed; written = w }

pub next_told : (o next : Opening) (tree : Tree) (es : List JournalEntry) (k : ℕ) (table : List ℕ) → TellsNext o next tree es k table
next_told o next tree es k table l b w =
    tables_told (trees_after tree (take k es)).now (replay o (take k es)).now (opened next) table (now_shown o tree es k l) (begins_shown next (trees_after tree (take k es)).now b w)

pub failed_told : (o next : Opening) (tree : Tree) (es : List JournalEntry) (k : ℕ) (table : List ℕ) → TellsFailed o next tree es k table
failed_told o next tree es k table l b w =
    tables_told (trees_after tree (take k es)).other (replay o (take k es)).other (opened next) table (other_shown o tree es k l) (begins_shown next (trees_after tree (take k es)).other b w)
