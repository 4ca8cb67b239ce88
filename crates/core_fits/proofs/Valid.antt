-- The trees of journals are valid.
use Rattle.std.proofs.Common.{◌≡◌, ℕ, List, take, sym, subst}
use Rattle.ns_tree.specs.Tree.{Tree}
use Rattle.core_model.specs.declared.journal.JournalEntry.{JournalEntry}
use Rattle.core_model.specs.declared.opening.Opening.{Opening}
use Rattle.core_model.specs.Disk.{disk_of}
use Rattle.core_model.specs.Replay.{replay}
use Rattle.core_model.specs.State.{Parts}
use Rattle.core_trees.specs.Trees.{trees_after}
use Rattle.core_reads.specs.Laws.{IsLife}
use Rattle.core_recovers.specs.Reading.{IsReading}
use Rattle.core_recovers.specs.Recovers.{IsTold}
use Rattle.core_recovers.proofs.Recovered.{now_told, other_told, reading_of, says}
use Rattle.core_opens.specs.Valid.{Fit, IsComplete, IsValid}
use Rattle.core_opens.proofs.Opens.{begins_valid}
use Rattle.core_complete.proofs.Complete.{stays_complete}
use Rattle.core_beside.proofs.Journals.{beside_replay}
use Rattle.core_regions.proofs.Journals.{covered_replay}
use Rattle.core_limits.proofs.Journals.{limits_replay}
use Rattle.core_cells.proofs.Journals.{cells_replay}
use Rattle.core_fits.specs.Fitting.{StaysValid}
use Rattle.core_fits.proofs.Entries.{fits}

-- a complete tree that shows a state whose parts fit is valid
told_valid : (tree : Tree) (s : Parts) → IsTold tree s → IsComplete tree → Fit (says s) → IsValid tree
told_valid tree s t k f = let e : disk_of tree ≡ s.disk = λ i p. t.shown.shows.at p i in record {
  complete = record {
    rows = k.rows;
    empties = k.empties;
    references = k.references;
    one_place = k.one_place;
    back_refs = k.back_refs;
    pointed = k.pointed;
    says = says s;
    reading = subst (λ d. IsReading d (says s)) (sym e) (reading_of tree s t);
  };
  fit = f;
}

pub stays_valid : (o : Opening) (tree : Tree) (es : List JournalEntry) (k : ℕ) → StaysValid o tree es k
stays_valid o tree es k c u names a w =
    let b = begins_valid o tree c in
    let life : IsLife o tree es = record { begins = b.begins; begins_written = b.written; names = names; allowed = a; writes = w } in
    let complete = stays_complete o tree es k c u names a w in
    let m = limits_replay o tree es c u a w in
    let beside = beside_replay o tree es k c a in
    let covered = covered_replay o tree es k c m a w in
    let cells = cells_replay o tree es k c m a w in
    let now = now_told o tree es k life b.told in
    let other = other_told o tree es k life b.told in (
      told_valid (trees_after tree (take k es)).now (replay o (take k es)).now now complete.0 (fits (replay o (take k es)).now now.shown.written now.faithful beside.now covered.now cells.now),
      told_valid (trees_after tree (take k es)).other (replay o (take k es)).other other complete.1 (fits (replay o (take k es)).other other.shown.written other.faithful beside.other covered.other cells.other),
    )
