-- A tree that shows a state of which all is known, and whose files may stand where they stand, is complete.
use Rattle.std.proofs.Common.{◌≡◌, ℕ, true, false, cond, List, [], take, Option, Some, None, refl, sym, ap, ◌∙◌, subst}
use Rattle.std.specs.Prelude.{is_some, unwrap_or}
use Rattle.std.specs.FinMap.{contains_key, get}
use Rattle.hb_layout.specs.Lawful.{HasEpochs, IsEpoch}
use Rattle.ns_tree.specs.declared.file.FileState.{FileState}
use Rattle.ns_tree.specs.Tree.{Tree}
use Rattle.core_model.specs.declared.entry.Entry.TheVariants.{Link}
use Rattle.core_model.specs.declared.journal.JournalEntry.{JournalEntry}
use Rattle.core_model.specs.declared.opening.Opening.{Opening}
use Rattle.core_model.specs.Disk.{Disk, disk_of, is_regular, live_of, archived_of, backs_of}
use Rattle.core_model.specs.Entries.{file_of}
use Rattle.core_model.specs.FileFacts.{HasOnePlace, HasBackRefs}
use Rattle.core_model.specs.Named.{linked}
use Rattle.core_model.specs.Opened.{blank, opened}
use Rattle.core_model.specs.Replay.{replay}
use Rattle.core_model.specs.Site.{Site, Epoch, Tmp, RegionSet, StoreList, Live, Archived, BackRefTo, Info, Manifest, WorkInfo, WorkManifest, Staged, site_text, spot_of}
use Rattle.core_model.specs.State.{Parts}
use Rattle.core_sites.specs.Shows.{HasSite}
use Rattle.core_sites.proofs.Regular.{regular_apart, spelled_regular}
use Rattle.core_sound.proofs.Tests.{cond_cases}
use Rattle.core_trees.specs.Trees.{trees_after}
use Rattle.core_bytes.specs.Written.{HasReferences}
use Rattle.core_reads.specs.Laws.{IsLife}
use Rattle.core_recovers.specs.Recovers.{IsTold}
use Rattle.core_recovers.proofs.Recovered.{stopped_recovers, now_told, other_told}
use Rattle.core_opens.specs.Begins.{CanBegin}
use Rattle.core_opens.specs.Valid.{HasEmptyFiles, HasPointed, HasRow, IsComplete}
use Rattle.core_opens.proofs.Opens.{begins_valid}
use Rattle.core_complete.specs.Placed.{IsEmptyAt, IsPlaced, ArePlaced, IsWellPlaced, StaysComplete}
use Rattle.core_complete.proofs.PlacedKept.{placed_replay}

-- ---- a complete tree

has_row : (tree : Tree) (s : Parts) → IsTold tree s → ArePlaced s.disk → (place : List ℕ) → contains_key tree place ≡ true → HasRow place
has_row tree s t h place k =
    let w = t.shown.shows.sites place k in
    by_file w (get tree place) refl k
  where
    by_file : (w : HasSite place) (o : Option FileState) → get tree place ≡ o → is_some o ≡ true → HasRow place
    by_file w None e i = absurd (cc)
    by_file w (Some f) e i =
        let at : disk_of tree w.site ≡ Some f = ap (λ b. cond b (get tree (site_text w.site)) None) (spelled_regular w.site w.spelled) ∙ ap (get tree) w.text ∙ e in
        record { site = w.site; lawful = (w.spelled, (h w.site f (sym (t.shown.shows.at w.site) ∙ at)).epochs); text = w.text }

pub told_complete : (tree : Tree) (s : Parts) → IsTold tree s → ArePlaced s.disk → IsComplete tree
told_complete tree s t h =
    let e : disk_of tree ≡ s.disk = λ i p. t.shown.shows.at p i in
    let r = stopped_recovers tree s t in
    record {
      rows = has_row tree s t h;
      empties = subst HasEmptyFiles (sym e) (record {
        epoch = λ n f i. (h (Epoch n) f i).empty;
        link = λ q b f n i. (h (Live (file_of q (Link b))) f i).empty q b n refl;
        back = λ b text f i. (h (BackRefTo b text) f i).empty;
      });
      references = subst (λ (d : Disk). HasReferences (live_of d)) (sym e) t.shown.written.references;
      one_place = subst (λ (d : Disk). HasOnePlace (live_of d) (archived_of d)) (sym e) t.sound.one_place;
      back_refs = subst (λ (d : Disk). HasBackRefs (live_of d) (backs_of d)) (sym e) t.sound.back_refs;
      pointed = subst (λ (d : Disk). HasPointed (live_of d) (archived_of d)) (sym e) (record { at = λ q x f k n o i. t.sound.places.at _ (linked q x f k n o i refl) });
      says = r.says;
      reading = r.reading;
    }

-- ---- at the opening

abbrev HasRows : Tree → Type 0
HasRows tree = (place : List ℕ) → contains_key tree place ≡ true → HasRow place

row_epochs : (tree : Tree) → HasRows tree → (q : Site) (f : FileState) → disk_of tree q ≡ Some f → HasEpochs (spot_of q)
row_epochs tree v q f e = cond_cases (is_regular q) (get tree (site_text q)) None (Some f) e
    (λ d i. let w = v (site_text q) (ap is_some i) in
    subst (λ (x : Site). HasEpochs (spot_of x)) (regular_apart w.site q (spelled_regular w.site w.lawful.0) d w.text) w.lawful.1)
    (λ d i. absurd (cc))

row_empty : (tree : Tree) → HasEmptyFiles (disk_of tree) → (q : Site) (f : FileState) → disk_of tree q ≡ Some f → IsEmptyAt q f.bytes
row_empty tree v (Epoch n) f e = v.epoch n f e
row_empty tree v (BackRefTo b text) f e = v.back b text f e
row_empty tree v (Live x) f e = λ r b n i. v.link r b f n (ap (live_of (disk_of tree)) i ∙ e)
row_empty tree v _ f e = tt

opened_disk : (o : Opening) (tree : Tree) → o.tree ≡ Some tree → (opened o).disk ≡ disk_of tree
opened_disk o tree e = ap (λ (t : Option Tree). disk_of (unwrap_or t (blank o.found.places))) e

opened_placed : (o : Opening) (tree : Tree) → CanBegin o tree → IsEpoch o.epoch → IsWellPlaced (opened o)
opened_placed o tree c h = record {
  epoch = h;
  files = subst ArePlaced (sym (opened_disk o tree c.told)) (λ q f e. record { epochs = row_epochs tree c.valid.complete.rows q f e; empty = row_empty tree c.valid.complete.empties q f e });
}

-- ---- journals

pub stays_complete : (o : Opening) (tree : Tree) (es : List JournalEntry) (k : ℕ) → StaysComplete o tree es k
stays_complete o tree es k c u names a w =
    let b = begins_valid o tree c in
    let l : IsLife o tree es = record { begins = b.begins; begins_written = b.written; names = names; allowed = a; writes = w } in
    let p = placed_replay o es k b.begins.sound (opened_placed o tree c u) a in (
      told_complete (trees_after tree (take k es)).now (replay o (take k es)).now (now_told o tree es k l b.told) p.now.files,
      told_complete (trees_after tree (take k es)).other (replay o (take k es)).other (other_told o tree es k l b.told) p.other.files,
    )
