-- So do the entries of journals.
use Rattle.std.proofs.Common.{◌≡◌, ℕ, ◌+◌, Bool, true, false, List, [], ◌∷◌, take, Some, refl, sym, ap, ◌∙◌, subst, inl, inr}
use Rattle.std.specs.Prelude.{map, option_map}
use Rattle.std.specs.List.{AllZip}
use Rattle.std.specs.FinMap.{from_entries, get}
use Rattle.cell_sight.specs.Member.{Member}
use Rattle.hb_cell.specs.Order.{bytes_cmp}
use Rattle.hb_records.specs.declared.region_info.RegionInfo.{RegionInfo}
use Rattle.ns_tree.specs.Tree.{Tree}
use Rattle.plain_model.specs.declared.parts.PlainSnapshot.{PlainSnapshot}
use Rattle.plain_model.specs.declared.parts.PlainTable.{PlainTable}
use Rattle.plain_model.specs.Keys.{key_of}
use Rattle.core_model.specs.declared.entry.Entry.{Entry}
use Rattle.core_model.specs.declared.journal.JournalEntry.{JournalEntry}
use Rattle.core_model.specs.declared.opening.Opening.{Opening}
use Rattle.core_model.specs.declared.region_files.RegionFiles.{RegionFiles}
use Rattle.core_model.specs.declared.snapshot.CopiedRegion.{CopiedRegion}
use Rattle.core_model.specs.declared.snapshot.Snapshot.{Snapshot}
use Rattle.core_model.specs.Allows.{AllowsEntry, AllowsFrom}
use Rattle.core_model.specs.Disk.{disk_of}
use Rattle.core_model.specs.Entries.{Made, cells_in}
use Rattle.core_model.specs.Opened as opened
use Rattle.core_model.specs.Replay.{after, begun, replay, replay_from, unless}
use Rattle.core_model.specs.Replay as replay
use Rattle.core_model.specs.Sound.{IsSoundState}
use Rattle.core_model.specs.State.{State}
use Rattle.core_sound.proofs.HoldsFound.{some_is}
use Rattle.core_sound.proofs.Journals.{HasFew, allowed_other, allows_front, entry_kept, few-begun, few_after, sound-begun}
use Rattle.core_bytes.specs.Laws.{WriteFrom}
use Rattle.core_bytes.specs.Written.{IsWrittenState}
use Rattle.core_bytes.proofs.Journals.{writes_front}
use Rattle.core_contents.specs.Faithful.{IsFaithfulState}
use Rattle.core_contents.proofs.Journals.{entry_faithful}
use Rattle.core_contents.proofs.Majored.{cell-entry}
use Rattle.core_recovers.specs.Reading.{IsIn}
use Rattle.core_opens.specs.Begins.{CanBegin}
use Rattle.core_opens.specs.Fits.{FitsEntries}
use Rattle.core_opens.proofs.Entered.{entered-map}
use Rattle.core_opens.proofs.Opens.{begins_valid}
use Rattle.core_opens.proofs.Read.{snapshot_is, table_is, tables_in}
use Rattle.core_beside.specs.Apart.{IsBesideState}
use Rattle.core_beside.proofs.Journals.{entry_beside, opened_beside}
use Rattle.core_regions.specs.Cover.{HaveLimits, HasLimits, IsCoveredState}
use Rattle.core_regions.proofs.Journals.{entry_covered, entry_written, limits_front, opened_covered}
use Rattle.core_cells.specs.Cells.{AreCellsOf, CopyHolds, HasCells, HasCellsState, LeadsToCells}
use Rattle.core_cells.proofs.Held.{copied_cells, once-two}
use Rattle.core_cells.proofs.Kept.{cells_kept}

-- ---- at the opening

entries_hold : (made : Made) (i : RegionInfo) (families : List (List ℕ × ℕ)) (seq : ℕ) (es : List Entry) → FitsEntries made i families seq es → AreCellsOf i families seq (cells_in made es)
entries_hold made i families seq es f = record {
  each = λ c m. let w = cell-entry made es c m in let x = f.cells w.0 c w.1 w.2 in record { versions = x.versions; known = x.known; row = x.row; number = x.number };
  once = once-two (cells_in made es) f.differ;
}

opened_region : (o : Opening) (tree : Tree) (c : CanBegin o tree) (t : List ℕ) (tb : PlainTable) (i : RegionInfo) (split : Bool) → i.table ≡ t → get (tables_in o.found) t ≡ Some tb → Member (i, split) tb.regions
    → AreCellsOf i tb.schema.families (opened.found_list o.found.lists (key_of i)).seq (cells_in (opened.read_base o.found.cells) (opened.found_list o.found.lists (key_of i)).entries)
opened_region o tree c t tb i split own e m =
    let in_set : IsIn c.valid.complete.says.sets (key_of i) split = record { table = tb; stands = sym (table_is (disk_of tree) o.found c.valid.complete.says i.table c.found) ∙ ap (get (tables_in o.found)) own ∙ e; info = i; listed = m; key = refl } in
    let made : opened.read_base o.found.cells ≡ c.valid.complete.says.made = λ j b. c.found.made b j in
    subst (λ v. AreCellsOf i tb.schema.families (opened.found_list o.found.lists (key_of i)).seq (cells_in v (opened.found_list o.found.lists (key_of i)).entries)) (sym made)
    (subst (λ (l : RegionFiles). AreCellsOf i tb.schema.families l.seq (cells_in c.valid.complete.says.made l.entries)) (sym (c.found.lists (key_of i))) (entries_hold c.valid.complete.says.made i tb.schema.families _ _ (c.valid.fit.lists (key_of i) split in_set)))

opened_copies : (made : Made) (families : List (List ℕ × ℕ)) (rs : List CopiedRegion) → ((r : CopiedRegion) → Member r rs → FitsEntries made r.info families r.seq r.entries) → AllZip (CopyHolds families) rs (map (opened.copy_of made) rs)
opened_copies made families [] f = tt
opened_copies made families (r ∷ rs) f = (entries_hold made r.info families r.seq r.entries (f r (inl refl)), opened_copies made families rs (λ q m. f q (inr m)))

opened_shot : (o : Opening) (tree : Tree) (c : CanBegin o tree) (name : List ℕ) (x : Snapshot) (y : PlainSnapshot) → get (from_entries {R = bytes_cmp} o.found.snapshots) name ≡ Some x
    → get (from_entries {R = bytes_cmp} (map (λ (v : List ℕ × Snapshot). (v.0, opened.plain_snapshot (opened.read_base o.found.cells) v.1)) o.found.snapshots)) name ≡ Some y → AllZip (CopyHolds x.schema.families) x.regions y.regions
opened_shot o tree c name x y e i =
    let z : opened.plain_snapshot (opened.read_base o.found.cells) x ≡ y = some_is (sym (ap (option_map (opened.plain_snapshot (opened.read_base o.found.cells))) e) ∙ sym (entered-map (opened.plain_snapshot (opened.read_base o.found.cells)) o.found.snapshots name) ∙ i) in
    let f = c.valid.fit.snapshots name x (sym (snapshot_is (disk_of tree) o.found c.valid.complete.says name c.found) ∙ e) in
    let made : opened.read_base o.found.cells ≡ c.valid.complete.says.made = λ j b. c.found.made b j in
    subst (λ (v : PlainSnapshot). AllZip (CopyHolds x.schema.families) x.regions v.regions) z
    (subst (λ v. AllZip (CopyHolds x.schema.families) x.regions (map (opened.copy_of v) x.regions)) (sym made) (opened_copies c.valid.complete.says.made x.schema.families x.regions f.entries))

pub opened_cells : (o : Opening) (tree : Tree) → CanBegin o tree → HasCells (opened.opened o)
opened_cells o tree c = record {
  regions = record { at = λ t tb i split e m. copied_cells i tb.schema.families _ _ (opened_region o tree c t tb i split ((begins_valid o tree c).begins.sound.own_regions.at t tb i split e m) e m) };
  captures = record { at = λ a r x tb i split e. absurd (cc) };
  snapshots = record { at = opened_shot o tree c };
  loads = record { at = λ b a n e. absurd (cc); apart = λ b d a e n x. absurd (cc) };
  bulk = record { whole = λ a b folder name m. absurd m; cut = λ a b name m. absurd m };
  filled = record { whole = λ a b folder name m. absurd m; cut = λ a b name m. absurd m };
  pieces = record { at = λ name w source start end e. absurd (cc) };
}

-- ---- entries

entry_cells : (n : ℕ) (e : JournalEntry) (s : State) → HasFew n s → HasLimits e.step → AllowsEntry n e s → IsSoundState s → IsWrittenState s → IsFaithfulState s → IsBesideState s → IsCoveredState s → HasCellsState s → HasCellsState (replay.step n s e)
entry_cells n e s w m a h i f b v k = record {
  now = elim e.failed as (λ o. HasCells (unless o (after e.step) s.now)) [ true ↦ k.now | false ↦ cells_kept e.step s.now w.now_limit m a.0.1 h.now i.now f.now b.now v.now k.now ];
  other = cells_kept e.step s.other w.other_limit m (allowed_other n e s a h) h.other i.other f.other b.other v.other k.other;
}

cells_from : (n : ℕ) (es : List JournalEntry) (s : State) → HasFew n s → HaveLimits es → AllowsFrom n s es → WriteFrom n s es → IsSoundState s → IsWrittenState s → IsFaithfulState s → IsBesideState s → IsCoveredState s → HasCellsState s → HasCellsState (replay_from n s es)
cells_from n [] s w m a x h i f b v k = k
cells_from n (e ∷ es) s w m a x h i f b v k = cells_from (n + 1) es (replay.step n s e) (few_after n e s a.0 w) m.1 a.1 x.1 (entry_kept n e s w a.0 h) (entry_written n e s w a.0 x.0 h i) (entry_faithful n e s w a.0 h f)
    (entry_beside n e s w a.0 h f b) (entry_covered n e s w m.0 a.0 h i f v) (entry_cells n e s w m.0 a.0 h i f b v k)

pub cells_replay : (o : Opening) (tree : Tree) (es : List JournalEntry) (k : ℕ) → LeadsToCells o tree es k
unfolding replay
cells_replay o tree es k c m a x =
    let b = begins_valid o tree c in
    let h = opened_cells o tree c in
    let v = opened_covered o tree c in
    let d = opened_beside o tree c in
    cells_from 0 (take k es) (begun o) (few-begun o) (limits_front k es m) (allows_front k 0 es (begun o) a) (writes_front k 0 es (begun o) x) (sound-begun o b.begins.sound)
    (record { now = b.written; other = b.written }) (record { now = b.told.faithful; other = b.told.faithful }) (record { now = d; other = d }) (record { now = v; other = v }) (record { now = h; other = h })
