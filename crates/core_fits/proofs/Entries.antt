-- The entries of lists and of snapshots fit, where their cells are those of a region.
use Rattle.std.proofs.Common.{◌≡◌, ℕ, Bool, true, false, List, [], ◌∷◌, Option, Some, None, refl, sym, ap, ◌∙◌, subst, inl, inr, arith}
use Rattle.std.specs.List.{AllZip, flat_map}
use Rattle.std.specs.FinMap.{get}
use Rattle.cell_sight.specs.Member.{Member}
use Rattle.cell_sight.specs.Same.{Same}
use Rattle.hb_cell.specs.declared.cell.Cell.{Cell}
use Rattle.hb_records.specs.declared.region_info.RegionInfo.{RegionInfo}
use Rattle.region_set.specs.declared.region_set.RegionSet.{RegionSet}
use Rattle.region_set.specs.declared.set_state.SetState.{SetState}
use Rattle.region_set.specs.declared.set_state.SetState.TheVariants as states
use Rattle.plain_model.specs.declared.parts.PlainSnapshot.{PlainSnapshot}
use Rattle.plain_model.specs.declared.parts.PlainTable.{PlainTable}
use Rattle.plain_model.specs.declared.region_key.RegionKey.{RegionKey}
use Rattle.core_model.specs.declared.entry.Entry.{Entry}
use Rattle.core_model.specs.declared.snapshot.CopiedRegion.{CopiedRegion}
use Rattle.core_model.specs.declared.snapshot.Snapshot.{Snapshot}
use Rattle.core_model.specs.Actors.{InSet, IsRegion}
use Rattle.core_model.specs.Entries.{Made, cells_in, cells_of}
use Rattle.core_model.specs.Opened.{table_in}
use Rattle.core_model.specs.State.{Parts}
use Rattle.core_sound.proofs.Lists.{member-behind, member-front}
use Rattle.core_bytes.specs.Stored.{table_in_set}
use Rattle.core_bytes.specs.Written.{IsWritten}
use Rattle.core_contents.specs.ContentFacts.{Copies, FitsEntry, IsCopy}
use Rattle.core_contents.specs.Faithful.{IsFaithful}
use Rattle.core_recovers.specs.Reading.{IsIn}
use Rattle.core_recovers.proofs.Recovered.{says}
use Rattle.core_opens.specs.Fits.{EachTwo, FitsEntries, FitsSet, MayStandBeside}
use Rattle.core_opens.specs.Valid.{Fit}
use Rattle.core_beside.specs.Apart.{IsBeside}
use Rattle.core_regions.specs.Cover.{IsCovered, IsFitTable}
use Rattle.core_cells.specs.Cells.{AreCellsOf, CopyHolds, HasCells}
use Rattle.core_cells.proofs.Held.{once-same, same-member, two-once}

-- ---- cells of entries

of_entry : (made : Made) (es : List Entry) (e : Entry) (c : Cell) → Member e es → Member c (cells_of made e) → Member c (cells_in made es)
of_entry made [] e c m n = absurd m
of_entry made (x ∷ es) e c (inl i) n = member-front c (cells_of made x) (cells_in made es) (subst (λ (y : Entry). Member c (cells_of made y)) (sym i) n)
of_entry made (x ∷ es) e c (inr m) n = member-behind c (cells_of made x) (cells_in made es) (of_entry made es e c m n)

entries_fit : (made : Made) (i : RegionInfo) (families : List (List ℕ × ℕ)) (seq number : ℕ) (es : List Entry) (cells : List Cell) → EachTwo MayStandBeside es → ((e : Entry) → Member e es → FitsEntry made e) → Same (cells_in made es) cells → seq ≡ number
    → AreCellsOf i families number cells → FitsEntries made i families seq es
entries_fit made i families seq number es cells b f s n h = record {
  beside = b;
  cells = λ e c m k. let x = h.each c (same-member (cells_in made es) cells c s (of_entry made es e c m k)) in let y = x.number in
      record { family = f e m c k; versions = x.versions; known = x.known; row = x.row; number = omega (arith, y, n) };
  differ = two-once (cells_in made es) (once-same (cells_in made es) cells s h.once);
}

-- ---- sets

set_fits : (state : SetState) (set : RegionSet) (o : Option PlainTable) → o ≡ table_in state set → ((tb : PlainTable) → o ≡ Some tb → IsFitTable tb) → FitsSet state set
set_fits states.Enabled set o e f = let g = f (record { enabled = true; schema = set.schema; regions = set.regions }) e in record { regions = g.regions; few = g.few; families = g.families; differ = g.differ }
set_fits states.Disabled set o e f = let g = f (record { enabled = false; schema = set.schema; regions = set.regions }) e in record { regions = g.regions; few = g.few; families = g.families; differ = g.differ }
set_fits states.Dropped set o e f = tt

-- ---- lists

list_fits : (s : Parts) (r : RegionKey) (split : Bool) (i : IsIn (says s).sets r split) → IsWritten s → IsFaithful s → IsBeside s → HasCells s → FitsEntries s.made i.info i.table.schema.families (s.lists r).seq (s.lists r).entries
list_fits s r split i w f b k =
    let there : get s.plain.tables r.table ≡ Some i.table = w.tables.at r.table ∙ i.stands in
    let region : IsRegion s.plain.tables r = place split (record { table = i.table; stands = there; info = i.info; listed = i.listed; key = i.key }) in
    let h = subst (λ (q : RegionKey). AreCellsOf i.info i.table.schema.families (s.plain.kept q) (s.plain.stable q)) i.key (k.regions.at r.table i.table i.info split there i.listed).files in
    entries_fit s.made i.info i.table.schema.families (s.lists r).seq (s.plain.kept r) (s.lists r).entries (s.plain.stable r) (b.beside.listed r region) (λ e m. f.families.listed r e region m) (f.contents.at r region) (f.kept.at r region) h
  where
    place : (x : Bool) → InSet s.plain.tables r x → IsRegion s.plain.tables r
    place true z = inr z
    place false z = inl z

-- ---- snapshots

zip_both : {X Y : Type 0} (P Q : X → Y → Type 0) (xs : List X) (ys : List Y) (x : X) → AllZip P xs ys → AllZip Q xs ys → Member x xs → (y : Y) × P x y × Q x y
zip_both P Q [] ys x h k m = absurd m
zip_both P Q (z ∷ xs) (y ∷ ys) x h k (inl e) = (y, subst (λ v. P v y) e h.0, subst (λ v. Q v y) e k.0)
zip_both P Q (z ∷ xs) (y ∷ ys) x h k (inr m) = zip_both P Q xs ys x h.1 k.1 m
zip_both P Q (z ∷ xs) [] x h k m = absurd h

in_snapshot : (rs : List CopiedRegion) (r : CopiedRegion) (e : Entry) → Member r rs → Member e r.entries → Member e (flat_map (λ (x : CopiedRegion). x.entries) rs)
in_snapshot [] r e m n = absurd m
in_snapshot (x ∷ rs) r e (inl i) n = member-front e x.entries _ (subst (λ (y : CopiedRegion). Member e y.entries) (sym i) n)
in_snapshot (x ∷ rs) r e (inr m) n = member-behind e x.entries _ (in_snapshot rs r e m n)

copied_fits : (s : Parts) (name : List ℕ) (x : Snapshot) (r : CopiedRegion) → get s.snapshots name ≡ Some x → IsFaithful s → IsBeside s → HasCells s → Member r x.regions → FitsEntries s.made r.info x.schema.families r.seq r.entries
copied_fits s name x r e f b k m = by_copy (get s.plain.snapshots name) refl (subst (λ o. Copies s.made o (get s.plain.snapshots name)) e (f.copies.at name))
  where
    by_copy : (o : Option PlainSnapshot) → get s.plain.snapshots name ≡ o → Copies s.made (Some x) o → FitsEntries s.made r.info x.schema.families r.seq r.entries
    by_copy None i c = absurd c
    by_copy (Some y) i c =
        let w = zip_both (IsCopy s.made) (CopyHolds x.schema.families) x.regions y.regions r c.1 (k.snapshots.at name x y e i) m in
        entries_fit s.made r.info x.schema.families r.seq w.0.number r.entries w.0.cells (b.beside.copied name x r e m) (λ u n. f.families.completed name x u e (in_snapshot x.regions r u m n)) w.1.same w.1.number w.2

-- ---- all of it

pub fits : (s : Parts) → IsWritten s → IsFaithful s → IsBeside s → IsCovered s → HasCells s → Fit (says s)
fits s w f b v k = record {
  sets = λ table x e. set_fits x.state x (get s.plain.tables table) (w.tables.at table ∙ ap table_in_set e) (v.tables.at table);
  lists = λ r split i. list_fits s r split i w f b k;
  snapshots = λ name x e. let g = v.snapshots.at name x e in record { regions = g.regions; families = g.families; table = g.table; entries = λ r m. copied_fits s name x r e f b k m };
}
