-- What was found of a tree is what it says.
use Rattle.std.proofs.Common.{◌≡◌, ℕ, Bool, List, [], ◌∷◌, Option, Some, None, refl, sym, ap, ◌∙◌, subst, inl, inr}
use Rattle.std.specs.Prelude.{map, filter_map, option_map, unwrap_or}
use Rattle.std.specs.List.{AllZip}
use Rattle.std.specs.FinMap.{get, from_entries}
use Rattle.cell_sight.specs.Member.{Member}
use Rattle.cell_sight.proofs.Counts.{same-refl}
use Rattle.hb_cell.specs.Order.{bytes_cmp}
use Rattle.hb_grammar.specs.Rows.{RowsFrom}
use Rattle.hb_records.specs.declared.region_info.RegionInfo.{RegionInfo}
use Rattle.ns_tree.specs.declared.file.FileState.{FileState}
use Rattle.plain_model.specs.declared.parts.PlainTable.{PlainTable}
use Rattle.plain_model.specs.Names.{Names}
use Rattle.region_set.specs.declared.region_set.RegionSet.{RegionSet}
use Rattle.region_set.specs.declared.set_state.SetState.{SetState}
use Rattle.region_set.specs.declared.set_state.SetState.TheVariants as states
use Rattle.region_set.specs.RegionLine.{IsRegionBehind}
use Rattle.core_model.specs.declared.found.Found.{Found}
use Rattle.core_model.specs.declared.snapshot.CopiedRegion.{CopiedRegion}
use Rattle.core_model.specs.declared.snapshot.Snapshot.{Snapshot}
use Rattle.core_model.specs.Disk.{Disk}
use Rattle.core_model.specs.Entries.{Made}
use Rattle.core_model.specs.Opened.{copy_of, named_table, plain_snapshot, table_in, table_of}
use Rattle.core_sound.proofs.Lists.{map_some}
use Rattle.core_bytes.specs.Stored.{table_in_set}
use Rattle.core_contents.specs.ContentFacts.{Copies, IsCopy}
use Rattle.core_recovers.specs.Reading.{Reading, ReadsSet}
use Rattle.core_opens.specs.Begins.{IsFound}
use Rattle.core_opens.proofs.Entered.{entered_is, entered-map, from_filter, to_filter}

-- ---- sets and snapshots

pub set_is : (d : Disk) (found : Found) (says : Reading) (t : List ℕ) → IsFound d found says → get (from_entries {R = bytes_cmp} found.sets) t ≡ says.sets t
set_is d found says t f = entered_is found.sets t (says.sets t) (λ s m. f.sets t s m) (λ s e. f.all_sets t s e)

pub snapshot_is : (d : Disk) (found : Found) (says : Reading) (name : List ℕ) → IsFound d found says → get (from_entries {R = bytes_cmp} found.snapshots) name ≡ says.snapshots name
snapshot_is d found says name f = entered_is found.snapshots name (says.snapshots name) (λ x m. f.snapshots name x m) (λ x e. f.all_snapshots name x e)

-- ---- tables

abbrev pub tables_in : Found → Names PlainTable
tables_in found = from_entries {R = bytes_cmp} (filter_map named_table found.sets)

table_there : (d : Disk) (found : Found) (says : Reading) (t : List ℕ) → IsFound d found says → (b : PlainTable) → Member (t, b) (filter_map named_table found.sets) → table_in_set (says.sets t) ≡ Some b
table_there d found says t f b m =
    let k = from_filter named_table found.sets (t, b) m in
    let j = map_some (λ (x : PlainTable). (k.0.0, x)) (table_of k.0.1) (t, b) k.2 in
    ap table_in_set (f.sets t k.0.1 (subst (λ (n : List ℕ). Member (n, k.0.1) found.sets) (ap (λ (x : List ℕ × PlainTable). x.0) j.2) k.1)) ∙ j.1 ∙ ap Some (ap (λ (x : List ℕ × PlainTable). x.1) j.2)

table_back : (d : Disk) (found : Found) (says : Reading) (t : List ℕ) (o : Option RegionSet) → IsFound d found says → says.sets t ≡ o → (b : PlainTable) → table_in_set o ≡ Some b → Member (t, b) (filter_map named_table found.sets)
table_back d found says t None f k b e = absurd (cc)
table_back d found says t (Some s) f k b e = to_filter named_table found.sets (t, s) (t, b) (f.all_sets t s k) (ap (option_map (λ (x : PlainTable). (t, x))) e)

pub table_is : (d : Disk) (found : Found) (says : Reading) (t : List ℕ) → IsFound d found says → get (tables_in found) t ≡ table_in_set (says.sets t)
table_is d found says t f = entered_is (filter_map named_table found.sets) t (table_in_set (says.sets t)) (table_there d found says t f) (table_back d found says t (says.sets t) f refl)

-- ---- the regions of a set are its table's

set_regions : (state : SetState) (s : RegionSet) (b : PlainTable) → table_in state s ≡ Some b → s.regions ≡ b.regions
set_regions states.Enabled s b e = ap (λ (o : Option PlainTable). unwrap_or (option_map (λ (x : PlainTable). x.regions) o) []) e
set_regions states.Disabled s b e = ap (λ (o : Option PlainTable). unwrap_or (option_map (λ (x : PlainTable). x.regions) o) []) e
set_regions states.Dropped s b e = absurd (cc)

row_table : (t : List ℕ) (last : Option (RegionInfo × Bool)) (rows : List (RegionInfo × Bool)) (i : RegionInfo) (split : Bool) → RowsFrom (IsRegionBehind t) last rows → Member (i, split) rows → i.table ≡ t
row_table t last [] i split h m = absurd m
row_table t None (x ∷ rows) i split h (inl e) = ap (λ (y : RegionInfo × Bool). y.0.table) (sym e) ∙ h.0.of_table
row_table t (Some last) (x ∷ rows) i split h (inl e) = ap (λ (y : RegionInfo × Bool). y.0.table) (sym e) ∙ h.0.0.of_table
row_table t last (x ∷ rows) i split h (inr m) = row_table t (Some x) rows i split h.1 m

pub own_table : (files : ℕ → Option FileState) (t : List ℕ) (o : Option RegionSet) (b : PlainTable) (i : RegionInfo) (split : Bool) → ReadsSet files t o → table_in_set o ≡ Some b → Member (i, split) b.regions → i.table ≡ t
own_table files t None b i split h e m = absurd (cc)
own_table files t (Some s) b i split h e m = row_table t None s.regions i split (h.file s refl).2.lawful.regions (subst (Member (i, split)) (sym (set_regions s.state s b e)) m)

-- ---- snapshots have the cells of their entries

copies_of : (made : Made) (rs : List CopiedRegion) → AllZip (IsCopy made) rs (map (copy_of made) rs)
copies_of made [] = tt
copies_of made (r ∷ rs) = (record { region = refl; same = same-refl _; number = refl }, copies_of made rs)

plain_copy : (made : Made) (o : Option Snapshot) → Copies made o (option_map (plain_snapshot made) o)
plain_copy made None = tt
plain_copy made (Some x) = (refl, copies_of made x.regions)

pub copy_is : (made : Made) (found : Found) (name : List ℕ) → Copies made (get (from_entries {R = bytes_cmp} found.snapshots) name) (get (from_entries {R = bytes_cmp} (map (λ (x : List ℕ × Snapshot). (x.0, plain_snapshot made x.1)) found.snapshots)) name)
copy_is made found name = subst (Copies made (get (from_entries {R = bytes_cmp} found.snapshots) name)) (sym (entered-map (plain_snapshot made) found.snapshots name)) (plain_copy made (get (from_entries {R = bytes_cmp} found.snapshots) name))
