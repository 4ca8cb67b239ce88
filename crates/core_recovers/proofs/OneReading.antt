-- What the files of a disk say is one reading: with the same tables, cells and numbers of regions, and snapshots.
use Rattle.std.proofs.Common.{◌≡◌, ℕ, Bool, true, false, List, [], ◌∷◌, Option, Some, None, refl, sym, ap, ◌∙◌, subst, inl, inr}
use Rattle.std.specs.Prelude.{map, is_some}
use Rattle.std.specs.FinMap.{get}
use Rattle.std.specs.List.{flat_map, AllZip}
use Rattle.cell_sight.specs.Member.{Member}
use Rattle.cell_sight.specs.Same.{Same}
use Rattle.cell_sight.proofs.Counts.{same-trans, same-sym, same-equal}
use Rattle.cell_sight.proofs.Members.{of_filter}
use Rattle.commit_list.specs.declared.list_entry.ListEntry.{ListEntry}
use Rattle.commit_list.specs.declared.region_list.RegionList.{RegionList}
use Rattle.hb_cell.specs.declared.cell.Cell.{Cell}
use Rattle.hb_cell.specs.Order.{same_bytes}
use Rattle.hb_layout.specs.declared.base.Base.{Base}
use Rattle.hb_records.specs.declared.table_schema.TableSchema.{TableSchema}
use Rattle.hfile_form.proofs.FileLaws.{one_list}
use Rattle.ns_tree.specs.declared.file.FileState.{FileState}
use Rattle.ns_tree.specs.Tree.{Tree}
use Rattle.plain_model.specs.declared.parts.PlainSnapshot.{PlainSnapshot}
use Rattle.plain_model.specs.declared.parts.RegionCopy.{RegionCopy}
use Rattle.plain_model.specs.declared.region_key.RegionKey.{RegionKey}
use Rattle.plain_model.specs.Keys.{key_of}
use Rattle.plain_model.specs.Plain.{Plain}
use Rattle.region_set.specs.declared.region_set.RegionSet.{RegionSet}
use Rattle.snapshot_records.specs.declared.reference.Reference.{Reference}
use Rattle.core_model.specs.declared.entry.Entry.{Entry}
use Rattle.core_model.specs.declared.snapshot.CopiedRegion.{CopiedRegion}
use Rattle.core_model.specs.declared.snapshot.Snapshot.{Snapshot}
use Rattle.core_model.specs.Actors.{InSet, IsRegion}
use Rattle.core_model.specs.Disk.{Bases, Disk, disk_of, live_of, lists_of, sets_of, infos_of, manifests_of, is_live, is_archived}
use Rattle.core_model.specs.Entries.{Made, base_of, cells_in, entry_name, file_of, list_entry, IsEntryIn}
use Rattle.core_model.specs.ListGuards.{in_family}
use Rattle.core_sound.proofs.Lists.{member-front, member-behind}
use Rattle.core_sound.proofs.NameFacts.{store_name}
use Rattle.core_sound.proofs.Tests.{same_bytes-true}
use Rattle.core_bytes.specs.FileOf.{IsPointer}
use Rattle.core_bytes.specs.Recorded.{half_in}
use Rattle.core_bytes.specs.Stored.{table_in_set}
use Rattle.core_bytes.specs.Written.{IsMade}
use Rattle.core_contents.specs.ContentFacts.{Copies, IsCopy}
use Rattle.core_contents.proofs.MadeStays.{alike}
use Rattle.core_reads.specs.Laws.{IsAlike}
use Rattle.core_reads.proofs.Told.{same_files, same_sets, same_lists, same_there, same_manifest}
use Rattle.core_recovers.specs.Reading.{Reading, IsIn, InReading, IsReading, by_list, by_snapshot}
use Rattle.core_recovers.specs.Reading as reading
use Rattle.core_recovers.specs.Recovers.{AreSameCopies, AreSameRegions, AreSameSnapshots, RecoversDisk, RecoversOne}
use Rattle.core_recovers.proofs.FamilyParts.{same_parts}
use Rattle.core_recovers.proofs.OneEntry.{one_entry, one_half}

-- ---- the cells of a base

one_made : (u v : Option (List Cell)) (bytes : List ℕ) → IsMade u bytes → IsMade v bytes → u ≡ v
one_made u v bytes a b = a.are ∙ ap Some (one_list bytes a.cells b.cells a.file b.file) ∙ sym b.are

made_told : (d : Disk) (x y : Reading) → IsReading d x → IsReading d y → (b : Base) → reading.IsRead y b → x.made b ≡ y.made b
made_told d x y h k b n = elim (k.places b n) [
  | is_live f e ↦ let w = store_name b.name (k.bases b n).file in one_made (x.made b) (y.made b) f.bytes (h.files.live_made b f e w) (k.files.live_made b f e w)
  | is_archived f e ↦ one_made (x.made b) (y.made b) f.bytes (h.files.archived_made b f e) (k.files.archived_made b f e)
]

-- ---- the entries of a list

-- an entry's file stands, and says its row and side
record Points (live : Bases) (r : RegionKey) (e : Entry) : Type 0 where
  names : IsEntryIn r e
  file : FileState
  at : live (file_of r e) ≡ Some file
  says : IsPointer e file.bytes

file_at : (r : RegionKey) (e x : Entry) → list_entry e ≡ list_entry x → file_of r e ≡ file_of r x
file_at r e x i = λ j. record { table = r.table; region = r.region; family = (i j).family; name = (i j).name }

one_line : (live : Bases) (r : RegionKey) (e x : Entry) → list_entry e ≡ list_entry x → Points live r e → Points live r x → e ≡ x
one_line live r e x i h k =
    let f = file_at r e x i in
    let z : h.file ≡ k.file = same_files (live (file_of r e)) (live (file_of r x)) h.file k.file (ap live f) h.at k.at in
    one_entry r e x h.names k.names f (one_half e x k.file.bytes (ap (λ (l : ListEntry). l.kind) i) (subst (λ (y : FileState). IsPointer e y.bytes) z h.says) k.says)

same_lines : (live : Bases) (r : RegionKey) (es xs : List Entry) → map list_entry es ≡ map list_entry xs → ((e : Entry) → Member e es → Points live r e) → ((x : Entry) → Member x xs → Points live r x) → es ≡ xs
same_lines live r [] [] i h k = refl
same_lines live r [] (x ∷ xs) i h k = absurd (cc)
same_lines live r (e ∷ es) [] i h k = absurd (cc)
same_lines live r (e ∷ es) (x ∷ xs) i h k =
    let p : list_entry e ≡ list_entry x = (cc) in
    let q : map list_entry es ≡ map list_entry xs = (cc) in
    let head = one_line live r e x p (h e (inl refl)) (k x (inl refl)) in
    let rest = same_lines live r es xs q (λ y m. h y (inr m)) (λ y m. k y (inr m)) in
    λ j. (head j) ∷ (rest j)

listed_entries : (d : Disk) (x : Reading) → IsReading d x → (r : RegionKey) → InReading x r → (e : Entry) → Member e (x.lists r).entries → Points (live_of d) r e
listed_entries d x h r i e m = let w = h.stand r e i m in record { names = w.names; file = w.file; at = w.at; says = h.point r e w.file i m w.at }

-- ---- tables and regions

sets_told : (d : Disk) (x y : Reading) → IsReading d x → IsReading d y → (table : List ℕ) → x.sets table ≡ y.sets table
sets_told d x y h k table = same_sets table (sets_of d table) (sets_of d table) (x.sets table) (y.sets table) (λ n. refl) (h.sets table).above (k.sets table).above (h.sets table).file (k.sets table).file

in_both : (x y : List ℕ → Option RegionSet) (r : RegionKey) (split : Bool) → x r.table ≡ y r.table → IsIn x r split → IsIn y r split
in_both x y r split e h = record { table = h.table; stands = ap table_in_set (sym e) ∙ h.stands; info = h.info; listed = h.listed; key = h.key }

reading_both : (x y : Reading) (r : RegionKey) → x.sets r.table ≡ y.sets r.table → InReading x r → InReading y r
reading_both x y r e (inl h) = inl (in_both x.sets y.sets r false e h)
reading_both x y r e (inr h) = inr (in_both x.sets y.sets r true e h)

-- a region of the tables is in the reading
in_sets : (p : Plain) (sets : List ℕ → Option RegionSet) → ((table : List ℕ) → get p.tables table ≡ table_in_set (sets table)) → (r : RegionKey) (split : Bool) → InSet p.tables r split → IsIn sets r split
in_sets p sets t r split h = record { table = h.table; stands = sym (t r.table) ∙ h.stands; info = h.info; listed = h.listed; key = h.key }

region_read : (p : Plain) (x : Reading) → ((table : List ℕ) → get p.tables table ≡ table_in_set (x.sets table)) → (r : RegionKey) → IsRegion p.tables r → InReading x r
region_read p x t r (inl h) = inl (in_sets p x.sets t r false h)
region_read p x t r (inr h) = inr (in_sets p x.sets t r true h)

set_back : (p : Plain) (sets : List ℕ → Option RegionSet) → ((table : List ℕ) → get p.tables table ≡ table_in_set (sets table)) → (r : RegionKey) (split : Bool) → IsIn sets r split → InSet p.tables r split
set_back p sets t r split h = record { table = h.table; stands = t r.table ∙ h.stands; info = h.info; listed = h.listed; key = h.key }

region_back : (p : Plain) (x : Reading) → ((table : List ℕ) → get p.tables table ≡ table_in_set (x.sets table)) → (r : RegionKey) → InReading x r → IsRegion p.tables r
region_back p x t r (inl h) = inl (set_back p x.sets t r false h)
region_back p x t r (inr h) = inr (set_back p x.sets t r true h)

regions_told : (d : Disk) (p q : Plain) → (a : RecoversDisk d p) → (b : RecoversDisk d q) → (r : RegionKey) → IsRegion p.tables r → AreSameRegions p q r
regions_told d p q a b r i =
    let x = a.says in
    let y = b.says in
    let c = region_read p x a.tables r i in
    let e = reading_both x y r (sets_told d x y a.reading b.reading r.table) c in
    let l = same_lists (lists_of d r) (lists_of d r) (x.lists r) (y.lists r) (λ n. refl) (a.reading.lists r c).above (b.reading.lists r e).above (a.reading.lists r c).file (b.reading.lists r e).file in
    let es = same_lines (live_of d) r (x.lists r).entries (y.lists r).entries (ap (λ (v : RegionList). v.entries) l) (listed_entries d x a.reading r c) (listed_entries d y b.reading r e) in
    let made = alike y.made x.made (y.lists r).entries (λ v m. made_told d x y a.reading b.reading (base_of v) (by_list r v e m refl)) in
    let v = a.regions r i in
    let w = b.regions r (region_back q y b.tables r e) in
    record { stable = same-trans (same-sym v.same) (same-trans (same-equal (ap (cells_in x.made) es ∙ made)) w.same); kept = sym v.kept ∙ ap (λ (u : RegionList). u.seq) l ∙ w.kept }

-- ---- snapshots

abbrev told : Entry → List ℕ × Option Reference
told e = (entry_name e, half_in e)

-- entries of one family with the same names and halves are the same
same_told : (r : RegionKey) (family : List ℕ) (es xs : List Entry) → map told es ≡ map told xs → ((e : Entry) → Member e es → IsEntryIn r e × ((base_of e).family ≡ family)) → ((x : Entry) → Member x xs → IsEntryIn r x × ((base_of x).family ≡ family)) → es ≡ xs
same_told r family [] [] i h k = refl
same_told r family [] (x ∷ xs) i h k = absurd (cc)
same_told r family (e ∷ es) [] i h k = absurd (cc)
same_told r family (e ∷ es) (x ∷ xs) i h k =
    let p : told e ≡ told x = (cc) in
    let q : map told es ≡ map told xs = (cc) in
    let a = h e (inl refl) in
    let b = k x (inl refl) in
    let f : file_of r e ≡ file_of r x = λ j. record { table = r.table; region = r.region; family = (a.1 ∙ sym b.1) j; name = (p j).0 } in
    let head = one_entry r e x a.0 b.0 f (ap (λ (y : List ℕ × Option Reference). y.1) p) in
    let rest = same_told r family es xs q (λ y m. h y (inr m)) (λ y m. k y (inr m)) in
    λ j. (head j) ∷ (rest j)

in_part : (r : RegionKey) (family : List ℕ) (es : List Entry) → ((e : Entry) → Member e es → IsEntryIn r e) → (e : Entry) → Member e (in_family family es) → IsEntryIn r e × ((base_of e).family ≡ family)
in_part r family es h e m = let w = of_filter (λ x. same_bytes (base_of x).family family) e es m in (h e w.0, same_bytes-true (base_of e).family family w.1)

copies_told : (made more : Made) (r q : CopiedRegion) → IsAlike r q → ((e : Entry) → Member e r.entries → IsEntryIn (key_of r.info) e) → ((e : Entry) → Member e q.entries → IsEntryIn (key_of q.info) e)
    → ((e : Entry) → Member e q.entries → made (base_of e) ≡ more (base_of e)) → Same (cells_in made r.entries) (cells_in more q.entries)
copies_told made more r q a h k m =
    let on : (e : Entry) → Member e q.entries → IsEntryIn (key_of r.info) e = λ e n. subst (λ i. IsEntryIn (key_of i) e) (sym a.region) (k e n) in
    let parts : (family : List ℕ) → in_family family r.entries ≡ in_family family q.entries = λ family. same_told (key_of r.info) family (in_family family r.entries) (in_family family q.entries) (a.files family) (in_part (key_of r.info) family r.entries h) (in_part (key_of r.info) family q.entries on) in
    same-trans (same_parts made r.entries q.entries parts) (same-equal (alike more made q.entries m))

-- the entries of a region of a snapshot are its own
entry-there : (rs : List CopiedRegion) (r : CopiedRegion) (e : Entry) → Member r rs → Member e r.entries → Member e (flat_map (λ (x : CopiedRegion). x.entries) rs)
entry-there [] r e m n = absurd m
entry-there (x ∷ xs) r e (inl i) n = member-front e x.entries _ (subst (λ (y : CopiedRegion). Member e y.entries) (sym i) n)
entry-there (x ∷ xs) r e (inr m) n = member-behind e x.entries _ (entry-there xs r e m n)

zip_told : (made more : Made) (rs qs : List CopiedRegion) (cs ds : List RegionCopy) → AllZip IsAlike rs qs → AllZip (IsCopy made) rs cs → AllZip (IsCopy more) qs ds
    → ((r : CopiedRegion) → Member r rs → (e : Entry) → Member e r.entries → IsEntryIn (key_of r.info) e) → ((r : CopiedRegion) → Member r qs → (e : Entry) → Member e r.entries → IsEntryIn (key_of r.info) e)
    → ((r : CopiedRegion) → Member r qs → (e : Entry) → Member e r.entries → made (base_of e) ≡ more (base_of e)) → AllZip AreSameCopies cs ds
zip_told made more [] [] [] [] a h k f g m = tt
zip_told made more (r ∷ rs) (q ∷ qs) (c ∷ cs) (d ∷ ds) a h k f g m = (
  record {
    region = sym h.0.region ∙ ap key_of a.0.region ∙ k.0.region;
    same = same-trans (same-sym h.0.same) (same-trans (copies_told made more r q a.0 (f r (inl refl)) (g q (inl refl)) (m q (inl refl))) k.0.same);
    number = sym h.0.number ∙ a.0.number ∙ k.0.number;
  },
  zip_told made more rs qs cs ds a.1 h.1 k.1 (λ x n. f x (inr n)) (λ x n. g x (inr n)) (λ x n. m x (inr n)),
)
zip_told made more [] (q ∷ qs) cs ds a h k f g m = absurd a
zip_told made more (r ∷ rs) [] cs ds a h k f g m = absurd a
zip_told made more [] [] (c ∷ cs) ds a h k f g m = absurd h
zip_told made more [] [] [] (d ∷ ds) a h k f g m = absurd k
zip_told made more (r ∷ rs) (q ∷ qs) [] ds a h k f g m = absurd h
zip_told made more (r ∷ rs) (q ∷ qs) (c ∷ cs) [] a h k f g m = absurd k

snapshots_there : (d : Disk) (x y : Reading) → IsReading d x → IsReading d y → (name : List ℕ) → is_some (x.snapshots name) ≡ is_some (y.snapshots name)
snapshots_there d x y h k name = same_there name (infos_of d name) (infos_of d name) (x.snapshots name) (y.snapshots name) refl (λ e. (h.missing name e).0) (λ e. (k.missing name e).0)
    (λ s e. let w = h.snapshots name s e in (w.info, w.info_stands)) (λ s e. let w = k.snapshots name s e in (w.info, w.info_stands))

snapshot_told : (d : Disk) (x y : Reading) → IsReading d x → IsReading d y → (name : List ℕ) (s o : Option Snapshot) (p q : Option PlainSnapshot) → x.snapshots name ≡ s → y.snapshots name ≡ o → is_some s ≡ is_some o → Copies x.made s p → Copies y.made o q
    → AreSameSnapshots p q
snapshot_told d x y h k name None None None None i j e a b = tt
snapshot_told d x y h k name None None None (Some q) i j e a b = absurd b
snapshot_told d x y h k name None None (Some p) q i j e a b = absurd a
snapshot_told d x y h k name None (Some o) p q i j e a b = absurd (cc)
snapshot_told d x y h k name (Some s) None p q i j e a b = absurd (cc)
snapshot_told d x y h k name (Some s) (Some o) None q i j e a b = absurd a
snapshot_told d x y h k name (Some s) (Some o) (Some p) None i j e a b = absurd b
snapshot_told d x y h k name (Some s) (Some o) (Some p) (Some q) i j e a b =
    let v = h.snapshots name s i in
    let w = k.snapshots name o j in
    let f : v.manifest ≡ w.manifest = same_files (manifests_of d name) (manifests_of d name) v.manifest w.manifest refl v.manifest_stands w.manifest_stands in
    let m = same_manifest v.manifest.bytes w.manifest.bytes s o (ap (λ (z : FileState). z.bytes) f) v.holds w.holds in (
      sym a.0 ∙ ap (λ (z : TableSchema). z.families) m.0 ∙ b.0,
      zip_told x.made y.made s.regions o.regions p.regions q.regions m.1 a.1 b.1 (λ r n c u. v.names r c n u) (λ r n c u. w.names r c n u)
          (λ r n c u. made_told d x y h k (base_of c) (by_snapshot name o c j (entry-there o.regions r c n u) refl)),
    )

-- ---- all of them

pub one_told : (tree : Tree) (p q : Plain) → RecoversOne tree p q
one_told tree p q a b = record {
  tables = λ table. a.tables table ∙ ap table_in_set (sets_told (disk_of tree) a.says b.says a.reading b.reading table) ∙ sym (b.tables table);
  regions = regions_told (disk_of tree) p q a b;
  snapshots = λ name. snapshot_told (disk_of tree) a.says b.says a.reading b.reading name (a.says.snapshots name) (b.says.snapshots name) (get p.snapshots name) (get q.snapshots name) refl refl (snapshots_there (disk_of tree) a.says b.says a.reading b.reading name) (a.snapshots name) (b.snapshots name);
  one = a.stop;
  other = b.stop;
}
