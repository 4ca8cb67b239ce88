-- A valid tree has no fault.
use Rattle.std.proofs.Common.{◌≡◌, ℕ, ◌<◌, Bool, true, false, List, Option, Some, None, refl, sym, ap, ◌∙◌, subst, inl, inr}
use Rattle.std.proofs.lemmas.Bool.{cases_order}
use Rattle.commit_list.specs.declared.region_list.RegionList.{RegionList}
use Rattle.hb_layout.specs.declared.base.Base.{Base}
use Rattle.ns_tree.specs.declared.file.FileState.{FileState}
use Rattle.ns_tree.specs.Tree.{Tree}
use Rattle.plain_model.specs.declared.region_key.RegionKey.{RegionKey}
use Rattle.region_set.specs.declared.region_set.RegionSet.{RegionSet}
use Rattle.snapshot_records.specs.Manifest.{IsManifest}
use Rattle.snapshot_records.specs.SnapshotInfo.{IsSnapshotInfo}
use Rattle.core_model.specs.declared.region_files.RegionFiles.{RegionFiles}
use Rattle.core_model.specs.declared.snapshot.Snapshot.{Snapshot}
use Rattle.core_model.specs.Disk.{disk_of, live_of, archived_of, backs_of, infos_of, lists_of, manifests_of, sets_of}
use Rattle.core_model.specs.Disk as disk
use Rattle.core_model.specs.Entries.{base_of, region_list}
use Rattle.core_sound.proofs.HoldsFound.{some_is}
use Rattle.core_sound.proofs.NameFacts.{store_name}
use Rattle.core_bytes.specs.FileOf.{IsListFileOf, IsSetFileOf}
use Rattle.core_bytes.specs.Stored.{IsStored, unwritten, written, table_in_set}
use Rattle.core_bytes.specs.Recorded.{IsInfoOf, IsManifestOf}
use Rattle.core_reads.proofs.Told.{same_sets}
use Rattle.core_trees.specs.Filed.{IsAbove}
use Rattle.core_recovers.specs.Reading.{Reading, IsIn, InReading, IsRead, ReadsSet, ReadsSnapshot, by_list, by_snapshot}
use Rattle.core_opens.specs.Faults as faults
use Rattle.core_opens.specs.Faults.{Fault, InNewest, IsNewestFile, EntriesStand, ReadsEntries, ReadsCells, HasMade, LayoutFault, DoubledFault, OtherFault, MalformedFault, FileFault, BackFault, UnfitFault}
use Rattle.core_opens.specs.Laws.{HasNoFault}
use Rattle.core_opens.specs.Valid.{IsValid}

-- ---- what a valid tree says

set_said : (tree : Tree) (v : IsValid tree) (table : List ℕ) (s : RegionSet) → ReadsSet (sets_of (disk_of tree) table) table (Some s) → v.complete.says.sets table ≡ Some s
set_said tree v table s h = let k = v.complete.reading.sets table in same_sets table (sets_of (disk_of tree) table) (sets_of (disk_of tree) table) (v.complete.says.sets table) (Some s) (λ n. refl) k.above h.above k.file h.file

in_says : (tree : Tree) (v : IsValid tree) (r : RegionKey) (i : InNewest (disk_of tree) r) → IsIn v.complete.says.sets r i.split
in_says tree v r i = record { table = i.region.table; stands = ap table_in_set (set_said tree v r.table i.set i.read) ∙ i.region.stands; info = i.region.info; listed = i.region.listed; key = i.region.key }

either_in : (x : Reading) (r : RegionKey) (split : Bool) → IsIn x.sets r split → InReading x r
either_in x r true i = inr i
either_in x r false i = inl i

region_said : (tree : Tree) (v : IsValid tree) (r : RegionKey) → InNewest (disk_of tree) r → InReading v.complete.says r
region_said tree v r i = either_in v.complete.says r i.split (in_says tree v r i)

entries_stand : (tree : Tree) (v : IsValid tree) (r : RegionKey) → InReading v.complete.says r → EntriesStand (disk_of tree) r (v.complete.says.lists r)
entries_stand tree v r i = record { stand = λ e m. v.complete.reading.stand r e i m; places = λ e m. v.complete.reading.places (base_of e) (by_list r e i m refl) }

entries_read : (tree : Tree) (v : IsValid tree) (r : RegionKey) → InReading v.complete.says r → ReadsEntries (disk_of tree) r (v.complete.says.lists r)
entries_read tree v r i = record { list = v.complete.reading.lists r i; stand = entries_stand tree v r i; point = λ e f m j. v.complete.reading.point r e f i m j }

has_made : (tree : Tree) (v : IsValid tree) (b : Base) → IsRead v.complete.says b → HasMade (live_of (disk_of tree)) (archived_of (disk_of tree)) v.complete.says.made b
has_made tree v b n = elim (v.complete.reading.places b n) [
  | disk.is_live f e ↦ faults.is_live f e (v.complete.reading.files.live_made b f e (store_name b.name (v.complete.reading.bases b n).file))
  | disk.is_archived f e ↦ faults.is_archived f e (v.complete.reading.files.archived_made b f e)
]

-- both files of a snapshot of which one stands are read
snapshot_said : {X : Type 0} (tree : Tree) (v : IsValid tree) (name : List ℕ) (o : Option Snapshot) → v.complete.says.snapshots name ≡ o → (infos_of (disk_of tree) name ≡ None → manifests_of (disk_of tree) name ≡ None → ⊥)
    → ((x : Snapshot) → v.complete.says.snapshots name ≡ Some x → ReadsSnapshot (infos_of (disk_of tree) name) (manifests_of (disk_of tree) name) name x → X) → X
snapshot_said tree v name None e k f = let w = v.complete.reading.missing name e in absurd (k w.0 w.1)
snapshot_said tree v name (Some x) e k f = f x e (v.complete.reading.snapshots name x e)

none_some : {X : Type 0} (o : Option FileState) (f : FileState) → o ≡ None → o ≡ Some f → X
none_some o f i j = let z : None ≡ Some f = sym i ∙ j in absurd (cc)

-- ---- kind by kind

layout : (tree : Tree) (place : List ℕ) → IsValid tree → LayoutFault tree place → ⊥
layout tree place v (faults.no_row k n) = n (v.complete.rows place k)
layout tree place v (faults.full_epoch n f a e) = e (v.complete.empties.epoch n f a.at)
layout tree place v (faults.full_link r b f k a e) = e (v.complete.empties.link r b f k a.at)
layout tree place v (faults.full_back b text f a e) = e (v.complete.empties.back b text f a.at)

doubled : (tree : Tree) (place : List ℕ) → IsValid tree → DoubledFault tree place → ⊥
doubled tree place v (faults.doubled b f g a e) = v.complete.one_place.at b g f e a.at

other : (tree : Tree) (place : List ℕ) → IsValid tree → OtherFault tree place → ⊥
other tree place v (faults.no_manifest name f a e) = snapshot_said tree v name (v.complete.says.snapshots name) refl (λ i j. none_some (infos_of (disk_of tree) name) f i a.at) (λ x k w. none_some (manifests_of (disk_of tree) name) w.manifest e w.manifest_stands)
other tree place v (faults.no_info name f a e) = snapshot_said tree v name (v.complete.says.snapshots name) refl (λ i j. none_some (manifests_of (disk_of tree) name) f j a.at) (λ x k w. none_some (infos_of (disk_of tree) name) w.info e w.info_stands)

-- the file of the greatest number is one
newest_is : (files : ℕ → Option FileState) (m n : ℕ) (f g : FileState) → IsAbove files m → IsAbove files n → files m ≡ Some f → files n ≡ Some g → (m ≡ n) × (f ≡ g)
newest_is files m n f g a b i j = elim (cases_order m n) as (λ _. (m ≡ n) × (f ≡ g)) [
  | inl e ↦ (e, some_is (sym i ∙ ap files e ∙ j))
  | inr (inl l) ↦ none_some (files n) g (a n l) j
  | inr (inr l) ↦ none_some (files m) f (b m l) i
]

list_said : {X : Type 0} (files : ℕ → Option FileState) (l : RegionFiles) (n : ℕ) (f : FileState) → 0 < n → IsNewestFile files n f → IsAbove files l.number → IsStored files l → ((m : RegionList) → IsListFileOf f.bytes m → m.number ≡ n → X) → X
list_said files l n f p h a (unwritten e) k = none_some (files n) f (subst (λ (x : RegionFiles). IsAbove files x.number) e a n p) h.stands
list_said files l n f p h a (written g i q) k = let w = newest_is files n l.number f g h.above a h.stands i in
    k (region_list l) (subst (λ (x : FileState). IsListFileOf x.bytes (region_list l)) (sym w.1) q) (sym w.0)

set_there : {X : Type 0} (files : ℕ → Option FileState) (table : List ℕ) (o : Option RegionSet) (n : ℕ) (f : FileState) → 0 < n → IsNewestFile files n f → ReadsSet files table o → ((s : RegionSet) → IsSetFileOf table f.bytes s → s.number ≡ n → X) → X
set_there files table None n f p h a k = none_some (files n) f (a.above n p) h.stands
set_there files table (Some s) n f p h a k =
    let u = a.file s refl in
    let w = newest_is files n s.number f u.0 h.above a.above h.stands u.1 in
    k s (subst (λ (x : FileState). IsSetFileOf table x.bytes s) (sym w.1) u.2) (sym w.0)

malformed : (tree : Tree) (place : List ℕ) → IsValid tree → MalformedFault tree place → ⊥
malformed tree place v (faults.half r e f n h a k) = let w = v.complete.references.at r e f n h a.at in k w.0 w.1
malformed tree place v (faults.live_file b f a o k) = let w = v.complete.reading.files.live_made b f a.at o in k w.cells w.file
malformed tree place v (faults.archived_file b f a k) = let w = v.complete.reading.files.archived_made b f a.at in k w.cells w.file
malformed tree place v (faults.list r n f i p h t k) = let w = v.complete.reading.lists r (region_said tree v r i) in list_said (lists_of (disk_of tree) r) (v.complete.says.lists r) n f p h w.above w.file k
malformed tree place v (faults.set table n f p h t k) = set_there (sets_of (disk_of tree) table) table (v.complete.says.sets table) n f p h (v.complete.reading.sets table) k
malformed tree place v (faults.manifest name f a k) = snapshot_said tree v name (v.complete.says.snapshots name) refl (λ i j. none_some (manifests_of (disk_of tree) name) f j a.at)
    (λ x e w. let z : w.manifest ≡ f = some_is (sym w.manifest_stands ∙ a.at) in k w.holds.manifest (subst (λ (y : FileState). IsManifest y.bytes w.holds.manifest) z w.holds.message))
malformed tree place v (faults.info name f a k) = snapshot_said tree v name (v.complete.says.snapshots name) refl (λ i j. none_some (infos_of (disk_of tree) name) f i a.at)
    (λ x e w. let z : w.info ≡ f = some_is (sym w.info_stands ∙ a.at) in k w.description.description (subst (λ (y : FileState). IsSnapshotInfo y.bytes w.description.description) z w.description.message))

no_file : (tree : Tree) (place : List ℕ) → IsValid tree → FileFault tree place → ⊥
no_file tree place v (faults.of_list r l i h t k) = let c = region_said tree v r i in k (v.complete.says.lists r) (v.complete.reading.lists r c) (entries_stand tree v r c)
no_file tree place v (faults.of_manifest name x h t k) = snapshot_said tree v name (v.complete.says.snapshots name) refl (λ i j. none_some (infos_of (disk_of tree) name) h.info i h.info_stands)
    (λ y e w. k y w (λ n m. v.complete.reading.places (base_of n) (by_snapshot name y n e m refl)))
no_file tree place v (faults.of_file r e f y n o a k) = k (v.complete.pointed.at r e f y n o a.at)

no_back_ref : (tree : Tree) (place : List ℕ) → IsValid tree → BackFault tree place → ⊥
no_back_ref tree place v (faults.no_back r e f y n o a k) = let w = v.complete.back_refs.at r e f y n o a.at in none_some (backs_of (disk_of tree) (base_of e) r) w.0 k w.1

unfit : (tree : Tree) (place : List ℕ) → IsValid tree → UnfitFault tree place → ⊥
unfolding in_says
unfit tree place v (faults.unfit_set table s h t k) = k (v.fit.sets table s (set_said tree v table s h))
unfit tree place v (faults.unfit_list r i l made h c t k) = let y = region_said tree v r i in
    k (v.complete.says.lists r) v.complete.says.made (entries_read tree v r y) (λ e m. has_made tree v (base_of e) (by_list r e y m refl)) (v.fit.lists r i.split (in_says tree v r i))
unfit tree place v (faults.unfit_manifest name x made h c t k) = snapshot_said tree v name (v.complete.says.snapshots name) refl (λ i j. none_some (infos_of (disk_of tree) name) h.info i h.info_stands)
    (λ y e w. k y v.complete.says.made w (λ n m. has_made tree v (base_of n) (by_snapshot name y n e m refl)) (v.fit.snapshots name y e))
unfit tree place v (faults.unfit_info name x m f g i a p q k) = snapshot_said tree v name (v.complete.says.snapshots name) refl (λ u j. none_some (infos_of (disk_of tree) name) f u i)
    (λ y e w. k y (subst (λ (z : FileState). IsManifestOf z.bytes y) (some_is (sym w.manifest_stands ∙ a.at)) w.holds) (subst (λ (z : FileState). IsInfoOf z.bytes name y.schema.table) (some_is (sym w.info_stands ∙ i)) w.description))

pub faultless : (tree : Tree) (place : List ℕ) (fault : Fault) → HasNoFault tree place fault
faultless tree place faults.Layout v h = layout tree place v h
faultless tree place faults.Doubled v h = doubled tree place v h
faultless tree place faults.NoOther v h = other tree place v h
faultless tree place faults.Malformed v h = malformed tree place v h
faultless tree place faults.NoFile v h = no_file tree place v h
faultless tree place faults.NoBackRef v h = no_back_ref tree place v h
faultless tree place faults.Unfit v h = unfit tree place v h
