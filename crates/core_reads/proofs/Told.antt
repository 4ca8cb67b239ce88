-- Two states that one tree shows are told by it.
use Rattle.std.proofs.Common.{◌≡◌, ℕ, ◌<◌, List, [], ◌∷◌, Option, Some, None, refl, sym, ap, ◌∙◌, subst, inl, inr, arith}
use Rattle.std.specs.Prelude.{is_some}
use Rattle.std.specs.FinMap.{get}
use Rattle.std.specs.List.{AllZip}
use Rattle.std.proofs.lemmas.Bool.{cases_order}
use Rattle.commit_list.proofs.ListLemmas.{region_list_text-injective}
use Rattle.ns_tree.specs.declared.file.FileState.{FileState}
use Rattle.ns_tree.specs.Tree.{Tree}
use Rattle.plain_model.specs.declared.region_key.RegionKey.{RegionKey}
use Rattle.region_set.proofs.SetLemmas.{region_set_text-injective}
use Rattle.region_set.specs.declared.region_set.RegionSet.{RegionSet}
use Rattle.snapshot_records.proofs.Told.{OneValue-IsManifest}
use Rattle.snapshot_records.specs.declared.manifest.Manifest.{Manifest as Record}
use Rattle.snapshot_records.specs.declared.manifest.RegionManifest.{RegionManifest}
use Rattle.snapshot_records.specs.Manifest.{IsManifest}
use Rattle.core_model.specs.declared.region_files.RegionFiles.{RegionFiles}
use Rattle.core_model.specs.declared.snapshot.CopiedRegion.{CopiedRegion}
use Rattle.core_model.specs.declared.snapshot.Snapshot.{Snapshot}
use Rattle.core_model.specs.Disk.{lists_of, sets_of, infos_of, manifests_of}
use Rattle.core_model.specs.Entries.{region_list}
use Rattle.core_model.specs.FileChanges.{set_number}
use Rattle.core_model.specs.Site.{Site, StoreList, Info, Manifest}
use Rattle.core_model.specs.Site as site
use Rattle.core_model.specs.State.{Parts}
use Rattle.core_trees.specs.Filed.{IsAbove}
use Rattle.core_bytes.specs.FileOf.{IsListFileOf, IsSetFileOf}
use Rattle.core_bytes.specs.Recorded.{IsManifestOf, IsRegionOf}
use Rattle.core_bytes.specs.Stored.{IsStored, unwritten, written, table_in_set}
use Rattle.core_reads.specs.Laws.{IsShown, IsAlike, TellsTables, TellsLists, TellsSnapshots, TellsManifests}

some_is : {A : Type 0} {x y : A} → Some x ≡ Some y → x ≡ y
some_is e = (cc)

-- one tree has one file at a site
pub same_site_file : (tree : Tree) (s o : Parts) → IsShown tree s → IsShown tree o → (p : Site) → s.disk p ≡ o.disk p
same_site_file tree s o h k p = sym (h.shows.at p) ∙ k.shows.at p

pub same_files : (m n : Option FileState) (f g : FileState) → m ≡ n → m ≡ Some f → n ≡ Some g → f ≡ g
same_files m n f g e i j = some_is (sym i ∙ e ∙ j)

none_some : {P : Type 0} (m n : Option FileState) (g : FileState) → m ≡ n → m ≡ None → n ≡ Some g → P
none_some m n g e i j = let z : None ≡ Some g = sym i ∙ e ∙ j in absurd (cc)

-- ---- sets

set_positive : (t : List ℕ) (x : RegionSet) (bytes : List ℕ) → IsSetFileOf t bytes x → 0 < x.number
set_positive t x bytes f = let n = f.lawful.number.0 in omega (arith, n)

same_set : (t : List ℕ) (fs gs : ℕ → Option FileState) (x y : RegionSet) → ((m : ℕ) → fs m ≡ gs m) → IsAbove fs x.number → IsAbove gs y.number
    → (f : FileState) → fs x.number ≡ Some f → IsSetFileOf t f.bytes x → (g : FileState) → gs y.number ≡ Some g → IsSetFileOf t g.bytes y → x ≡ y
same_set t fs gs x y e u v f i p g j q = elim (cases_order x.number y.number) as (λ _. x ≡ y) [
  | inl n ↦
      let z : f ≡ g = same_files (fs x.number) (gs y.number) f g (e x.number ∙ ap gs n) i j in
      region_set_text-injective t x y p.lawful q.lawful (sym p.text ∙ ap (λ (h : FileState). h.bytes) z ∙ q.text)
  | inr (inl l) ↦ none_some (fs y.number) (gs y.number) g (e y.number) (u y.number l) j
  | inr (inr l) ↦ none_some (gs x.number) (fs x.number) f (sym (e x.number)) (v x.number l) i
]

abbrev Says : (ℕ → Option FileState) → List ℕ → Option RegionSet → Type 0
Says files t o = (x : RegionSet) → o ≡ Some x → (f : FileState) × (files x.number ≡ Some f) × IsSetFileOf t f.bytes x

pub same_sets : (t : List ℕ) (fs gs : ℕ → Option FileState) (a b : Option RegionSet) → ((m : ℕ) → fs m ≡ gs m) → IsAbove fs (set_number a) → IsAbove gs (set_number b) → Says fs t a → Says gs t b → a ≡ b
same_sets t fs gs None None e u v p q = refl
same_sets t fs gs None (Some y) e u v p q = let w = q y refl in none_some (fs y.number) (gs y.number) w.0 (e y.number) (u y.number (set_positive t y w.0.bytes w.2)) w.1
same_sets t fs gs (Some x) None e u v p q = let w = p x refl in none_some (gs x.number) (fs x.number) w.0 (sym (e x.number)) (v x.number (set_positive t x w.0.bytes w.2)) w.1
same_sets t fs gs (Some x) (Some y) e u v p q = let w = p x refl in let z = q y refl in ap Some (same_set t fs gs x y e u v w.0 w.1 w.2 z.0 z.1 z.2)

pub tables_told : (tree : Tree) (s o : Parts) (t : List ℕ) → TellsTables tree s o t
tables_told tree s o t h k =
    h.written.tables.at t
    ∙ ap table_in_set (same_sets t (sets_of s.disk t) (sets_of o.disk t) (get s.sets t) (get o.sets t) (λ m. same_site_file tree s o h k (site.RegionSet t m)) (h.filed.sets.at t) (k.filed.sets.at t) (h.written.sets.at t) (k.written.sets.at t))
    ∙ sym (k.written.tables.at t)

-- ---- lists

list_positive : (l : RegionFiles) (bytes : List ℕ) → IsListFileOf bytes (region_list l) → 0 < l.number
list_positive l bytes f = let n = f.lawful.number.0 in omega (arith, n)

same_list : (fs gs : ℕ → Option FileState) (l m : RegionFiles) → ((n : ℕ) → fs n ≡ gs n) → IsAbove fs l.number → IsAbove gs m.number
    → (f : FileState) → fs l.number ≡ Some f → IsListFileOf f.bytes (region_list l) → (g : FileState) → gs m.number ≡ Some g → IsListFileOf g.bytes (region_list m) → region_list l ≡ region_list m
same_list fs gs l m e u v f i p g j q = elim (cases_order l.number m.number) as (λ _. region_list l ≡ region_list m) [
  | inl n ↦
      let z : f ≡ g = same_files (fs l.number) (gs m.number) f g (e l.number ∙ ap gs n) i j in
      region_list_text-injective (region_list l) (region_list m) p.lawful q.lawful (sym p.text ∙ ap (λ (h : FileState). h.bytes) z ∙ q.text)
  | inr (inl k) ↦ none_some (fs m.number) (gs m.number) g (e m.number) (u m.number k) j
  | inr (inr k) ↦ none_some (gs l.number) (fs l.number) f (sym (e l.number)) (v l.number k) i
]

pub same_lists : (fs gs : ℕ → Option FileState) (l m : RegionFiles) → ((n : ℕ) → fs n ≡ gs n) → IsAbove fs l.number → IsAbove gs m.number → IsStored fs l → IsStored gs m → region_list l ≡ region_list m
same_lists fs gs l m e u v (unwritten i) (unwritten j) = ap region_list (i ∙ sym j)
same_lists fs gs l m e u v (unwritten i) (written g j q) =
    none_some (fs m.number) (gs m.number) g (e m.number) (u m.number (subst (λ (x : RegionFiles). x.number < m.number) (sym i) (list_positive m g.bytes q))) j
same_lists fs gs l m e u v (written f i p) (unwritten j) =
    none_some (gs l.number) (fs l.number) f (sym (e l.number)) (v l.number (subst (λ (x : RegionFiles). x.number < l.number) (sym j) (list_positive l f.bytes p))) i
same_lists fs gs l m e u v (written f i p) (written g j q) = same_list fs gs l m e u v f i p g j q

pub lists_told : (tree : Tree) (s o : Parts) (r : RegionKey) → TellsLists tree s o r
lists_told tree s o r h k c d = same_lists (lists_of s.disk r) (lists_of o.disk r) (s.lists r) (o.lists r) (λ m. same_site_file tree s o h k (StoreList r.table r.region m))
    (h.filed.lists.at r c) (k.filed.lists.at r d) (h.written.lists.at r c) (k.written.lists.at r d)

-- ---- snapshots

pub same_there : (n : List ℕ) (i j : Option FileState) (a b : Option Snapshot) → i ≡ j → (a ≡ None → i ≡ None) → (b ≡ None → j ≡ None)
    → ((x : Snapshot) → a ≡ Some x → (f : FileState) × (i ≡ Some f)) → ((x : Snapshot) → b ≡ Some x → (f : FileState) × (j ≡ Some f)) → is_some a ≡ is_some b
same_there n i j None None e p q u v = refl
same_there n i j None (Some y) e p q u v = let w = v y refl in none_some i j w.0 e (p refl) w.1
same_there n i j (Some x) None e p q u v = let w = u x refl in none_some j i w.0 (sym e) (q refl) w.1
same_there n i j (Some x) (Some y) e p q u v = refl

pub snapshots_told : (tree : Tree) (s o : Parts) (name : List ℕ) → TellsSnapshots tree s o name
snapshots_told tree s o name h k = same_there name (infos_of s.disk name) (infos_of o.disk name) (get s.snapshots name) (get o.snapshots name) (same_site_file tree s o h k (Info name))
    (λ e. (h.filed.snapshots.missing name e).0) (λ e. (k.filed.snapshots.missing name e).0) (λ x e. (h.filed.snapshots.stored name x e).0) (λ x e. (k.filed.snapshots.stored name x e).0)

zip_alike : (ms : List RegionManifest) (rs qs : List CopiedRegion) → AllZip IsRegionOf ms rs → AllZip IsRegionOf ms qs → AllZip IsAlike rs qs
zip_alike [] [] [] h k = tt
zip_alike [] [] (q ∷ qs) h k = absurd k
zip_alike [] (r ∷ rs) qs h k = absurd h
zip_alike (m ∷ ms) [] qs h k = absurd h
zip_alike (m ∷ ms) (r ∷ rs) [] h k = absurd k
zip_alike (m ∷ ms) (r ∷ rs) (q ∷ qs) h k = (
  record { region = sym h.0.region ∙ k.0.region; number = sym h.0.number ∙ k.0.number; files = λ family. sym (h.0.files family) ∙ k.0.files family },
  zip_alike ms rs qs h.1 k.1,
)

pub same_manifest : (b c : List ℕ) (x y : Snapshot) → b ≡ c → IsManifestOf b x → IsManifestOf c y → (x.schema ≡ y.schema) × AllZip IsAlike x.regions y.regions
same_manifest b c x y e p q =
    let m : p.manifest ≡ q.manifest = OneValue-IsManifest c p.manifest q.manifest (subst (λ bytes. IsManifest bytes p.manifest) e p.message) q.message in (
      sym p.of_schema ∙ ap (λ (v : Record). v.schema) m ∙ q.of_schema,
      zip_alike q.manifest.regions x.regions y.regions (subst (λ (v : Record). AllZip IsRegionOf v.regions x.regions) m p.of_regions) q.of_regions,
    )

pub manifests_told : (tree : Tree) (s o : Parts) (name : List ℕ) → TellsManifests tree s o name
manifests_told tree s o name x y h k i j =
    let a = h.filed.snapshots.stored name x i in
    let b = k.filed.snapshots.stored name y j in
    let z : a.1.0 ≡ b.1.0 = same_files (manifests_of s.disk name) (manifests_of o.disk name) a.1.0 b.1.0 (same_site_file tree s o h k (Manifest name)) a.1.1 b.1.1 in
    same_manifest a.1.0.bytes b.1.0.bytes x y (ap (λ (f : FileState). f.bytes) z) (h.written.manifests.at name x a.0.0 a.1.0 i a.0.1 a.1.1).1 (k.written.manifests.at name y b.0.0 b.1.0 j b.0.1 b.1.1).1
