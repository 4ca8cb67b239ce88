-- What lies below the directories of a region are its files.
use Rattle.std.proofs.Common.{◌≡◌, ℕ, ◌&&◌, Bool, true, false, cond, List, [], ◌∷◌, ◌++◌, codes, Option, Some, None, refl, sym, ap, subst, ◌∙◌, inl, inr, append_assoc, arith, nat_eq}
use Rattle.std.specs.Prelude.{◌↔◌, IfOk, OnOk, Result, Ok, Err, is_some}
use Rattle.std.specs.FinMap.{contains_key}
use Rattle.std.specs.Fmt.{decimal}
use Rattle.std.specs.List.{join_with_byte, AllByRecursion}
use Rattle.std.specs.Cmp.Lexicographic.{pointwise}
use Rattle.std.proofs.lemmas.Bool.{true≢false, and_from, or_right}
use Rattle.std.proofs.lemmas.Bool.Decides.{nat_tests}
use Rattle.hb_grammar.specs.Class.{has}
use Rattle.hb_names.specs.Component.{IsComponent}
use Rattle.hb_names.specs.Encoded.{IsEncoded}
use Rattle.hb_names.specs.Place.{IsPlace}
use Rattle.hb_names.proofs.PlaceLemmas.{IsComponent-is_component, IsPlace-join_with_byte}
use Rattle.hb_layout.specs.declared.base.Base.{Base}
use Rattle.hb_layout.specs.Spot as layout
use Rattle.hb_layout.proofs.LawfulLemmas.{All-path}
use Rattle.ns_tree.specs.declared.file.FileState.{FileState}
use Rattle.ns_tree.specs.Places.{is_below}
use Rattle.ns_tree.proofs.Below.{is_below-short}
use Rattle.plain_model.specs.declared.region_key.RegionKey.{RegionKey}
use Rattle.core_model.specs.Disk.{Disk, is_regular}
use Rattle.core_model.specs.Entries.{IsKey}
use Rattle.core_model.specs.Keys.{home}
use Rattle.core_model.specs.Site.{Site, RegionSet, StoreList, Live, Archived, BackRefTo, is_store_name, pointer_at, spot_of, site_path, site_text}
use Rattle.core_model.specs.StartGuards.{StandsBelow, live_file, archived_file, list_file, back_file}
use Rattle.hb_cell.specs.Order.{same_bytes}
use Rattle.core_sites.proofs.Nested.{path_apart}
use Rattle.core_sites.proofs.Regular.{spelled_regular}
use Rattle.core_sites.proofs.Tests.{both_left, both_right, same_bytes-true}
use Rattle.core_sites.proofs.Texts.{AreApart, begins, within_begins}
use Rattle.core_places.specs.Below.{AreOfSites, HasBelow, HasFilesOf, data_place, archive_place, least_below}
use Rattle.core_places.specs.Laws.{TellsRegion}
use Rattle.core_places.specs.Places.{ArePlaces, Places}

-- ---- the components of a region's directories

abbrev data_path : RegionKey → List (List ℕ)
data_path r = codes "data" ∷ codes "default" ∷ r.table ∷ r.region ∷ []

abbrev archive_path : RegionKey → List (List ℕ)
archive_path r = codes "archive" ∷ data_path r

data_apart : (r : RegionKey) → IsKey r → AreApart (data_path r)
data_apart r k = let a = path_apart (layout.StoreList r.table r.region 1) (k.table, k.region, (omega arith, omega arith)) in (a.0, (a.1.0, (a.1.1.0, (a.1.1.1.0, tt))))

archive_apart : (r : RegionKey) → IsKey r → AreApart (archive_path r)
archive_apart r k = ((refl, (refl, (refl, (refl, (refl, (refl, (refl, tt))))))), data_apart r k)

-- what lies below a directory has its components first
begins_below : (d : List ℕ) (ds cs : List (List ℕ)) → AreApart (d ∷ ds) → AreApart cs → is_below (join_with_byte 47 (d ∷ ds)) (join_with_byte 47 cs) ≡ true → begins (d ∷ ds) cs ≡ true
begins_below d ds [] h k b = absurd (true≢false (sym b ∙ is_below-short (join_with_byte 47 (d ∷ ds)) [] (omega arith)))
begins_below d ds (c ∷ cs) h k b = sym (within_begins d c ds cs h k) ∙ or_right (pointwise nat_eq (join_with_byte 47 (d ∷ ds)) (join_with_byte 47 (c ∷ cs))) _ b

-- ---- the sites there

one_key : (r q : RegionKey) → (same_bytes r.table q.table && (same_bytes r.region q.region && true)) ≡ true → q ≡ r
one_key r q e =
    let region = both_right (same_bytes r.table q.table) _ e in
    let t = sym (same_bytes-true r.table q.table (both_left (same_bytes r.table q.table) _ e)) in
    let n = sym (same_bytes-true r.region q.region (both_left (same_bytes r.region q.region) true region)) in
    λ i. record { table = t i; region = n i }

not_sets : (r : RegionKey) (a : Bool) → IsEncoded r.region → (a && (same_bytes r.region (codes ".regions") && true)) ≡ true → ⊥
not_sets r a n e =
    let same = same_bytes-true r.region (codes ".regions") (both_left (same_bytes r.region (codes ".regions")) true (both_right a _ e)) in
    let long = (subst IsEncoded same n).long in omega arith

abbrev IsInData : RegionKey → Site → Type 0
IsInData r (StoreList table region n) = record { table = table; region = region } ≡ r
IsInData r (Live b) = home b ≡ r
IsInData r _ = ⊥

abbrev IsInArchive : RegionKey → Site → Type 0
IsInArchive r (Archived b) = home b ≡ r
IsInArchive r (BackRefTo b text) = home b ≡ r
IsInArchive r _ = ⊥

in_data : (r : RegionKey) (p : Site) → IsKey r → begins (data_path r) (site_path p) ≡ true → IsInData r p
in_data r (RegionSet table n) k e = not_sets r (same_bytes r.table table) k.region e
in_data r (StoreList table region n) k e = one_key r (record { table = table; region = region }) e
in_data r (Live b) k e = (elim (is_store_name b.name) as (λ c. begins (data_path r) (layout.path (cond c (layout.Live b) (layout.Pointing (pointer_at b)))) ≡ true → home b ≡ r) [
  | true ↦ λ e. one_key r (home b) e
  | false ↦ λ e. one_key r (home b) e
]) e
in_data r _ k e = absurd (cc)

in_archive : (r : RegionKey) (p : Site) → begins (archive_path r) (site_path p) ≡ true → IsInArchive r p
in_archive r (Archived b) e = one_key r (home b) e
in_archive r (BackRefTo b text) e = one_key r (home b) e
in_archive r (Live b) e = (elim (is_store_name b.name) as (λ c. begins (archive_path r) (layout.path (cond c (layout.Live b) (layout.Pointing (pointer_at b)))) ≡ true → ⊥) [
  | true ↦ λ e. absurd (cc)
  | false ↦ λ e. absurd (cc)
]) e
in_archive r _ e = absurd (cc)

data_stands : (d : Disk) (r : RegionKey) (p : Site) (f : FileState) → IsInData r p → d p ≡ Some f → StandsBelow d r
data_stands d r (StoreList table region n) f w e = list_file n f (ap (λ (q : RegionKey). d (StoreList q.table q.region n)) (sym w) ∙ e)
data_stands d r (Live b) f w e = live_file b f w e
data_stands d r _ f w e = absurd w

archive_stands : (d : Disk) (r : RegionKey) (p : Site) (f : FileState) → IsInArchive r p → d p ≡ Some f → StandsBelow d r
archive_stands d r (Archived b) f w e = archived_file b f w e
archive_stands d r (BackRefTo b text) f w e = back_file b text f w e
archive_stands d r _ f w e = absurd w

-- ---- from places to files

some_of : (o : Option FileState) → is_some o ≡ true → (f : FileState) × (o ≡ Some f)
some_of None e = absurd (true≢false (sym e))
some_of (Some f) e = (f, refl)

-- the site of a place below a directory, and its file
record FileBelow (d : Disk) (c : List ℕ) (cs : List (List ℕ)) : Type 0 where
  site : Site
  begun : begins (c ∷ cs) (site_path site) ≡ true
  file : FileState
  stands : d site ≡ Some file

file_below : (m : Places) (d : Disk) (c : List ℕ) (cs : List (List ℕ)) → AreApart (c ∷ cs) → ArePlaces m d → HasBelow m (join_with_byte 47 (c ∷ cs)) → FileBelow d c cs
file_below m d c cs a h x =
    let w = h.sites x.place x.stands in
    let below = subst (λ q. is_below (join_with_byte 47 (c ∷ cs)) q ≡ true) (sym w.text) x.below in
    let f = some_of (d w.site) (sym (h.at w.site (spelled_regular w.site w.spelled)) ∙ ap (contains_key m) w.text ∙ x.stands) in
    record { site = w.site; begun = begins_below c cs (site_path w.site) a (path_apart (spot_of w.site) w.spelled) below; file = f.0; stands = f.1 }

from_places : (r : RegionKey) (d : Disk) (m : Places) → IsKey r → ArePlaces m d → HasFilesOf m r → StandsBelow d r
from_places r d m k h (inl x) = let f = file_below m d (codes "data") (codes "default" ∷ r.table ∷ r.region ∷ []) (data_apart r k) h x in data_stands d r f.site f.file (in_data r f.site k f.begun) f.stands
from_places r d m k h (inr x) = let f = file_below m d (codes "archive") (data_path r) (archive_apart r k) h x in archive_stands d r f.site f.file (in_archive r f.site f.begun) f.stands

-- ---- from files to places

itself : (x : ℕ) → nat_eq x x ≡ true
itself x = grind (arith, nat_tests)

below_back : (dir z : List ℕ) → is_below dir (dir ++ 47 ∷ z) ≡ true
unfolding is_below
below_back [] [] = refl
below_back [] (x ∷ z) = refl
below_back (x ∷ dir) z = and_from (nat_eq x x) _ (itself x) (below_back dir z)

below_region : (root table region z : List ℕ) → is_below (root ++ (table ++ 47 ∷ region)) (root ++ (table ++ 47 ∷ (region ++ 47 ∷ z))) ≡ true
below_region root table region z =
    let dir : List ℕ = root ++ (table ++ 47 ∷ region) in
    ap (is_below dir) (ap (λ (x : List ℕ). root ++ x) (sym (append_assoc table (47 ∷ region) (47 ∷ z))) ∙ sym (append_assoc root (table ++ 47 ∷ region) (47 ∷ z))) ∙ below_back dir z

live_below : (b : Base) → is_below (data_place (home b)) (site_text (Live b)) ≡ true
live_below b = (elim (is_store_name b.name) as (λ c. is_below (data_place (home b)) (layout.place_text (cond c (layout.Live b) (layout.Pointing (pointer_at b)))) ≡ true) [
  | true ↦ below_region (codes "data/default/") b.table b.region (b.family ++ 47 ∷ b.name)
  | false ↦ below_region (codes "data/default/") b.table b.region (b.family ++ 47 ∷ b.name)
])

-- what stands is regular
regular : (d : Disk) (m : Places) (p : Site) (f : FileState) → ArePlaces m d → d p ≡ Some f → is_regular p ≡ true
regular d m p f h s = by (is_regular p) refl
  where
    by : (b : Bool) → is_regular p ≡ b → is_regular p ≡ true
    by true e = e
    by false e = let z : None ≡ Some f = sym (h.regular p e) ∙ s in absurd (cc)

has_place : (d : Disk) (m : Places) (dir : List ℕ) (p : Site) (f : FileState) → ArePlaces m d → d p ≡ Some f → is_below dir (site_text p) ≡ true → HasBelow m dir
has_place d m dir p f h s b = record { place = site_text p; stands = h.at p (regular d m p f h s) ∙ ap is_some s; below = b }

to_places : (r : RegionKey) (d : Disk) (m : Places) → ArePlaces m d → StandsBelow d r → HasFilesOf m r
to_places r d m h (live_file b f w e) =
    inl (has_place d m (data_place r) (Live b) f h e (subst (λ (q : RegionKey). is_below (data_place q) (site_text (Live b)) ≡ true) w (live_below b)))
to_places r d m h (list_file n f e) =
    inl (has_place d m (data_place r) (StoreList r.table r.region n) f h e (below_region (codes "data/default/") r.table r.region (codes ".filelist" ++ 47 ∷ decimal n)))
to_places r d m h (archived_file b f w e) =
    inr (has_place d m (archive_place r) (Archived b) f h e (subst (λ (q : RegionKey). is_below (archive_place q) (site_text (Archived b)) ≡ true) w
    (below_region (codes "archive/data/default/") b.table b.region (b.family ++ 47 ∷ b.name))))
to_places r d m h (back_file b text f w e) =
    inr (has_place d m (archive_place r) (BackRefTo b text) f h e (subst (λ (q : RegionKey). is_below (archive_place q) (site_text (BackRefTo b text)) ≡ true) w
    (below_region (codes "archive/data/default/") b.table b.region (b.family ++ 47 ∷ ((codes ".links-" ++ b.name) ++ 47 ∷ text)))))

pub region_told : (r : RegionKey) (d : Disk) (m : Places) → TellsRegion r d m
region_told r d m k h = (from_places r d m k h, to_places r d m h)

-- ---- the least places there

dash : IsComponent (codes "-")
unfolding has
dash = IsComponent-is_component (codes "-") refl

archive : IsComponent (codes "archive")
unfolding has
archive = IsComponent-is_component (codes "archive") refl

least_path : (r : RegionKey) → IsKey r → AllByRecursion IsComponent (codes "data" ∷ codes "default" ∷ r.table ∷ r.region ∷ codes "-" ∷ [])
least_path r k = let a = All-path (layout.StoreList r.table r.region 1) (k.table, k.region, (omega arith, omega arith)) in (a.0, (a.1.0, (a.1.1.0, (a.1.1.1.0, (dash, tt)))))

abbrev IsLeastPlace : List ℕ → Type 0
IsLeastPlace dir = IsPlace (least_below dir)

-- the least text below a region's directory is a place, where the directory is known by an equation
pub least_data : (r : RegionKey) (dir : List ℕ) → IsKey r → dir ≡ codes "data/default/" ++ (r.table ++ 47 ∷ r.region) → IsLeastPlace dir
least_data r dir k e =
    subst IsLeastPlace (sym e) (subst IsPlace (ap (λ (x : List ℕ). codes "data/default/" ++ x) (sym (append_assoc r.table (47 ∷ r.region) (codes "/-"))))
    (IsPlace-join_with_byte (codes "data" ∷ codes "default" ∷ r.table ∷ r.region ∷ codes "-" ∷ []) (omega arith) (omega arith) (least_path r k)))

pub least_archive : (r : RegionKey) (dir : List ℕ) → IsKey r → dir ≡ codes "archive/data/default/" ++ (r.table ++ 47 ∷ r.region) → IsLeastPlace dir
least_archive r dir k e =
    subst IsLeastPlace (sym e) (subst IsPlace (ap (λ (x : List ℕ). codes "archive/data/default/" ++ x) (sym (append_assoc r.table (47 ∷ r.region) (codes "/-"))))
    (IsPlace-join_with_byte (codes "archive" ∷ codes "data" ∷ codes "default" ∷ r.table ∷ r.region ∷ codes "-" ∷ []) (omega arith) (omega arith) (archive, least_path r k)))

-- ---- what is answered of either directory

pub in_first : (m : Places) (r : RegionKey) (dir : List ℕ) (b : Bool) → b ≡ true → dir ≡ data_place r → (AreOfSites m → (b ≡ true) ↔ HasBelow m dir) → AreOfSites m → (true ≡ true) ↔ HasFilesOf m r
in_first m r dir b t e h s = (λ _. inl (subst (HasBelow m) e ((h s).0 t)), λ _. refl)

pub in_second : {E : Type 0} (m : Places) (r : RegionKey) (dir back : List ℕ) (b : Bool) (o : Result Bool E) → b ≡ false → dir ≡ data_place r → back ≡ archive_place r → (AreOfSites m → (b ≡ true) ↔ HasBelow m dir)
    → IfOk o (λ c. AreOfSites m → (c ≡ true) ↔ HasBelow m back) → IfOk o (λ c. AreOfSites m → (c ≡ true) ↔ HasFilesOf m r)
in_second m r dir back b (Err e) f d k h i = tt
in_second m r dir back b (Ok c) f d k h i = λ s. (
  λ t. inr (subst (HasBelow m) k ((i s).0 t)),
  λ x. elim x as (λ _. c ≡ true) [
    | inl x ↦ absurd (true≢false (sym ((h s).1 (subst (HasBelow m) (sym d) x)) ∙ f))
    | inr x ↦ (i s).1 (subst (HasBelow m) (sym k) x)
  ],
)

-- what is said of places, said of what stands
pub said_of_disk : {E : Type 0} (r : RegionKey) (d : Disk) (m : Places) (o : Result Bool E) → ArePlaces m d → OnOk o (IsKey r) → IfOk o (λ b. AreOfSites m → (b ≡ true) ↔ HasFilesOf m r) → IfOk o (λ b. (b ≡ true) ↔ StandsBelow d r)
said_of_disk r d m (Err e) h k i = tt
said_of_disk r d m (Ok b) h k i = let told = region_told r d m k h in let said = i h.sites in (λ e. told.0 (said.0 e), λ s. said.1 (told.1 s))
