-- Regular sites with one place are the same, sites in their grammars are regular, and what stands in the directories of a snapshot.
use Rattle.std.proofs.Common.{◌≡◌, ℕ, ◌<◌, ◌≤◌, ◌==◌, ◌&&◌, ◌||◌, not, Bool, true, false, cond, List, [], ◌∷◌, ◌++◌, codes, refl, sym, ap, ◌∙◌, arith}
use Rattle.std.specs.Prelude.{nat_lt}
use Rattle.std.specs.List.{join_with_byte, list_any}
use Rattle.std.specs.Cmp.{nat_eq_equiv}
use Rattle.std.specs.Cmp.Lexicographic.{lists_equiv}
use Rattle.std.specs.Fmt.{decimal}
use Rattle.std.proofs.lemmas.Fmt.{decimal_injective}
use Rattle.std.proofs.lemmas.Bool.Decides.{nat_tests}
use Rattle.hb_cell.specs.Order.{same_bytes}
use Rattle.hb_grammar.proofs.AvoidsLemmas.{Lacks, Lacks-AllIn}
use Rattle.hb_grammar.specs.declared.class.Class.TheVariants.{Component}
use Rattle.hb_grammar.specs.Class.{has}
use Rattle.hb_names.specs.FamilyName.{IsFamilyName}
use Rattle.hb_names.specs.SnapName.{IsSnapName}
use Rattle.hb_names.specs.Place.{IsPlace}
use Rattle.hb_names.proofs.PlaceLemmas.{IsPlace-join_with_byte}
use Rattle.hb_file_names.specs.FileParts.{sixteen_digits}
use Rattle.hb_file_names.proofs.DigitsLemmas.{sixteen_digits-injective}
use Rattle.hb_layout.specs.declared.base.Base.{Base}
use Rattle.hb_layout.specs.Lawful.{IsSpelled}
use Rattle.hb_layout.specs.Spot as layout
use Rattle.hb_layout.specs.Spot.{Spot, base_path, path}
use Rattle.hb_layout.proofs.JoinLemmas.{join_with_byte-injective}
use Rattle.hb_layout.proofs.LawfulLemmas.{All-path}
use Rattle.hb_layout.proofs.NameLemmas.{IsComponent-sixteen_digits}
use Rattle.hb_layout.proofs.PathLemmas.{same_path, is_apart, path_equal, same_path-path}
use Rattle.hb_layout.proofs.PathLemmas as paths
use Rattle.ns_tree.specs.Places.{is_within}
use Rattle.core_model.specs.Disk.{is_regular, has_slash, no_slash}
use Rattle.core_model.specs.Site.{Site, Epoch, Tmp, RegionSet, StoreList, Live, Archived, BackRefTo, Info, Manifest, WorkInfo, WorkManifest, Staged, is_store_name, pointer_at, spot_of, site_path, site_text}
use Rattle.core_sites.specs.Calls.{snapshot_place, working_place}
use Rattle.core_sites.specs.Shows.{IsSpelledSite}
use Rattle.core_sites.proofs.Nested.{family_not, name_not, path_apart}
use Rattle.core_sites.proofs.Tests.{both, both_left, both_right, base_equal}
use Rattle.core_sites.proofs.Texts.{AreApart, begins, within_begins}

-- ---- a site, with a link or a reference seen as a file of its name

abbrev seen : Site → Spot
seen (Live b) = layout.Live b
seen p = spot_of p

seen_path : (p : Site) → site_path p ≡ path (seen p)
seen_path (Live b) = elim (is_store_name b.name) as (λ c. path (cond c (layout.Live b) (layout.Pointing (pointer_at b))) ≡ path (layout.Live b)) [ true ↦ refl | false ↦ refl ]
seen_path _ = refl

-- ---- slashes

lacks_from : (text : List ℕ) → has_slash text ≡ false → Lacks 47 text
lacks_from [] e = tt
lacks_from (x ∷ xs) e = (elim (x == 47) as (λ b. (x == 47) ≡ b → (b || has_slash xs) ≡ false → Lacks 47 (x ∷ xs)) [
  | true ↦ λ d k. absurd (cc)
  | false ↦ λ d k. (d, lacks_from xs k)
]) refl e

each_lacks : (texts : List (List ℕ)) → no_slash texts ≡ true → AreApart texts
each_lacks [] e = tt
each_lacks (t ∷ ts) e = (elim (has_slash t) as (λ b. has_slash t ≡ b → not (b || list_any has_slash ts) ≡ true → AreApart (t ∷ ts)) [
  | true ↦ λ d k. absurd (cc)
  | false ↦ λ d k. (lacks_from t d, each_lacks ts k)
]) refl e

slash_not : (text : List ℕ) → Lacks 47 text → has_slash text ≡ false
slash_not [] h = refl
slash_not (x ∷ xs) h = ap (λ b. b || has_slash xs) h.0 ∙ slash_not xs h.1

no_slash_from : (texts : List (List ℕ)) → AreApart texts → no_slash texts ≡ true
no_slash_from [] h = refl
no_slash_from (t ∷ ts) h = ap (λ b. not (b || list_any has_slash ts)) (slash_not t h.0) ∙ no_slash_from ts h.1

component : has Component 47 ≡ false
unfolding has
component = refl

slashless : (p : Site) → is_regular p ≡ true → no_slash (path (seen p)) ≡ true
slashless (Epoch n) h = no_slash_from (path (layout.Epoch n)) (lacks_from (codes ".epoch") refl, (Lacks-AllIn Component 47 component (sixteen_digits n) (IsComponent-sixteen_digits n).each, tt))
slashless (RegionSet t n) h = both_left _ _ h
slashless (StoreList t r n) h = both_left _ _ h
slashless (Live b) h = both_left _ _ h
slashless (Info m) h = both_left _ _ h
slashless (Manifest m) h = both_left _ _ h
slashless _ h = h

pub regular_path : (p : Site) → is_regular p ≡ true → AreApart (path (seen p))
regular_path p h = each_lacks (path (seen p)) (slashless p h)

-- ---- regular sites with one place

joined : (cs ds : List (List ℕ)) → (cs ≡ [] → ⊥) → (ds ≡ [] → ⊥) → AreApart cs → AreApart ds → join_with_byte 47 cs ≡ join_with_byte 47 ds → cs ≡ ds
joined [] ds m n h k e = absurd (m refl)
joined (c ∷ cs) [] m n h k e = absurd (n refl)
joined (c ∷ cs) (d ∷ ds) m n h k e = join_with_byte-injective c d cs ds h k e

some_path : (p : Site) → path (seen p) ≡ [] → ⊥
some_path (Epoch n) e = absurd (cc)
some_path _ e = absurd (cc)

apart_from : (p : Site) → is_regular p ≡ true → is_apart (seen p) ≡ true
apart_from (Live b) h = both_right _ _ h
apart_from _ h = refl

parts_equal : (b c : Base) → base_path b ≡ base_path c → b ≡ c
parts_equal b c e =
    let t : b.table ≡ c.table = cc in let r : b.region ≡ c.region = cc in
    let f : b.family ≡ c.family = cc in let n : b.name ≡ c.name = cc in
    base_equal b c t r f n

bounded : (n : ℕ) → nat_lt n 18446744073709551616 ≡ true → n < 18446744073709551616
bounded n e = grind (arith, nat_tests)

regular_equal : (p q : Site) → is_regular p ≡ true → is_regular q ≡ true → paths.same_spot (seen p) (seen q) ≡ true → p ≡ q
regular_equal (Epoch m) (Epoch n) h k e =
    let names : sixteen_digits m ∷ [] ≡ sixteen_digits n ∷ [] = path_equal (sixteen_digits m ∷ []) (sixteen_digits n ∷ []) e in
    let digits : sixteen_digits m ≡ sixteen_digits n = cc in
    let same : m ≡ n = sixteen_digits-injective m n (bounded m h) (bounded n k) digits in ap Epoch same
regular_equal (Tmp m) (Tmp n) h k e = let names : m ∷ [] ≡ n ∷ [] = path_equal (m ∷ []) (n ∷ []) e in cc
regular_equal (RegionSet t m) (RegionSet u n) h k e =
    let names : t ∷ decimal m ∷ [] ≡ u ∷ decimal n ∷ [] = path_equal (t ∷ decimal m ∷ []) (u ∷ decimal n ∷ []) e in
    let digits : decimal m ≡ decimal n = cc in
    let same : m ≡ n = decimal_injective m n (bounded m (both_right (no_slash (site_path (RegionSet t m))) _ h)) (bounded n (both_right (no_slash (site_path (RegionSet u n))) _ k)) digits in cc
regular_equal (StoreList t r m) (StoreList u q n) h k e =
    let names : t ∷ r ∷ decimal m ∷ [] ≡ u ∷ q ∷ decimal n ∷ [] = path_equal (t ∷ r ∷ decimal m ∷ []) (u ∷ q ∷ decimal n ∷ []) e in
    let digits : decimal m ≡ decimal n = cc in
    let same : m ≡ n = decimal_injective m n (bounded m (both_right (no_slash (site_path (StoreList t r m))) _ h)) (bounded n (both_right (no_slash (site_path (StoreList u q n))) _ k)) digits in cc
regular_equal (Live b) (Live c) h k e = ap Live (parts_equal b c (path_equal (base_path b) (base_path c) e))
regular_equal (Archived b) (Archived c) h k e = ap Archived (parts_equal b c (path_equal (base_path b) (base_path c) e))
regular_equal (BackRefTo b m) (BackRefTo c n) h k e =
    let names : base_path b ++ m ∷ [] ≡ base_path c ++ n ∷ [] = path_equal (base_path b ++ m ∷ []) (base_path c ++ n ∷ []) e in
    let bases : base_path b ≡ base_path c = cc in
    let base : b ≡ c = parts_equal b c bases in let text : m ≡ n = cc in cc
regular_equal (Info m) (Info n) h k e = let names : m ∷ [] ≡ n ∷ [] = path_equal (m ∷ []) (n ∷ []) e in cc
regular_equal (Manifest m) (Manifest n) h k e = let names : m ∷ [] ≡ n ∷ [] = path_equal (m ∷ []) (n ∷ []) e in cc
regular_equal (WorkInfo m) (WorkInfo n) h k e = let names : m ∷ [] ≡ n ∷ [] = path_equal (m ∷ []) (n ∷ []) e in cc
regular_equal (WorkManifest m) (WorkManifest n) h k e = let names : m ∷ [] ≡ n ∷ [] = path_equal (m ∷ []) (n ∷ []) e in cc
regular_equal (Staged d f c) (Staged x g y) h k e = let names : d ∷ f ∷ c ∷ [] ≡ x ∷ g ∷ y ∷ [] = path_equal (d ∷ f ∷ c ∷ []) (x ∷ g ∷ y ∷ []) e in cc
regular_equal _ _ h k e = absurd (cc)

text_seen : (p : Site) → site_text p ≡ join_with_byte 47 (path (seen p))
text_seen p = ap (join_with_byte 47) (seen_path p)

pub regular_apart : (p q : Site) → is_regular p ≡ true → is_regular q ≡ true → site_text p ≡ site_text q → p ≡ q
regular_apart p q h k e =
    let same : path (seen p) ≡ path (seen q) = joined (path (seen p)) (path (seen q)) (some_path p) (some_path q) (regular_path p h) (regular_path q k) (sym (text_seen p) ∙ e ∙ text_seen q) in
    let alike : same_path (path (seen p)) (path (seen q)) ≡ true = ap (same_path (path (seen p))) (sym same) ∙ (lists_equiv (lists_equiv nat_eq_equiv)).refl (path (seen p)) in
    regular_equal p q h k (sym (same_path-path (seen p) (seen q) (apart_from p h) (apart_from q k)) ∙ alike)

-- ---- sites in their grammars are regular

spelled_slashless : (p : Site) → IsSpelledSite p → no_slash (site_path p) ≡ true
spelled_slashless p h = no_slash_from (site_path p) (path_apart (spot_of p) h)

family_of : (b : Base) → IsSpelledSite (Live b) → IsFamilyName b.family
family_of b = elim (is_store_name b.name) as (λ c. IsSpelled (cond c (layout.Live b) (layout.Pointing (pointer_at b))) → IsFamilyName b.family) [ true ↦ λ h. h.0.family | false ↦ λ h. h.family ]

low : (n : ℕ) → n ≤ 9223372036854775807 → nat_lt n 18446744073709551616 ≡ true
low n h = grind (arith, nat_tests)

pub spelled_regular : (p : Site) → IsSpelledSite p → is_regular p ≡ true
spelled_regular (Epoch n) h = low n (omega (arith, h))
spelled_regular (RegionSet t n) h = both (spelled_slashless (RegionSet t n) h) (low n h.1.1)
spelled_regular (StoreList t r n) h = both (spelled_slashless (StoreList t r n) h) (low n h.2.1)
spelled_regular (Live b) h = both (ap no_slash (sym (seen_path (Live b))) ∙ spelled_slashless (Live b) h) (ap not (family_not b.family (codes "filelist") (family_of b h)))
spelled_regular (Info m) h = both (spelled_slashless (Info m) h) (ap not (name_not m (codes "tmp") h))
spelled_regular (Manifest m) h = both (spelled_slashless (Manifest m) h) (ap not (name_not m (codes "tmp") h))
spelled_regular (Tmp m) h = spelled_slashless (Tmp m) h
spelled_regular (Archived b) h = spelled_slashless (Archived b) h
spelled_regular (BackRefTo b m) h = spelled_slashless (BackRefTo b m) h
spelled_regular (WorkInfo m) h = spelled_slashless (WorkInfo m) h
spelled_regular (WorkManifest m) h = spelled_slashless (WorkManifest m) h
spelled_regular (Staged d f n) h = spelled_slashless (Staged d f n) h

-- ---- the directories of a snapshot

pub snapshot_is_place : (n : List ℕ) → IsSnapName n → IsPlace (snapshot_place n)
snapshot_is_place n l = let a = All-path (layout.Info n) l in IsPlace-join_with_byte (codes ".hbase-snapshot" ∷ n ∷ []) (omega arith) (omega arith) (a.0, (a.1.0, tt))

pub working_is_place : (n : List ℕ) → IsSnapName n → IsPlace (working_place n)
working_is_place n l = let a = All-path (layout.WorkInfo n) l in IsPlace-join_with_byte (codes ".hbase-snapshot" ∷ codes ".tmp" ∷ n ∷ []) (omega arith) (omega arith) (a.0, (a.1.0, (a.1.1.0, tt)))

-- whether a site is in a snapshot's directory, in its working directory
abbrev pub is_in_snapshot : List ℕ → Site → Bool
is_in_snapshot n (Info m) = same_bytes n m
is_in_snapshot n (Manifest m) = same_bytes n m
is_in_snapshot n _ = false

abbrev pub is_in_work : List ℕ → Site → Bool
is_in_work n (WorkInfo m) = same_bytes n m
is_in_work n (WorkManifest m) = same_bytes n m
is_in_work n _ = false

alone : (a : Bool) → (a && true) ≡ a
alone true = refl
alone false = refl

first_fails : (a b : Bool) → a ≡ false → (a && b) ≡ false
first_fails a b e = ap (λ x. x && b) e

not_tmp : (m : List ℕ) → not (same_bytes m (codes ".tmp")) ≡ true → same_bytes (codes ".tmp") m ≡ false
not_tmp m e = (lists_equiv nat_eq_equiv).symm (codes ".tmp") m ∙ negated (same_bytes m (codes ".tmp")) e
  where
    negated : (b : Bool) → not b ≡ true → b ≡ false
    negated true e = absurd (cc)
    negated false e = refl

in_snapshot_path : (n : List ℕ) → IsSnapName n → (q : Site) → is_regular q ≡ true → begins (codes ".hbase-snapshot" ∷ n ∷ []) (path (seen q)) ≡ is_in_snapshot n q
in_snapshot_path n l (Info m) h = alone (same_bytes n m)
in_snapshot_path n l (Manifest m) h = alone (same_bytes n m)
in_snapshot_path n l (WorkInfo m) h = first_fails (same_bytes n (codes ".tmp")) true (name_not n (codes "tmp") l)
in_snapshot_path n l (WorkManifest m) h = first_fails (same_bytes n (codes ".tmp")) true (name_not n (codes "tmp") l)
in_snapshot_path n l q h = refl

in_work_path : (n : List ℕ) → IsSnapName n → (q : Site) → is_regular q ≡ true → begins (codes ".hbase-snapshot" ∷ codes ".tmp" ∷ n ∷ []) (path (seen q)) ≡ is_in_work n q
in_work_path n l (Info m) h = first_fails (same_bytes (codes ".tmp") m) _ (not_tmp m (both_right (no_slash (site_path (Info m))) _ h))
in_work_path n l (Manifest m) h = first_fails (same_bytes (codes ".tmp") m) _ (not_tmp m (both_right (no_slash (site_path (Manifest m))) _ h))
in_work_path n l (WorkInfo m) h = alone (same_bytes n m)
in_work_path n l (WorkManifest m) h = alone (same_bytes n m)
in_work_path n l q h = refl

within_path : (d : List ℕ) (ds cs : List (List ℕ)) → (cs ≡ [] → ⊥) → AreApart (d ∷ ds) → AreApart cs → is_within (join_with_byte 47 (d ∷ ds)) (join_with_byte 47 cs) ≡ begins (d ∷ ds) cs
within_path d ds [] n h k = absurd (n refl)
within_path d ds (c ∷ cs) n h k = within_begins d c ds cs h k

pub in_snapshot : (n : List ℕ) → IsSnapName n → (q : Site) → is_regular q ≡ true → is_within (snapshot_place n) (site_text q) ≡ is_in_snapshot n q
in_snapshot n l q h =
    let a = path_apart (layout.Info n) l in
    ap (is_within (snapshot_place n)) (text_seen q) ∙ within_path (codes ".hbase-snapshot") (n ∷ []) (path (seen q)) (some_path q) (a.0, (a.1.0, tt)) (regular_path q h) ∙ in_snapshot_path n l q h

pub in_work : (n : List ℕ) → IsSnapName n → (q : Site) → is_regular q ≡ true → is_within (working_place n) (site_text q) ≡ is_in_work n q
in_work n l q h =
    let a = path_apart (layout.WorkInfo n) l in
    ap (is_within (working_place n)) (text_seen q) ∙ within_path (codes ".hbase-snapshot") (codes ".tmp" ∷ n ∷ []) (path (seen q)) (some_path q) (a.0, (a.1.0, (a.1.1.0, tt))) (regular_path q h) ∙ in_work_path n l q h
