-- No file of the layout lies below another, and none too deep.
use Rattle.std.proofs.Common.{◌≡◌, ℕ, ◌≤◌, ◌&&◌, Bool, true, false, List, [], ◌∷◌, ◌++◌, codes, length, refl, sym, ap, ◌∙◌, subst, arith, eqb}
use Rattle.std.specs.List.{join_with_byte, AllByRecursion}
use Rattle.std.proofs.lemmas.Bool.{true≢false, false_from_ne_true}
use Rattle.std.proofs.lemmas.Bool.Decides.{nat_tests}
use Rattle.hb_cell.specs.Order.{same_bytes}
use Rattle.hb_grammar.specs.declared.class.Class.{Class}
use Rattle.hb_grammar.specs.declared.class.Class.TheVariants.{Component, LowerHex, FamilyStart, NameStart}
use Rattle.hb_grammar.specs.Class.{has}
use Rattle.hb_grammar.specs.Run.{IsExactly}
use Rattle.hb_grammar.proofs.AvoidsLemmas.{Lacks, Lacks-AllIn, Free}
use Rattle.hb_names.specs.Component.{IsComponent}
use Rattle.hb_names.specs.Encoded.{IsEncoded}
use Rattle.hb_names.specs.FamilyName.{IsFamilyName}
use Rattle.hb_names.specs.SnapName.{IsSnapName}
use Rattle.hb_file_names.specs.FileName.{IsFileName}
use Rattle.hb_file_names.proofs.FreeLemmas.{Free-IsFileName}
use Rattle.hb_layout.specs.Lawful.{IsSpelled}
use Rattle.hb_layout.specs.Spot.{Spot, Epoch, Tmp, RegionSet, StoreList, Live, Pointing, Archived, BackRefTo, Info, Manifest, WorkInfo, WorkManifest, Staged, path}
use Rattle.hb_layout.proofs.LawfulLemmas.{All-path}
use Rattle.ns_tree.specs.Places.{is_below, is_too_deep}
use Rattle.core_model.specs.Site.{Site, spot_of, site_text}
use Rattle.core_sites.specs.Calls.{snapshot_place, working_place}
use Rattle.core_sites.specs.Shows.{IsSpelledSite}
use Rattle.core_sites.proofs.Tests.{same_bytes-true}
use Rattle.core_sites.proofs.Texts.{AreApart, goes_on, not_longer, below_goes_on, not_too_deep}

-- ---- names without a dot in front

differs : (x : ℕ) → eqb x 46 ≡ false → x ≡ 46 → ⊥
differs x e same = grind (arith, nat_tests)

no_dot_front : (name rest : List ℕ) → Lacks 46 name → name ≡ 46 ∷ rest → ⊥
no_dot_front [] rest h e = absurd (cc)
no_dot_front (x ∷ xs) rest h e = let z : x ≡ 46 = (cc) in differs x h.0 z

-- a name that begins in a class without the dot begins with none
no_dot : (class : Class) → has class 46 ≡ false → (front back rest : List ℕ) → 46 ∷ rest ≡ front ++ back → IsExactly class 1 front → ⊥
no_dot class n [] back rest e exactly = let long = exactly.long in omega arith
no_dot class n (x ∷ xs) back rest e exactly =
    let same : x ≡ 46 = cc in let inside : has class x ≡ true = exactly.each.0 in
    let outside : has class x ≡ false = ap (has class) same ∙ n in cc

family_dot : has FamilyStart 46 ≡ false
unfolding has
family_dot = refl

name_dot : has NameStart 46 ≡ false
unfolding has
name_dot = refl

hex_dot : has LowerHex 46 ≡ false
unfolding has
hex_dot = refl

file_dot : Free IsFileName 46
unfolding has
file_dot = Free-IsFileName 46 refl refl (refl, (refl, (refl, (refl, (refl, (refl, (refl, tt))))))) refl

pub family_not : (family rest : List ℕ) → IsFamilyName family → same_bytes family (46 ∷ rest) ≡ false
family_not family rest named = false_from_ne_true _ (λ e. no_dot FamilyStart family_dot named.front named.back rest (sym (same_bytes-true family (46 ∷ rest) e) ∙ named.whole) named.in_first)

pub name_not : (name rest : List ℕ) → IsSnapName name → same_bytes name (46 ∷ rest) ≡ false
name_not name rest named = false_from_ne_true _ (λ e. no_dot NameStart name_dot named.front named.back rest (sym (same_bytes-true name (46 ∷ rest) e) ∙ named.whole) named.in_first)

not_encoded : (region rest : List ℕ) → IsEncoded region → same_bytes (46 ∷ rest) region ≡ false
not_encoded region rest named = false_from_ne_true _ (λ e. no_dot_front region rest (Lacks-AllIn LowerHex 46 hex_dot region named.each) (sym (same_bytes-true (46 ∷ rest) region e)))

file_not : (name rest : List ℕ) → IsFileName name → same_bytes name (46 ∷ rest) ≡ false
file_not name rest named = false_from_ne_true _ (λ e. no_dot_front name rest (file_dot name named) (same_bytes-true name (46 ∷ rest) e))

-- ---- components of spots

component : has Component 47 ≡ false
unfolding has
component = refl

each_apart : (texts : List (List ℕ)) → AllByRecursion IsComponent texts → AreApart texts
each_apart [] h = tt
each_apart (t ∷ ts) h = (Lacks-AllIn Component 47 component t h.0.each, each_apart ts h.1)

pub path_apart : (p : Spot) → IsSpelled p → AreApart (path p)
path_apart p h = each_apart (path p) (All-path p h)

-- ---- none goes on as another

third : (a b c d : Bool) → c ≡ false → (a && (b && (c && d))) ≡ false
third true true c d e = ap (λ x. x && d) e
third true false c d e = refl
third false b c d e = refl

region_first : (t u r : List ℕ) (rest : Bool) → IsEncoded r → (same_bytes t u && (same_bytes (codes ".regions") r && rest)) ≡ false
region_first t u r rest n = pair (same_bytes t u) (same_bytes (codes ".regions") r) rest (not_encoded r (codes "regions") n)
  where
    pair : (a b c : Bool) → b ≡ false → (a && (b && c)) ≡ false
    pair true b c e = ap (λ x. x && c) e
    pair false b c e = refl

file_last : (a b c d e : Bool) → d ≡ false → (a && (b && (c && (d && e)))) ≡ false
file_last true b c d e z = third b c d e z
file_last false b c d e z = refl

name_first : (a b : Bool) → a ≡ false → (a && b) ≡ false
name_first a b e = ap (λ x. x && b) e

apart_paths : (p q : Spot) → IsSpelled p → IsSpelled q → goes_on (path p) (path q) ≡ false
apart_paths (Epoch m) (Epoch n) h k = not_longer (path (Epoch m)) (path (Epoch n)) (omega arith)
apart_paths (Tmp m) (Tmp n) h k = not_longer (path (Tmp m)) (path (Tmp n)) (omega arith)
apart_paths (RegionSet t m) (RegionSet u n) h k = not_longer (path (RegionSet t m)) (path (RegionSet u n)) (omega arith)
apart_paths (RegionSet t m) (StoreList u r n) h k = region_first t u r _ k.1
apart_paths (RegionSet t m) (Live b) h k = region_first t b.table b.region _ k.0.region
apart_paths (RegionSet t m) (Pointing b) h k = region_first t b.table b.region _ k.region
apart_paths (StoreList t r m) (RegionSet u n) h k = not_longer (path (StoreList t r m)) (path (RegionSet u n)) (omega arith)
apart_paths (StoreList t r m) (StoreList u q n) h k = not_longer (path (StoreList t r m)) (path (StoreList u q n)) (omega arith)
apart_paths (StoreList t r m) (Live b) h k = not_longer (path (StoreList t r m)) (path (Live b)) (omega arith)
apart_paths (StoreList t r m) (Pointing b) h k = not_longer (path (StoreList t r m)) (path (Pointing b)) (omega arith)
apart_paths (Live b) (RegionSet u n) h k = not_longer (path (Live b)) (path (RegionSet u n)) (omega arith)
apart_paths (Live b) (StoreList u q n) h k = not_longer (path (Live b)) (path (StoreList u q n)) (omega arith)
apart_paths (Live b) (Live c) h k = not_longer (path (Live b)) (path (Live c)) (omega arith)
apart_paths (Live b) (Pointing c) h k = not_longer (path (Live b)) (path (Pointing c)) (omega arith)
apart_paths (Pointing b) (RegionSet u n) h k = not_longer (path (Pointing b)) (path (RegionSet u n)) (omega arith)
apart_paths (Pointing b) (StoreList u q n) h k = not_longer (path (Pointing b)) (path (StoreList u q n)) (omega arith)
apart_paths (Pointing b) (Live c) h k = not_longer (path (Pointing b)) (path (Live c)) (omega arith)
apart_paths (Pointing b) (Pointing c) h k = not_longer (path (Pointing b)) (path (Pointing c)) (omega arith)
apart_paths (Archived b) (Archived c) h k = not_longer (path (Archived b)) (path (Archived c)) (omega arith)
apart_paths (Archived b) (BackRefTo c text) h k = file_last (same_bytes b.table c.table) (same_bytes b.region c.region) (same_bytes b.family c.family) (same_bytes b.name (codes ".links-" ++ c.name)) true (file_not b.name (codes "links-" ++ c.name) h.1)
apart_paths (BackRefTo b text) (Archived c) h k = not_longer (path (BackRefTo b text)) (path (Archived c)) (omega arith)
apart_paths (BackRefTo b text) (BackRefTo c words) h k = not_longer (path (BackRefTo b text)) (path (BackRefTo c words)) (omega arith)
apart_paths (Info m) (Info n) h k = not_longer (path (Info m)) (path (Info n)) (omega arith)
apart_paths (Info m) (Manifest n) h k = not_longer (path (Info m)) (path (Manifest n)) (omega arith)
apart_paths (Info m) (WorkInfo n) h k = name_first (same_bytes m (codes ".tmp")) _ (name_not m (codes "tmp") h)
apart_paths (Info m) (WorkManifest n) h k = name_first (same_bytes m (codes ".tmp")) _ (name_not m (codes "tmp") h)
apart_paths (Manifest m) (Info n) h k = not_longer (path (Manifest m)) (path (Info n)) (omega arith)
apart_paths (Manifest m) (Manifest n) h k = not_longer (path (Manifest m)) (path (Manifest n)) (omega arith)
apart_paths (Manifest m) (WorkInfo n) h k = name_first (same_bytes m (codes ".tmp")) _ (name_not m (codes "tmp") h)
apart_paths (Manifest m) (WorkManifest n) h k = name_first (same_bytes m (codes ".tmp")) _ (name_not m (codes "tmp") h)
apart_paths (WorkInfo m) (Info n) h k = not_longer (path (WorkInfo m)) (path (Info n)) (omega arith)
apart_paths (WorkInfo m) (Manifest n) h k = not_longer (path (WorkInfo m)) (path (Manifest n)) (omega arith)
apart_paths (WorkInfo m) (WorkInfo n) h k = not_longer (path (WorkInfo m)) (path (WorkInfo n)) (omega arith)
apart_paths (WorkInfo m) (WorkManifest n) h k = not_longer (path (WorkInfo m)) (path (WorkManifest n)) (omega arith)
apart_paths (WorkManifest m) (Info n) h k = not_longer (path (WorkManifest m)) (path (Info n)) (omega arith)
apart_paths (WorkManifest m) (Manifest n) h k = not_longer (path (WorkManifest m)) (path (Manifest n)) (omega arith)
apart_paths (WorkManifest m) (WorkInfo n) h k = not_longer (path (WorkManifest m)) (path (WorkInfo n)) (omega arith)
apart_paths (WorkManifest m) (WorkManifest n) h k = not_longer (path (WorkManifest m)) (path (WorkManifest n)) (omega arith)
apart_paths (Staged d f n) (Staged e g m) h k = not_longer (path (Staged d f n)) (path (Staged e g m)) (omega arith)
apart_paths _ _ h k = refl

-- ---- the laws

-- a path is a first component and others, at most 16 in all
record IsSome (parts : List (List ℕ)) : Type 0 where
  first : List ℕ
  rest : List (List ℕ)
  whole : parts ≡ first ∷ rest
  few : length rest ≤ 15

some_path : (p : Spot) → IsSome (path p)
some_path (Epoch n) = record { first = _; rest = _; whole = refl; few = omega arith }
some_path (Tmp n) = record { first = _; rest = _; whole = refl; few = omega arith }
some_path (RegionSet t n) = record { first = _; rest = _; whole = refl; few = omega arith }
some_path (StoreList t r n) = record { first = _; rest = _; whole = refl; few = omega arith }
some_path (Live b) = record { first = _; rest = _; whole = refl; few = omega arith }
some_path (Pointing b) = record { first = _; rest = _; whole = refl; few = omega arith }
some_path (Archived b) = record { first = _; rest = _; whole = refl; few = omega arith }
some_path (BackRefTo b n) = record { first = _; rest = _; whole = refl; few = omega arith }
some_path (Info n) = record { first = _; rest = _; whole = refl; few = omega arith }
some_path (Manifest n) = record { first = _; rest = _; whole = refl; few = omega arith }
some_path (WorkInfo n) = record { first = _; rest = _; whole = refl; few = omega arith }
some_path (WorkManifest n) = record { first = _; rest = _; whole = refl; few = omega arith }
some_path (Staged d f n) = record { first = _; rest = _; whole = refl; few = omega arith }

below_paths : (ds cs : List (List ℕ)) → IsSome ds → IsSome cs → AreApart ds → AreApart cs → is_below (join_with_byte 47 ds) (join_with_byte 47 cs) ≡ true → goes_on ds cs ≡ true
below_paths ds cs p q h k b =
    ap (λ (x : List (List ℕ)). goes_on x cs) p.whole ∙ ap (goes_on (p.first ∷ p.rest)) q.whole
    ∙ below_goes_on p.first q.first p.rest q.rest (subst AreApart p.whole h) (subst AreApart q.whole k)
    (ap (λ (x : List (List ℕ)). is_below (join_with_byte 47 x) (join_with_byte 47 (q.first ∷ q.rest))) (sym p.whole) ∙ ap (λ (x : List (List ℕ)). is_below (join_with_byte 47 ds) (join_with_byte 47 x)) (sym q.whole) ∙ b)

pub nested : (p q : Site) → IsSpelledSite p → IsSpelledSite q → is_below (site_text p) (site_text q) ≡ false
nested p q h k = false_from_ne_true _ (λ b. true≢false
    (sym (below_paths (path (spot_of p)) (path (spot_of q)) (some_path (spot_of p)) (some_path (spot_of q)) (path_apart (spot_of p) h) (path_apart (spot_of q) k) b)
    ∙ apart_paths (spot_of p) (spot_of q) h k))

shallow_path : (parts : List (List ℕ)) → IsSome parts → AreApart parts → is_too_deep (join_with_byte 47 parts) ≡ false
shallow_path parts p h = ap (λ (x : List (List ℕ)). is_too_deep (join_with_byte 47 x)) p.whole ∙ not_too_deep p.first p.rest (subst AreApart p.whole h) p.few

pub shallow : (p : Site) → IsSpelledSite p → is_too_deep (site_text p) ≡ false
shallow p h = shallow_path (path (spot_of p)) (some_path (spot_of p)) (path_apart (spot_of p) h)

-- a snapshot's directory and its working directory lie apart
done_parts : (n : List ℕ) → IsSnapName n → AreApart (codes ".hbase-snapshot" ∷ n ∷ [])
done_parts n l = let a = path_apart (Info n) l in (a.0, (a.1.0, tt))

work_parts : (n : List ℕ) → IsSnapName n → AreApart (codes ".hbase-snapshot" ∷ codes ".tmp" ∷ n ∷ [])
work_parts n l = let a = path_apart (WorkInfo n) l in (a.0, (a.1.0, (a.1.1.0, tt)))

pub done_apart : (n : List ℕ) → IsSnapName n → is_below (working_place n) (snapshot_place n) ≡ false
done_apart n l = false_from_ne_true _ (λ b. true≢false
    (sym (below_goes_on (codes ".hbase-snapshot") (codes ".hbase-snapshot") (codes ".tmp" ∷ n ∷ []) (n ∷ []) (work_parts n l) (done_parts n l) b)
    ∙ not_longer (codes ".hbase-snapshot" ∷ codes ".tmp" ∷ n ∷ []) (codes ".hbase-snapshot" ∷ n ∷ []) (omega arith)))

pub work_apart : (n : List ℕ) → IsSnapName n → is_below (snapshot_place n) (working_place n) ≡ false
work_apart n l = false_from_ne_true _ (λ b. true≢false
    (sym (below_goes_on (codes ".hbase-snapshot") (codes ".hbase-snapshot") (n ∷ []) (codes ".tmp" ∷ n ∷ []) (done_parts n l) (work_parts n l) b)
    ∙ name_first (same_bytes n (codes ".tmp")) _ (name_not n (codes "tmp") l)))
