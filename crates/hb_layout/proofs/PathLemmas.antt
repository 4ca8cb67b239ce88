use Rattle.std.proofs.Common.{◌≡◌, ℕ, ◌&&◌, not, nat_eq, Bool, true, false, List, [], ◌∷◌, ◌++◌, length, codes, refl, sym, ap, ◌∙◌, arith}
use Rattle.std.proofs.lemmas.Bool.Decides.{nat_tests}
use Rattle.std.specs.Cmp.{nat_eq_equiv}
use Rattle.std.specs.Cmp.Lexicographic.{pointwise, lists_equiv, same_text, unequal}
use Rattle.std.specs.Fmt.{decimal}
use Rattle.hb_file_names.specs.FileParts.{sixteen_digits}
use Rattle.hb_layout.specs.Spot.{Spot, Epoch, Tmp, RegionSet, StoreList, Live, Pointing, Archived, BackRefTo, Info, Manifest, WorkInfo, WorkManifest, Staged, base_path, path}

-- whether two names are the same, as a test that computes on literals
abbrev pub same_name : List ℕ → List ℕ → Bool
same_name m n = pointwise nat_eq m n

-- whether two paths are
abbrev pub same_path : List (List ℕ) → List (List ℕ) → Bool
same_path p q = pointwise same_name p q

-- the directory of store lists, in whose place no family's directory may stand
abbrev pub filelist : List ℕ
filelist = codes ".filelist"

-- whether a spot's family is not that directory; a link or a reference is seen as a file of its name instead
abbrev pub is_apart : Spot → Bool
is_apart (Live base) = not (same_name base.family filelist)
is_apart (Pointing pointer) = false
is_apart _ = true

-- whether two spots have the same names
abbrev pub same_spot : Spot → Spot → Bool
same_spot (Epoch m) (Epoch n) = same_path (sixteen_digits m ∷ []) (sixteen_digits n ∷ [])
same_spot (Tmp m) (Tmp n) = same_path (m ∷ []) (n ∷ [])
same_spot (RegionSet t m) (RegionSet u n) = same_path (t ∷ decimal m ∷ []) (u ∷ decimal n ∷ [])
same_spot (StoreList t r m) (StoreList u q n) = same_path (t ∷ r ∷ decimal m ∷ []) (u ∷ q ∷ decimal n ∷ [])
same_spot (Live b) (Live c) = same_path (base_path b) (base_path c)
same_spot (Archived b) (Archived c) = same_path (base_path b) (base_path c)
same_spot (BackRefTo b m) (BackRefTo c n) = same_path (base_path b ++ m ∷ []) (base_path c ++ n ∷ [])
same_spot (Info m) (Info n) = same_path (m ∷ []) (n ∷ [])
same_spot (Manifest m) (Manifest n) = same_path (m ∷ []) (n ∷ [])
same_spot (WorkInfo m) (WorkInfo n) = same_path (m ∷ []) (n ∷ [])
same_spot (WorkManifest m) (WorkManifest n) = same_path (m ∷ []) (n ∷ [])
same_spot (Staged d f c) (Staged e g k) = same_path (d ∷ f ∷ c ∷ []) (e ∷ g ∷ k ∷ [])
same_spot _ _ = false

-- a test beside one that fails fails
never : (a : Bool) → (a && false) ≡ false
never true = refl
never false = refl

-- numbers that fail the test differ
other_number : (m n : ℕ) → nat_eq m n ≡ false → m ≡ n → ⊥
other_number m n e h = grind (arith, nat_tests)

-- a family that is not the directory of the lists makes the whole test fail
no_family : (t e f n : Bool) → not f ≡ true → (t && (e && (f && (n && true)))) ≡ false
no_family true true true n h = absurd (cc)
no_family true true false n h = refl
no_family true false f n h = refl
no_family false e f n h = refl

-- paths of different lengths differ
other_length : (p q : List (List ℕ)) → nat_eq (length p) (length q) ≡ false → same_path p q ≡ false
other_length p q d = unequal same_name p q (λ e. other_number (length p) (length q) d e)

-- the paths of two spots are alike exactly where the spots are
pub same_path-path : (p q : Spot) → is_apart p ≡ true → is_apart q ≡ true → same_path (path p) (path q) ≡ same_spot p q
same_path-path (Pointing p) q h k = absurd (cc)
same_path-path p (Pointing q) h k = absurd (cc)
same_path-path (Epoch m) (Epoch n) h k = refl
same_path-path (Tmp m) (Tmp n) h k = refl
same_path-path (RegionSet t m) (RegionSet u n) h k = refl
same_path-path (StoreList t r m) (StoreList u q n) h k = refl
same_path-path (Live b) (Live c) h k = refl
same_path-path (Archived b) (Archived c) h k = refl
same_path-path (BackRefTo b m) (BackRefTo c n) h k = refl
same_path-path (Info m) (Info n) h k = refl
same_path-path (Manifest m) (Manifest n) h k = refl
same_path-path (WorkInfo m) (WorkInfo n) h k = refl
same_path-path (WorkManifest m) (WorkManifest n) h k = refl
same_path-path (Staged d f c) (Staged e g i) h k = refl
same_path-path (Live b) (StoreList t r n) h k = no_family (same_name b.table t) (same_name b.region r) (same_name b.family filelist) (same_name b.name (decimal n)) h
same_path-path (StoreList t r n) (Live b) h k =
    no_family (same_name t b.table) (same_name r b.region) (same_name filelist b.family) (same_name (decimal n) b.name) (ap not ((lists_equiv nat_eq_equiv).symm filelist b.family) ∙ k)
same_path-path (RegionSet t n) (Live b) h k = other_length (path (RegionSet t n)) (path (Live b)) refl
same_path-path (Live b) (RegionSet t n) h k = other_length (path (Live b)) (path (RegionSet t n)) refl
same_path-path (RegionSet t n) (StoreList u r m) h k = other_length (path (RegionSet t n)) (path (StoreList u r m)) refl
same_path-path (StoreList u r m) (RegionSet t n) h k = other_length (path (StoreList u r m)) (path (RegionSet t n)) refl
same_path-path (Archived b) (BackRefTo c n) h k = other_length (path (Archived b)) (path (BackRefTo c n)) refl
same_path-path (BackRefTo c n) (Archived b) h k = other_length (path (BackRefTo c n)) (path (Archived b)) refl
same_path-path (Info m) (Manifest n) h k = never (same_name m n)
same_path-path (Manifest m) (Info n) h k = never (same_name m n)
same_path-path (Info m) (WorkInfo n) h k = other_length (path (Info m)) (path (WorkInfo n)) refl
same_path-path (Info m) (WorkManifest n) h k = other_length (path (Info m)) (path (WorkManifest n)) refl
same_path-path (Manifest m) (WorkInfo n) h k = other_length (path (Manifest m)) (path (WorkInfo n)) refl
same_path-path (Manifest m) (WorkManifest n) h k = other_length (path (Manifest m)) (path (WorkManifest n)) refl
same_path-path (WorkInfo n) (Info m) h k = other_length (path (WorkInfo n)) (path (Info m)) refl
same_path-path (WorkInfo n) (Manifest m) h k = other_length (path (WorkInfo n)) (path (Manifest m)) refl
same_path-path (WorkManifest n) (Info m) h k = other_length (path (WorkManifest n)) (path (Info m)) refl
same_path-path (WorkManifest n) (Manifest m) h k = other_length (path (WorkManifest n)) (path (Manifest m)) refl
same_path-path (WorkInfo n) (WorkManifest m) h k = never (same_name n m)
same_path-path (WorkManifest n) (WorkInfo m) h k = never (same_name n m)
same_path-path _ _ h k = refl

-- the first of two tests that hold together
left : (a b : Bool) → (a && b) ≡ true → a ≡ true
left true b e = refl
left false b e = e

-- the second of them
right : (a b : Bool) → (a && b) ≡ true → b ≡ true
right true b e = e
right false b e = absurd (cc)

-- paths that pass the test are equal
pub path_equal : (p q : List (List ℕ)) → same_path p q ≡ true → p ≡ q
path_equal [] [] e = refl
path_equal [] (y ∷ ys) e = absurd (cc)
path_equal (x ∷ xs) [] e = absurd (cc)
path_equal (x ∷ xs) (y ∷ ys) e =
    let a = same_text x y (sym (left (same_name x y) _ e)) in let b = path_equal xs ys (right (same_name x y) _ e) in (cc)
