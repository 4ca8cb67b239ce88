use Rattle.std.proofs.Common.{◌≡◌, ℕ, ◌≤◌, ◌⊎◌, not, Bool, true, false, List, [], ◌∷◌, ◌++◌, length, codes, refl, sym, ap, ◌∙◌, subst, arith, inl, inr}
use Rattle.std.specs.Cmp.{nat_eq_equiv}
use Rattle.std.specs.Cmp.Lexicographic.{lists_equiv, same_text}
use Rattle.std.specs.List.{join_with_byte, AllByRecursion}
use Rattle.std.specs.Fmt.{decimal}
use Rattle.std.proofs.lemmas.Fmt.{decimal_injective}
use Rattle.hb_grammar.specs.declared.class.Class.TheVariants.{FamilyStart, Component}
use Rattle.hb_grammar.specs.Class.{has}
use Rattle.hb_grammar.specs.Run.{IsExactly}
use Rattle.hb_grammar.proofs.AvoidsLemmas.{Lacks, Lacks-AllIn}
use Rattle.hb_names.specs.Component.{IsComponent}
use Rattle.hb_names.specs.FamilyName.{IsFamilyName}
use Rattle.hb_names.specs.Place.{IsPlace}
use Rattle.hb_names.proofs.PlaceLemmas.{IsComponent-is_component, IsPlace-join_with_byte}
use Rattle.hb_file_names.specs.FileName.{IsFileName}
use Rattle.hb_file_names.specs.LinkName.{IsLinkName}
use Rattle.hb_file_names.specs.RefName.{IsRefName}
use Rattle.hb_file_names.specs.FileParts.{sixteen_digits}
use Rattle.hb_file_names.proofs.DigitsLemmas.{sixteen_digits-injective}
use Rattle.hb_file_names.proofs.ToldLemmas.{file_alone}
use Rattle.hb_layout.specs.declared.base.Base.{Base}
use Rattle.hb_layout.specs.Spot.{Spot, Epoch, Tmp, RegionSet, StoreList, Pointer, Live, Pointing, Archived, BackRefTo, Info, Manifest, WorkInfo, WorkManifest, Staged, base_path, path, place_text}
use Rattle.hb_layout.specs.Lawful.{IsPointer, IsSpelled}
use Rattle.hb_layout.proofs.JoinLemmas.{join_with_byte-injective}
use Rattle.hb_layout.proofs.NameLemmas.{IsComponent-IsTableName, IsComponent-IsFamilyName, IsComponent-IsEncoded, IsComponent-sixteen_digits, IsComponent-decimal, IsComponent-IsFileName, IsComponent-IsLinkName, IsComponent-IsRefName, IsComponent-IsBackRef, IsComponent-links}
use Rattle.hb_layout.proofs.PathLemmas.{same_name, same_path, filelist, is_apart, same_spot, same_path-path, path_equal}

-- the fixed components of the layout
record HasWords : Type 0 where
  epoch : IsComponent (codes ".epoch")
  tmp : IsComponent (codes ".tmp")
  root : IsComponent (codes "data")
  namespace : IsComponent (codes "default")
  archive : IsComponent (codes "archive")
  regions : IsComponent (codes ".regions")
  lists : IsComponent (codes ".filelist")
  snapshots : IsComponent (codes ".hbase-snapshot")
  info : IsComponent (codes ".snapshotinfo")
  manifest : IsComponent (codes "data.manifest")
  staging : IsComponent (codes "staging")

-- each of them is a component
words : HasWords
unfolding has
words = record {
  epoch = IsComponent-is_component (codes ".epoch") refl;
  tmp = IsComponent-is_component (codes ".tmp") refl;
  root = IsComponent-is_component (codes "data") refl;
  namespace = IsComponent-is_component (codes "default") refl;
  archive = IsComponent-is_component (codes "archive") refl;
  regions = IsComponent-is_component (codes ".regions") refl;
  lists = IsComponent-is_component (codes ".filelist") refl;
  snapshots = IsComponent-is_component (codes ".hbase-snapshot") refl;
  info = IsComponent-is_component (codes ".snapshotinfo") refl;
  manifest = IsComponent-is_component (codes "data.manifest") refl;
  staging = IsComponent-is_component (codes "staging") refl;
}

-- the name of a link or a reference is a component
IsComponent-pointer : (bytes : List ℕ) → IsLinkName bytes ⊎ IsRefName bytes → IsComponent bytes
IsComponent-pointer bytes name = elim name as (λ _. IsComponent bytes) [ inl link ↦ IsComponent-IsLinkName bytes link | inr half ↦ IsComponent-IsRefName bytes half ]

-- each component of a lawful spot is one
pub All-path : (spot : Spot) → IsSpelled spot → AllByRecursion IsComponent (path spot)
All-path (Epoch number) h = (words.epoch, (IsComponent-sixteen_digits number, tt))
All-path (Tmp name) h = (words.tmp, (IsComponent-IsFileName name h, tt))
All-path (RegionSet table number) h =
    (words.root, (words.namespace, (IsComponent-IsTableName table h.0, (words.regions, (IsComponent-decimal number h.1.1, tt)))))
All-path (StoreList table region number) h =
    (words.root, (words.namespace, (IsComponent-IsTableName table h.0, (IsComponent-IsEncoded region h.1, (words.lists, (IsComponent-decimal number h.2.1, tt))))))
All-path (Live base) h = (
  words.root,
  (
    words.namespace,
    (
      IsComponent-IsTableName base.table h.0.table,
      (
        IsComponent-IsEncoded base.region h.0.region,
        (IsComponent-IsFamilyName base.family h.0.family, (IsComponent-IsFileName base.name h.1, tt)),
      ),
    ),
  ),
)
All-path (Pointing pointer) h = (
  words.root,
  (
    words.namespace,
    (
      IsComponent-IsTableName pointer.table h.table,
      (
        IsComponent-IsEncoded pointer.region h.region,
        (IsComponent-IsFamilyName pointer.family h.family, (IsComponent-pointer pointer.name h.name, tt)),
      ),
    ),
  ),
)
All-path (Archived base) h = (
  words.archive,
  (
    words.root,
    (
      words.namespace,
      (
        IsComponent-IsTableName base.table h.0.table,
        (
          IsComponent-IsEncoded base.region h.0.region,
          (IsComponent-IsFamilyName base.family h.0.family, (IsComponent-IsFileName base.name h.1, tt)),
        ),
      ),
    ),
  ),
)
All-path (BackRefTo base text) h = (
  words.archive,
  (
    words.root,
    (
      words.namespace,
      (
        IsComponent-IsTableName base.table h.0.table,
        (
          IsComponent-IsEncoded base.region h.0.region,
          (IsComponent-IsFamilyName base.family h.0.family, (IsComponent-links base.name h.1, (IsComponent-IsBackRef text h.2, tt))),
        ),
      ),
    ),
  ),
)
All-path (Info name) h = (words.snapshots, (IsComponent-IsTableName name h, (words.info, tt)))
All-path (Manifest name) h = (words.snapshots, (IsComponent-IsTableName name h, (words.manifest, tt)))
All-path (WorkInfo name) h = (words.snapshots, (words.tmp, (IsComponent-IsTableName name h, (words.info, tt))))
All-path (WorkManifest name) h = (words.snapshots, (words.tmp, (IsComponent-IsTableName name h, (words.manifest, tt))))
All-path (Staged folder family name) h = (words.staging, (h.0, (IsComponent-IsFamilyName family h.1, (h.2, tt))))

-- a spot has 2 to 8 components
record IsDeep (parts : List (List ℕ)) : Type 0 where
  least : 1 ≤ length parts
  most : length parts ≤ 16

-- so it has
deep : (spot : Spot) → IsDeep (path spot)
deep (Epoch number) = record { least = omega arith; most = omega arith }
deep (Tmp name) = record { least = omega arith; most = omega arith }
deep (RegionSet table number) = record { least = omega arith; most = omega arith }
deep (StoreList table region number) = record { least = omega arith; most = omega arith }
deep (Live base) = record { least = omega arith; most = omega arith }
deep (Pointing pointer) = record { least = omega arith; most = omega arith }
deep (Archived base) = record { least = omega arith; most = omega arith }
deep (BackRefTo base text) = record { least = omega arith; most = omega arith }
deep (Info name) = record { least = omega arith; most = omega arith }
deep (Manifest name) = record { least = omega arith; most = omega arith }
deep (WorkInfo name) = record { least = omega arith; most = omega arith }
deep (WorkManifest name) = record { least = omega arith; most = omega arith }
deep (Staged folder family name) = record { least = omega arith; most = omega arith }

-- a lawful spot has a place
pub IsPlace-place_text : (spot : Spot) → IsSpelled spot → IsPlace (place_text spot)
IsPlace-place_text spot h = let d = deep spot in IsPlace-join_with_byte (path spot) d.least d.most (All-path spot h)

-- components have no slash
All-Lacks : (parts : List (List ℕ)) → AllByRecursion IsComponent parts → AllByRecursion (Lacks 47) parts
unfolding has
All-Lacks [] each = tt
All-Lacks (part ∷ parts) each = (Lacks-AllIn Component 47 refl part each.0.each, All-Lacks parts each.1)

-- so they are told by the text that they are joined to
join_equal : (cs ds : List (List ℕ)) → 1 ≤ length cs → 1 ≤ length ds → AllByRecursion IsComponent cs → AllByRecursion IsComponent ds →
    join_with_byte 47 cs ≡ join_with_byte 47 ds → cs ≡ ds
join_equal [] ds m n h k e = absurd (omega arith)
join_equal (c ∷ cs) [] m n h k e = absurd (omega arith)
join_equal (c ∷ cs) (d ∷ ds) m n h k e = join_with_byte-injective c d cs ds (All-Lacks (c ∷ cs) h) (All-Lacks (d ∷ ds) k) e

-- no family's name begins with a dot
no_dot : (front back rest : List ℕ) → 46 ∷ rest ≡ front ++ back → IsExactly FamilyStart 1 front → ⊥
unfolding has
no_dot [] back rest e exactly = let long = exactly.long in omega arith
no_dot (x ∷ xs) back rest e exactly =
    let same : x ≡ 46 = cc in let inside : has FamilyStart x ≡ true = exactly.each.0 in
    let outside : has FamilyStart x ≡ false = ap (has FamilyStart) same in cc

-- a family's name is not that of the directory of the lists
family_apart : (family : List ℕ) → IsFamilyName family → (b : Bool) → same_name family filelist ≡ b → not b ≡ true
family_apart family named false e = refl
family_apart family named true e =
    let same : family ≡ filelist = same_text family filelist (sym e) in
    let whole : filelist ≡ named.front ++ named.back = sym same ∙ named.whole in
    absurd (no_dot named.front named.back (codes "filelist") whole named.in_first)

-- a link or a reference, seen as a file of its name
abbrev as_base : Pointer → Base
as_base pointer = record { table = pointer.table; region = pointer.region; family = pointer.family; name = pointer.name }

abbrev as_file : Spot → Spot
as_file (Pointing pointer) = Live (as_base pointer)
as_file spot = spot

-- stands in the same place
path-as_file : (spot : Spot) → path (as_file spot) ≡ path spot
path-as_file (Pointing pointer) = refl
path-as_file _ = refl

-- no family's directory is that of the store lists
is_apart-as_file : (spot : Spot) → IsSpelled spot → is_apart (as_file spot) ≡ true
is_apart-as_file (Live base) h = family_apart base.family h.0.family (same_name base.family filelist) refl
is_apart-as_file (Pointing pointer) h = family_apart pointer.family h.family (same_name pointer.family filelist) refl
is_apart-as_file _ h = refl

-- a base is its four names
base_equal : (b c : Base) → base_path b ≡ base_path c → b ≡ c
base_equal b c e =
    let t : b.table ≡ c.table = cc in let r : b.region ≡ c.region = cc in
    let f : b.family ≡ c.family = cc in let n : b.name ≡ c.name = cc in
    made b.table c.table b.region c.region b.family c.family b.name c.name t r f n
  where
    made : (t t' r r' f f' n n' : List ℕ) → t ≡ t' → r ≡ r' → f ≡ f' → n ≡ n' →
        let x : Base = record { table = t; region = r; family = f; name = n } in let y : Base = record { table = t'; region = r'; family = f'; name = n' } in x ≡ y
    made t t' r r' f f' n n' a b c d = cc

-- lawful spots that pass the test are equal
spot_equal : (p q : Spot) → IsSpelled p → IsSpelled q → same_spot (as_file p) (as_file q) ≡ true → p ≡ q
spot_equal (Epoch m) (Epoch n) h k e =
    let names : sixteen_digits m ∷ [] ≡ sixteen_digits n ∷ [] = path_equal (sixteen_digits m ∷ []) (sixteen_digits n ∷ []) e in
    let digits : sixteen_digits m ≡ sixteen_digits n = cc in
    let same : m ≡ n = sixteen_digits-injective m n (omega arith) (omega arith) digits in cc
spot_equal (Tmp m) (Tmp n) h k e = let names : m ∷ [] ≡ n ∷ [] = path_equal (m ∷ []) (n ∷ []) e in cc
spot_equal (RegionSet t m) (RegionSet u n) h k e =
    let names : t ∷ decimal m ∷ [] ≡ u ∷ decimal n ∷ [] = path_equal (t ∷ decimal m ∷ []) (u ∷ decimal n ∷ []) e in
    let digits : decimal m ≡ decimal n = cc in
    let same : m ≡ n = decimal_injective m n (omega (arith, h.1.1)) (omega (arith, k.1.1)) digits in cc
spot_equal (StoreList t r m) (StoreList u q n) h k e =
    let names : t ∷ r ∷ decimal m ∷ [] ≡ u ∷ q ∷ decimal n ∷ [] = path_equal (t ∷ r ∷ decimal m ∷ []) (u ∷ q ∷ decimal n ∷ []) e in
    let digits : decimal m ≡ decimal n = cc in
    let same : m ≡ n = decimal_injective m n (omega (arith, h.2.1)) (omega (arith, k.2.1)) digits in cc
spot_equal (Live b) (Live c) h k e = ap Live (base_equal b c (path_equal (base_path b) (base_path c) e))
spot_equal (Pointing p) (Pointing q) h k e =
    let same : as_base p ≡ as_base q = base_equal (as_base p) (as_base q) (path_equal (base_path (as_base p)) (base_path (as_base q)) e) in
    ap Pointing (ap (λ (b : Base). let x : Pointer = record { table = b.table; region = b.region; family = b.family; name = b.name } in x) same)
spot_equal (Live b) (Pointing q) h k e =
    let same : b ≡ as_base q = base_equal b (as_base q) (path_equal (base_path b) (base_path (as_base q)) e) in
    absurd (file_alone b.name h.1 (subst (λ (name : List ℕ). IsLinkName name ⊎ IsRefName name) (sym (ap (λ (x : Base). x.name) same)) k.name))
spot_equal (Pointing p) (Live c) h k e =
    let same : as_base p ≡ c = base_equal (as_base p) c (path_equal (base_path (as_base p)) (base_path c) e) in
    absurd (file_alone c.name k.1 (subst (λ (name : List ℕ). IsLinkName name ⊎ IsRefName name) (ap (λ (x : Base). x.name) same) h.name))
spot_equal (Archived b) (Archived c) h k e = ap Archived (base_equal b c (path_equal (base_path b) (base_path c) e))
spot_equal (BackRefTo b m) (BackRefTo c n) h k e =
    let names : base_path b ++ m ∷ [] ≡ base_path c ++ n ∷ [] = path_equal (base_path b ++ m ∷ []) (base_path c ++ n ∷ []) e in
    let bases : base_path b ≡ base_path c = cc in
    let base : b ≡ c = base_equal b c bases in let text : m ≡ n = cc in cc
spot_equal (Info m) (Info n) h k e = let names : m ∷ [] ≡ n ∷ [] = path_equal (m ∷ []) (n ∷ []) e in cc
spot_equal (Manifest m) (Manifest n) h k e = let names : m ∷ [] ≡ n ∷ [] = path_equal (m ∷ []) (n ∷ []) e in cc
spot_equal (WorkInfo m) (WorkInfo n) h k e = let names : m ∷ [] ≡ n ∷ [] = path_equal (m ∷ []) (n ∷ []) e in cc
spot_equal (WorkManifest m) (WorkManifest n) h k e = let names : m ∷ [] ≡ n ∷ [] = path_equal (m ∷ []) (n ∷ []) e in cc
spot_equal (Staged d f c) (Staged x g y) h k e =
    let names : d ∷ f ∷ c ∷ [] ≡ x ∷ g ∷ y ∷ [] = path_equal (d ∷ f ∷ c ∷ []) (x ∷ g ∷ y ∷ []) e in cc
spot_equal _ _ h k e = absurd (cc)

-- lawful spots with the same place are the same
pub place_text-injective : (p q : Spot) → IsSpelled p → IsSpelled q → place_text p ≡ place_text q → p ≡ q
place_text-injective p q h k e =
    let paths : path p ≡ path q = (let dp = deep p in let dq = deep q in join_equal (path p) (path q) dp.least dq.least (All-path p h) (All-path q k) e) in
    let files : path (as_file p) ≡ path (as_file q) = path-as_file p ∙ paths ∙ sym (path-as_file q) in
    let alike : same_path (path (as_file p)) (path (as_file q)) ≡ true =
    ap (same_path (path (as_file p))) (sym files) ∙ (lists_equiv (lists_equiv nat_eq_equiv)).refl (path (as_file p)) in
    spot_equal p q h k (sym (same_path-path (as_file p) (as_file q) (is_apart-as_file p h) (is_apart-as_file q k)) ∙ alike)
