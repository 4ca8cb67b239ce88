-- How a place names the directory that it lies in.
use Rattle.std.proofs.Common.{◌≡◌, ℕ, ◌+◌, ◌<◌, Bool, true, false, ◌||◌, List, [], ◌∷◌, ◌++◌, length, take, drop, get_or, codes, Some, None, IsTrue, refl, ap, sym, subst, ◌∙◌, arith, eqb, inl, inr}
use Rattle.std.specs.Cmp.Lexicographic.{pointwise}
use Rattle.std.specs.List.{list_any, position, position_or_len}
use Rattle.std.proofs.lemmas.Bool.{cases_lt}
use Rattle.std.proofs.lemmas.Bool.Decides.{Decides-eqb, nat_tests}
use Rattle.std.proofs.lemmas.List.{append_assoc, drop_more, get_or-take, length-take-le, take-append-drop}
use Rattle.std.proofs.lemmas.List.Folds.{list_any_none}
use Rattle.std.proofs.lemmas.List.Quantifiers.{position-Some}
use Rattle.std.proofs.lemmas.List.Sums.{fails_before_first}
use Rattle.std.proofs.lemmas.Slice.Eq.{bytes_eq-Decides, starts_is}
use Rattle.hb_grammar.specs.Class.{has}
use Rattle.hb_grammar.specs.Run.{IsExactly, IsRun}
use Rattle.hb_grammar.specs.declared.class.Class.TheVariants.{Name, NameStart}
use Rattle.hb_grammar.proofs.AvoidsLemmas.{Lacks, Free-IsExactly, Free-IsRun, Free-Joined}
use Rattle.hb_names.specs.SnapName.{IsSnapName}
use Rattle.ns_tree.specs.Places.{is_below}
use Rattle.hbase_shell.specs.Snapshots.{snapshot_directory, is_slash, IsInSnapshot, IsInDirectory}

abbrev root : List ℕ
root = codes ".hbase-snapshot/"

-- a place below a directory has its text, a slash, and something behind
is_below-parts : (dir place : List ℕ) → (IsTrue (is_below dir place) → place ≡ (dir ++ codes "/") ++ drop (length (dir ++ codes "/")) place) × ((rest : List ℕ) → place ≡ (dir ++ codes "/") ++ rest → IsTrue (is_below dir place))
unfolding is_below
is_below-parts dir place = starts_is Decides-eqb place (dir ++ codes "/") (is_below dir place) refl

-- a place in a named directory: what stands behind the snapshots' directory is the name, a slash, and a rest
pub IsInDirectory-rest : (name place : List ℕ) → IsInDirectory name place → (rest : List ℕ) × (place ≡ root ++ (name ++ 47 ∷ rest))
IsInDirectory-rest name place inside =
    let rest : List ℕ = drop (length ((root ++ name) ++ codes "/")) place in
    (rest, (is_below-parts (snapshot_directory name) place).0 inside.below ∙ append_assoc (root ++ name) (codes "/") rest ∙ append_assoc root name (47 ∷ rest))

pub IsInDirectory-from : (name rest place : List ℕ) → list_any is_slash name ≡ false → place ≡ root ++ (name ++ 47 ∷ rest) → IsInDirectory name place
IsInDirectory-from name rest place one e = record {
  one = one;
  below = (is_below-parts (snapshot_directory name) place).1 rest (e ∙ sym (append_assoc root name (47 ∷ rest)) ∙ sym (append_assoc (root ++ name) (codes "/") rest));
}

or_second : (a b : Bool) → (a || b) ≡ false → b ≡ false
or_second true b e = cc
or_second false b e = e

-- what stands in front of the first slash is determined
front_is : (xs ys r s : List ℕ) → list_any is_slash xs ≡ false → list_any is_slash ys ≡ false → xs ++ 47 ∷ r ≡ ys ++ 47 ∷ s → xs ≡ ys
front_is [] [] r s p q e = refl
front_is [] (y ∷ ys) r s p q e = let h : y ≡ 47 = cc in let k = subst (λ b. (is_slash b || list_any is_slash ys) ≡ false) h q in cc
front_is (x ∷ xs) [] r s p q e = let h : x ≡ 47 = cc in let k = subst (λ b. (is_slash b || list_any is_slash xs) ≡ false) h p in cc
front_is (x ∷ xs) (y ∷ ys) r s p q e =
    let h : x ≡ y = cc in
    let t : xs ++ 47 ∷ r ≡ ys ++ 47 ∷ s = cc in
    let rest : xs ≡ ys = front_is xs ys r s (or_second _ _ p) (or_second _ _ q) t in cc

-- a place lies in one named directory
pub name-IsInDirectory : (name other place : List ℕ) → IsInDirectory name place → IsInDirectory other place → name ≡ other
name-IsInDirectory name other place a b =
    let x = IsInDirectory-rest name place a in
    let y = IsInDirectory-rest other place b in
    let e : root ++ (name ++ 47 ∷ x.0) ≡ root ++ (other ++ 47 ∷ y.0) = sym x.1 ∙ y.1 in
    front_is name other x.0 y.0 a.one b.one (ap (drop 16) e)

-- the first slash of a text parts it
pub parts-position : (text : List ℕ) (i : ℕ) → position is_slash text ≡ Some i → (list_any is_slash (take i text) ≡ false) × (text ≡ take i text ++ 47 ∷ drop (i + 1) text)
parts-position text i e =
    let at = position-Some is_slash text i 0 e in
    let slash : get_or text i 0 ≡ 47 = grind (arith, nat_tests, at.1) in
    let long : length (take i text) ≡ i = length-take-le i text (omega (arith, at.0)) in (
      list_any_none is_slash (take i text) (λ k d below. let j : k < i = omega arith in ap is_slash (get_or-take i text k d j) ∙ (position-Some is_slash text i d e).2 k j),
      sym (take-append-drop i text) ∙ ap (λ (x : List ℕ). take i text ++ x) (drop_more text i 0 at.0 ∙ ap (λ b. b ∷ drop (i + 1) text) slash),
    )

-- a text without a position of a slash has none
pub none-position : (text : List ℕ) → position is_slash text ≡ None → list_any is_slash text ≡ false
none-position text e = elim (cases_lt (position_or_len is_slash text) (length text)) as (λ _. list_any is_slash text ≡ false) [
  | inl below ↦ absurd (grind (arith, nat_tests, below, e))
  | inr past ↦ list_any_none is_slash text (λ k d h. fails_before_first is_slash text k d (omega arith))
]

-- a text with a slash in it
list_any-slash : (front rest : List ℕ) → list_any is_slash (front ++ 47 ∷ rest) ≡ true
list_any-slash [] rest = refl
list_any-slash (x ∷ xs) rest = elim (is_slash x) as (λ b. (b || list_any is_slash (xs ++ 47 ∷ rest)) ≡ true) [ true ↦ refl | false ↦ list_any-slash xs rest ]

-- a place that doesn't begin with the snapshots' directory lies in none of its directories
pub no_directory-prefix : (place name : List ℕ) → pointwise eqb (take 16 place) root ≡ false → IsInDirectory name place → ⊥
no_directory-prefix place name apart inside =
    let parts = IsInDirectory-rest name place inside in
    let front : take 16 place ≡ root = ap (take 16) parts.1 in
    let same : pointwise eqb (take 16 place) root ≡ true = ap (λ (x : List ℕ). pointwise eqb x root) front in cc

-- nor does one without a slash behind it
pub no_directory-slash : (place name : List ℕ) → position is_slash (drop 16 place) ≡ None → IsInDirectory name place → ⊥
no_directory-slash place name none inside =
    let parts = IsInDirectory-rest name place inside in
    let rest : drop 16 place ≡ name ++ 47 ∷ parts.0 = ap (drop 16) parts.1 in
    let no : list_any is_slash (drop 16 place) ≡ false = none-position (drop 16 place) none in
    let is : list_any is_slash (drop 16 place) ≡ true = ap (list_any is_slash) rest ∙ list_any-slash name parts.0 in cc

-- a place that begins with the snapshots' directory lies in the directory that its first slash behind it ends
pub IsInDirectory-position : (place : List ℕ) (i : ℕ) → pointwise eqb (take 16 place) root ≡ true → position is_slash (drop 16 place) ≡ Some i → IsInDirectory (take i (drop 16 place)) place
IsInDirectory-position place i begins e =
    let parts = parts-position (drop 16 place) i e in
    let front : take 16 place ≡ root = (bytes_eq-Decides (take 16 place) root).0 begins in
    IsInDirectory-from (take i (drop 16 place)) (drop (i + 1) (drop 16 place)) place parts.0
    (sym (take-append-drop 16 place) ∙ ap (λ (x : List ℕ). x ++ drop 16 place) front ∙ ap (λ (x : List ℕ). root ++ x) parts.1)

list_any-Lacks : (text : List ℕ) → Lacks 47 text → list_any is_slash text ≡ false
list_any-Lacks [] h = refl
list_any-Lacks (x ∷ xs) h = let a : is_slash x ≡ false = h.0 in let b = list_any-Lacks xs h.1 in cc

-- a snapshot's name has no slash
slashless-IsSnapName : (name : List ℕ) → IsSnapName name → list_any is_slash name ≡ false
unfolding has
slashless-IsSnapName name named = list_any-Lacks name (Free-Joined (IsExactly NameStart 1) (IsRun Name 0 99) 47 (Free-IsExactly NameStart 1 47 refl) (Free-IsRun Name 0 99 47 refl) name named)

-- the directory of a snapshot is one component
pub IsInDirectory-snapshot : (name place : List ℕ) → IsInSnapshot name place → IsInDirectory name place
IsInDirectory-snapshot name place inside = record { one = slashless-IsSnapName name inside.named; below = inside.below }

-- the name of the directory that a place lies in is that of its snapshot, where it is a snapshot's name
pub IsInSnapshot-directory : (name part place text : List ℕ) → IsInDirectory part text → text ≡ place → IsSnapName part → part ≡ name → IsInSnapshot name place
IsInSnapshot-directory name part place text inside same named e =
    let there : IsInDirectory name place = subst (λ p. IsInDirectory name p) same (subst (λ n. IsInDirectory n text) e inside) in
    record { named = subst IsSnapName e named; below = there.below }

-- and a snapshot that it lies in has that name
pub name-IsInSnapshot : (name part place text : List ℕ) → IsInDirectory part text → text ≡ place → IsInSnapshot name place → part ≡ name
name-IsInSnapshot name part place text inside same snapshot =
    name-IsInDirectory part name text inside (subst (λ p. IsInDirectory name p) (sym same) (IsInDirectory-snapshot name place snapshot))

-- the files of a snapshot lie below the snapshots' directory
pub below-IsInSnapshot : (name place : List ℕ) → IsInSnapshot name place → is_below (codes ".hbase-snapshot") place ≡ true
below-IsInSnapshot name place inside =
    let parts = IsInDirectory-rest name place (IsInDirectory-snapshot name place inside) in
    (is_below-parts (codes ".hbase-snapshot") place).1 (name ++ 47 ∷ parts.0) parts.1
