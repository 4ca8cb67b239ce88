-- Files by their families.
use Rattle.std.proofs.Common.{◌≡◌, ℕ, zero, suc, ◌^◌, ◌<◌, ◌≤◌, length, length-drop, arith, Bool, true, false, cond, List, [], ◌∷◌, ◌++◌, map, take, drop, Option, Some, None, refl, sym, ap, subst, ◌∙◌}
use Rattle.std.specs.Prelude.{is_some, slice_get}
use Rattle.std.specs.Str.{bytes_eq}
use Rattle.std.specs.Ordering.{nat_cmp, on, is_eq}
use Rattle.std.specs.declared.cmp.Ordering.{Ordering}
use Rattle.std.specs.declared.cmp.Ordering.TheVariants.{Less, Equal, Greater}
use Rattle.std.specs.Cmp.Lexicographic.{slice_cmp, nat_list_cmp_total, texts_ties}
use Rattle.std.specs.List.{AllByRecursion, flat_map}
use Rattle.std.specs.List.Sorted.{IsStrictlySortedBy}
use Rattle.std.proofs.lemmas.List.{append_assoc, append-nil}
use Rattle.std.proofs.lemmas.Cmp.{tied_back}
use Rattle.std.proofs.lemmas.Slice.Eq.{bytes_eq-Decides}
use Rattle.hb_grammar.specs.AtLeast.{IsAtLeast}
use Rattle.hb_grammar.specs.Rows.{RowsFrom}
use Rattle.hb_names.specs.FamilyName.{IsFamilyName}
use Rattle.snapshot_records.specs.Files.{File, IsEntryName, entries}
use Rattle.manifest_writers.specs.Written.{Entry, FamilyFiles, file_of, in_front, by_family, run_length}
use Rattle.manifest_writers.specs.Writable.{HasSplitRow, IsWritableFile, IsFileBehind, AreWritableFiles}

same_names : (a b : List ℕ) → bytes_eq a b ≡ true → a ≡ b
same_names a b = (bytes_eq-Decides a b).0

-- ---- their files are these

entries_in_front : (e : Entry) (f : FamilyFiles) (fs : List FamilyFiles) (b : Bool) → (b ≡ true → f.0 ≡ e.0)
    → entries (cond b ((f.0, file_of e ∷ f.1) ∷ fs) ((e.0, file_of e ∷ []) ∷ f ∷ fs)) ≡ e ∷ entries (f ∷ fs)
entries_in_front e f fs true same = ap (λ (name : List ℕ). (name, e.1, e.2, e.3) ∷ entries (f ∷ fs)) (same refl)
entries_in_front e f fs false same = refl

entries-in_front : (e : Entry) (fs : List FamilyFiles) → entries (in_front e fs) ≡ e ∷ entries fs
entries-in_front e [] = refl
entries-in_front e (f ∷ fs) = entries_in_front e f fs (bytes_eq f.0 e.0) (same_names f.0 e.0)

pub entries-by_family : (es : List Entry) → entries (by_family es) ≡ es
entries-by_family [] = refl
entries-by_family (e ∷ es) = entries-in_front e (by_family es) ∙ ap (λ (rest : List Entry). e ∷ rest) (entries-by_family es)

-- ---- the families at the front, one by one

with_run : Entry → Entry → List Entry → List ℕ → List FamilyFiles
with_run e x xs name = (name, file_of e ∷ file_of x ∷ map file_of (take (run_length name xs) xs)) ∷ by_family (drop (run_length name xs) xs)

run_in_front : (e x : Entry) (xs : List Entry) (b : Bool) → (b ≡ true → x.0 ≡ e.0)
    → by_family (x ∷ xs) ≡ (x.0, file_of x ∷ map file_of (take (run_length x.0 xs) xs)) ∷ by_family (drop (run_length x.0 xs) xs)
    → cond b (with_run e x xs x.0)
    ((e.0, file_of e ∷ []) ∷ (x.0, file_of x ∷ map file_of (take (run_length x.0 xs) xs)) ∷ by_family (drop (run_length x.0 xs) xs))
    ≡ (e.0, file_of e ∷ map file_of (take (cond b (suc (run_length e.0 xs)) 0) (x ∷ xs))) ∷ by_family (drop (cond b (suc (run_length e.0 xs)) 0) (x ∷ xs))
unfolding with_run
run_in_front e x xs true same rest = ap (with_run e x xs) (same refl)
run_in_front e x xs false same rest = ap (λ (fs : List FamilyFiles). (e.0, file_of e ∷ []) ∷ fs) (sym rest)

pub by_family-run : (e : Entry) (es : List Entry)
    → by_family (e ∷ es) ≡ (e.0, file_of e ∷ map file_of (take (run_length e.0 es) es)) ∷ by_family (drop (run_length e.0 es) es)
unfolding with_run
by_family-run e [] = refl
by_family-run e (x ∷ xs) =
    let rest = by_family-run x xs in
    ap (in_front e) rest ∙ run_in_front e x xs (bytes_eq x.0 e.0) (same_names x.0 e.0) rest

same_itself : (name : List ℕ) → bytes_eq name name ≡ true
same_itself name = (bytes_eq-Decides name name).1 refl

pub run_first : (e : Entry) (es : List Entry) → run_length e.0 (e ∷ es) ≡ suc (run_length e.0 es)
run_first e es = ap (λ (b : Bool). cond b (suc (run_length e.0 es)) 0) (same_itself e.0)

-- a file is of its own family
pub run_some : (files : List Entry) (e : Entry) (es : List Entry) → files ≡ e ∷ es → 1 ≤ run_length e.0 files
run_some files e es whole =
    subst (λ (fs : List Entry). 1 ≤ run_length e.0 fs) (sym whole) (let first = run_first e es in omega (arith, first))

pub by_family-first : (files : List Entry) (e : Entry) (es : List Entry) → files ≡ e ∷ es
    → by_family files ≡ (e.0, map file_of (take (run_length e.0 files) files)) ∷ by_family (drop (run_length e.0 files) files)
by_family-first files e es whole =
    let split : ℕ → List FamilyFiles = λ n. (e.0, map file_of (take n (e ∷ es))) ∷ by_family (drop n (e ∷ es)) in
    subst (λ (fs : List Entry). by_family fs ≡ (e.0, map file_of (take (run_length e.0 fs) fs)) ∷ by_family (drop (run_length e.0 fs) fs)) (sym whole)
    (by_family-run e es ∙ sym (ap split (run_first e es)))

-- the first of some files, and the others
first_of_files : (files : List Entry) (e : Entry) → Some e ≡ slice_get files 0 → files ≡ e ∷ drop 1 files
first_of_files [] e is = cc
first_of_files (f ∷ files) e is = let same : e ≡ f = cc in ap (λ (x : Entry). x ∷ files) (sym same)

-- what is written of the families from a file on, with the first of them written
pub one_family_more : (bytes : FamilyFiles → List ℕ) (out new whole : List ℕ) (rest run behind : List Entry) (e : Entry) → Some e ≡ slice_get rest 0
    → run ≡ take (run_length e.0 rest) rest → behind ≡ drop (run_length e.0 rest) rest → new ≡ out ++ bytes (e.0, map file_of run)
    → out ++ flat_map bytes (by_family rest) ≡ whole → new ++ flat_map bytes (by_family behind) ≡ whole
one_family_more bytes out new whole rest run behind e first run_is behind_is new_is so_far =
    let split : List Entry → List Entry → List FamilyFiles = λ run behind. (e.0, map file_of run) ∷ by_family behind in
    let families : split run behind ≡ by_family rest = (λ i. split (run_is i) (behind_is i)) ∙ sym (by_family-first rest e (drop 1 rest) (first_of_files rest e first)) in
    ap (λ (x : List ℕ). x ++ flat_map bytes (by_family behind)) new_is
    ∙ append_assoc out (bytes (e.0, map file_of run)) (flat_map bytes (by_family behind))
    ∙ ap (λ (fs : List FamilyFiles). out ++ flat_map bytes fs) families
    ∙ so_far

-- fewer files are left
pub fewer_left : (rest behind : List Entry) (e : Entry) → Some e ≡ slice_get rest 0 → behind ≡ drop (run_length e.0 rest) rest → run_length e.0 rest ≤ length rest → length behind < length rest
fewer_left rest behind e first behind_is within =
    let some = run_some rest e (drop 1 rest) (first_of_files rest e first) in
    let left = ap length behind_is ∙ length-drop (run_length e.0 rest) rest in
    omega arith

-- no file is left
pub no_family_more : (bytes : FamilyFiles → List ℕ) (out whole : List ℕ) (rest : List Entry) → None ≡ slice_get rest 0 → out ++ flat_map bytes (by_family rest) ≡ whole → out ≡ whole
no_family_more bytes out whole [] none so_far = sym (append-nil out) ∙ so_far
no_family_more bytes out whole (e ∷ es) none so_far = cc

-- ---- their names ascend

abbrev pub name_cmp : FamilyFiles → FamilyFiles → Ordering
name_cmp = on (λ (f : FamilyFiles). f.0) (slice_cmp nat_cmp)

abbrev StartsAtLeast : List ℕ → List FamilyFiles → Type 0
StartsAtLeast name [] = Unit {0}
StartsAtLeast name (f ∷ fs) = IsAtLeast name f.0

strictly : (o : Ordering) → (o ≡ Greater → ⊥) → (o ≡ Equal → ⊥) → o ≡ Less
strictly Less a b = refl
strictly Equal a b = absurd (b refl)
strictly Greater a b = absurd (a refl)

not_equal : (a b : List ℕ) → bytes_eq b a ≡ false → slice_cmp nat_cmp a b ≡ Equal → ⊥
not_equal a b apart equal =
    let back = tied_back nat_list_cmp_total a b equal in
    let tied = texts_ties b a ∙ ap is_eq back in
    cc

above_all : (name : List ℕ) (f : FamilyFiles) (fs : List FamilyFiles) → slice_cmp nat_cmp name f.0 ≡ Less → AllByRecursion (λ y. name_cmp f y ≡ Less) fs
    → AllByRecursion (λ (y : FamilyFiles). slice_cmp nat_cmp name y.0 ≡ Less) fs
above_all name f [] less all = tt
above_all name f (g ∷ fs) less all = (nat_list_cmp_total.trans name f.0 g.0 less all.0, above_all name f fs less all.1)

rising_in_front : (e : Entry) (f : FamilyFiles) (fs : List FamilyFiles) (b : Bool) → b ≡ bytes_eq f.0 e.0 → IsAtLeast e.0 f.0 → IsStrictlySortedBy name_cmp (f ∷ fs)
    → IsStrictlySortedBy name_cmp (cond b ((f.0, file_of e ∷ f.1) ∷ fs) ((e.0, file_of e ∷ []) ∷ f ∷ fs))
unfolding IsStrictlySortedBy
rising_in_front e f fs true is least rise = rise
rising_in_front e f fs false is least rise =
    let less = strictly (slice_cmp nat_cmp e.0 f.0) least (not_equal e.0 f.0 (sym is)) in
    ((less, above_all e.0 f fs less rise.0), rise)

in_front-rising : (e : Entry) (fs : List FamilyFiles) → StartsAtLeast e.0 fs → IsStrictlySortedBy name_cmp fs → IsStrictlySortedBy name_cmp (in_front e fs)
unfolding IsStrictlySortedBy
in_front-rising e [] least rise = (tt, tt)
in_front-rising e (f ∷ fs) least rise = rising_in_front e f fs (bytes_eq f.0 e.0) refl least rise

starts : (name : List ℕ) (e : Entry) (es : List Entry) → IsAtLeast name e.0 → StartsAtLeast name (by_family (e ∷ es))
unfolding with_run
starts name e es least = subst (StartsAtLeast name) (sym (by_family-run e es)) least

rising_behind : (last : Entry) (es : List Entry) → RowsFrom IsFileBehind (Some last) es → StartsAtLeast last.0 (by_family es) × IsStrictlySortedBy name_cmp (by_family es)
unfolding IsStrictlySortedBy
rising_behind last [] rows = (tt, tt)
rising_behind last (e ∷ es) rows =
    let rest = rising_behind e es rows.1 in
    (starts last.0 e es rows.0.1, in_front-rising e (by_family es) rest.0 rest.1)

pub by_family-rising : (es : List Entry) → AreWritableFiles es → IsStrictlySortedBy name_cmp (by_family es)
unfolding IsStrictlySortedBy
by_family-rising [] rows = tt
by_family-rising (e ∷ es) rows =
    let rest = rising_behind e es rows.1 in
    in_front-rising e (by_family es) rest.0 rest.1

-- ---- each of them can be written

pub record IsWritableInFamily (file : File) : Type 0 where
  pub name : IsEntryName file.0 (file.0, is_some file.1)
  pub half : HasSplitRow file.1
  pub size : file.2 < 2 ^ 64

pub record IsWritableFamilyFiles (family : FamilyFiles) : Type 0 where
  pub name : IsFamilyName family.0
  pub files : AllByRecursion IsWritableInFamily family.1

file_in_family : (e : Entry) → IsWritableFile e → IsWritableInFamily (file_of e)
file_in_family e is = record { name = is.name; half = is.half; size = is.size }

all_in_front : (e : Entry) (f : FamilyFiles) (fs : List FamilyFiles) (b : Bool) → IsWritableFile e → AllByRecursion IsWritableFamilyFiles (f ∷ fs)
    → AllByRecursion IsWritableFamilyFiles (cond b ((f.0, file_of e ∷ f.1) ∷ fs) ((e.0, file_of e ∷ []) ∷ f ∷ fs))
all_in_front e f fs true is all = (record { name = all.0.name; files = (file_in_family e is, all.0.files) }, all.1)
all_in_front e f fs false is all = (record { name = is.family; files = (file_in_family e is, tt) }, all)

in_front-all : (e : Entry) (fs : List FamilyFiles) → IsWritableFile e → AllByRecursion IsWritableFamilyFiles fs → AllByRecursion IsWritableFamilyFiles (in_front e fs)
in_front-all e [] is all = (record { name = is.family; files = (file_in_family e is, tt) }, tt)
in_front-all e (f ∷ fs) is all = all_in_front e f fs (bytes_eq f.0 e.0) is all

all_behind : (last : Entry) (es : List Entry) → RowsFrom IsFileBehind (Some last) es → AllByRecursion IsWritableFamilyFiles (by_family es)
all_behind last [] rows = tt
all_behind last (e ∷ es) rows = in_front-all e (by_family es) rows.0.0 (all_behind e es rows.1)

pub by_family-all : (es : List Entry) → AreWritableFiles es → AllByRecursion IsWritableFamilyFiles (by_family es)
by_family-all [] rows = tt
by_family-all (e ∷ es) rows = in_front-all e (by_family es) rows.0 (all_behind e es rows.1)
