-- The files of a tree, and what every tree keeps.
use Rattle.std.proofs.Common.{◌≡◌, ℕ, List, [], ◌∷◌, ◌++◌, Bool, true, false, ◌||◌, ◌&&◌, not, cond, Option, Some, None, refl, ap, sym, subst, inl, inr, ◌∙◌, is_some, nat_cmp, codes, length, take, get_or, ◌<◌, ◌≤◌, ◌+◌, arith, option_map}
use Rattle.std.specs.FinMap.{empty, get, get-empty, insert, get-insert, remove, get-remove, same_map, keys, contains_key, contains_key-keys, from_entries, nat_cmp-IsAntisymmetric, slice_cmp-IsAntisymmetric}
use Rattle.std.specs.List.{list_any}
use Rattle.std.specs.List.Sorted.{IsStrictlySortedBy}
use Rattle.std.specs.Map.{keys_of}
use Rattle.std.specs.BTreeMap.Range.{entries_between}
use Rattle.std.specs.Cmp.{Equal-is}
use Rattle.std.specs.Cmp.Lexicographic.{slice_cmp, texts_ties, nat_list_eq_equiv, nat_list_cmp_total}
use Rattle.std.specs.Ordering.{eq_by_cmp}
use Rattle.std.specs.declared.ops.Bound.TheVariants.{Included, Unbounded}
use Rattle.std.proofs.lemmas.Bool.{true≢false, cases_Bool, cases_lt, or_left, or_right, or_from, or_cases, and_parts, false_from_ne_true, cond-true, cond-false}
use Rattle.ns_tree.specs.declared.file.FileState.{FileState}
use Rattle.ns_tree.specs.declared.namespace.NsError.TheVariants.{Exists, BelowFile}
use Rattle.hb_names.specs.Place.{IsPlace}
use Rattle.std.proofs.lemmas.List.Folds.{list_any-append}
use Rattle.std.proofs.lemmas.Map.Views.{any-filter_same}
use Rattle.ns_tree.specs.Places.{is_below, is_within}
use Rattle.ns_tree.specs.Step.{put_if_some}
use Rattle.ns_tree.specs.Tree.{Tree, HasNoFileBelowAFile, HasPlaces, IsTree, listing, is_taken, is_below_file, create_refusal}
use Rattle.ns_tree.proofs.Below.{first_passes, is_below-take, is_below-same, IsFront-is_below}
use Rattle.ns_tree.proofs.Entries.{Files, is_taken-first}

-- texts that tie are equal
pub same_text : (p q : List ℕ) → eq_by_cmp (slice_cmp nat_cmp) p q ≡ true → p ≡ q
same_text p q e = slice_cmp-IsAntisymmetric nat_cmp-IsAntisymmetric p q ((Equal-is (slice_cmp nat_cmp p q)).0 e)

pub tied_itself : (p : List ℕ) → eq_by_cmp (slice_cmp nat_cmp) p p ≡ true
tied_itself p = sym (texts_ties p p) ∙ nat_list_eq_equiv.refl p

-- a place is within itself
pub is_within-same : (place : List ℕ) → is_within place place ≡ true
is_within-same place = or_left _ _ (nat_list_eq_equiv.refl place)

-- a test that a key passes finds one
pub list_any-tied : (p : List ℕ → Bool) (q : List ℕ) (ks : List (List ℕ)) → list_any (eq_by_cmp (slice_cmp nat_cmp) q) ks ≡ true → p q ≡ true → list_any p ks ≡ true
list_any-tied p q [] has is = cc
list_any-tied p q (k ∷ ks) has is =
    elim (cases_Bool (eq_by_cmp (slice_cmp nat_cmp) q k)) as (λ _. (p k || list_any p ks) ≡ true) [
      | inl here ↦ or_left (p k) _ (subst (λ k. p k ≡ true) (same_text q k here) is)
      | inr not ↦ or_right (p k) _ (list_any-tied p q ks (ap (λ b. b || list_any (eq_by_cmp (slice_cmp nat_cmp) q) ks) (sym not) ∙ has) is)
    ]

pub any_key-from : (p : List ℕ → Bool) (tree : Tree) (q : List ℕ) → contains_key tree q ≡ true → p q ≡ true → list_any p (keys tree) ≡ true
any_key-from p tree q has is = list_any-tied p q (keys tree) (sym (contains_key-keys tree q) ∙ has) is

-- where none is found, no file's place passes
pub any_key-none : (p : List ℕ → Bool) (tree : Tree) (q : List ℕ) → list_any p (keys tree) ≡ false → contains_key tree q ≡ true → p q ≡ false
any_key-none p tree q none has = false_from_ne_true (p q) (λ is. true≢false (sym (any_key-from p tree q has is) ∙ none))

-- a key that a test finds
pub record Found (p : List ℕ → Bool) (ks : List (List ℕ)) : Type 0 where
  pub at : List ℕ
  pub among : list_any (eq_by_cmp (slice_cmp nat_cmp) at) ks ≡ true
  pub passes : p at ≡ true

pub found : (p : List ℕ → Bool) (ks : List (List ℕ)) → list_any p ks ≡ true → Found p ks
found p [] is = absurd (true≢false (sym is))
found p (k ∷ ks) is =
    elim (cases_Bool (p k)) as (λ _. Found p (k ∷ ks)) [
      | inl here ↦ record { at = k; among = or_left _ _ (tied_itself k); passes = here }
      | inr not ↦
          let rest = found p ks (ap (λ b. b || list_any p ks) (sym not) ∙ is) in
          record { at = rest.at; among = or_right (eq_by_cmp (slice_cmp nat_cmp) rest.at k) _ rest.among; passes = rest.passes }
    ]

-- where no file's place passes, none is found
pub no_key : (p : List ℕ → Bool) (tree : Tree) → ((q : List ℕ) → contains_key tree q ≡ true → p q ≡ false) → list_any p (keys tree) ≡ false
no_key p tree none = false_from_ne_true _ (λ is.
    let one = found p (keys tree) is in
    true≢false (sym one.passes ∙ none one.at (contains_key-keys tree one.at ∙ one.among)))

-- where no file stands at a place, the first text from `place/` on says whether one stands below
pub is_taken-range : (tree : Tree) (es range : Files) (place start : List ℕ) → from_entries {R = slice_cmp nat_cmp} es ≡ tree → IsStrictlySortedBy (slice_cmp nat_cmp) (keys_of es)
    → contains_key tree place ≡ false → start ≡ place ++ codes "/" → range ≡ entries_between (slice_cmp nat_cmp) (Included start) Unbounded es
    → is_taken place tree ≡ first_passes (is_below place) (keys_of range)
is_taken-range tree es range place start view sorted absent first is =
    ap (is_taken place) (sym view)
    ∙ is_taken-first place es sorted (ap (λ t. contains_key t place) view ∙ absent)
    ∙ ap (λ r. first_passes (is_below place) (keys_of r)) (ap (λ s. entries_between (slice_cmp nat_cmp) (Included s) Unbounded es) (sym first) ∙ sym is)

-- no file stands in the tree of no files
pub HasNoFileBelowAFile-empty : HasNoFileBelowAFile empty
HasNoFileBelowAFile-empty above below stands lies = ap is_some (get-empty {X = FileState} (slice_cmp nat_cmp) below)

-- fewer files keep it
pub HasNoFileBelowAFile-fewer : (old new : Tree) → ((q : List ℕ) → contains_key new q ≡ true → contains_key old q ≡ true) → HasNoFileBelowAFile old → HasNoFileBelowAFile new
HasNoFileBelowAFile-fewer old new fewer kept above below stands lies =
    false_from_ne_true _ (λ other. true≢false (sym (fewer below other) ∙ kept above below (fewer above stands) lies))

-- no file stands at a directory above a place that is shorter than i
abbrev pub HasNoFileAbove : Tree → List ℕ → ℕ → Type 0
HasNoFileAbove tree place i = (file : List ℕ) → length file < i → is_below file place ≡ true → contains_key tree file ≡ false

pub HasNoFileAbove-slash : (tree : Tree) (place : List ℕ) (i : ℕ) → HasNoFileAbove tree place i → contains_key tree (take i place) ≡ false → HasNoFileAbove tree place (i + 1)
HasNoFileAbove-slash tree place i none absent file short below =
    let front = IsFront-is_below file place below in
    elim (cases_lt (length file) i) as (λ _. contains_key tree file ≡ false) [
      | inl less ↦ none file less below
      | inr more ↦ let same : length file ≡ i = omega arith in ap (contains_key tree) (front.front ∙ ap (λ n. take n place) same) ∙ absent
    ]

pub HasNoFileAbove-other : (tree : Tree) (place : List ℕ) (i : ℕ) → HasNoFileAbove tree place i → (get_or place i 0 ≡ 47 → ⊥) → HasNoFileAbove tree place (i + 1)
HasNoFileAbove-other tree place i none other file short below =
    let front = IsFront-is_below file place below in
    elim (cases_lt (length file) i) as (λ _. contains_key tree file ≡ false) [
      | inl less ↦ none file less below
      | inr more ↦ let same : length file ≡ i = omega arith in absurd (other (ap (λ n. get_or place n 0) (sym same) ∙ front.slash))
    ]

pub is_below_file-none : (tree : Tree) (place : List ℕ) (i : ℕ) → length place ≤ i → HasNoFileAbove tree place i → is_below_file place tree ≡ false
is_below_file-none tree place i all none =
    no_key (λ file. is_below file place) tree (λ file stands. false_from_ne_true _ (λ below.
    let shorter = (IsFront-is_below file place below).shorter in
    true≢false (sym stands ∙ none file (omega arith) below)))

pub is_below_file-found : (tree : Tree) (place : List ℕ) (i : ℕ) → i < length place → get_or place i 0 ≡ 47 → contains_key tree (take i place) ≡ true → is_below_file place tree ≡ true
is_below_file-found tree place i within slash stands = any_key-from (λ file. is_below file place) tree (take i place) stands (is_below-take place i within slash)

-- where a file is put
pub contains_key-insert : (tree : Tree) (place : List ℕ) (file : FileState) (q : List ℕ) → contains_key (insert tree place file) q ≡ (eq_by_cmp (slice_cmp nat_cmp) q place || contains_key tree q)
contains_key-insert tree place file q = ap is_some (get-insert nat_list_cmp_total tree place file q) ∙ by_key (eq_by_cmp (slice_cmp nat_cmp) q place) (get tree q)
  where
    by_key : (b : Bool) (o : Option FileState) → is_some (cond b (Some file) o) ≡ (b || is_some o)
    by_key true o = refl
    by_key false o = refl

-- a place where a file can be made
pub record IsFree (place : List ℕ) (tree : Tree) : Type 0 where
  pub untaken : is_taken place tree ≡ false
  pub unfiled : is_below_file place tree ≡ false

pub IsFree-from_no_refusal : (place : List ℕ) (tree : Tree) → create_refusal place tree ≡ None → IsFree place tree
IsFree-from_no_refusal place tree none = record { untaken = first (is_taken place tree) (is_below_file place tree) none; unfiled = second (is_taken place tree) (is_below_file place tree) none }
  where
    first : (a b : Bool) → cond a (Some Exists) (cond b (Some BelowFile) None) ≡ None → a ≡ false
    first true b none = cc
    first false b none = refl

    second : (a b : Bool) → cond a (Some Exists) (cond b (Some BelowFile) None) ≡ None → b ≡ false
    second true b none = cc
    second false true none = cc
    second false false none = refl

-- a file that is put where one can be made has none below it and lies below none
pub HasNoFileBelowAFile-insert : (tree : Tree) (place : List ℕ) (file : FileState) → HasNoFileBelowAFile tree → create_refusal place tree ≡ None → HasNoFileBelowAFile (insert tree place file)
HasNoFileBelowAFile-insert tree place file old none above below stands lies =
    let free : IsFree place tree = IsFree-from_no_refusal place tree none in
    contains_key-insert tree place file below ∙ elim (or_cases (eq_by_cmp (slice_cmp nat_cmp) above place) (contains_key tree above) (sym (contains_key-insert tree place file above) ∙ stands)) as (λ _. (eq_by_cmp (slice_cmp nat_cmp) below place || contains_key tree below) ≡ false) [
      | inl here ↦
          let within : is_below place below ≡ true = subst (λ q. is_below q below ≡ true) (same_text above place here) lies in
          or_from _ _
          (false_from_ne_true _ (λ tied. true≢false (sym (subst (λ q. is_below place q ≡ true) (same_text below place tied) within) ∙ is_below-same place)))
          (false_from_ne_true _ (λ other. true≢false (sym (or_right _ _ within) ∙ any_key-none (is_within place) tree below free.untaken other)))
      | inr there ↦ or_from _ _
          (false_from_ne_true _ (λ tied. true≢false (sym (subst (λ q. is_below above q ≡ true) (same_text below place tied) lies) ∙ any_key-none (λ q. is_below q place) tree above free.unfiled there)))
          (old above below there lies)
    ]

-- a file that is put in another's place
pub HasNoFileBelowAFile-replace : (tree : Tree) (place : List ℕ) (file : FileState) → contains_key tree place ≡ true → HasNoFileBelowAFile tree → HasNoFileBelowAFile (insert tree place file)
HasNoFileBelowAFile-replace tree place file stood = HasNoFileBelowAFile-fewer tree (insert tree place file) (λ q stands.
    elim (or_cases (eq_by_cmp (slice_cmp nat_cmp) q place) (contains_key tree q) (sym (contains_key-insert tree place file q) ∙ stands)) as (λ _. contains_key tree q ≡ true) [
      | inl here ↦ ap (contains_key tree) (same_text q place here) ∙ stood
      | inr there ↦ there
    ])

-- where a file is taken away
pub contains_key-remove : (tree : Tree) (place q : List ℕ) → contains_key (remove tree place) q ≡ (not (eq_by_cmp (slice_cmp nat_cmp) q place) && contains_key tree q)
contains_key-remove tree place q = ap is_some (get-remove nat_list_cmp_total tree place q) ∙ by_key (eq_by_cmp (slice_cmp nat_cmp) q place) (get tree q)
  where
    by_key : (b : Bool) (o : Option FileState) → is_some (cond b None o) ≡ (not b && is_some o)
    by_key true o = refl
    by_key false o = refl

pub HasNoFileBelowAFile-remove : (tree : Tree) (place : List ℕ) → HasNoFileBelowAFile tree → HasNoFileBelowAFile (remove tree place)
HasNoFileBelowAFile-remove tree place = HasNoFileBelowAFile-fewer tree (remove tree place) (λ q stands. (and_parts (not (eq_by_cmp (slice_cmp nat_cmp) q place)) (contains_key tree q) (sym (contains_key-remove tree place q) ∙ stands)).1)

-- a listed text is one of the tree's
pub contains_key-listed : (tree : Tree) (front rest : List (List ℕ)) (q : List ℕ) → front ++ q ∷ rest ≡ keys tree → contains_key tree q ≡ true
contains_key-listed tree front rest q is =
    contains_key-keys tree q ∙ ap (list_any (eq_by_cmp (slice_cmp nat_cmp) q)) (sym is) ∙ list_any-append (eq_by_cmp (slice_cmp nat_cmp) q) front (q ∷ rest)
    ∙ or_right (list_any (eq_by_cmp (slice_cmp nat_cmp) q) front) _ (or_left _ _ (tied_itself q))

pub contains_key-listed_below : (dir : List ℕ) (tree : Tree) (front rest : List (List ℕ)) (q : List ℕ) → front ++ q ∷ rest ≡ listing (Some dir) tree → contains_key tree q ≡ true
contains_key-listed_below dir tree front rest q is =
    let among = any-filter_same (eq_by_cmp (slice_cmp nat_cmp) q) (is_below dir) (is_below dir q) (λ k h. ap (is_below dir) (sym (same_text q k h))) (keys tree) in
    let here = list_any-append (eq_by_cmp (slice_cmp nat_cmp) q) front (q ∷ rest) ∙ or_right (list_any (eq_by_cmp (slice_cmp nat_cmp) q) front) _ (or_left _ _ (tied_itself q)) in
    contains_key-keys tree q ∙ (and_parts (is_below dir q) _ (sym among ∙ ap (list_any (eq_by_cmp (slice_cmp nat_cmp) q)) (sym is) ∙ here)).1

-- the tree of no files, one with a file more, or another in its place, and one with a file less
pub IsTree-empty : IsTree empty
IsTree-empty = record {
  apart = HasNoFileBelowAFile-empty;
  placed = λ place stands. absurd (true≢false (sym stands ∙ ap is_some (get-empty {X = FileState} (slice_cmp nat_cmp) place)));
}

HasPlaces-insert : (tree : Tree) (place : List ℕ) (file : FileState) → IsPlace place → HasPlaces tree → HasPlaces (insert tree place file)
HasPlaces-insert tree place file valid old q stands =
    elim (or_cases (eq_by_cmp (slice_cmp nat_cmp) q place) (contains_key tree q) (sym (contains_key-insert tree place file q) ∙ stands)) as (λ _. IsPlace q) [
      | inl here ↦ subst IsPlace (sym (same_text q place here)) valid
      | inr there ↦ old q there
    ]

pub IsTree-insert : (tree : Tree) (place : List ℕ) (file : FileState) → IsTree tree → IsPlace place → create_refusal place tree ≡ None → IsTree (insert tree place file)
IsTree-insert tree place file old valid none = record { apart = HasNoFileBelowAFile-insert tree place file old.apart none; placed = HasPlaces-insert tree place file valid old.placed }

pub IsTree-replace : (tree : Tree) (place : List ℕ) (file : FileState) → contains_key tree place ≡ true → IsTree tree → IsTree (insert tree place file)
IsTree-replace tree place file stood old = record { apart = HasNoFileBelowAFile-replace tree place file stood old.apart; placed = HasPlaces-insert tree place file (old.placed place stood) old.placed }

pub IsTree-remove : (tree : Tree) (place : List ℕ) → IsTree tree → IsTree (remove tree place)
IsTree-remove tree place old = record {
  apart = HasNoFileBelowAFile-remove tree place old.apart;
  placed = λ q stands. old.placed q (and_parts (not (eq_by_cmp (slice_cmp nat_cmp) q place)) (contains_key tree q) (sym (contains_key-remove tree place q) ∙ stands)).1;
}

none_from_absent : (o : Option FileState) → is_some o ≡ false → o ≡ None
none_from_absent None e = refl
none_from_absent (Some file) e = absurd (true≢false e)

-- where no file stands, none is taken away
pub remove_absent : (tree : Tree) (place : List ℕ) → contains_key tree place ≡ false → remove tree place ≡ tree
remove_absent tree place absent = same_map nat_list_cmp_total (slice_cmp-IsAntisymmetric nat_cmp-IsAntisymmetric) _ _ (λ q.
    get-remove nat_list_cmp_total tree place q ∙ elim (cases_Bool (eq_by_cmp (slice_cmp nat_cmp) q place)) as (λ _. cond (eq_by_cmp (slice_cmp nat_cmp) q place) None (get tree q) ≡ get tree q) [
      | inl here ↦ cond-true _ _ _ here ∙ sym (ap (get tree) (same_text q place here) ∙ none_from_absent _ absent)
      | inr there ↦ cond-false _ _ _ there
    ])

-- and none is changed
pub change-absent : (change : FileState → FileState) (tree : Tree) (place : List ℕ) → contains_key tree place ≡ false → put_if_some (option_map change (get tree place)) place tree ≡ tree
change-absent change tree place absent = ap (λ o. put_if_some (option_map change o) place tree) (none_from_absent _ absent)

-- a file that is changed where it stands
pub IsTree-change : (change : FileState → FileState) (tree : Tree) (place : List ℕ) → IsTree tree → IsTree (put_if_some (option_map change (get tree place)) place tree)
IsTree-change change tree place old = by (get tree place) refl
  where
    by : (o : Option FileState) → get tree place ≡ o → IsTree (put_if_some (option_map change o) place tree)
    by None e = old
    by (Some file) e = IsTree-replace tree place (change file) (ap is_some e) old
