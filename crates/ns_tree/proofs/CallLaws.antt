-- What stands at every place after a call, what calls keep, and which commute. A call here is one that nothing refuses.
use Rattle.std.proofs.Common.{◌≡◌, ℕ, List, Bool, true, false, ◌&&◌, ◌||◌, cond, Option, Some, None, option_map, is_some, refl, sym, ap, ◌∙◌, nat_cmp, inl, inr}
use Rattle.std.specs.FinMap.{get, get-insert, get-remove, contains_key, contains_key-keys, keys, same_map, nat_cmp-IsAntisymmetric, slice_cmp-IsAntisymmetric}
use Rattle.std.specs.List.{list_any}
use Rattle.std.specs.Ordering.{eq_by_cmp}
use Rattle.std.specs.Cmp.{both_ways}
use Rattle.std.specs.Cmp.Lexicographic.{slice_cmp, nat_list_cmp_total}
use Rattle.std.proofs.lemmas.Bool.{true≢false, cases_Bool, or_left, or_right, or_parts, false_from_ne_true, cond-true, cond-false, and_parts}
use Rattle.std.proofs.lemmas.Map.Views.{any-filter_same}
use Rattle.ns_tree.specs.declared.file.FileState.{FileState}
use Rattle.ns_tree.specs.declared.namespace.NsError.TheVariants.{Missing, Inside, Exists, BelowFile}
use Rattle.ns_tree.specs.Apart.{is_reached, is_passed, AreApart}
use Rattle.ns_tree.specs.Places.{is_below, is_within, is_too_deep, target_of}
use Rattle.ns_tree.specs.Moves.{is_among}
use Rattle.ns_tree.specs.Step.{Write, Create, Append, Rename, Delete, Touch, step, refusal, put_if_some, with_bytes_added, with_moment, moved, is_inside}
use Rattle.ns_tree.specs.Tree.{Tree, HasNoFileBelowAFile, listing, is_taken, is_below_file, create_refusal}
use Rattle.ns_tree.proofs.Leads.{is_within-target}
use Rattle.ns_tree.proofs.Moved.{get-moved-to, get-moved-from, get-moved-other}
use Rattle.ns_tree.proofs.Renaming.{IsMovable-renamable, HasNoFileBelowAFile-renamed}
use Rattle.ns_tree.proofs.Trees.{same_text, any_key-from, found, is_within-same, HasNoFileBelowAFile-insert, HasNoFileBelowAFile-replace, HasNoFileBelowAFile-remove}

-- a changed file stands at its place, and all others as before
pub get-change : (change : FileState → FileState) (place : List ℕ) (tree : Tree) (q : List ℕ)
    → get (put_if_some (option_map change (get tree place)) place tree) q ≡ cond (eq_by_cmp (slice_cmp nat_cmp) q place) (option_map change (get tree place)) (get tree q)
get-change change place tree q = by (get tree place) refl
  where
    by : (o : Option FileState) → get tree place ≡ o → get (put_if_some (option_map change o) place tree) q ≡ cond (eq_by_cmp (slice_cmp nat_cmp) q place) (option_map change o) (get tree q)
    by None e = elim (cases_Bool (eq_by_cmp (slice_cmp nat_cmp) q place)) as (λ _. get tree q ≡ cond (eq_by_cmp (slice_cmp nat_cmp) q place) None (get tree q)) [
      | inl here ↦ ap (get tree) (same_text q place here) ∙ e ∙ sym (cond-true _ _ _ here)
      | inr there ↦ sym (cond-false _ _ _ there)
    ]
    by (Some file) e = get-insert nat_list_cmp_total tree place (change file) q

-- after a rename: at or below the new place what stood at or below the old one, there nothing, elsewhere what stood
pub get-rename : (from to : List ℕ) (tree : Tree) (q : List ℕ) → refusal (Rename from to) tree ≡ None
    → get (step (Rename from to) tree) q ≡ cond (is_within to q) (get tree (target_of to from q)) (cond (is_within from q) None (get tree q))
get-rename from to tree q none =
    let can = IsMovable-renamable from to tree none in
    elim (cases_Bool (is_within to q)) as (λ _. get (moved from to tree) q ≡ cond (is_within to q) (get tree (target_of to from q)) (cond (is_within from q) None (get tree q))) [
      | inl h ↦ get-moved-to from to tree q can h ∙ sym (cond-true _ _ _ h)
      | inr h ↦ elim (cases_Bool (is_within from q)) as (λ _. get (moved from to tree) q ≡ cond (is_within to q) (get tree (target_of to from q)) (cond (is_within from q) None (get tree q))) [
        | inl f ↦ get-moved-from from to tree q can f ∙ sym (cond-false _ _ _ h ∙ cond-true _ _ _ f)
        | inr f ↦ get-moved-other from to tree q h f ∙ sym (cond-false _ _ _ h ∙ cond-false _ _ _ f)
      ]
    ]

or_false : (b : Bool) → (b || false) ≡ b
or_false true = refl
or_false false = refl

-- what isn't reached at a place is no text that ties with it
untied : (p q : List ℕ) → is_within p q || false ≡ false → eq_by_cmp (slice_cmp nat_cmp) q p ≡ false
untied p q h = false_from_ne_true _ (λ e. true≢false (sym (or_left (is_within p q) false (ap (is_within p) (same_text q p e) ∙ is_within-same p)) ∙ h))

-- a call changes nothing at a place that it doesn't reach
pub get-step-elsewhere : (call : Write) (tree : Tree) (q : List ℕ) → refusal call tree ≡ None → is_reached call q ≡ false → get (step call tree) q ≡ get tree q
get-step-elsewhere (Create place bytes) tree q none out = get-insert nat_list_cmp_total tree place _ q ∙ cond-false _ _ _ (untied place q out)
get-step-elsewhere (Append place bytes) tree q none out = get-change _ place tree q ∙ cond-false _ _ _ (untied place q out)
get-step-elsewhere (Rename from to) tree q none out =
    let parts = or_parts (is_within from q) (is_within to q || false) out in
    get-rename from to tree q none ∙ cond-false _ _ _ (or_parts (is_within to q) false parts.1).0 ∙ cond-false _ _ _ parts.0
get-step-elsewhere (Delete place) tree q none out = get-remove nat_list_cmp_total tree place q ∙ cond-false _ _ _ (untied place q out)
get-step-elsewhere (Touch place moment) tree q none out = get-change _ place tree q ∙ cond-false _ _ _ (untied place q out)

-- trees that agree where a call reaches agree there after it
pub get-step-reached : (call : Write) (tree other : Tree) (q : List ℕ) → refusal call tree ≡ None → refusal call other ≡ None
    → ((k : List ℕ) → is_reached call k ≡ true → get other k ≡ get tree k) → is_reached call q ≡ true → get (step call other) q ≡ get (step call tree) q
get-step-reached (Create place bytes) tree other q none free same in_reach =
    get-insert nat_list_cmp_total other place _ q ∙ ap (cond (eq_by_cmp (slice_cmp nat_cmp) q place) _) (same q in_reach) ∙ sym (get-insert nat_list_cmp_total tree place _ q)
get-step-reached (Append place bytes) tree other q none free same in_reach =
    get-change _ place other q
    ∙ ap (λ o. cond (eq_by_cmp (slice_cmp nat_cmp) q place) (option_map (with_bytes_added bytes) o) (get other q)) (same place (or_left _ _ (is_within-same place)))
    ∙ ap (cond (eq_by_cmp (slice_cmp nat_cmp) q place) _) (same q in_reach) ∙ sym (get-change _ place tree q)
get-step-reached (Rename from to) tree other q none free same in_reach =
    get-rename from to other q free ∙ rename_alike ∙ sym (get-rename from to tree q none)
  where
    rename_alike : cond (is_within to q) (get other (target_of to from q)) (cond (is_within from q) None (get other q)) ≡ cond (is_within to q) (get tree (target_of to from q)) (cond (is_within from q) None (get tree q))
    rename_alike = elim (cases_Bool (is_within to q)) as (λ _. cond (is_within to q) (get other (target_of to from q)) (cond (is_within from q) None (get other q)) ≡ cond (is_within to q) (get tree (target_of to from q)) (cond (is_within from q) None (get tree q))) [
      | inl h ↦ cond-true _ _ _ h ∙ same (target_of to from q) (or_left _ _ (is_within-target to from q h)) ∙ sym (cond-true _ _ _ h)
      | inr h ↦ cond-false _ _ _ h ∙ ap (cond (is_within from q) None) (same q in_reach) ∙ sym (cond-false _ _ _ h)
    ]
get-step-reached (Delete place) tree other q none free same in_reach =
    get-remove nat_list_cmp_total other place q ∙ ap (cond (eq_by_cmp (slice_cmp nat_cmp) q place) None) (same q in_reach) ∙ sym (get-remove nat_list_cmp_total tree place q)
get-step-reached (Touch place moment) tree other q none free same in_reach =
    get-change _ place other q
    ∙ ap (λ o. cond (eq_by_cmp (slice_cmp nat_cmp) q place) (option_map (with_moment moment) o) (get other q)) (same place (or_left _ _ (is_within-same place)))
    ∙ ap (cond (eq_by_cmp (slice_cmp nat_cmp) q place) _) (same q in_reach) ∙ sym (get-change _ place tree q)

-- trees with the same keys among those that pass a test have one together
any_key-same : (p : List ℕ → Bool) (tree other : Tree) → ((q : List ℕ) → p q ≡ true → contains_key other q ≡ contains_key tree q) → list_any p (keys other) ≡ list_any p (keys tree)
any_key-same p tree other same = both_ways _ _ (one other tree (λ q h. sym (same q h))) (one tree other same)
  where
    one : (s t : Tree) → ((q : List ℕ) → p q ≡ true → contains_key t q ≡ contains_key s q) → list_any p (keys s) ≡ true → list_any p (keys t) ≡ true
    one s t alike h = let it = found p (keys s) h in any_key-from p t it.at (alike it.at it.passes ∙ contains_key-keys s it.at ∙ it.among) it.passes

create_refusal-same : (place : List ℕ) (tree other : Tree) → ((q : List ℕ) → is_within place q ≡ true → contains_key other q ≡ contains_key tree q) → ((q : List ℕ) → is_below q place ≡ true → contains_key other q ≡ contains_key tree q)
    → create_refusal place other ≡ create_refusal place tree
create_refusal-same place tree other within above =
    ap (λ b. cond b (Some Exists) (cond (is_below_file place other) (Some BelowFile) None)) (any_key-same (is_within place) tree other within)
    ∙ ap (λ b. cond (is_taken place tree) (Some Exists) (cond b (Some BelowFile) None)) (any_key-same (λ file. is_below file place) tree other above)

-- a call is refused alike over trees with the same files where it reaches and above
pub refusal-same : (call : Write) (tree other : Tree) → ((q : List ℕ) → is_reached call q ≡ true → contains_key other q ≡ contains_key tree q) → ((q : List ℕ) → is_passed call q ≡ true → contains_key other q ≡ contains_key tree q)
    → refusal call other ≡ refusal call tree
refusal-same (Create place bytes) tree other within above = create_refusal-same place tree other (λ q h. within q (or_left _ _ h)) (λ q h. above q (or_left _ _ h))
refusal-same (Append place bytes) tree other within above = ap (λ b. cond b None (Some Missing)) (within place (or_left _ _ (is_within-same place)))
refusal-same (Rename from to) tree other within above =
    let taken = any_key-same (is_within from) tree other (λ q h. within q (or_left _ _ h)) in
    let deep = any_key-same (λ place. is_within from place && is_too_deep (target_of from to place)) tree other
    (λ q h. within q (or_left _ _ (and_parts (is_within from q) (is_too_deep (target_of from to q)) h).0)) in
    let free = create_refusal-same to tree other (λ q h. within q (or_right (is_within from q) _ (or_left _ _ h))) (λ q h. above q (or_right (is_below q from) _ (or_left _ _ h))) in
    ap (λ b. cond b (cond (is_inside from to other) (Some Inside) (create_refusal to other)) (Some Missing)) taken
    ∙ ap (λ b. cond (is_taken from tree) (cond (is_below from to || b) (Some Inside) (create_refusal to other)) (Some Missing)) deep
    ∙ ap (λ o. cond (is_taken from tree) (cond (is_inside from to tree) (Some Inside) o) (Some Missing)) free
refusal-same (Delete place) tree other within above = ap (λ b. cond b None (Some Missing)) (within place (or_left _ _ (is_within-same place)))
refusal-same (Touch place moment) tree other within above = ap (λ b. cond b None (Some Missing)) (within place (or_left _ _ (is_within-same place)))

-- a changed file keeps it
changed_keeps : (change : FileState → FileState) (place : List ℕ) (tree : Tree) → HasNoFileBelowAFile tree → HasNoFileBelowAFile (put_if_some (option_map change (get tree place)) place tree)
changed_keeps change place tree kept = by (get tree place) refl
  where
    by : (o : Option FileState) → get tree place ≡ o → HasNoFileBelowAFile (put_if_some (option_map change o) place tree)
    by None e = kept
    by (Some file) e = HasNoFileBelowAFile-replace tree place (change file) (ap is_some e) kept

-- a call that nothing refuses keeps that no file stands below a file
pub HasNoFileBelowAFile-step : (call : Write) (tree : Tree) → refusal call tree ≡ None → HasNoFileBelowAFile tree → HasNoFileBelowAFile (step call tree)
HasNoFileBelowAFile-step (Create place bytes) tree none kept = HasNoFileBelowAFile-insert tree place _ kept none
HasNoFileBelowAFile-step (Append place bytes) tree none kept = changed_keeps _ place tree kept
HasNoFileBelowAFile-step (Rename from to) tree none kept = HasNoFileBelowAFile-renamed from to tree none kept
HasNoFileBelowAFile-step (Delete place) tree none kept = HasNoFileBelowAFile-remove tree place kept
HasNoFileBelowAFile-step (Touch place moment) tree none kept = changed_keeps _ place tree kept

-- a call at places apart from another's is refused or not as before it
pub refusal-step : (call other : Write) (tree : Tree) → AreApart call other → refusal other tree ≡ None → refusal call (step other tree) ≡ refusal call tree
refusal-step call other tree apart none = refusal-same call tree (step other tree)
    (λ q h. ap is_some (get-step-elsewhere other tree q none (apart.reached q h)))
    (λ q h. ap is_some (get-step-elsewhere other tree q none (apart.passed q h)))

-- calls at places apart commute
pub step-step : (call other : Write) (tree : Tree) → AreApart call other → refusal call tree ≡ None → refusal other tree ≡ None → step call (step other tree) ≡ step other (step call tree)
step-step call other tree apart none free = same_map nat_list_cmp_total (slice_cmp-IsAntisymmetric nat_cmp-IsAntisymmetric) _ _ (λ q.
    elim (cases_Bool (is_reached call q)) as (λ _. get (step call (step other tree)) q ≡ get (step other (step call tree)) q) [
      | inl h ↦
          get-step-reached call tree (step other tree) q none second (λ k reach. get-step-elsewhere other tree k free (apart.reached k reach)) h
          ∙ sym (get-step-elsewhere other (step call tree) q first (apart.reached q h))
      | inr h ↦ get-step-elsewhere call (step other tree) q second h ∙ elim (cases_Bool (is_reached other q)) as (λ _. get (step other tree) q ≡ get (step other (step call tree)) q) [
        | inl o ↦ sym (get-step-reached other tree (step call tree) q free first (λ k reach. get-step-elsewhere call tree k none (unreached k reach)) o)
        | inr o ↦ get-step-elsewhere other tree q free o ∙ sym (get-step-elsewhere other (step call tree) q first o ∙ get-step-elsewhere call tree q none h)
      ]
    ])
  where
    unreached : (k : List ℕ) → is_reached other k ≡ true → is_reached call k ≡ false
    unreached k o = false_from_ne_true _ (λ h. true≢false (sym o ∙ apart.reached k h))

    second : refusal call (step other tree) ≡ None
    second = refusal-step call other tree apart free ∙ none

    first : refusal other (step call tree) ≡ None
    first = refusal-same other tree (step call tree)
        (λ q o. ap is_some (get-step-elsewhere call tree q none (unreached q o)))
        (λ q o. ap is_some (get-step-elsewhere call tree q none (apart.passing q o))) ∙ free

-- a listing has exactly the places below that stand
pub is_among-listing : (dir : List ℕ) (tree : Tree) (q : List ℕ) → is_among (listing (Some dir) tree) q ≡ (is_below dir q && contains_key tree q)
is_among-listing dir tree q =
    any-filter_same (eq_by_cmp (slice_cmp nat_cmp) q) (is_below dir) (is_below dir q) (λ k h. ap (is_below dir) (sym (same_text q k h))) (keys tree)
    ∙ ap (λ b. is_below dir q && b) (sym (contains_key-keys tree q))

-- and the listing of all files every place that stands
pub is_among-listing_all : (tree : Tree) (q : List ℕ) → is_among (listing None tree) q ≡ contains_key tree q
is_among-listing_all tree q = sym (contains_key-keys tree q)
