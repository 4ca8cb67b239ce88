-- What a rename leaves at every place.
use Rattle.std.proofs.Common.{◌≡◌, ℕ, List, [], ◌∷◌, ◌++◌, true, false, cond, Some, None, is_some, refl, sym, ap, ◌∙◌, subst, nat_cmp, map, length, drop, inl, inr, nat_eq}
use Rattle.std.specs.FinMap.{get, find, entries, contains_key, contains_key-keys, get-entries, get-from_entries}
use Rattle.std.specs.List.{list_any}
use Rattle.std.specs.Map.{keys_of}
use Rattle.std.specs.Ordering.{eq_by_cmp}
use Rattle.std.specs.Cmp.{both_ways}
use Rattle.std.specs.Cmp.Lexicographic.{slice_cmp, pointwise, bytes_decides, nat_list_cmp_total}
use Rattle.std.proofs.lemmas.Bool.{true≢false, cases_Bool, or_left, or_right, or_cases, false_from_ne_true, cond-true, cond-false}
use Rattle.hb_names.specs.Place.{IsPlace}
use Rattle.ns_tree.proofs.PlaceTexts.{IsPlace-target_of}
use Rattle.ns_tree.specs.Places.{is_below, is_within, is_too_deep, target_of, moved_place}
use Rattle.ns_tree.specs.Tree.{Tree, HasNoFileBelowAFile, HasPlaces, is_taken, is_below_file}
use Rattle.ns_tree.specs.Moves.{IsMovable}
use Rattle.ns_tree.specs.Step.{moved}
use Rattle.ns_tree.proofs.Entries.{Files}
use Rattle.ns_tree.proofs.Leads.{is_within-on, is_within-one, is_within-drop, is_below-append, is_within-target, target_of-target_of}
use Rattle.ns_tree.proofs.Trees.{same_text, tied_itself, any_key-none, is_within-same}

-- nothing lies within both
pub is_within-apart : (from to q : List ℕ) → is_within from to ≡ false → is_within to from ≡ false → is_within to q ≡ true → is_within from q ≡ false
is_within-apart from to q apart back within = false_from_ne_true _ (λ h.
    elim (is_within-one from to q h within) as (λ _. ⊥) [
      | inl f ↦ true≢false (sym f ∙ apart)
      | inr f ↦ true≢false (sym f ∙ back)
    ])

tied : (p q : List ℕ) → p ≡ q → eq_by_cmp (slice_cmp nat_cmp) p q ≡ true
tied p q e = ap (eq_by_cmp (slice_cmp nat_cmp) p) (sym e) ∙ tied_itself p

same_tie : (a b c d : List ℕ) → (a ≡ b → c ≡ d) → (c ≡ d → a ≡ b) → eq_by_cmp (slice_cmp nat_cmp) a b ≡ eq_by_cmp (slice_cmp nat_cmp) c d
same_tie a b c d f g = both_ways _ _ (λ h. tied c d (f (same_text a b h))) (λ h. tied a b (g (same_text c d h)))

untied : (a b : List ℕ) → (a ≡ b → ⊥) → eq_by_cmp (slice_cmp nat_cmp) a b ≡ false
untied a b f = false_from_ne_true _ (λ h. f (same_text a b h))

-- a search among entries whose keys are changed, where the change answers as another search does
find-changed : (g : List ℕ → List ℕ) (q r : List ℕ) (es : Files) → ((k : List ℕ) → list_any (eq_by_cmp (slice_cmp nat_cmp) k) (keys_of es) ≡ true → eq_by_cmp (slice_cmp nat_cmp) q (g k) ≡ eq_by_cmp (slice_cmp nat_cmp) r k)
    → find (slice_cmp nat_cmp) q (map (λ e. (g e.0, e.1)) es) ≡ find (slice_cmp nat_cmp) r es
find-changed g q r [] alike = refl
find-changed g q r (e ∷ es) alike =
    ap (λ b. cond b (Some e.1) (find (slice_cmp nat_cmp) q (map (λ e. (g e.0, e.1)) es))) (alike e.0 (or_left _ _ (tied_itself e.0)))
    ∙ ap (cond (eq_by_cmp (slice_cmp nat_cmp) r e.0) (Some e.1)) (find-changed g q r es (λ k h. alike k (or_right (eq_by_cmp (slice_cmp nat_cmp) k e.0) _ h)))

find-nowhere : (g : List ℕ → List ℕ) (q : List ℕ) (es : Files) → ((k : List ℕ) → list_any (eq_by_cmp (slice_cmp nat_cmp) k) (keys_of es) ≡ true → eq_by_cmp (slice_cmp nat_cmp) q (g k) ≡ false)
    → find (slice_cmp nat_cmp) q (map (λ e. (g e.0, e.1)) es) ≡ None
find-nowhere g q [] none = refl
find-nowhere g q (e ∷ es) none =
    ap (λ b. cond b (Some e.1) (find (slice_cmp nat_cmp) q (map (λ e. (g e.0, e.1)) es))) (none e.0 (or_left _ _ (tied_itself e.0)))
    ∙ find-nowhere g q es (λ k h. none k (or_right (eq_by_cmp (slice_cmp nat_cmp) k e.0) _ h))

moved_place-in : (from to k : List ℕ) → is_within from k ≡ true → moved_place from to k ≡ target_of from to k
moved_place-in from to k h = cond-true (is_within from k) _ _ h

moved_place-out : (from to k : List ℕ) → is_within from k ≡ false → moved_place from to k ≡ k
moved_place-out from to k h = cond-false (is_within from k) _ _ h

untaken : (place : List ℕ) (tree : Tree) (k : List ℕ) → is_taken place tree ≡ false → contains_key tree k ≡ true → is_within place k ≡ false
untaken place tree k free stands = any_key-none (is_within place) tree k free stands

-- at or below the new place stands what stood at or below the old one
pub get-moved-to : (from to : List ℕ) (tree : Tree) (q : List ℕ) → IsMovable from to tree → is_within to q ≡ true → get (moved from to tree) q ≡ get tree (target_of to from q)
get-moved-to from to tree q can within =
    get-from_entries nat_list_cmp_total _ q
    ∙ find-changed (moved_place from to) q (target_of to from q) (entries tree) (λ k among. alike k (contains_key-keys tree k ∙ among))
    ∙ sym (get-entries tree (target_of to from q))
  where
    alike : (k : List ℕ) → contains_key tree k ≡ true → eq_by_cmp (slice_cmp nat_cmp) q (moved_place from to k) ≡ eq_by_cmp (slice_cmp nat_cmp) (target_of to from q) k
    alike k stands = elim (cases_Bool (is_within from k)) as (λ _. eq_by_cmp (slice_cmp nat_cmp) q (moved_place from to k) ≡ eq_by_cmp (slice_cmp nat_cmp) (target_of to from q) k) [
      | inl h ↦ same_tie q (moved_place from to k) (target_of to from q) k
          (λ e. ap (target_of to from) (e ∙ moved_place-in from to k h) ∙ target_of-target_of from to k h)
          (λ e. sym (target_of-target_of to from q within) ∙ ap (target_of from to) e ∙ sym (moved_place-in from to k h))
      | inr h ↦ untied q (moved_place from to k) (λ e. true≢false (sym (ap (is_within to) (sym (e ∙ moved_place-out from to k h)) ∙ within) ∙ untaken to tree k can.free stands))
          ∙ sym (untied (target_of to from q) k (λ e. true≢false (sym (ap (is_within from) (sym e) ∙ is_within-target to from q within) ∙ h)))
    ]

-- at or below the old place stands nothing
pub get-moved-from : (from to : List ℕ) (tree : Tree) (q : List ℕ) → IsMovable from to tree → is_within from q ≡ true → get (moved from to tree) q ≡ None
get-moved-from from to tree q can within =
    get-from_entries nat_list_cmp_total _ q
    ∙ find-nowhere (moved_place from to) q (entries tree) (λ k among. none k)
  where
    none : (k : List ℕ) → eq_by_cmp (slice_cmp nat_cmp) q (moved_place from to k) ≡ false
    none k = elim (cases_Bool (is_within from k)) as (λ _. eq_by_cmp (slice_cmp nat_cmp) q (moved_place from to k) ≡ false) [
      | inl h ↦ untied q (moved_place from to k) (λ e.
          true≢false (sym within ∙ is_within-apart from to q can.apart can.back (ap (is_within to) (e ∙ moved_place-in from to k h) ∙ is_within-target from to k h)))
      | inr h ↦ untied q (moved_place from to k) (λ e. true≢false (sym within ∙ ap (is_within from) (e ∙ moved_place-out from to k h) ∙ h))
    ]

-- elsewhere stands what stood there
pub get-moved-other : (from to : List ℕ) (tree : Tree) (q : List ℕ) → is_within to q ≡ false → is_within from q ≡ false → get (moved from to tree) q ≡ get tree q
get-moved-other from to tree q outside other =
    get-from_entries nat_list_cmp_total _ q
    ∙ find-changed (moved_place from to) q q (entries tree) (λ k among. alike k)
    ∙ sym (get-entries tree q)
  where
    alike : (k : List ℕ) → eq_by_cmp (slice_cmp nat_cmp) q (moved_place from to k) ≡ eq_by_cmp (slice_cmp nat_cmp) q k
    alike k = elim (cases_Bool (is_within from k)) as (λ _. eq_by_cmp (slice_cmp nat_cmp) q (moved_place from to k) ≡ eq_by_cmp (slice_cmp nat_cmp) q k) [
      | inl h ↦ untied q (moved_place from to k) (λ e. true≢false (sym (ap (is_within to) (e ∙ moved_place-in from to k h) ∙ is_within-target from to k h) ∙ outside))
          ∙ sym (untied q k (λ e. true≢false (sym (ap (is_within from) e ∙ h) ∙ other)))
      | inr h ↦ ap (eq_by_cmp (slice_cmp nat_cmp) q) (moved_place-out from to k h)
    ]

-- what stands after a move stood before, at its own place or where it came from
record CameFrom (from to : List ℕ) (tree : Tree) (q : List ℕ) : Type 0 where
  inside : is_within to q ≡ true → contains_key tree (target_of to from q) ≡ true
  outside : is_within to q ≡ false → (is_within from q ≡ false) × (contains_key tree q ≡ true)

came_from : (from to : List ℕ) (tree : Tree) (q : List ℕ) → IsMovable from to tree → contains_key (moved from to tree) q ≡ true → CameFrom from to tree q
came_from from to tree q can stands = record {
  inside = λ h. sym (ap is_some (get-moved-to from to tree q can h)) ∙ stands;
  outside = λ h.
      let other : is_within from q ≡ false = false_from_ne_true _ (λ f. true≢false (sym stands ∙ ap is_some (get-moved-from from to tree q can f))) in
      (other, sym (ap is_some (get-moved-other from to tree q h other)) ∙ stands);
}

-- no file stands below a file after a move to a place that lies below none
pub HasNoFileBelowAFile-moved : (from to : List ℕ) (tree : Tree) → IsMovable from to tree → is_below_file to tree ≡ false → HasNoFileBelowAFile tree → HasNoFileBelowAFile (moved from to tree)
HasNoFileBelowAFile-moved from to tree can unfiled kept above below stands lies = false_from_ne_true _ (λ other.
    let up = came_from from to tree above can stands in
    let down = came_from from to tree below can other in
    elim (cases_Bool (is_within to above)) as (λ _. ⊥) [
      | inl in_above ↦
          let in_below = is_within-on to above below in_above (or_right _ _ lies) in
          let rests : is_below (target_of to from above) (target_of to from below) ≡ true =
          is_below-append from (drop (length to) above) (drop (length to) below)
          ∙ sym (is_below-append to (drop (length to) above) (drop (length to) below))
          ∙ ap (λ q. is_below q (to ++ drop (length to) below)) (is_within-drop to above in_above)
          ∙ ap (is_below above) (is_within-drop to below in_below) ∙ lies in
          true≢false (sym (down.inside in_below) ∙ kept (target_of to from above) (target_of to from below) (up.inside in_above) rests)
      | inr out_above ↦
          let stood = (up.outside out_above).1 in
          elim (cases_Bool (is_within to below)) as (λ _. ⊥) [
            | inl in_below ↦ over above below stood out_above lies in_below
            | inr out_below ↦ true≢false (sym (down.outside out_below).1 ∙ kept above below stood lies)
          ]
    ])
  where
    over : (above below : List ℕ) → contains_key tree above ≡ true → is_within to above ≡ false → is_below above below ≡ true → is_within to below ≡ true → ⊥
    over above below stood out lies within =
        elim (is_within-one above to below (or_right _ _ lies) within) as (λ _. ⊥) [
          | inl h ↦ elim (or_cases (pointwise nat_eq above to) (is_below above to) h) as (λ _. ⊥) [
            | inl same ↦ true≢false (sym (ap (is_within to) ((bytes_decides above to).0 same) ∙ is_within-same to) ∙ out)
            | inr beneath ↦ true≢false (sym beneath ∙ any_key-none (λ file. is_below file to) tree above unfiled stood)
          ]
          | inr h ↦ true≢false (sym h ∙ out)
        ]

-- every file stands at a place after a move that puts none too deep
pub HasPlaces-moved : (from to : List ℕ) (tree : Tree) → IsMovable from to tree → IsPlace to → ((q : List ℕ) → is_within from q ≡ true → contains_key tree q ≡ true → is_too_deep (target_of from to q) ≡ false)
    → HasPlaces tree → HasPlaces (moved from to tree)
HasPlaces-moved from to tree can valid shallow old q stands =
    let came = came_from from to tree q can stands in
    elim (cases_Bool (is_within to q)) as (λ _. IsPlace q) [
      | inl h ↦
          let source = is_within-target to from q h in
          subst IsPlace (target_of-target_of to from q h)
          (IsPlace-target_of from to (target_of to from q) valid (old (target_of to from q) (came.inside h)) source (shallow (target_of to from q) source (came.inside h)))
      | inr h ↦ old q (came.outside h).1
    ]
