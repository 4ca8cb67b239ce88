-- How a rename goes file by file.
use Rattle.std.proofs.Common.{◌≡◌, ℕ, ◌+◌, ◌<◌, List, [], ◌∷◌, ◌++◌, Bool, true, false, ◌&&◌, ◌||◌, cond, Option, Some, None, is_some, refl, sym, ap, ◌∙◌, subst, nat_cmp, map, length, take, drop, get_or, All, IfSome, nat_eq, inl, inr}
use Rattle.std.specs.FinMap.{get, insert, remove, get-insert, get-remove, contains_key, contains_key-keys, keys, same_map, nat_cmp-IsAntisymmetric, slice_cmp-IsAntisymmetric}
use Rattle.std.specs.List.{list_any}
use Rattle.std.specs.Ordering.{eq_by_cmp}
use Rattle.std.specs.Cmp.{both_ways}
use Rattle.std.specs.Cmp.Lexicographic.{slice_cmp, pointwise, bytes_decides, nat_list_cmp_total}
use Rattle.std.proofs.lemmas.Bool.{true≢false, cases_Bool, or_left, or_right, or_cases, or_from, or_parts, false_from_ne_true, cond-true, cond-false, and_from, and_parts}
use Rattle.std.proofs.lemmas.List.Folds.{list_any_none, list_any-append, Any-from_list_any, list_any_at}
use Rattle.std.proofs.lemmas.List.{take-append-drop, take_more}
use Rattle.std.proofs.lemmas.List.Elements.{All-take, All-map}
use Rattle.std.proofs.lemmas.Map.Views.{any-filter_same}
use Rattle.ns_tree.specs.declared.file.FileState.{FileState}
use Rattle.ns_tree.specs.declared.moves.Move.{Move}
use Rattle.ns_tree.specs.declared.namespace.NsError.{NsError}
use Rattle.ns_tree.specs.declared.namespace.NsError.TheVariants.{Missing, Inside}
use Rattle.hb_names.specs.Place.{IsPlace}
use Rattle.ns_tree.specs.Places.{is_below, is_within, is_too_deep, target_of}
use Rattle.ns_tree.specs.Tree.{Tree, HasNoFileBelowAFile, IsTree, is_taken, listing, create_refusal}
use Rattle.ns_tree.specs.Moves.{IsMove, IsMovable, IsCopied, IsClearedOfSources, IsClearedOfTargets, is_source, is_target, is_among, AreSources, move_of}
use Rattle.ns_tree.specs.Step.{moved, is_inside, rename_refusal}
use Rattle.ns_tree.proofs.Leads.{is_within-on, is_within-target, target_of-target_of}
use Rattle.ns_tree.proofs.Moved.{HasNoFileBelowAFile-moved, HasPlaces-moved, is_within-apart, get-moved-to, get-moved-from, get-moved-other}
use Rattle.ns_tree.proofs.Trees.{same_text, tied_itself, any_key-from, any_key-none, no_key, found, list_any-tied, is_within-same, IsFree-from_no_refusal}

-- a target lies within the new place
target_within : (from to : List ℕ) (tree : Tree) (m : Move) → IsMove from to tree m → is_within to m.new ≡ true
target_within from to tree m move = ap (is_within to) move.goes ∙ is_within-target from to m.old move.inside

-- nothing outside the new place is a target
pub is_target-outside : (from to : List ℕ) (tree : Tree) (moves : List Move) (q : List ℕ) → All (IsMove from to tree) moves → is_within to q ≡ false → is_target moves q ≡ false
is_target-outside from to tree moves q all outside = list_any_none (λ m. eq_by_cmp (slice_cmp nat_cmp) q m.new) moves (λ k d l. false_from_ne_true _ (λ h.
    true≢false (sym (target_within from to tree (get_or moves k d) (all k d l)) ∙ ap (is_within to) (sym (same_text q (get_or moves k d).new h)) ∙ outside)))

-- nothing outside the old place is a source
pub is_source-outside : (from to : List ℕ) (tree : Tree) (moves : List Move) (q : List ℕ) → All (IsMove from to tree) moves → is_within from q ≡ false → is_source moves q ≡ false
is_source-outside from to tree moves q all outside = list_any_none (λ m. eq_by_cmp (slice_cmp nat_cmp) q m.old) moves (λ k d l. false_from_ne_true _ (λ h.
    true≢false (sym (all k d l).inside ∙ ap (is_within from) (sym (same_text q (get_or moves k d).old h)) ∙ outside)))

-- a source keeps its file while others are copied
pub get-source : (from to : List ℕ) (moves : List Move) (old new : Tree) (m : Move) → All (IsMove from to old) moves → IsMovable from to old → IsCopied from to moves old new → IsMove from to old m → get new m.old ≡ get old m.old
get-source from to moves old new m all can copied move =
    copied m.old ∙ cond-false _ _ _ (is_target-outside from to old moves m.old all
    (false_from_ne_true _ (λ h. true≢false (sym move.inside ∙ is_within-apart from to m.old can.apart can.back h))))

pub contains_key-source : (from to : List ℕ) (moves : List Move) (old new : Tree) (m : Move) → All (IsMove from to old) moves → IsMovable from to old → IsCopied from to moves old new → IsMove from to old m → contains_key new m.old ≡ true
contains_key-source from to moves old new m all can copied move = ap is_some (get-source from to moves old new m all can copied move) ∙ move.stands

or_false : (b : Bool) → (b || false) ≡ b
or_false true = refl
or_false false = refl

is_target-push : (moves : List Move) (m : Move) (q : List ℕ) → is_target (moves ++ m ∷ []) q ≡ (is_target moves q || eq_by_cmp (slice_cmp nat_cmp) q m.new)
is_target-push moves m q = list_any-append (λ m. eq_by_cmp (slice_cmp nat_cmp) q m.new) moves (m ∷ []) ∙ ap (λ b. is_target moves q || b) (or_false (eq_by_cmp (slice_cmp nat_cmp) q m.new))

is_source-push : (moves : List Move) (m : Move) (q : List ℕ) → is_source (moves ++ m ∷ []) q ≡ (is_source moves q || eq_by_cmp (slice_cmp nat_cmp) q m.old)
is_source-push moves m q = list_any-append (λ m. eq_by_cmp (slice_cmp nat_cmp) q m.old) moves (m ∷ []) ∙ ap (λ b. is_source moves q || b) (or_false (eq_by_cmp (slice_cmp nat_cmp) q m.old))

-- one file more is copied
pub IsCopied-push : (from to : List ℕ) (moves : List Move) (old new : Tree) (m : Move) (file : FileState) → IsCopied from to moves old new → IsMove from to old m → get old m.old ≡ Some file → IsCopied from to (moves ++ m ∷ []) old (insert new m.new file)
IsCopied-push from to moves old new m file copied move had q =
    get-insert nat_list_cmp_total new m.new file q ∙ elim (cases_Bool (eq_by_cmp (slice_cmp nat_cmp) q m.new)) as (λ _. cond (eq_by_cmp (slice_cmp nat_cmp) q m.new) (Some file) (get new q) ≡ cond (is_target (moves ++ m ∷ []) q) (get old (target_of to from q)) (get old q)) [
      | inl here ↦
          let origin : target_of to from q ≡ m.old = ap (target_of to from) (same_text q m.new here ∙ move.goes) ∙ target_of-target_of from to m.old move.inside in
          cond-true _ _ _ here ∙ sym had ∙ ap (get old) (sym origin) ∙ sym (cond-true _ _ _ (is_target-push moves m q ∙ or_right (is_target moves q) _ here))
      | inr there ↦
          cond-false _ _ _ there ∙ copied q ∙ ap (λ b. cond b (get old (target_of to from q)) (get old q)) (sym (is_target-push moves m q ∙ ap (λ b. is_target moves q || b) there ∙ or_false (is_target moves q)))
    ]

cleared : (b c : Bool) (o : Option FileState) → cond c None (cond b None o) ≡ cond (b || c) None o
cleared true true o = refl
cleared true false o = refl
cleared false true o = refl
cleared false false o = refl

-- one file more is cleared
pub IsClearedOfSources-push : (moves : List Move) (old new : Tree) (m : Move) → IsClearedOfSources moves old new → IsClearedOfSources (moves ++ m ∷ []) old (remove new m.old)
IsClearedOfSources-push moves old new m before q =
    get-remove nat_list_cmp_total new m.old q ∙ ap (cond (eq_by_cmp (slice_cmp nat_cmp) q m.old) None) (before q) ∙ cleared (is_source moves q) (eq_by_cmp (slice_cmp nat_cmp) q m.old) (get old q)
    ∙ ap (λ b. cond b None (get old q)) (sym (is_source-push moves m q))

pub IsClearedOfTargets-push : (moves : List Move) (old new : Tree) (m : Move) → IsClearedOfTargets moves old new → IsClearedOfTargets (moves ++ m ∷ []) old (remove new m.new)
IsClearedOfTargets-push moves old new m before q =
    get-remove nat_list_cmp_total new m.new q ∙ ap (cond (eq_by_cmp (slice_cmp nat_cmp) q m.new) None) (before q) ∙ cleared (is_target moves q) (eq_by_cmp (slice_cmp nat_cmp) q m.new) (get old q)
    ∙ ap (λ b. cond b None (get old q)) (sym (is_target-push moves m q))

absent : (o : Option FileState) → is_some o ≡ false → o ≡ None
absent None h = refl
absent (Some file) h = absurd (true≢false h)

-- a place where nothing stood
nothing : (place : List ℕ) (tree : Tree) (q : List ℕ) → is_taken place tree ≡ false → is_within place q ≡ true → get tree q ≡ None
nothing place tree q free within = absent (get tree q) (false_from_ne_true _ (λ h. true≢false (sym within ∙ any_key-none (is_within place) tree q free h)))

same_tree : (s t : Tree) → ((q : List ℕ) → get s q ≡ get t q) → s ≡ t
same_tree s t h = same_map nat_list_cmp_total (slice_cmp-IsAntisymmetric nat_cmp-IsAntisymmetric) s t h

both_none : (b : Bool) (o : Option FileState) → o ≡ None → cond b None o ≡ None
both_none true o h = refl
both_none false o h = h

-- what is copied and then cleared at its sources is moved
pub moved_by_copies : (from to : List ℕ) (moves : List Move) (old mid new : Tree) → All (IsMove from to old) moves
    → ((q : List ℕ) → is_within from q ≡ true → contains_key old q ≡ true → is_source moves q ≡ true)
    → IsMovable from to old → IsCopied from to moves old mid → IsClearedOfSources moves mid new → new ≡ moved from to old
moved_by_copies from to moves old mid new all whole can copied clear = same_tree new (moved from to old) (λ q.
    elim (cases_Bool (is_within to q)) as (λ _. get new q ≡ get (moved from to old) q) [
      | inl h ↦ clear q ∙ cond-false _ _ _ (is_source-outside from to old moves q all (is_within-apart from to q can.apart can.back h)) ∙ copied q ∙ to_target q h ∙ sym (get-moved-to from to old q can h)
      | inr h ↦
          let kept : get mid q ≡ get old q = copied q ∙ cond-false _ _ _ (is_target-outside from to old moves q all h) in
          elim (cases_Bool (is_within from q)) as (λ _. get new q ≡ get (moved from to old) q) [
            | inl f ↦ clear q ∙ gone q f kept ∙ sym (get-moved-from from to old q can f)
            | inr f ↦ clear q ∙ cond-false _ _ _ (is_source-outside from to old moves q all f) ∙ kept ∙ sym (get-moved-other from to old q h f)
          ]
    ])
  where
    gone : (q : List ℕ) → is_within from q ≡ true → get mid q ≡ get old q → cond (is_source moves q) None (get mid q) ≡ None
    gone q f kept = elim (cases_Bool (contains_key old q)) as (λ _. cond (is_source moves q) None (get mid q) ≡ None) [
      | inl stood ↦ cond-true _ _ _ (whole q f stood)
      | inr stood ↦ both_none (is_source moves q) (get mid q) (kept ∙ absent (get old q) stood)
    ]

    untargeted : (q : List ℕ) → is_within to q ≡ true → is_target moves q ≡ false → contains_key old (target_of to from q) ≡ true → ⊥
    untargeted q h t stood =
        let one = Any-from_list_any (λ m. eq_by_cmp (slice_cmp nat_cmp) (target_of to from q) m.old) moves (whole (target_of to from q) (is_within-target to from q h) stood) in
        let move = all one.0 one.1 one.2 in
        let m = get_or moves one.0 one.1 in
        let source : target_of to from q ≡ m.old = same_text (target_of to from q) m.old (subst (λ (n : Move). eq_by_cmp (slice_cmp nat_cmp) (target_of to from q) n.old ≡ true) (sym one.3) one.4) in
        let goes : q ≡ m.new = sym (target_of-target_of to from q h) ∙ ap (target_of from to) source ∙ sym move.goes in
        true≢false (sym (list_any_at (λ m. eq_by_cmp (slice_cmp nat_cmp) q m.new) moves one.0 one.1 one.2 (subst (λ p. eq_by_cmp (slice_cmp nat_cmp) q p ≡ true) goes (tied_itself q))) ∙ t)

    to_target : (q : List ℕ) → is_within to q ≡ true → cond (is_target moves q) (get old (target_of to from q)) (get old q) ≡ get old (target_of to from q)
    to_target q h = elim (cases_Bool (is_target moves q)) as (λ _. cond (is_target moves q) (get old (target_of to from q)) (get old q) ≡ get old (target_of to from q)) [
      | inl t ↦ cond-true _ _ _ t
      | inr t ↦ cond-false _ _ _ t ∙ nothing to old q can.free h ∙ sym (absent (get old (target_of to from q)) (false_from_ne_true _ (λ stood. untargeted q h t stood)))
    ]

-- what is copied in part and then cleared at all its targets is as before
pub unchanged_by_clearing : (from to : List ℕ) (moves : List Move) (n : ℕ) (old mid new : Tree) → All (IsMove from to old) moves → IsMovable from to old
    → IsCopied from to (take n moves) old mid → IsClearedOfTargets moves mid new → new ≡ old
unchanged_by_clearing from to moves n old mid new all can copied clear = same_tree new old (λ q.
    clear q ∙ elim (cases_Bool (is_target moves q)) as (λ _. cond (is_target moves q) None (get mid q) ≡ get old q) [
      | inl t ↦ cond-true _ _ _ t ∙ sym (nothing to old q can.free (false_outside q t))
      | inr t ↦ cond-false _ _ _ t ∙ copied q ∙ cond-false _ _ _ (fewer q t)
    ])
  where
    false_outside : (q : List ℕ) → is_target moves q ≡ true → is_within to q ≡ true
    false_outside q t = elim (cases_Bool (is_within to q)) as (λ _. is_within to q ≡ true) [
      | inl h ↦ h
      | inr h ↦ absurd (true≢false (sym t ∙ is_target-outside from to old moves q all h))
    ]

    fewer : (q : List ℕ) → is_target moves q ≡ false → is_target (take n moves) q ≡ false
    fewer q t = (or_parts (is_target (take n moves) q) (is_target (drop n moves) q) (sym (list_any-append (λ m. eq_by_cmp (slice_cmp nat_cmp) q m.new) (take n moves) (drop n moves)) ∙ ap (λ ms. is_target ms q) (take-append-drop n moves) ∙ t)).0

-- the move at an index
pub IsMove-at : (from to : List ℕ) (tree : Tree) (moves : List Move) (i : ℕ) (m : Move) → i < length moves → m ≡ get_or moves i m → All (IsMove from to tree) moves → IsMove from to tree m
IsMove-at from to tree moves i m within at all = subst (IsMove from to tree) (sym at) (all i m within)

take-next : (moves : List Move) (i : ℕ) (m : Move) → i < length moves → m ≡ get_or moves i m → take i moves ++ m ∷ [] ≡ take (i + 1) moves
take-next moves i m within at = ap (λ x. take i moves ++ x ∷ []) at ∙ sym (take_more moves i m within)

-- the move at the index is made too
pub IsCopied-next : (from to : List ℕ) (moves : List Move) (i : ℕ) (old mid new : Tree) (m : Move) → i < length moves → m ≡ get_or moves i m → All (IsMove from to old) moves → IsMovable from to old
    → IsCopied from to (take i moves) old mid → IfSome (get mid m.old) (λ file. new ≡ insert mid m.new file) → IsCopied from to (take (i + 1) moves) old new
IsCopied-next from to moves i old mid new m within at all can copied made =
    subst (λ ms. IsCopied from to ms old new) (take-next moves i m within at) (by (get mid m.old) refl made)
  where
    move : IsMove from to old m
    move = IsMove-at from to old moves i m within at all

    first : All (IsMove from to old) (take i moves)
    first = All-take (IsMove from to old) i moves all

    by : (o : Option FileState) → get mid m.old ≡ o → IfSome o (λ file. new ≡ insert mid m.new file) → IsCopied from to (take i moves ++ m ∷ []) old new
    by None e h = absurd (true≢false (sym (contains_key-source from to (take i moves) old mid m first can copied move) ∙ ap is_some e))
    by (Some file) e h = subst (IsCopied from to (take i moves ++ m ∷ []) old) (sym h)
        (IsCopied-push from to (take i moves) old mid m file copied move (sym (get-source from to (take i moves) old mid m first can copied move) ∙ e))

-- the source, or the target, at the index is cleared too
pub IsClearedOfSources-next : (moves : List Move) (i : ℕ) (old mid new : Tree) (m : Move) → i < length moves → m ≡ get_or moves i m → IsClearedOfSources (take i moves) old mid → new ≡ remove mid m.old → IsClearedOfSources (take (i + 1) moves) old new
IsClearedOfSources-next moves i old mid new m within at before made =
    subst (λ ms. IsClearedOfSources ms old new) (take-next moves i m within at) (subst (IsClearedOfSources (take i moves ++ m ∷ []) old) (sym made) (IsClearedOfSources-push (take i moves) old mid m before))

pub IsClearedOfTargets-next : (moves : List Move) (i : ℕ) (old mid new : Tree) (m : Move) → i < length moves → m ≡ get_or moves i m → IsClearedOfTargets (take i moves) old mid → new ≡ remove mid m.new → IsClearedOfTargets (take (i + 1) moves) old new
IsClearedOfTargets-next moves i old mid new m within at before made =
    subst (λ ms. IsClearedOfTargets ms old new) (take-next moves i m within at) (subst (IsClearedOfTargets (take i moves ++ m ∷ []) old) (sym made) (IsClearedOfTargets-push (take i moves) old mid m before))

-- the places below one where no file stands are its sources
pub AreSources-below : (from : List ℕ) (tree : Tree) (places : List (List ℕ)) → contains_key tree from ≡ false → places ≡ listing (Some from) tree → AreSources from tree places
AreSources-below from tree places absent is q =
    ap (λ ps. is_among ps q) is
    ∙ any-filter_same (eq_by_cmp (slice_cmp nat_cmp) q) (is_below from) (is_below from q) (λ k h. ap (is_below from) (sym (same_text q k h))) (keys tree)
    ∙ ap (λ b. is_below from q && b) (sym (contains_key-keys tree q))
    ∙ both_ways (is_below from q && contains_key tree q) (is_within from q && contains_key tree q)
    (λ h. let parts = and_parts (is_below from q) (contains_key tree q) h in and_from _ _ (or_right (pointwise nat_eq from q) _ parts.0) parts.1)
    (λ h. let parts = and_parts (is_within from q) (contains_key tree q) h in elim (or_cases (pointwise nat_eq from q) (is_below from q) parts.0) as (λ _. (is_below from q && contains_key tree q) ≡ true) [
      | inl same ↦ absurd (true≢false (sym (ap (contains_key tree) ((bytes_decides from q).0 same) ∙ parts.1) ∙ absent))
      | inr below ↦ and_from _ _ below parts.1
    ])

-- a file is the one source of itself
pub AreSources-file : (from : List ℕ) (tree : Tree) (places : List (List ℕ)) → contains_key tree from ≡ true → HasNoFileBelowAFile tree → places ≡ from ∷ [] → AreSources from tree places
AreSources-file from tree places stands kept is q =
    ap (λ ps. is_among ps q) is ∙ or_false (eq_by_cmp (slice_cmp nat_cmp) q from)
    ∙ both_ways (eq_by_cmp (slice_cmp nat_cmp) q from) (is_within from q && contains_key tree q)
    (λ h. let same = same_text q from h in and_from _ _ (ap (is_within from) same ∙ is_within-same from) (ap (contains_key tree) same ∙ stands))
    (λ h. let parts = and_parts (is_within from q) (contains_key tree q) h in elim (or_cases (pointwise nat_eq from q) (is_below from q) parts.0) as (λ _. eq_by_cmp (slice_cmp nat_cmp) q from ≡ true) [
      | inl same ↦ ap (eq_by_cmp (slice_cmp nat_cmp) q) ((bytes_decides from q).0 same) ∙ tied_itself q
      | inr below ↦ absurd (true≢false (sym parts.1 ∙ kept from q stands below))
    ])

list_any-map : {X Y : Type 0} (p : Y → Bool) (f : X → Y) (xs : List X) → list_any p (map f xs) ≡ list_any (λ x. p (f x)) xs
list_any-map p f [] = refl
list_any-map p f (x ∷ xs) = ap (λ b. p (f x) || b) (list_any-map p f xs)

-- where there is no source, nothing stands
pub is_taken-no_sources : (from : List ℕ) (tree : Tree) (places : List (List ℕ)) → AreSources from tree places → places ≡ [] → is_taken from tree ≡ false
is_taken-no_sources from tree places sources none = no_key (is_within from) tree (λ q stands. false_from_ne_true _ (λ within.
    true≢false (sym (sources q ∙ and_from _ _ within stands) ∙ ap (λ ps. is_among ps q) none)))

-- and where there is one, something stands
pub is_taken-sources : (from : List ℕ) (tree : Tree) (places : List (List ℕ)) → AreSources from tree places → (places ≡ [] → ⊥) → is_taken from tree ≡ true
is_taken-sources from tree [] sources some = absurd (some refl)
is_taken-sources from tree (p ∷ ps) sources some =
    let parts = and_parts (is_within from p) (contains_key tree p) (sym (sources p) ∙ or_left _ _ (tied_itself p)) in
    any_key-from (is_within from) tree p parts.1 parts.0

-- a target too deep is that of a file of the tree
pub too_deep-sources : (from to : List ℕ) (tree : Tree) (places : List (List ℕ)) (moves : List Move) → AreSources from tree places → moves ≡ map (move_of from to) places
    → list_any (λ m. is_too_deep m.new) moves ≡ list_any (λ place. is_within from place && is_too_deep (target_of from to place)) (keys tree)
too_deep-sources from to tree places moves sources are =
    ap (list_any (λ m. is_too_deep m.new)) are ∙ list_any-map (λ m. is_too_deep m.new) (move_of from to) places
    ∙ both_ways (list_any (λ place. is_too_deep (target_of from to place)) places) (list_any (λ place. is_within from place && is_too_deep (target_of from to place)) (keys tree))
    (λ h.
    let one = found (λ place. is_too_deep (target_of from to place)) places h in
    let parts = and_parts (is_within from one.at) (contains_key tree one.at) (sym (sources one.at) ∙ one.among) in
    any_key-from (λ place. is_within from place && is_too_deep (target_of from to place)) tree one.at parts.1 (and_from _ _ parts.0 one.passes))
    (λ h.
    let one = found (λ place. is_within from place && is_too_deep (target_of from to place)) (keys tree) h in
    let parts = and_parts (is_within from one.at) (is_too_deep (target_of from to one.at)) one.passes in
    list_any-tied (λ place. is_too_deep (target_of from to place)) one.at places (sources one.at ∙ and_from _ _ parts.0 (contains_key-keys tree one.at ∙ one.among)) parts.1)

-- the moves of the sources are moves
pub IsMove-sources : (from to : List ℕ) (tree : Tree) (places : List (List ℕ)) (moves : List Move) → AreSources from tree places → moves ≡ map (move_of from to) places → All (IsMove from to tree) moves
IsMove-sources from to tree places moves sources are = subst (All (IsMove from to tree)) (sym are) (All-map (IsMove from to tree) (move_of from to) places (λ k d l.
    let place = get_or places k d in
    let parts = and_parts (is_within from place) (contains_key tree place) (sym (sources place) ∙ list_any_at (eq_by_cmp (slice_cmp nat_cmp) place) places k d l (tied_itself place)) in
    record { inside = parts.0; goes = refl; stands = parts.1 }))

-- and leave no file out
pub is_source-sources : (from to : List ℕ) (tree : Tree) (places : List (List ℕ)) (moves : List Move) → AreSources from tree places → moves ≡ map (move_of from to) places
    → (q : List ℕ) → is_within from q ≡ true → contains_key tree q ≡ true → is_source moves q ≡ true
is_source-sources from to tree places moves sources are q within stands =
    ap (λ ms. is_source ms q) are ∙ list_any-map (λ m. eq_by_cmp (slice_cmp nat_cmp) q m.old) (move_of from to) places ∙ sources q ∙ and_from _ _ within stands

some_none : (x : NsError) → Some x ≡ None → ⊥
some_none x e = true≢false (ap is_some e)

-- what no refusal says
pub record IsRenamable (from to : List ℕ) (tree : Tree) : Type 0 where
  pub taken : is_taken from tree ≡ true
  pub outside : is_inside from to tree ≡ false
  pub free : create_refusal to tree ≡ None

pub IsRenamable-from_no_refusal : (from to : List ℕ) (tree : Tree) → rename_refusal from to tree ≡ None → IsRenamable from to tree
IsRenamable-from_no_refusal from to tree none = by (is_taken from tree) (is_inside from to tree) refl refl none
  where
    by : (a b : Bool) → is_taken from tree ≡ a → is_inside from to tree ≡ b → cond a (cond b (Some Inside) (create_refusal to tree)) (Some Missing) ≡ None → IsRenamable from to tree
    by true true e f h = absurd (some_none Inside h)
    by true false e f h = record { taken = e; outside = f; free = h }
    by false b e f h = absurd (some_none Missing h)

-- where no refusal stands against it, files can be moved
pub IsMovable-renamable : (from to : List ℕ) (tree : Tree) → rename_refusal from to tree ≡ None → IsMovable from to tree
IsMovable-renamable from to tree none = record { apart = apart; back = back; free = untaken }
  where
    can : IsRenamable from to tree
    can = IsRenamable-from_no_refusal from to tree none

    untaken : is_taken to tree ≡ false
    untaken = (IsFree-from_no_refusal to tree can.free).untaken

    apart : is_within from to ≡ false
    apart = or_from (pointwise nat_eq from to) (is_below from to)
        (false_from_ne_true _ (λ same. true≢false (sym can.taken ∙ ap (λ place. is_taken place tree) ((bytes_decides from to).0 same) ∙ untaken)))
        (or_parts (is_below from to) _ can.outside).0

    back : is_within to from ≡ false
    back = false_from_ne_true _ (λ h.
        let one = found (is_within from) (keys tree) can.taken in
        true≢false (sym (is_within-on to from one.at h one.passes) ∙ any_key-none (is_within to) tree one.at untaken (contains_key-keys tree one.at ∙ one.among)))

-- the refusals of a rename, one by one
pub rename_refusal-missing : (from to : List ℕ) (tree : Tree) → is_taken from tree ≡ false → rename_refusal from to tree ≡ Some Missing
rename_refusal-missing from to tree untaken = cond-false _ _ _ untaken

pub rename_refusal-inside : (from to : List ℕ) (tree : Tree) → is_taken from tree ≡ true → is_inside from to tree ≡ true → rename_refusal from to tree ≡ Some Inside
rename_refusal-inside from to tree taken inside = cond-true _ _ _ taken ∙ cond-true _ _ _ inside

pub rename_refusal-outside : (from to : List ℕ) (tree : Tree) → is_taken from tree ≡ true → is_inside from to tree ≡ false → rename_refusal from to tree ≡ create_refusal to tree
rename_refusal-outside from to tree taken outside = cond-true _ _ _ taken ∙ cond-false _ _ _ outside

-- no file stands below a file after a rename that nothing refuses
pub HasNoFileBelowAFile-renamed : (from to : List ℕ) (tree : Tree) → rename_refusal from to tree ≡ None → HasNoFileBelowAFile tree → HasNoFileBelowAFile (moved from to tree)
HasNoFileBelowAFile-renamed from to tree none = HasNoFileBelowAFile-moved from to tree (IsMovable-renamable from to tree none)
    (IsFree-from_no_refusal to tree (IsRenamable-from_no_refusal from to tree none).free).unfiled

-- a tree of files is one after a rename that nothing refuses
pub IsTree-renamed : (from to : List ℕ) (tree : Tree) → rename_refusal from to tree ≡ None → IsPlace to → IsTree tree → IsTree (moved from to tree)
IsTree-renamed from to tree none valid old = record {
  apart = HasNoFileBelowAFile-renamed from to tree none old.apart;
  placed = HasPlaces-moved from to tree (IsMovable-renamable from to tree none) valid (λ q within stands.
      let deep = any_key-none (λ place. is_within from place && is_too_deep (target_of from to place)) tree q (or_parts (is_below from to) _ (IsRenamable-from_no_refusal from to tree none).outside).1 stands in
      false_from_ne_true _ (λ h. true≢false (sym (and_from (is_within from q) (is_too_deep (target_of from to q)) within h) ∙ deep))) old.placed;
}
