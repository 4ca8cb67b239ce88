-- The names of a set, and the places that they come from.
use Rattle.std.proofs.Common.{◌≡◌, ℕ, ◌+◌, ◌<◌, ◌≤◌, ◌⊎◌, ◌↔◌, Bool, true, false, ◌||◌, cond, List, [], ◌∷◌, length, take, get_or, IsTrue, Any, Contains, nat_cmp, refl, ap, sym, subst, ◌∙◌, arith, inl, inr, Some, None, zero, suc}
use Rattle.std.specs.Cmp.{eq_by_cmp_equiv}
use Rattle.std.specs.Cmp.Lexicographic.{slice_cmp, texts_ties, nat_list_cmp_total, nat_list_eq_equiv}
use Rattle.std.specs.FinMap.{contains_key, contains_key-keys, keys}
use Rattle.std.specs.List.{filter, list_any}
use Rattle.std.specs.Ordering.{eq_by_cmp}
use Rattle.std.proofs.lemmas.Bool.{cases_lt, cases_Bool, or_left, or_right}
use Rattle.std.proofs.lemmas.List.{get_or_default, get_or-take, length-take-le}
use Rattle.std.proofs.lemmas.Map.Views.{Contains-from_any, list_any-from_Contains}
use Rattle.std.proofs.lemmas.Slice.Eq.{bytes_eq-Decides}
use Rattle.ns_tree.specs.Tree.{Tree}

abbrev ties : List ℕ → List ℕ → Bool
ties = eq_by_cmp (slice_cmp nat_cmp)

-- texts that tie are the same
pub same_text : (p q : List ℕ) → ties p q ≡ true → p ≡ q
same_text p q e = (bytes_eq-Decides p q).0 (texts_ties p q ∙ e)

either_way : (b : Bool) → cond b true true ≡ true
either_way true = refl
either_way false = refl

tied_itself : (p : List ℕ) → ties p p ≡ true
tied_itself p = sym (texts_ties p p) ∙ nat_list_eq_equiv.refl p

-- some item of a front passes
pub Any-take : {X : Type 0} (P : X → Type 0) (xs : List X) (i : ℕ) → i ≤ length xs → (k : ℕ) (x : X) → k < i → x ≡ get_or xs k x → P x → Any P (take i xs)
Any-take P xs i h k x below e p = (k, x, omega (arith, length-take-le i xs h), get_or-take i xs k x below ∙ sym e, p)

Any-more_forth : {X : Type 0} (P : X → Type 0) (xs : List X) (i : ℕ) (x : X) → i < length xs → x ≡ get_or xs i x → Any P (take (i + 1) xs) → Any P (take i xs) ⊎ P x
Any-more_forth P xs i x h e found =
    let long : length (take (i + 1) xs) ≡ i + 1 = length-take-le (i + 1) xs (omega arith) in
    let within : found.0 < i + 1 = omega (arith, found.2) in
    let at : get_or xs found.0 found.1 ≡ found.1 = sym (get_or-take (i + 1) xs found.0 found.1 within) ∙ found.3 in
    elim (cases_lt found.0 i) as (λ _. Any P (take i xs) ⊎ P x) [
      | inl below ↦ inl (Any-take P xs i (omega arith) found.0 found.1 below (sym at) found.4)
      | inr past ↦ let last : found.0 ≡ i = omega arith in inr (subst P (sym at ∙ ap (λ k. get_or xs k found.1) last ∙ sym (e ∙ get_or_default xs i x found.1 h)) found.4)
    ]

Any-more_back : {X : Type 0} (P : X → Type 0) (xs : List X) (i : ℕ) (x : X) → i < length xs → x ≡ get_or xs i x → Any P (take i xs) ⊎ P x → Any P (take (i + 1) xs)
Any-more_back P xs i x h e (inl found) =
    let long : length (take i xs) ≡ i = length-take-le i xs (omega arith) in
    let below : found.0 < i = omega (arith, found.2) in
    Any-take P xs (i + 1) (omega arith) found.0 found.1 (omega arith) (sym (sym (get_or-take i xs found.0 found.1 below) ∙ found.3)) found.4
Any-more_back P xs i x h e (inr p) = Any-take P xs (i + 1) (omega arith) i x (omega arith) e p

-- an item that passes stands before the last of a front, or is that last
pub Any-more : {X : Type 0} (P : X → Type 0) (xs : List X) (i : ℕ) (x : X) → i < length xs → x ≡ get_or xs i x → Any P (take (i + 1) xs) ↔ (Any P (take i xs) ⊎ P x)
Any-more P xs i x h e = (Any-more_forth P xs i x h e, Any-more_back P xs i x h e)

-- a set of no keys has none of the places of none
pub contains-none : (P : List ℕ → Type 0) (name : List ℕ) (ks : List (List ℕ)) → ks ≡ [] → IsTrue (list_any (ties name) ks) ↔ Any P []
contains-none P name ks e = (
  λ has. let none : list_any (ties name) ks ≡ false = ap (list_any (ties name)) e in cc,
  λ found. absurd (omega (arith, found.2)),
)

-- one more key: what a set has then
pub contains-added : (P : List ℕ → Type 0) (old new : List ℕ → Bool) (key : List ℕ) → ((q : List ℕ) → new q ≡ cond (ties key q) true (old q)) → ((q : List ℕ) → (Some key ≡ Some q) ↔ P q) →
    (name : List ℕ) → IsTrue (new name) ↔ (IsTrue (old name) ⊎ P name)
contains-added P old new key updates is name = (
  λ has. elim (cases_Bool (ties key name)) as (λ _. IsTrue (old name) ⊎ P name) [
    | inl same ↦ inr ((is name).0 (ap (λ (x : List ℕ). Some x) (same_text key name same)))
    | inr apart ↦ inl (ap (λ b. cond b true (old name)) (sym apart) ∙ sym (updates name) ∙ has)
  ],
  λ either. elim either as (λ _. IsTrue (new name)) [
    | inl had ↦ updates name ∙ ap (cond (ties key name) true) had ∙ either_way (ties key name)
    | inr p ↦ let e : key ≡ name = let f = (is name).1 p in cc in updates name ∙ ap (λ b. cond b true (old name)) (subst (λ q. ties key q ≡ true) e (tied_itself key))
  ],
)

-- no key: it has what it had
pub contains-kept : (P : List ℕ → Type 0) (old : List ℕ → Bool) → ((q : List ℕ) → (None ≡ Some q) ↔ P q) → (name : List ℕ) → IsTrue (old name) ↔ (IsTrue (old name) ⊎ P name)
contains-kept P old is name = (
  λ has. inl has,
  λ either. elim either as (λ _. IsTrue (old name)) [
    | inl had ↦ had
    | inr p ↦ let f = (is name).1 p in cc
  ],
)

-- the names of one more place
pub contains-more : (P : List ℕ → List ℕ → Type 0) (before after : List ℕ → Bool) (places : List (List ℕ)) (i : ℕ) (place : List ℕ) → i < length places → place ≡ get_or places i place →
    ((name : List ℕ) → IsTrue (before name) ↔ Any (P name) (take i places)) → ((name : List ℕ) → IsTrue (after name) ↔ (IsTrue (before name) ⊎ P name place)) →
    (name : List ℕ) → IsTrue (after name) ↔ Any (P name) (take (i + 1) places)
contains-more P before after places i place h e had adds name =
    let more = Any-more (P name) places i place h e in (
      λ has. more.1 (elim ((adds name).0 has) as (λ _. Any (P name) (take i places) ⊎ P name place) [ inl b ↦ inl ((had name).0 b) | inr p ↦ inr p ]),
      λ any. (adds name).1 (elim (more.0 any) as (λ _. IsTrue (before name) ⊎ P name place) [ inl b ↦ inl ((had name).1 b) | inr p ↦ inr p ]),
    )

-- some item passes, by cases on the list
abbrev AnyByCases : {X : Type 0} → (X → Type 0) → List X → Type 0
AnyByCases P [] = ⊥
AnyByCases P (x ∷ xs) = P x ⊎ AnyByCases P xs

AnyByCases-at : {X : Type 0} (P : X → Type 0) (xs : List X) (k : ℕ) (x : X) → k < length xs → get_or xs k x ≡ x → P x → AnyByCases P xs
AnyByCases-at P [] k x h e p = absurd (omega arith)
AnyByCases-at P (y ∷ ys) zero x h e p = inl (subst P (sym e) p)
AnyByCases-at P (y ∷ ys) (suc k) x h e p = inr (AnyByCases-at P ys k x (omega arith) e p)

Any-AnyByCases : {X : Type 0} (P : X → Type 0) (xs : List X) → AnyByCases P xs → Any P xs
Any-AnyByCases P [] found = absurd found
Any-AnyByCases P (x ∷ xs) (inl p) = (0, x, omega arith, refl, p)
Any-AnyByCases P (x ∷ xs) (inr rest) = let found = Any-AnyByCases P xs rest in (suc found.0, found.1, omega (arith, found.2), found.3, found.4)

-- what is kept of the keys and passes is a key that passes
kept_forth : (P : List ℕ → Type 0) (test : List ℕ → Bool) (ks : List (List ℕ)) → AnyByCases P (filter test ks) → (q : List ℕ) × (list_any (ties q) ks ≡ true) × P q
kept_forth P test [] found = absurd found
kept_forth P test (k ∷ ks) found =
    elim (test k) as (λ b. AnyByCases P (cond b (k ∷ filter test ks) (filter test ks)) → (q : List ℕ) × ((ties q k || list_any (ties q) ks) ≡ true) × P q) [
      | true ↦ λ f. elim f as (λ _. (q : List ℕ) × ((ties q k || list_any (ties q) ks) ≡ true) × P q) [
        | inl p ↦ (k, or_left _ _ (tied_itself k), p)
        | inr rest ↦ let r = kept_forth P test ks rest in (r.0, or_right _ _ r.1, r.2)
      ]
      | false ↦ λ f. let r = kept_forth P test ks f in (r.0, or_right _ _ r.1, r.2)
    ] found

-- a key that passes and is kept is found among what is kept
kept_back : (P : List ℕ → Type 0) (test : List ℕ → Bool) (ks : List (List ℕ)) (q : List ℕ) → list_any (ties q) ks ≡ true → test q ≡ true → P q → AnyByCases P (filter test ks)
kept_back P test [] q has keep p = cc
kept_back P test (k ∷ ks) q has keep p =
    elim (cases_Bool (ties q k)) as (λ _. AnyByCases P (filter test (k ∷ ks))) [
      | inl same ↦
          let e : q ≡ k = same_text q k same in
          let kept : test k ≡ true = subst (λ x. test x ≡ true) e keep in
          subst (λ b. AnyByCases P (cond b (k ∷ filter test ks) (filter test ks))) (sym kept) (inl (subst P e p))
      | inr apart ↦
          let rest : AnyByCases P (filter test ks) = kept_back P test ks q (ap (λ b. b || list_any (ties q) ks) (sym apart) ∙ has) keep p in
          elim (test k) as (λ b. AnyByCases P (cond b (k ∷ filter test ks) (filter test ks))) [ true ↦ inr rest | false ↦ rest ]
    ]

-- what passes among the files that a test keeps is a file that passes, where the test keeps each that passes
pub Any-kept : (P : List ℕ → Type 0) (test : List ℕ → Bool) (tree : Tree) → ((q : List ℕ) → P q → test q ≡ true) →
    Any P (filter test (keys tree)) ↔ ((q : List ℕ) × IsTrue (contains_key tree q) × P q)
Any-kept P test tree keeps = (
  λ found. let r = kept_forth P test (keys tree) (AnyByCases-at P (filter test (keys tree)) found.0 found.1 found.2 found.3 found.4) in (r.0, contains_key-keys tree r.0 ∙ r.1, r.2),
  λ r. Any-AnyByCases P (filter test (keys tree)) (kept_back P test (keys tree) r.0 (sym (contains_key-keys tree r.0) ∙ r.1) (keeps r.0 r.2) r.2),
)

-- the keys of a set are what it contains
pub Contains-keys : (name : List ℕ) (ks : List (List ℕ)) → Contains ks name ↔ IsTrue (list_any (ties name) ks)
Contains-keys name ks = (list_any-from_Contains (eq_by_cmp_equiv nat_list_cmp_total) name ks, Contains-from_any same_text name ks)
