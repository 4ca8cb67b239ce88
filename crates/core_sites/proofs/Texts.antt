-- Texts joined by slashes: one lies at or below another where it has that one's components first.
use Rattle.std.proofs.Common.{◌≡◌, ℕ, suc, ◌+◌, ◌≤◌, ◌&&◌, Bool, true, false, cond, List, [], ◌∷◌, ◌++◌, length, nat_eq, count_by, refl, sym, ap, ◌∙◌, inl, inr, append_assoc, zero-add, arith, eqb}
use Rattle.std.specs.Cmp.{both_ways}
use Rattle.std.specs.Cmp.Lexicographic.{pointwise, bytes_decides}
use Rattle.std.specs.List.{join_with_byte, AllByRecursion}
use Rattle.std.proofs.lemmas.Bool.{true≢false, or_cases, or_right, and_from}
use Rattle.std.proofs.lemmas.Bool.Decides.{nat_tests}
use Rattle.std.proofs.lemmas.List.{append-nil}
use Rattle.std.proofs.lemmas.List.Sums.{sum_by-append, sum_by-cons}
use Rattle.hb_cell.specs.Order.{same_bytes}
use Rattle.hb_grammar.proofs.AvoidsLemmas.{Lacks}
use Rattle.ns_tree.specs.Places.{is_below, is_within, is_too_deep}
use Rattle.ns_tree.proofs.Below.{is_below-same}
use Rattle.ns_tree.proofs.Leads.{is_within-drop, drop-is_within, is_below-append}
use Rattle.ns_tree.proofs.Trees.{is_within-same}
use Rattle.core_sites.proofs.Tests.{both_left, both_right, same_bytes-true, same_bytes-self}

-- ---- components

abbrev pub AreApart : List (List ℕ) → Type 0
AreApart parts = AllByRecursion (Lacks 47) parts

-- whether a list of components begins with others, and whether it goes on behind these
abbrev pub begins : List (List ℕ) → List (List ℕ) → Bool
begins [] cs = true
begins (d ∷ ds) [] = false
begins (d ∷ ds) (c ∷ cs) = same_bytes d c && begins ds cs

abbrev pub goes_on : List (List ℕ) → List (List ℕ) → Bool
goes_on [] [] = false
goes_on [] (c ∷ cs) = true
goes_on (d ∷ ds) [] = false
goes_on (d ∷ ds) (c ∷ cs) = same_bytes d c && goes_on ds cs

begins-goes_on : (ds cs : List (List ℕ)) → goes_on ds cs ≡ true → begins ds cs ≡ true
begins-goes_on [] cs e = refl
begins-goes_on (d ∷ ds) [] e = absurd (cc)
begins-goes_on (d ∷ ds) (c ∷ cs) e = and_from (same_bytes d c) (begins ds cs) (both_left (same_bytes d c) _ e) (begins-goes_on ds cs (both_right (same_bytes d c) _ e))

never : (a : Bool) → (a && false) ≡ false
never true = refl
never false = refl

-- a list that is no longer does not go on
pub not_longer : (ds cs : List (List ℕ)) → length cs ≤ length ds → goes_on ds cs ≡ false
not_longer [] [] l = refl
not_longer [] (c ∷ cs) l = absurd (omega arith)
not_longer (d ∷ ds) [] l = refl
not_longer (d ∷ ds) (c ∷ cs) l = ap (λ b. same_bytes d c && b) (not_longer ds cs (omega arith)) ∙ never (same_bytes d c)

-- ---- texts

-- texts, each behind a slash
abbrev behind : List (List ℕ) → List ℕ
behind [] = []
behind (part ∷ parts) = 47 ∷ (part ++ behind parts)

join-behind : (part : List ℕ) (parts : List (List ℕ)) → 47 ∷ join_with_byte 47 (part ∷ parts) ≡ behind (part ∷ parts)
join-behind part [] = ap (λ (x : List ℕ). 47 ∷ x) (sym (append-nil part))
join-behind part (next ∷ parts) = ap (λ (x : List ℕ). 47 ∷ (part ++ x)) (join-behind next parts)

behind-append : (xs ys : List (List ℕ)) → behind (xs ++ ys) ≡ behind xs ++ behind ys
behind-append [] ys = refl
behind-append (x ∷ xs) ys = ap (λ (z : List ℕ). 47 ∷ (x ++ z)) (behind-append xs ys) ∙ ap (λ (z : List ℕ). 47 ∷ z) (sym (append_assoc x (behind xs) (behind ys)))

-- a text that is empty or begins with a slash
abbrev IsEnd : List ℕ → Type 0
IsEnd [] = Unit {0}
IsEnd (x ∷ xs) = x ≡ 47

behind-end : (parts : List (List ℕ)) → IsEnd (behind parts)
behind-end [] = tt
behind-end (part ∷ parts) = refl

slash-end : (parts : List (List ℕ)) (back : List ℕ) → IsEnd (behind parts ++ 47 ∷ back)
slash-end [] back = refl
slash-end (part ∷ parts) back = refl

no_slash : (x : ℕ) → eqb x 47 ≡ false → x ≡ 47 → ⊥
no_slash x e same = grind (arith, nat_tests)

-- the first slash ends the first text
cut : (c d xs ys : List ℕ) → Lacks 47 c → Lacks 47 d → IsEnd xs → IsEnd ys → c ++ xs ≡ d ++ ys → (c ≡ d) × (xs ≡ ys)
cut [] [] xs ys h k m n e = (refl, e)
cut [] (y ∷ d) [] ys h k m n e = absurd (cc)
cut [] (y ∷ d) (x ∷ xs) ys h k m n e = let z : x ≡ y = (cc) in absurd (no_slash y k.0 (sym z ∙ m))
cut (x ∷ c) [] xs [] h k m n e = absurd (cc)
cut (x ∷ c) [] xs (y ∷ ys) h k m n e = let z : x ≡ y = (cc) in absurd (no_slash x h.0 (z ∙ n))
cut (x ∷ c) (y ∷ d) xs ys h k m n e =
    let a : x ≡ y = (cc) in let b : c ++ xs ≡ d ++ ys = (cc) in
    let r = cut c d xs ys h.1 k.1 m n b in
    let f = r.0 in ((cc), r.1)

longer : (ds cs : List (List ℕ)) (back : List ℕ) → AreApart ds → AreApart cs → behind cs ≡ behind ds ++ 47 ∷ back → goes_on ds cs ≡ true
longer [] [] back h k e = absurd (cc)
longer [] (c ∷ cs) back h k e = refl
longer (d ∷ ds) [] back h k e = absurd (cc)
longer (d ∷ ds) (c ∷ cs) back h k e =
    let b : c ++ behind cs ≡ (d ++ behind ds) ++ 47 ∷ back = (cc) in
    let r = cut c d (behind cs) (behind ds ++ 47 ∷ back) k.0 h.0 (behind-end cs) (slash-end ds back) (b ∙ append_assoc d (behind ds) (47 ∷ back)) in
    and_from (same_bytes d c) (goes_on ds cs) (ap (same_bytes d) r.0 ∙ same_bytes-self d) (longer ds cs back h.1 k.1 r.1)

alike : (ds cs : List (List ℕ)) → AreApart ds → AreApart cs → behind cs ≡ behind ds → begins ds cs ≡ true
alike [] cs h k e = refl
alike (d ∷ ds) [] h k e = absurd (cc)
alike (d ∷ ds) (c ∷ cs) h k e =
    let b : c ++ behind cs ≡ d ++ behind ds = (cc) in
    let r = cut c d (behind cs) (behind ds) k.0 h.0 (behind-end cs) (behind-end ds) b in
    and_from (same_bytes d c) (begins ds cs) (ap (same_bytes d) r.0 ∙ same_bytes-self d) (alike ds cs h.1 k.1 r.1)

-- ---- below

below_parts : (dir place : List ℕ) → is_below dir place ≡ true → (back : List ℕ) × (place ≡ dir ++ 47 ∷ back)
below_parts dir place b =
    let w : is_within dir place ≡ true = or_right (pointwise nat_eq dir place) (is_below dir place) b in
    elim (drop-is_within dir place w) as (λ _. (back : List ℕ) × (place ≡ dir ++ 47 ∷ back)) [
      | inl none ↦
          let same : place ≡ dir = sym (is_within-drop dir place w) ∙ ap (λ (x : List ℕ). dir ++ x) none ∙ append-nil dir in
          absurd (true≢false (sym b ∙ ap (is_below dir) same ∙ is_below-same dir))
      | inr some ↦ (some.0, sym (is_within-drop dir place w) ∙ ap (λ (x : List ℕ). dir ++ x) some.1)
    ]

-- what lies below has more components
pub below_goes_on : (d c : List ℕ) (ds cs : List (List ℕ)) → AreApart (d ∷ ds) → AreApart (c ∷ cs) → is_below (join_with_byte 47 (d ∷ ds)) (join_with_byte 47 (c ∷ cs)) ≡ true → goes_on (d ∷ ds) (c ∷ cs) ≡ true
below_goes_on d c ds cs h k b =
    let w = below_parts (join_with_byte 47 (d ∷ ds)) (join_with_byte 47 (c ∷ cs)) b in
    longer (d ∷ ds) (c ∷ cs) w.0 h k (sym (join-behind c cs) ∙ ap (λ (x : List ℕ). 47 ∷ x) w.1 ∙ ap (λ (x : List ℕ). x ++ 47 ∷ w.0) (join-behind d ds))

-- ---- within

pub within_cases : {X : Type 0} (p q : List ℕ) → is_within p q ≡ true → (p ≡ q → X) → (is_below p q ≡ true → X) → X
within_cases {X} p q w f g = elim (or_cases (pointwise nat_eq p q) (is_below p q) w) as (λ _. X) [ inl e ↦ f ((bytes_decides p q).0 e) | inr e ↦ g e ]

rest_of : (ds cs : List (List ℕ)) → begins ds cs ≡ true → (es : List (List ℕ)) × (cs ≡ ds ++ es)
rest_of [] cs e = (cs, refl)
rest_of (d ∷ ds) [] e = absurd (cc)
rest_of (d ∷ ds) (c ∷ cs) e =
    let r = rest_of ds cs (both_right (same_bytes d c) (begins ds cs) e) in
    let z : c ≡ d = sym (same_bytes-true d c (both_left (same_bytes d c) (begins ds cs) e)) in
    (r.0, λ i. z i ∷ r.1 i)

root_below : (z : List ℕ) → is_below [] (47 ∷ z) ≡ true
unfolding is_below
root_below [] = refl
root_below (x ∷ z) = refl

within_append : (x : List ℕ) (es : List (List ℕ)) → is_within x (x ++ behind es) ≡ true
within_append x [] = ap (is_within x) (append-nil x) ∙ is_within-same x
within_append x (e ∷ es) = or_right (pointwise nat_eq x (x ++ behind (e ∷ es))) (is_below x (x ++ behind (e ∷ es)))
    (ap (λ (y : List ℕ). is_below y (x ++ behind (e ∷ es))) (sym (append-nil x)) ∙ is_below-append x [] (behind (e ∷ es)) ∙ root_below (e ++ behind es))

begins_within : (d c : List ℕ) (ds cs : List (List ℕ)) → begins (d ∷ ds) (c ∷ cs) ≡ true → is_within (join_with_byte 47 (d ∷ ds)) (join_with_byte 47 (c ∷ cs)) ≡ true
begins_within d c ds cs e =
    let r = rest_of (d ∷ ds) (c ∷ cs) e in
    let whole : 47 ∷ join_with_byte 47 (c ∷ cs) ≡ 47 ∷ (join_with_byte 47 (d ∷ ds) ++ behind r.0) =
    join-behind c cs ∙ ap behind r.1 ∙ behind-append (d ∷ ds) r.0 ∙ ap (λ (x : List ℕ). x ++ behind r.0) (sym (join-behind d ds)) in
    let same : join_with_byte 47 (c ∷ cs) ≡ join_with_byte 47 (d ∷ ds) ++ behind r.0 = (cc) in
    ap (is_within (join_with_byte 47 (d ∷ ds))) same ∙ within_append (join_with_byte 47 (d ∷ ds)) r.0

-- a text lies at or below another exactly where its components begin with that one's
pub within_begins : (d c : List ℕ) (ds cs : List (List ℕ)) → AreApart (d ∷ ds) → AreApart (c ∷ cs) → is_within (join_with_byte 47 (d ∷ ds)) (join_with_byte 47 (c ∷ cs)) ≡ begins (d ∷ ds) (c ∷ cs)
within_begins d c ds cs h k = both_ways _ _
    (λ w. within_cases (join_with_byte 47 (d ∷ ds)) (join_with_byte 47 (c ∷ cs)) w
    (λ e. alike (d ∷ ds) (c ∷ cs) h k (sym (join-behind c cs) ∙ ap (λ (x : List ℕ). 47 ∷ x) (sym e) ∙ join-behind d ds))
    (λ b. begins-goes_on (d ∷ ds) (c ∷ cs) (below_goes_on d c ds cs h k b)))
    (begins_within d c ds cs)

-- ---- depth

abbrev slashes : List ℕ → ℕ
slashes text = count_by (λ byte. nat_eq byte 47) text

slashes-none : (bytes : List ℕ) → Lacks 47 bytes → slashes bytes ≡ 0
slashes-none [] lack = refl
slashes-none (x ∷ bytes) lack = sum_by-cons (λ byte. cond (nat_eq byte 47) 1 0) x bytes ∙ ap (λ b. cond b 1 0 + slashes bytes) lack.0 ∙ zero-add (slashes bytes) ∙ slashes-none bytes lack.1

slashes-join : (first : List ℕ) (rest : List (List ℕ)) → AreApart (first ∷ rest) → slashes (join_with_byte 47 (first ∷ rest)) ≡ length rest
slashes-join first [] all = slashes-none first all.0
slashes-join first (next ∷ rest) all =
    sum_by-append (λ byte. cond (nat_eq byte 47) 1 0) first (47 ∷ join_with_byte 47 (next ∷ rest))
    ∙ ap (λ n. slashes first + n) (sum_by-cons (λ byte. cond (nat_eq byte 47) 1 0) 47 (join_with_byte 47 (next ∷ rest)))
    ∙ counted (slashes first) (slashes (join_with_byte 47 (next ∷ rest))) (length rest) (slashes-none first all.0) (slashes-join next rest all.1)
  where
    counted : (a b n : ℕ) → a ≡ 0 → b ≡ n → a + (1 + b) ≡ suc n
    counted a b n e f = omega arith

-- a text of at most 16 components is not too deep
pub not_too_deep : (first : List ℕ) (rest : List (List ℕ)) → AreApart (first ∷ rest) → length rest ≤ 15 → is_too_deep (join_with_byte 47 (first ∷ rest)) ≡ false
not_too_deep first rest all few = let many = slashes-join first rest all in grind (arith, nat_tests)
