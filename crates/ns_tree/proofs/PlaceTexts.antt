-- Where a file of a tree goes is a place, as long as it has no more components than a place may have.
use Rattle.std.proofs.Common.{◌≡◌, ℕ, zero, suc, ◌+◌, ◌≤◌, List, [], ◌∷◌, ◌++◌, true, false, ◌⊎◌, cond, count_by, refl, sym, ap, ◌∙◌, subst, nat_eq, length, arith, inl, inr, append_assoc, append-nil, zero-add}
use Rattle.std.specs.List.{join_with_byte, AllByRecursion}
use Rattle.std.proofs.lemmas.Bool.Decides.{nat_tests}
use Rattle.std.proofs.lemmas.List.Sums.{sum_by-append, sum_by-cons}
use Rattle.hb_grammar.specs.declared.class.Class.TheVariants.{Component}
use Rattle.hb_grammar.specs.Class.{has}
use Rattle.hb_grammar.specs.Separated.{SeparatedOf}
use Rattle.hb_grammar.proofs.AvoidsLemmas.{Lacks, Lacks-AllIn}
use Rattle.hb_names.specs.Component.{IsComponent}
use Rattle.hb_names.specs.Place.{IsPlace}
use Rattle.hb_names.proofs.ComponentLemmas.{Avoids-IsComponent}
use Rattle.hb_names.proofs.PlaceLemmas.{IsPlace-join_with_byte}
use Rattle.ns_tree.specs.Places.{is_within, is_too_deep, target_of}
use Rattle.ns_tree.proofs.Leads.{is_within-drop, drop-is_within}

-- the components of a text
record IsPath (text : List ℕ) : Type 0 where
  first : List ℕ
  rest : List (List ℕ)
  joined : text ≡ join_with_byte 47 (first ∷ rest)
  in_first : IsComponent first
  in_rest : AllByRecursion IsComponent rest

IsPath-SeparatedOf : (more : ℕ) (text : List ℕ) → SeparatedOf IsComponent 47 more text → IsPath text
IsPath-SeparatedOf zero text one = record { first = text; rest = []; joined = refl; in_first = one; in_rest = tt }
IsPath-SeparatedOf (suc more) text (inl one) = record { first = text; rest = []; joined = refl; in_first = one; in_rest = tt }
IsPath-SeparatedOf (suc more) text (inr two) =
    let front = two.in_first in
    let path = IsPath-SeparatedOf more two.back two.in_second in
    record {
      first = front.front;
      rest = path.first ∷ path.rest;
      joined = two.whole ∙ ap (λ f. f ++ two.back) front.whole ∙ append_assoc front.front (47 ∷ []) two.back ∙ ap (λ b. front.front ++ 47 ∷ b) path.joined;
      in_first = front.in_inner;
      in_rest = (path.in_first, path.in_rest);
    }

lacks : (bytes : List ℕ) → IsComponent bytes → Lacks 47 bytes
unfolding has
lacks bytes component = Lacks-AllIn Component 47 refl bytes component.each

-- where the first slash stands
first_slash : (front back xs ys : List ℕ) → Lacks 47 front → front ++ 47 ∷ back ≡ xs ++ 47 ∷ ys → (back ≡ ys) ⊎ ((zs : List ℕ) × (back ≡ zs ++ 47 ∷ ys))
first_slash [] back [] ys lack e = inl (cc)
first_slash [] back (x ∷ xs) ys lack e = inr (xs, (cc))
first_slash (f ∷ front) back [] ys lack e = let same : f ≡ 47 = cc in let not = lack.0 in absurd (grind (arith, nat_tests))
first_slash (f ∷ front) back (x ∷ xs) ys lack e = first_slash front back xs ys lack.1 (cc)

-- what stands behind a slash is a path
behind : (first : List ℕ) (rest : List (List ℕ)) (xs ys : List ℕ) → IsComponent first → AllByRecursion IsComponent rest → join_with_byte 47 (first ∷ rest) ≡ xs ++ 47 ∷ ys → IsPath ys
behind first [] xs ys one all e = absurd (Avoids-IsComponent xs ys (subst IsComponent e one))
behind first (next ∷ rest) xs ys one all e =
    elim (first_slash first (join_with_byte 47 (next ∷ rest)) xs ys (lacks first one) e) as (λ _. IsPath ys) [
      | inl here ↦ record { first = next; rest = rest; joined = sym here; in_first = all.0; in_rest = all.1 }
      | inr later ↦ behind next rest later.0 ys all.0 all.1 later.1
    ]

join-append : (first : List ℕ) (rest : List (List ℕ)) (next : List ℕ) (others : List (List ℕ)) → join_with_byte 47 (first ∷ (rest ++ next ∷ others)) ≡ join_with_byte 47 (first ∷ rest) ++ 47 ∷ join_with_byte 47 (next ∷ others)
join-append first [] next others = refl
join-append first (r ∷ rest) next others =
    ap (λ b. first ++ 47 ∷ b) (join-append r rest next others) ∙ sym (append_assoc first (47 ∷ join_with_byte 47 (r ∷ rest)) (47 ∷ join_with_byte 47 (next ∷ others)))

all-append : (xs ys : List (List ℕ)) → AllByRecursion IsComponent xs → AllByRecursion IsComponent ys → AllByRecursion IsComponent (xs ++ ys)
all-append [] ys a b = b
all-append (x ∷ xs) ys a b = (a.0, all-append xs ys a.1 b)

abbrev slashes : List ℕ → ℕ
slashes text = count_by (λ byte. nat_eq byte 47) text

slashes-none : (bytes : List ℕ) → Lacks 47 bytes → slashes bytes ≡ 0
slashes-none [] lack = refl
slashes-none (x ∷ bytes) lack = sum_by-cons (λ byte. cond (nat_eq byte 47) 1 0) x bytes ∙ ap (λ b. cond b 1 0 + slashes bytes) lack.0 ∙ zero-add (slashes bytes) ∙ slashes-none bytes lack.1

slashes-join : (first : List ℕ) (rest : List (List ℕ)) → IsComponent first → AllByRecursion IsComponent rest → slashes (join_with_byte 47 (first ∷ rest)) ≡ length rest
slashes-join first [] one all = slashes-none first (lacks first one)
slashes-join first (next ∷ rest) one all =
    sum_by-append (λ byte. cond (nat_eq byte 47) 1 0) first (47 ∷ join_with_byte 47 (next ∷ rest))
    ∙ ap (λ n. slashes first + n) (sum_by-cons (λ byte. cond (nat_eq byte 47) 1 0) 47 (join_with_byte 47 (next ∷ rest)))
    ∙ counted (slashes first) (slashes (join_with_byte 47 (next ∷ rest))) (length rest) (slashes-none first (lacks first one)) (slashes-join next rest all.0 all.1)
  where
    counted : (a b n : ℕ) → a ≡ 0 → b ≡ n → a + (1 + b) ≡ suc n
    counted a b n e f = omega arith

-- a path of few components is a place
IsPlace-IsPath : (text : List ℕ) → IsPath text → is_too_deep text ≡ false → IsPlace text
IsPlace-IsPath text path shallow =
    let few = ap slashes path.joined ∙ slashes-join path.first path.rest path.in_first path.in_rest in
    let short : length path.rest + 1 ≤ 16 = grind (arith, nat_tests) in
    subst IsPlace (sym path.joined) (IsPlace-join_with_byte (path.first ∷ path.rest) (omega arith) (omega arith) (path.in_first, path.in_rest))

pub IsPlace-target_of : (from to place : List ℕ) → IsPlace to → IsPlace place → is_within from place ≡ true → is_too_deep (target_of from to place) ≡ false → IsPlace (target_of from to place)
IsPlace-target_of from to place new old within shallow = elim (drop-is_within from place within) as (λ _. IsPlace (target_of from to place)) [
  | inl none ↦ subst IsPlace (sym (ap (λ rest. to ++ rest) none ∙ append-nil to)) new
  | inr some ↦
      let whole = IsPath-SeparatedOf 15 place old in
      let rest = behind whole.first whole.rest from some.0 whole.in_first whole.in_rest (sym whole.joined ∙ sym (is_within-drop from place within) ∙ ap (λ rest. from ++ rest) some.1) in
      let front = IsPath-SeparatedOf 15 to new in
      IsPlace-IsPath (target_of from to place) (record {
        first = front.first;
        rest = front.rest ++ rest.first ∷ rest.rest;
        joined = ap (λ rest. to ++ rest) some.1 ∙ ap (λ t. t ++ 47 ∷ some.0) front.joined ∙ ap (λ b. join_with_byte 47 (front.first ∷ front.rest) ++ 47 ∷ b) rest.joined
            ∙ sym (join-append front.first front.rest rest.first rest.rest);
        in_first = front.in_first;
        in_rest = all-append front.rest (rest.first ∷ rest.rest) front.in_rest (rest.in_first, rest.in_rest);
      }) shallow
]
