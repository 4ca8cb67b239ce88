use Rattle.std.proofs.Common.{◌≡◌, ◌≢◌, ℕ, ◌+◌, ◌-◌, ◌^◌, ◌<◌, ◌≤◌, List, [], ◌∷◌, ◌++◌, length, take, drop, get_or, refl, sym, subst, ap, ◌∙◌, inl, inr, ◌⊎◌, arith, Option, Some, None, unwrap_or, max}
use Rattle.std.proofs.lemmas.List.{take-append-drop, drop_more, take_more}
use Rattle.std.specs.Fmt.{decimal}
use Rattle.std.proofs.lemmas.Fmt.{decimal_injective}
use Rattle.std.proofs.lemmas.Bool.{cases_lt}
use Rattle.hb_grammar.specs.Numeral.{IsNumeral}
use Rattle.hb_grammar.proofs.NumeralLemmas.{Avoids-IsNumeral}
use Rattle.hb_grammar.proofs.FrontLemmas.{GoesOn-cuts}
use Rattle.commit_line.specs.Numbered.{IsListNumber}
use Rattle.commit_line.proofs.NumberLineLemmas.{Same-IsNumeral}
use Rattle.commit_list.specs.CommitNumber.{IsBehindSlash, HasNoSlash, IsNumbered, IsNumberAmong, IsNumberOf, IsGreatest, IsNewest, newer}

-- no bytes have no /
pub HasNoSlash-nil : HasNoSlash []
HasNoSlash-nil [] rest e = cc
HasNoSlash-nil (x ∷ front) rest e = cc

-- another byte before some without / leaves them without
pub HasNoSlash-cons : (byte : ℕ) (bytes : List ℕ) → byte ≢ 47 → HasNoSlash bytes → HasNoSlash (byte ∷ bytes)
HasNoSlash-cons byte bytes other plain [] rest e = let same : byte ≡ 47 = cc in other same
HasNoSlash-cons byte bytes other plain (x ∷ front) rest e = let behind : bytes ≡ front ++ 47 ∷ rest = cc in plain front rest behind

-- one byte more of what stands from a place on
pub HasNoSlash-drop : (bytes : List ℕ) (at : ℕ) → 0 < at → at ≤ length bytes → get_or bytes (at - 1) 0 ≢ 47 → HasNoSlash (drop at bytes) → HasNoSlash (drop (at - 1) bytes)
HasNoSlash-drop bytes at some within other plain =
    let one : at - 1 + 1 ≡ at = omega arith in
    let split : drop (at - 1) bytes ≡ get_or bytes (at - 1) 0 ∷ drop at bytes =
    drop_more bytes (at - 1) 0 (omega arith) ∙ ap (λ n. get_or bytes (at - 1) 0 ∷ drop n bytes) one in
    subst HasNoSlash (sym split) (HasNoSlash-cons (get_or bytes (at - 1) 0) (drop at bytes) other plain)

-- what stands behind a / is behind one
pub IsBehindSlash-drop : (bytes : List ℕ) (at : ℕ) → 0 < at → at ≤ length bytes → get_or bytes (at - 1) 0 ≡ 47 → IsBehindSlash bytes (drop at bytes)
IsBehindSlash-drop bytes at some within e =
    let one : at - 1 + 1 ≡ at = omega arith in
    let split : drop (at - 1) bytes ≡ 47 ∷ drop at bytes =
    drop_more bytes (at - 1) 0 (omega arith) ∙ ap (λ n. get_or bytes (at - 1) 0 ∷ drop n bytes) one ∙ ap (λ b. b ∷ drop at bytes) e in
    inr (take (at - 1) bytes, sym (take-append-drop (at - 1) bytes) ∙ ap (λ (x : List ℕ). take (at - 1) bytes ++ x) split)

-- of two components behind a / one goes on from the other, unless it has a / itself
apart : (more a b : List ℕ) → HasNoSlash a → 47 ∷ a ≡ more ++ 47 ∷ b → a ≡ b
apart [] a b plain e = cc
apart (x ∷ more) a b plain e = let behind : a ≡ more ++ 47 ∷ b = cc in absurd (plain more b behind)

-- the last component is one alone
pub IsBehindSlash-alone : (place a b : List ℕ) → HasNoSlash a → HasNoSlash b → IsBehindSlash place a → IsBehindSlash place b → a ≡ b
IsBehindSlash-alone place a b plain plain' (inl e) (inl e') = sym e ∙ e'
IsBehindSlash-alone place a b plain plain' (inl e) (inr p) = absurd (plain p.0 b (sym e ∙ p.1))
IsBehindSlash-alone place a b plain plain' (inr p) (inl e') = absurd (plain' p.0 a (sym e' ∙ p.1))
IsBehindSlash-alone place a b plain plain' (inr p) (inr q) =
    elim (GoesOn-cuts p.0 (47 ∷ a) q.0 (47 ∷ b) (sym p.1 ∙ q.1)) as (λ _. a ≡ b)
    [ inl on ↦ apart on.0 a b plain on.2 | inr on ↦ sym (apart on.0 b a plain' on.2) ]

-- no number has a /
pub HasNoSlash-decimal : (number : ℕ) → IsListNumber number → HasNoSlash (decimal number)
HasNoSlash-decimal number within front rest e =
    let numeral = (Same-IsNumeral 1 9_223_372_036_854_775_807).back (decimal number) (number, within, refl) in
    Avoids-IsNumeral 1 9_223_372_036_854_775_807 47 (omega arith) refl front rest
    (subst (IsNumeral 1 9_223_372_036_854_775_807) e numeral)

-- the number of a place is that of its last component
pub IsNumeral-IsNumbered : (place component : List ℕ) (number : ℕ) → IsBehindSlash place component → HasNoSlash component → IsNumbered place number →
    IsNumeral 1 9_223_372_036_854_775_807 component
IsNumeral-IsNumbered place component number last plain numbered =
    let same : component ≡ decimal number =
    IsBehindSlash-alone place component (decimal number) plain (HasNoSlash-decimal number numbered.0) last numbered.1 in
    (Same-IsNumeral 1 9_223_372_036_854_775_807).back component (number, numbered.0, same)

-- where that is a numeral, it tells the number
pub IsNumbered-IsNumeral : (place component : List ℕ) (number : ℕ) → IsBehindSlash place component → IsNumeral 1 9_223_372_036_854_775_807 component →
    decimal number ≡ component → number < 2 ^ 64 → IsNumbered place number
IsNumbered-IsNumeral place component number last numeral e small =
    let spelled = (Same-IsNumeral 1 9_223_372_036_854_775_807).forth component numeral in
    let within = spelled.1.1 in
    let same : spelled.0 ≡ number = decimal_injective spelled.0 number (omega arith) small (sym spelled.2 ∙ sym e) in
    (subst (IsListNumber) same spelled.1, subst (IsBehindSlash place) (sym e) last)

-- a number among places and one more is among these, or the last one's
IsNumberAmong-push : (places : List (List ℕ)) (place : List ℕ) (number : ℕ) → IsNumberAmong (places ++ place ∷ []) number → IsNumberAmong places number ⊎ IsNumbered place number
IsNumberAmong-push [] place number (inl numbered) = inr numbered
IsNumberAmong-push [] place number (inr none) = absurd none
IsNumberAmong-push (first ∷ places) place number (inl numbered) = inl (inl numbered)
IsNumberAmong-push (first ∷ places) place number (inr among) =
    elim (IsNumberAmong-push places place number among) as (λ _. IsNumberAmong (first ∷ places) number ⊎ IsNumbered place number) [ inl a ↦ inl (inr a) | inr b ↦ inr b ]

-- one among some is among more
among-front : (places : List (List ℕ)) (place : List ℕ) (number : ℕ) → IsNumberAmong places number → IsNumberAmong (places ++ place ∷ []) number
among-front [] place number none = absurd none
among-front (first ∷ places) place number (inl numbered) = inl numbered
among-front (first ∷ places) place number (inr among) = inr (among-front places place number among)

-- so is the last one's
among-last : (places : List (List ℕ)) (place : List ℕ) (number : ℕ) → IsNumbered place number → IsNumberAmong (places ++ place ∷ []) number
among-last [] place number numbered = inl numbered
among-last (first ∷ places) place number numbered = inr (among-last places place number numbered)

-- a place without a number changes nothing
IsNewest-other : (places : List (List ℕ)) (place : List ℕ) (newest : Option ℕ) → IsNewest places newest → IsNumberOf place None → IsNewest (places ++ place ∷ []) newest
IsNewest-other places place None none other = λ number among.
    elim (IsNumberAmong-push places place number among) as (λ _. ⊥) [ inl a ↦ none number a | inr b ↦ other number b ]
IsNewest-other places place (Some newest) greatest other = record {
  among = among-front places place newest greatest.among;
  greatest = λ number among.
      elim (IsNumberAmong-push places place number among) as (λ _. number ≤ newest) [ inl a ↦ greatest.greatest number a | inr b ↦ absurd (other number b) ];
}

-- a place has one number
number_alone : (place : List ℕ) (m n : ℕ) → IsNumbered place m → IsNumbered place n → m ≡ n
number_alone place m n a b =
    let low = a.0.1 in
    let low' = b.0.1 in
    decimal_injective m n (omega arith) (omega arith)
    (IsBehindSlash-alone place (decimal m) (decimal n) (HasNoSlash-decimal m a.0) (HasNoSlash-decimal n b.0) a.1 b.1)

-- the greater of two numbers is one of them
max-either : (m n : ℕ) → (max m n ≡ m) ⊎ (max m n ≡ n)
max-either m n = elim (cases_lt m n) as (λ _. (max m n ≡ m) ⊎ (max m n ≡ n)) [ inl less ↦ inr (omega arith) | inr le ↦ inl (omega arith) ]

-- a place with a number leaves the greater of both
IsNewest-number : (places : List (List ℕ)) (place : List ℕ) (newest : Option ℕ) (number : ℕ) → IsNewest places newest → IsNumbered place number →
    IsNewest (places ++ place ∷ []) (Some (max (unwrap_or newest 0) number))
IsNewest-number places place None number none numbered =
    let same : max 0 number ≡ number = omega arith in
    subst (λ n. IsGreatest (places ++ place ∷ []) n) (sym same) (record {
      among = among-last places place number numbered;
      greatest = λ other among. elim (IsNumberAmong-push places place other among) as (λ _. other ≤ number)
          [ inl a ↦ absurd (none other a) | inr b ↦ (let e = number_alone place other number b numbered in omega arith) ];
    })
IsNewest-number places place (Some newest) number greatest numbered = record {
  among = elim (max-either newest number) as (λ _. IsNumberAmong (places ++ place ∷ []) (max newest number)) [
    | inl e ↦ subst (IsNumberAmong (places ++ place ∷ [])) (sym e) (among-front places place newest greatest.among)
    | inr e ↦ subst (IsNumberAmong (places ++ place ∷ [])) (sym e) (among-last places place number numbered)
  ];
  greatest = λ other among. elim (IsNumberAmong-push places place other among) as (λ _. other ≤ max newest number) [
    | inl a ↦ (let le = greatest.greatest other a in omega arith)
    | inr b ↦ (let e = number_alone place other number b numbered in omega arith)
  ];
}

-- one place more
IsNewest-newer : (places : List (List ℕ)) (place : List ℕ) (newest number : Option ℕ) → IsNewest places newest → IsNumberOf place number →
    IsNewest (places ++ place ∷ []) (newer newest number)
IsNewest-newer places place newest None so_far other = IsNewest-other places place newest so_far other
IsNewest-newer places place newest (Some number) so_far numbered = IsNewest-number places place newest number so_far numbered

-- all bytes are behind no /
pub IsBehindSlash-all : (bytes : List ℕ) (at : ℕ) → at ≤ 0 → IsBehindSlash bytes (drop at bytes)
IsBehindSlash-all bytes at none = let e : 0 ≡ at = omega arith in inl (ap (λ n. drop n bytes) e)

-- so far, and one place more of a list
pub IsNewest-take_more : (places : List (List ℕ)) (i : ℕ) (place : List ℕ) (newest number : Option ℕ) → i < length places → place ≡ get_or places i place →
    IsNewest (take i places) newest → IsNumberOf place number → IsNewest (take (i + 1) places) (newer newest number)
IsNewest-take_more places i place newest number below here so_far numbered =
    let more : take (i + 1) places ≡ take i places ++ place ∷ [] = take_more places i place below ∙ ap (λ (x : List ℕ). take i places ++ x ∷ []) (sym here) in
    subst (λ (x : List (List ℕ)). IsNewest x (newer newest number)) (sym more) (IsNewest-newer (take i places) place newest number so_far numbered)
