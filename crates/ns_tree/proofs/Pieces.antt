-- Bytes in pieces.
use Rattle.std.proofs.Common.{◌≡◌, ℕ, suc, ◌+◌, ◌-◌, ◌<◌, ◌≤◌, List, [], ◌∷◌, ◌++◌, length, take, drop, ap, sym, ◌∙◌, arith, get_or, inl, inr}
use Rattle.std.proofs.Math.Seq.{drop-append-add, take-append-add, drop-cons}
use Rattle.std.proofs.Math.ListN.{drop_of_length-le}
use Rattle.std.proofs.lemmas.Bool.{cases_lt}
use Rattle.std.proofs.lemmas.List.{append-nil, drop-append-le, take-append-le, length-drop, length-append, length-take-le, take_all}
use Rattle.std.proofs.lemmas.Grind.{flat_map-append}
use Rattle.ns_tree.specs.FileBytes.{joined}

-- one piece more
pub joined_push : (pieces : List (List ℕ)) (piece : List ℕ) → joined (pieces ++ piece ∷ []) ≡ joined pieces ++ piece
joined_push pieces piece = flat_map-append (λ (p : List ℕ). p) pieces (piece ∷ []) ∙ ap (λ xs. joined pieces ++ xs) (append-nil piece)

-- a position past a list is one in what follows it
pub drop-past : (xs ys : List ℕ) (n : ℕ) → length xs ≤ n → drop n (xs ++ ys) ≡ drop (n - length xs) ys
drop-past xs ys n past =
    let e : n ≡ length xs + (n - length xs) = omega arith in
    ap (λ k. drop k (xs ++ ys)) e ∙ drop-append-add xs ys (n - length xs)

-- what stands behind a position in two lists
drop-two : (xs ys : List ℕ) (n : ℕ) → drop n (xs ++ ys) ≡ drop n xs ++ drop (n - length xs) ys
drop-two xs ys n = elim (cases_lt n (length xs)) as (λ _. drop n (xs ++ ys) ≡ drop n xs ++ drop (n - length xs) ys) [
  | inl h ↦ let e : n - length xs ≡ 0 = omega arith in drop-append-le n xs ys (omega arith) ∙ ap (λ k. drop n xs ++ drop k ys) (sym e)
  | inr h ↦ drop-past xs ys n (omega arith) ∙ ap (λ front. front ++ drop (n - length xs) ys) (sym (drop_of_length-le xs (omega arith)))
]

-- the front of two lists
take-two : (xs ys : List ℕ) (n : ℕ) → take n (xs ++ ys) ≡ take n xs ++ take (n - length (take n xs)) ys
take-two xs ys n = elim (cases_lt n (length xs)) as (λ _. take n (xs ++ ys) ≡ take n xs ++ take (n - length (take n xs)) ys) [
  | inl h ↦
      let e : n - length (take n xs) ≡ 0 = omega (arith, length-take-le n xs (omega arith)) in
      take-append-le n xs ys (omega arith) ∙ sym (ap (λ k. take n xs ++ take k ys) e ∙ append-nil (take n xs))
  | inr h ↦
      let whole : take n xs ≡ xs = take_all n xs (omega arith) in
      let e : n ≡ length xs + (n - length xs) = omega arith in
      ap (λ k. take k (xs ++ ys)) e ∙ take-append-add xs ys (n - length xs) ∙ sym (ap (λ front. front ++ take (n - length front) ys) whole)
]

-- a part of pieces goes on into one piece more
pub part-push : (pieces : List (List ℕ)) (piece : List ℕ) (at len : ℕ)
    → take len (drop at (joined (pieces ++ piece ∷ []))) ≡ take len (drop at (joined pieces)) ++ take (len - length (take len (drop at (joined pieces)))) (drop (at - length (joined pieces)) piece)
part-push pieces piece at len =
    ap (λ xs. take len (drop at xs)) (joined_push pieces piece) ∙ ap (take len) (drop-two (joined pieces) piece at) ∙ take-two (drop at (joined pieces)) (drop (at - length (joined pieces)) piece) len

-- a part of the first piece alone
pub part-first : (piece : List ℕ) (pieces : List (List ℕ)) (at len : ℕ) → at + len ≤ length piece → take len (drop at (joined (piece ∷ pieces))) ≡ take len (drop at piece)
part-first piece pieces at len within =
    ap (take len) (drop-append-le at piece (joined pieces) (omega arith)) ∙ take-append-le len (drop at piece) (joined pieces) (omega (arith, length-drop at piece))

-- one piece more is copied
pub copied_next : (pieces : List (List ℕ)) (i : ℕ) (piece : List ℕ) (at len skip : ℕ) (all : List ℕ) → take (i + 1) pieces ≡ take i pieces ++ piece ∷ [] → all ≡ take len (drop at (joined (take i pieces))) →
    skip ≡ at - length (joined (take i pieces))
    → (all ++ take (len - length all) (drop skip piece) ≡ take len (drop at (joined (take (i + 1) pieces)))) × (skip - length piece ≡ at - length (joined (take (i + 1) pieces)))
copied_next pieces i piece at len skip all more e s =
    let front = take i pieces in (
      ap (λ (xs : List ℕ). xs ++ take (len - length xs) (drop skip piece)) e
          ∙ ap (λ n. take len (drop at (joined front)) ++ take (len - length (take len (drop at (joined front)))) (drop n piece)) s
          ∙ sym (part-push front piece at len) ∙ ap (λ (ps : List (List ℕ)). take len (drop at (joined ps))) (sym more),
      omega (arith, s, ap (λ (ps : List (List ℕ)). length (joined ps)) more, ap length (joined_push front piece), length-append (joined front) piece),
    )

-- one piece more is passed
pub reached_next : (pieces : List (List ℕ)) (i : ℕ) (piece : List ℕ) (at skip : ℕ) → drop i pieces ≡ piece ∷ drop (i + 1) pieces → length piece ≤ skip → drop at (joined pieces) ≡ drop skip (joined (drop i pieces))
    → drop at (joined pieces) ≡ drop (skip - length piece) (joined (drop (i + 1) pieces))
reached_next pieces i piece at skip first past e = e ∙ ap (λ (ps : List (List ℕ)). drop skip (joined ps)) first ∙ drop-past piece (joined (drop (i + 1) pieces)) skip past

-- the piece at an index, and those behind it
pub drop-first : (pieces : List (List ℕ)) (i : ℕ) (piece : List ℕ) → i < length pieces → piece ≡ get_or pieces i piece → drop i pieces ≡ piece ∷ drop (i + 1) pieces
drop-first pieces i piece within at =
    let e : suc i ≡ i + 1 = omega arith in
    drop-cons pieces i piece within ∙ ap (λ x. x ∷ drop (suc i) pieces) (sym at) ∙ ap (λ n. piece ∷ drop n pieces) e
