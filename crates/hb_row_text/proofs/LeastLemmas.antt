use Rattle.std.proofs.Common.{◌≡◌, ℕ, zero, suc, ◌+◌, ◌<◌, ◌≤◌, Bool, true, false, cond, nat_lt, inl, inr, List, [], ◌∷◌, length, Option, Some, None, Result, Ok, Err, IfOk, nat_cmp, refl, sym, ◌∙◌, subst, arith}
use Rattle.std.specs.Cmp.Lexicographic.{slice_cmp, nat_list_cmp_total}
use Rattle.std.specs.Ordering.{ordering_then, is_le}
use Rattle.std.specs.declared.cmp.Ordering.{Ordering}
use Rattle.std.specs.declared.cmp.Ordering.TheVariants.{Less, Equal, Greater}
use Rattle.std.proofs.lemmas.Bool.{cases_order}
use Rattle.std.proofs.lemmas.Bool.Decides.{nat_tests}
use Rattle.std.proofs.lemmas.Cmp.{alike_right}
use Rattle.hex.specs.Hex.{IsBytes}
use Rattle.hb_row_text.specs.NextRow.{before_next, next_row, IsFrom, IsNext}
use Rattle.hb_grammar.proofs.LowerHexLemmas.{IsBytes-cons}
use Rattle.hb_row_text.proofs.OrderLemmas.{nat_cmp-same, nat_cmp-below, nat_cmp-above}

-- no row is below the empty one
at_least_nil : (b : List ℕ) → is_le (slice_cmp nat_cmp [] b) ≡ true
at_least_nil [] = refl
at_least_nil (y ∷ ys) = refl

-- no row that begins with a byte is below this byte alone
at_least_byte : (x y : ℕ) (ys : List ℕ) → x ≤ y → is_le (slice_cmp nat_cmp (x ∷ []) (y ∷ ys)) ≡ true
at_least_byte x y ys le = elim (cases_order x y) [
  | inl same ↦ rw (nat_cmp-same x y same) (at_least_nil ys)
  | inr (inl below) ↦ rw (nat_cmp-below x y below) refl
  | inr (inr above) ↦ absurd (omega arith)
]

-- the same byte before the next row and before the other
at_least_same : (x y : ℕ) (ys : List ℕ) (next : Option (List ℕ)) → x ≡ y → IsFrom next ys → IsFrom (before_next x next) (y ∷ ys)
at_least_same x y ys None same from = absurd from
at_least_same x y ys (Some n) same from = rw (nat_cmp-same x y same) from

-- the next byte alone, where the other row begins with a higher one
at_least_higher : (x y : ℕ) (ys : List ℕ) → x < y → (below : Bool) → below ≡ true → IsFrom (cond below (Some ((x + 1) ∷ [])) None) (y ∷ ys)
at_least_higher x y ys lt true e = at_least_byte (x + 1) y ys (omega arith)
at_least_higher x y ys lt false e = cc

-- a row that begins with a higher byte is not below the next
at_least_below : (x y : ℕ) (ys : List ℕ) (next : Option (List ℕ)) → x < y → y < 256 → IsFrom (before_next x next) (y ∷ ys)
at_least_below x y ys None below small = at_least_higher x y ys below (nat_lt x 255) (grind (arith, nat_tests))
at_least_below x y ys (Some n) below small = rw (nat_cmp-below x y below) refl

-- a row above another is not below the next, by their first bytes
at_least_heads : (x y : ℕ) (xs ys : List ℕ) (next : Option (List ℕ)) → y < 256 → (slice_cmp nat_cmp xs ys ≡ Less → IsFrom next ys) →
    ordering_then (nat_cmp x y) (slice_cmp nat_cmp xs ys) ≡ Less → IsFrom (before_next x next) (y ∷ ys)
at_least_heads x y xs ys next small rest e = elim (cases_order x y) [
  | inl same ↦ at_least_same x y ys next same (rest (rw (nat_cmp-same x y same) at e))
  | inr (inl below) ↦ at_least_below x y ys next below small
  | inr (inr above) ↦ let wrong = rw (nat_cmp-above x y above) at e in absurd (cc wrong)
]

-- a row above one is not below the next
IsFrom-next_row : (room : ℕ) (a b : List ℕ) → IsBytes b → length b ≤ room → slice_cmp nat_cmp a b ≡ Less → IsFrom (next_row room a) b
unfolding next_row
IsFrom-next_row zero [] [] small limit e = absurd (cc e)
IsFrom-next_row zero (x ∷ xs) [] small limit e = absurd (cc e)
IsFrom-next_row zero [] (y ∷ ys) small limit e = absurd (omega arith)
IsFrom-next_row zero (x ∷ xs) (y ∷ ys) small limit e = absurd (omega arith)
IsFrom-next_row (suc room) [] [] small limit e = absurd (cc e)
IsFrom-next_row (suc room) [] (y ∷ ys) small limit e = at_least_byte 0 y ys (omega arith)
IsFrom-next_row (suc room) (x ∷ xs) [] small limit e = absurd (cc e)
IsFrom-next_row (suc room) (x ∷ xs) (y ∷ ys) small limit e =
    at_least_heads x y xs ys (next_row room xs) (small 0) (IsFrom-next_row room xs ys (λ i. small (suc i)) (omega arith)) e

-- what holds of each way in which a next row is made: a 0 more, a byte before another, and a byte that goes up by one
record IsKept (P : List ℕ → ℕ → List ℕ → Type 0) : Type 0 where
  zero_more : (room : ℕ) → P [] (suc room) (0 ∷ [])
  before : (room x : ℕ) (xs n : List ℕ) → P xs room n → P (x ∷ xs) (suc room) (x ∷ n)
  higher : (room x : ℕ) (xs : List ℕ) → x < 255 → P (x ∷ xs) (suc room) ((x + 1) ∷ [])

-- it holds of a byte that goes up by one, where there is one above it
kept_higher : (P : List ℕ → ℕ → List ℕ → Type 0) → IsKept P → (room x : ℕ) (xs next : List ℕ) (below : Bool) → nat_lt x 255 ≡ below →
    cond below (Some ((x + 1) ∷ [])) None ≡ Some next → P (x ∷ xs) (suc room) next
kept_higher P kept room x xs next true less e =
    let small : x < 255 = grind (arith, nat_tests) in
    let same : (x + 1) ∷ [] ≡ next = cc in
    subst (P (x ∷ xs) (suc room)) same (kept.higher room x xs small)
kept_higher P kept room x xs next false less e = absurd (cc e)

-- it holds of a byte before a row and the next row
kept_before : (P : List ℕ → ℕ → List ℕ → Type 0) → IsKept P → (room x : ℕ) (xs next : List ℕ) (after : Option (List ℕ)) →
    ((n : List ℕ) → after ≡ Some n → P xs room n) → before_next x after ≡ Some next → P (x ∷ xs) (suc room) next
kept_before P kept room x xs next None rest e = kept_higher P kept room x xs next (nat_lt x 255) refl e
kept_before P kept room x xs next (Some n) rest e =
    let same : x ∷ n ≡ next = cc in subst (P (x ∷ xs) (suc room)) same (kept.before room x xs n (rest n refl))

-- so it holds of each next row
kept_next_row : (P : List ℕ → ℕ → List ℕ → Type 0) → IsKept P → (room : ℕ) (row next : List ℕ) → next_row room row ≡ Some next → P row room next
unfolding next_row
kept_next_row P kept zero row next e = absurd (cc e)
kept_next_row P kept (suc room) [] next e = let same : 0 ∷ [] ≡ next = cc in subst (P [] (suc room)) same (kept.zero_more room)
kept_next_row P kept (suc room) (x ∷ xs) next e = kept_before P kept room x xs next (next_row room xs) (kept_next_row P kept room xs) e

-- the next row is above the row
next_row-above : (room : ℕ) (row next : List ℕ) → next_row room row ≡ Some next → slice_cmp nat_cmp row next ≡ Less
next_row-above = kept_next_row (λ row _ next. slice_cmp nat_cmp row next ≡ Less) (record {
  zero_more = λ _. refl;
  before = λ _ x xs n above. rw (nat_cmp-same x x refl) above;
  higher = λ _ x xs small. rw (nat_cmp-below x (x + 1) (omega arith)) refl;
})

-- there is room for it
next_row-limit : (room : ℕ) (row next : List ℕ) → next_row room row ≡ Some next → length next ≤ room
next_row-limit = kept_next_row (λ _ room next. length next ≤ room) (record {
  zero_more = λ room. omega arith;
  before = λ room x xs n within. omega arith;
  higher = λ room x xs small. omega arith;
})

-- it is made of bytes
next_row-small : (room : ℕ) (row next : List ℕ) → next_row room row ≡ Some next → IsBytes row → IsBytes next
next_row-small = kept_next_row (λ row _ next. IsBytes row → IsBytes next) (record {
  zero_more = λ _ _. IsBytes-cons 0 [] (omega arith) (λ i. omega arith);
  before = λ _ x xs n small each. IsBytes-cons x n (each 0) (small (λ i. each (suc i)));
  higher = λ _ x xs small _. IsBytes-cons (x + 1) [] (omega arith) (λ i. omega arith);
})

-- what is below a row is below each row that is not below it
above_upto : (a b c : List ℕ) (o : Ordering) → slice_cmp nat_cmp a b ≡ Less → slice_cmp nat_cmp b c ≡ o → is_le o ≡ true → slice_cmp nat_cmp a c ≡ Less
above_upto a b c Less above e le = nat_list_cmp_total.trans a b c above e
above_upto a b c Equal above e le = sym (alike_right nat_list_cmp_total b c a e) ∙ above
above_upto a b c Greater above e le = absurd (cc le)

-- a row that is not below the next is above the row
above_IsAtLeast : (row other : List ℕ) (next : Option (List ℕ)) → ((n : List ℕ) → next ≡ Some n → slice_cmp nat_cmp row n ≡ Less) →
    IsFrom next other → slice_cmp nat_cmp row other ≡ Less
above_IsAtLeast row other None above from = absurd from
above_IsAtLeast row other (Some n) above from = above_upto row n other (slice_cmp nat_cmp n other) (above n refl) refl from

-- the next row is the least above the row
pub IsNext-next_row : (room : ℕ) (row : List ℕ) → IsNext room row (next_row room row)
IsNext-next_row room row = record {
  forth = IsFrom-next_row room row;
  back = λ other from. above_IsAtLeast row other (next_row room row) (next_row-above room row) from;
  limit = next_row-limit room row;
  small = next_row-small room row;
}

-- a result that is the next row is the least above the row
pub IfOk-IsNext : {E : Type 0} (room : ℕ) (row : List ℕ) (r : Result (Option (List ℕ)) E) → length row ≡ room →
    IfOk r (λ next. next ≡ next_row (length row) row) → IfOk r (λ next. IsNext room row next)
IfOk-IsNext room row (Ok next) long e = rw e (subst (λ n. IsNext n row (next_row (length row) row)) long (IsNext-next_row (length row) row))
IfOk-IsNext room row (Err none) long e = tt
