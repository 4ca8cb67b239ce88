use Rattle.std.proofs.Common.{◌≡◌, ℕ, zero, suc, ◌+◌, ◌-◌, ◌<◌, ◌≤◌, List, [], ◌∷◌, ◌++◌, length, take, get_or, Some, None, refl, sym, ap, ◌∙◌, subst, arith}
use Rattle.std.specs.Prelude.{IsTrue, ◌↔◌, ◌≢◌, nat_lt}
use Rattle.std.proofs.lemmas.Bool.Decides.{nat_tests}
use Rattle.hb_grammar.proofs.TestLemmas.{decided}
use Rattle.std.proofs.lemmas.List.{take_more, length-take-le}
use Rattle.hb_row_text.specs.NextRow.{before_next, next_row}

-- where there is room for a byte more, the next row has a 0 more
pub next_row-shorter : (room : ℕ) (row : List ℕ) → length row < room → next_row room row ≡ Some (row ++ 0 ∷ [])
unfolding next_row
next_row-shorter zero row short = absurd (omega arith)
next_row-shorter (suc room) [] short = refl
next_row-shorter (suc room) (byte ∷ bytes) short = ap (before_next byte) (next_row-shorter room bytes (omega arith))

-- a last byte 255 is cut off
next_row-highest : (room : ℕ) (row : List ℕ) → length row ≡ room → next_row (suc room) (row ++ 255 ∷ []) ≡ next_row room row
unfolding next_row
next_row-highest zero [] long = refl
next_row-highest zero (byte ∷ bytes) long = absurd (omega arith)
next_row-highest (suc room) [] long = absurd (omega arith)
next_row-highest (suc room) (byte ∷ bytes) long = ap (before_next byte) (next_row-highest room bytes (omega arith))

-- the next row above one of a byte that is below 255
before_next-none : (byte : ℕ) → byte < 255 → before_next byte None ≡ Some ((byte + 1) ∷ [])
before_next-none byte below = grind (arith, nat_tests)

-- a last byte below 255 goes up by one
next_row-higher : (room : ℕ) (row : List ℕ) (last : ℕ) → length row ≡ room → last < 255 →
    next_row (suc room) (row ++ last ∷ []) ≡ Some (row ++ (last + 1) ∷ [])
unfolding next_row
next_row-higher zero [] last long below = before_next-none last below
next_row-higher zero (byte ∷ bytes) last long below = absurd (omega arith)
next_row-higher (suc room) [] last long below = absurd (omega arith)
next_row-higher (suc room) (byte ∷ bytes) last long below = ap (before_next byte) (next_row-higher room bytes last (omega arith) below)

-- no row is above the empty one where there is room for no byte
pub next_row-none : (room : ℕ) (row : List ℕ) → room ≡ 0 → next_row room row ≡ None
unfolding next_row
next_row-none zero row e = refl
next_row-none (suc room) row e = absurd (omega arith)

-- a byte 255 at the end of a prefix is cut off
pub next_row-cut : (row : List ℕ) (kept : ℕ) → 0 < kept → kept ≤ length row → get_or row (kept - 1) 0 ≡ 255 →
    next_row kept (take kept row) ≡ next_row (kept - 1) (take (kept - 1) row)
next_row-cut row kept some within e =
    let more : take (kept - 1 + 1) row ≡ take (kept - 1) row ++ 255 ∷ [] =
    take_more row (kept - 1) 0 (omega arith) ∙ ap (λ b. take (kept - 1) row ++ b ∷ []) e in
    let at : kept - 1 + 1 ≡ kept = omega arith in
    let P : ℕ → Type 0 = λ n. take n row ≡ take (kept - 1) row ++ 255 ∷ [] in
    let whole : take kept row ≡ take (kept - 1) row ++ 255 ∷ [] = subst P at more in
    let suc_at : kept ≡ suc (kept - 1) = omega arith in
    let Q : ℕ → Type 0 = λ n. next_row n (take (kept - 1) row ++ 255 ∷ []) ≡ next_row (kept - 1) (take (kept - 1) row) in
    rw whole (subst Q (sym suc_at) (next_row-highest (kept - 1) (take (kept - 1) row) (length-take-le (kept - 1) row (omega arith))))

-- a byte below 255 at the end of a prefix goes up by one
pub next_row-up : (row : List ℕ) (kept : ℕ) → 0 < kept → kept ≤ length row → get_or row (kept - 1) 0 < 255 →
    next_row kept (take kept row) ≡ Some (take (kept - 1) row ++ (get_or row (kept - 1) 0 + 1) ∷ [])
next_row-up row kept some within small =
    let last : ℕ = get_or row (kept - 1) 0 in
    let at : kept - 1 + 1 ≡ kept = omega arith in
    let P : ℕ → Type 0 = λ n. take n row ≡ take (kept - 1) row ++ last ∷ [] in
    let whole : take kept row ≡ take (kept - 1) row ++ last ∷ [] = subst P at (take_more row (kept - 1) 0 (omega arith)) in
    let suc_at : kept ≡ suc (kept - 1) = omega arith in
    let Q : ℕ → Type 0 = λ n. next_row n (take (kept - 1) row ++ last ∷ []) ≡ Some (take (kept - 1) row ++ (last + 1) ∷ []) in
    rw whole (subst Q (sym suc_at) (next_row-higher (kept - 1) (take (kept - 1) row) last (length-take-le (kept - 1) row (omega arith)) small))

-- a row that is not the longest has a next one
pub has_next-shorter : (row : List ℕ) → length row < 32767 → next_row 32767 row ≢ None
has_next-shorter row short none = let some = next_row-shorter 32767 row short in let wrong : Some (row ++ 0 ∷ []) ≡ None = sym some ∙ none in cc

-- one of the longest has one where a byte is below 255
pub has_next-kept : (row : List ℕ) (kept : ℕ) → length row ≡ 32767 → kept ≤ length row → next_row (length row) row ≡ next_row kept (take kept row) →
    (0 < kept → get_or row (kept - 1) 0 < 255) → IsTrue (nat_lt 0 kept) ↔ (next_row 32767 row ≢ None)
has_next-kept row kept long within same last =
    let whole : next_row 32767 row ≡ next_row kept (take kept row) = ap (λ n. next_row n row) (sym long) ∙ same in
    decided (nat_lt 0 kept)
    (λ e none.
    let some : 0 < kept = grind (arith, nat_tests) in
    let up = next_row-up row kept some within (last some) in
    let wrong : Some (take (kept - 1) row ++ (get_or row (kept - 1) 0 + 1) ∷ []) ≡ None = sym up ∙ sym whole ∙ none in cc)
    (λ e some. let zero_kept : kept ≡ 0 = grind (arith, nat_tests) in some (whole ∙ next_row-none kept (take kept row) zero_kept))
