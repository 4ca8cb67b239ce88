use Rattle.std.proofs.Common.{◌≡◌, ℕ, ◌/◌, ◌%◌, ◌<◌, ◌≤◌, List, [], ◌∷◌, ◌++◌, Bool, true, false, cond, eqb, refl, sym, ap, arith}
use Rattle.std.proofs.lemmas.Bool.Decides.{nat_tests}
use Rattle.hb_grammar.proofs.AvoidsLemmas.{Lacks, Lacks-append}
use Rattle.shell_print.specs.Shown.{is_plain, lower_digit, byte_text, shown}

-- the four bytes of an escape
abbrev escape : ℕ → List ℕ
escape byte = 92 ∷ 120 ∷ lower_digit (byte / 16) ∷ lower_digit (byte % 16) ∷ []

-- a digit tells its number
digit_told : (m n : ℕ) → lower_digit m ≡ lower_digit n → m ≡ n
digit_told m n e = grind (arith, nat_tests)

-- a backslash does not stand for itself
not_backslash : (byte : ℕ) → byte ≡ 92 → is_plain byte ≡ true → ⊥
not_backslash byte e plain = let no : is_plain byte ≡ false = ap is_plain e in cc

-- two bytes as they are printed, by whether they stand for themselves
told_by_tests : (a b : Bool) (x y : ℕ) (p q : List ℕ) → is_plain x ≡ a → is_plain y ≡ b →
    cond a (x ∷ []) (escape x) ++ p ≡ cond b (y ∷ []) (escape y) ++ q → (x ≡ y) × (p ≡ q)
told_by_tests true true x y p q ex ey e = (cc, cc)
told_by_tests true false x y p q ex ey e = absurd (not_backslash x (cc) ex)
told_by_tests false true x y p q ex ey e = absurd (not_backslash y (cc) ey)
told_by_tests false false x y p q ex ey e =
    let high : x / 16 ≡ y / 16 = digit_told (x / 16) (y / 16) cc in
    let low : x % 16 ≡ y % 16 = digit_told (x % 16) (y % 16) cc in
    (omega arith, cc)

-- a byte as it is printed tells the byte, whatever follows
pub byte_told : (x y : ℕ) (p q : List ℕ) → byte_text x ++ p ≡ byte_text y ++ q → (x ≡ y) × (p ≡ q)
byte_told x y p q e = told_by_tests (is_plain x) (is_plain y) x y p q refl refl e

-- some byte is printed
not_nothing : (a : Bool) (x : ℕ) (p : List ℕ) → [] ≡ cond a (x ∷ []) (escape x) ++ p → ⊥
not_nothing true x p e = cc
not_nothing false x p e = cc

-- bytes as they are printed tell the bytes
pub shown_told : (xs ys : List ℕ) → shown xs ≡ shown ys → xs ≡ ys
shown_told [] [] e = refl
shown_told [] (y ∷ ys) e = absurd (not_nothing (is_plain y) y (shown ys) e)
shown_told (x ∷ xs) [] e = absurd (not_nothing (is_plain x) x (shown xs) (sym e))
shown_told (x ∷ xs) (y ∷ ys) e =
    let both : (x ≡ y) × (shown xs ≡ shown ys) = byte_told x y (shown xs) (shown ys) e in
    let first : x ≡ y = both.0 in
    let rest : xs ≡ ys = shown_told xs ys both.1 in
    cc

-- a digit is no mark below the digits
digit_apart : (mark n : ℕ) → mark < 33 → eqb (lower_digit n) mark ≡ false
digit_apart mark n low = grind (arith, nat_tests)

-- a byte that stands for itself is no mark below the printed bytes
plain_apart : (mark byte : ℕ) → mark < 33 → is_plain byte ≡ true → eqb byte mark ≡ false
plain_apart mark byte low plain = grind (arith, nat_tests)

other_apart : (mark byte : ℕ) → mark < 33 → 33 ≤ byte → eqb byte mark ≡ false
other_apart mark byte low high = grind (arith, nat_tests)

byte_text-lacks : (a : Bool) (mark byte : ℕ) → mark < 33 → is_plain byte ≡ a → Lacks mark (cond a (byte ∷ []) (escape byte))
byte_text-lacks true mark byte low e = (plain_apart mark byte low e, tt)
byte_text-lacks false mark byte low e = (
  other_apart mark 92 low (omega arith),
  (other_apart mark 120 low (omega arith), (digit_apart mark (byte / 16) low, (digit_apart mark (byte % 16) low, tt))),
)

-- no byte of what is printed is a blank or below
pub Lacks-shown : (mark : ℕ) → mark < 33 → (bytes : List ℕ) → Lacks mark (shown bytes)
Lacks-shown mark low [] = tt
Lacks-shown mark low (byte ∷ bytes) =
    Lacks-append mark (byte_text byte) (shown bytes) (byte_text-lacks (is_plain byte) mark byte low refl) (Lacks-shown mark low bytes)
