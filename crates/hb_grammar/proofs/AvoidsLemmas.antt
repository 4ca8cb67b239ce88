use Rattle.std.proofs.Common.{◌≡◌, ℕ, ◌+◌, ◌*◌, ◌-◌, rules, List, [], ◌∷◌, ◌++◌, refl, Bool, true, false, eqb, sym, ap, subst, inl, inr}
use Rattle.std.proofs.lemmas.Bool.{eqb-true}
use Rattle.hb_grammar.specs.declared.class.Class.{Class}
use Rattle.hb_grammar.specs.Class.{has, is_digit, AllIn}
use Rattle.hb_grammar.proofs.Digits.{DigitsAfter, AreDigits}
use Rattle.hb_grammar.specs.Run.{IsRun, IsExactly}
use Rattle.hb_grammar.specs.Joined.{Joined}
use Rattle.hb_grammar.specs.Marked.{Marked, Avoids}
use Rattle.hb_grammar.specs.Either.{EitherOf}

-- no byte is this one
abbrev pub Lacks : ℕ → List ℕ → Type 0
Lacks mark [] = Unit {0}
Lacks mark (x ∷ xs) = (eqb x mark ≡ false) × Lacks mark xs

-- no string of the grammar has this byte, a byte at a time
abbrev pub Free : (List ℕ → Type 0) → ℕ → Type 0
Free spells mark = (bytes : List ℕ) → spells bytes → Lacks mark bytes

-- a byte is itself
eqb_self : (mark : ℕ) → eqb mark mark ≡ false → ⊥
eqb_self mark e = let same : eqb mark mark ≡ true = search rules in cc

-- bytes that lack a mark don't have it behind any others
Lacks-mark : (mark : ℕ) (front rest : List ℕ) → Lacks mark (front ++ mark ∷ rest) → ⊥
Lacks-mark mark [] rest lacks = eqb_self mark lacks.0
Lacks-mark mark (x ∷ xs) rest lacks = Lacks-mark mark xs rest lacks.1

-- two parts that lack a mark lack it together
pub Lacks-append : (mark : ℕ) (xs ys : List ℕ) → Lacks mark xs → Lacks mark ys → Lacks mark (xs ++ ys)
Lacks-append mark [] ys a b = b
Lacks-append mark (x ∷ xs) ys a b = (a.0, Lacks-append mark xs ys a.1 b)

-- a grammar whose strings lack a mark avoids it
pub Avoids-Free : (spells : List ℕ → Type 0) (mark : ℕ) → Free spells mark → Avoids spells mark
Avoids-Free spells mark free front rest spelled = Lacks-mark mark front rest (free (front ++ mark ∷ rest) spelled)

-- a byte that a test takes is none that it refuses
pub eqb_apart : (test : ℕ → Bool) (x mark : ℕ) → test x ≡ true → test mark ≡ false → (b : Bool) → eqb x mark ≡ b → b ≡ false
eqb_apart test x mark taken refused false e = refl
eqb_apart test x mark taken refused true e =
    let same : x ≡ mark = eqb-true x mark e in let alike : test x ≡ test mark = ap test same in cc

-- bytes of a class lack a mark that is not in it
pub Lacks-AllIn : (class : Class) (mark : ℕ) → has class mark ≡ false → (bytes : List ℕ) → AllIn class bytes → Lacks mark bytes
Lacks-AllIn class mark outside [] each = tt
Lacks-AllIn class mark outside (x ∷ xs) each =
    (eqb_apart (has class) x mark each.0 outside (eqb x mark) refl, Lacks-AllIn class mark outside xs each.1)

-- so do runs
pub Free-IsRun : (class : Class) (low high mark : ℕ) → has class mark ≡ false → Free (IsRun class low high) mark
Free-IsRun class low high mark outside bytes run = Lacks-AllIn class mark outside bytes run.each

-- and so many bytes of a class
pub Free-IsExactly : (class : Class) (count mark : ℕ) → has class mark ≡ false → Free (IsExactly class count) mark
Free-IsExactly class count mark outside bytes run = Lacks-AllIn class mark outside bytes run.each

-- two grammars that are free of a mark are so behind one another
pub Free-Joined : (first second : List ℕ → Type 0) (mark : ℕ) → Free first mark → Free second mark → Free (Joined first second) mark
Free-Joined first second mark f g bytes pair =
    subst (Lacks mark) (sym pair.whole) (Lacks-append mark pair.front pair.back (f pair.front pair.in_first) (g pair.back pair.in_second))

-- and as a choice
pub Free-EitherOf : (first second : List ℕ → Type 0) (mark : ℕ) → Free first mark → Free second mark → Free (EitherOf first second) mark
Free-EitherOf first second mark f g bytes either = elim either as (λ _. Lacks mark bytes) [ inl a ↦ f bytes a | inr b ↦ g bytes b ]

-- a text is free of what it lacks
pub Free-text : (text : List ℕ) (mark : ℕ) → Lacks mark text → Free (λ bytes. bytes ≡ text) mark
Free-text text mark lacks bytes e = subst (Lacks mark) (sym e) lacks

-- another mark at the end changes nothing
pub Free-Marked : (inner : List ℕ → Type 0) (other mark : ℕ) → Free inner mark → eqb other mark ≡ false → Free (Marked inner other) mark
Free-Marked inner other mark free apart bytes marked =
    subst (Lacks mark) (sym marked.whole) (Lacks-append mark marked.front (other ∷ []) (free marked.front marked.in_inner) (apart, tt))

-- the digits behind a number's first ones lack a byte that is no digit
Lacks-DigitsAfter : (mark max value : ℕ) → is_digit mark ≡ false → (bytes : List ℕ) → DigitsAfter max value bytes → Lacks mark bytes
Lacks-DigitsAfter mark max value outside [] after = tt
Lacks-DigitsAfter mark max value outside (digit ∷ digits) after =
    (eqb_apart is_digit digit mark after.1 outside _ refl, Lacks-DigitsAfter mark max (value * 10 + (digit - 48)) outside digits after.2)

-- so do numerals
pub Free-AreDigits : (positive : Bool) (max mark : ℕ) → is_digit mark ≡ false → Free (AreDigits positive max) mark
Free-AreDigits positive max mark outside [] numeral = absurd numeral
Free-AreDigits positive max mark outside (digit ∷ digits) numeral =
    (eqb_apart is_digit digit mark numeral.0 outside _ refl, Lacks-DigitsAfter mark max (digit - 48) outside digits numeral.2)
