use Rattle.std.proofs.Common.{rules, ◌≡◌, ◌⊎◌, ℕ, zero, suc, ◌+◌, ◌*◌, List, [], ◌∷◌, ◌++◌, Bool, true, false, cond, nat_eq, Option, Some, None, option_map, refl, sym, ap, ◌∙◌, subst, inl, inr, codes, ◌<◌, ◌^◌, arith}
use Rattle.std.proofs.lemmas.List.{append_assoc, append-nil}
use Rattle.hb_grammar.specs.declared.class.Class.TheVariants.{LowerHex}
use Rattle.hb_grammar.specs.Class.{has, is_digit}
use Rattle.hb_grammar.specs.Grammar.{Refuses, Same}
use Rattle.hb_grammar.specs.Joined.{Joined}
use Rattle.hb_grammar.specs.Marked.{Avoids, Marked}
use Rattle.hb_grammar.specs.MarkedLaws.{Marked-nil}
use Rattle.hb_grammar.specs.Numeral.{IsNumeral}
use Rattle.hb_grammar.specs.Between.{BetweenFrom}
use Rattle.hb_grammar.proofs.NumeralLemmas.{Same-IsNumeral}
use Rattle.hb_grammar.proofs.SameLemmas.{Same-EitherOf, Same-Joined, Same_refl}
use Rattle.hb_grammar.proofs.JoinedLemmas.{Refuses-Joined_first}
use Rattle.shell_text.specs.declared.argument.Argument.{Argument}
use Rattle.shell_text.specs.declared.text.Place.{Place}
use Rattle.shell_text.specs.declared.text.Place.TheVariants.{Between, Escape, First, Second}
use Rattle.shell_text.specs.Argument.{Means}
use Rattle.shell_text.specs.Blanks.{BlanksFrom, PaddedFrom}
use Rattle.shell_text.specs.Repeated.{ItemsThen, Parts}
use Rattle.shell_text.specs.Text.{Holds, IsText, digit_value, is_plain, meaning}
use Rattle.shell_text.specs.TextLaws.{cond_false}
use Rattle.shell_line.specs.Table.{IsCreateEnd, IsItem, IsLead, IsNumberEnd, IsQuoted, IsSplits, IsStampVersion, IsVersion, IsVersionCount, family, row}

-- blanks have no other byte
pub Avoids-BlanksFrom : (some : Bool) (mark : ℕ) → (mark ≡ 32 → ⊥) → Avoids (BlanksFrom some) mark
Avoids-BlanksFrom true mark other [] rest blanks = other blanks.0
Avoids-BlanksFrom false mark other [] rest blanks = other blanks.0
Avoids-BlanksFrom true mark other (x ∷ xs) rest blanks = Avoids-BlanksFrom false mark other xs rest blanks.1
Avoids-BlanksFrom false mark other (x ∷ xs) rest blanks = Avoids-BlanksFrom false mark other xs rest blanks.1

-- a choice of two that are not there
cond_none : {V : Type 0} (b : Bool) (x y : Option V) → x ≡ None → y ≡ None → cond b x y ≡ None
cond_none true x y e f = e
cond_none false x y e f = f

-- a text with a quote means nothing
no_quote : (place : Place) (front rest : List ℕ) → meaning place (front ++ 39 ∷ rest) ≡ None
unfolding has
no_quote Between [] rest = refl
no_quote Escape [] rest = refl
no_quote First [] rest = refl
no_quote (Second high) [] rest = refl
no_quote Between (x ∷ xs) rest =
    let between : meaning Between (xs ++ 39 ∷ rest) ≡ None = no_quote Between xs rest in
    let escape : meaning Escape (xs ++ 39 ∷ rest) ≡ None = no_quote Escape xs rest in
    cond_none (is_plain x) _ _ (ap (λ (o : Option (List ℕ)). option_map (λ more. x ∷ more) o) between) (cond_none (nat_eq x 92) _ _ escape refl)
no_quote Escape (x ∷ xs) rest = cond_none (nat_eq x 120) _ _ (no_quote First xs rest) refl
no_quote First (x ∷ xs) rest = cond_none (has LowerHex x) _ _ (no_quote (Second (digit_value x)) xs rest) refl
no_quote (Second high) (x ∷ xs) rest =
    let between : meaning Between (xs ++ 39 ∷ rest) ≡ None = no_quote Between xs rest in
    cond_none (has LowerHex x) _ _ (ap (λ (o : Option (List ℕ)). option_map (λ more. (16 * high + digit_value x) ∷ more) o) between) refl

-- so a text has no quote
pub Avoids-IsText : (argument : Argument) → Avoids (IsText argument) 39
Avoids-IsText argument front rest text = subst (λ o. Holds o (Means argument)) (no_quote Between front rest) text

-- items and tails with the same strings
pub Parts-Same : (a b a' b' : List ℕ → Type 0) → Same a a' → Same b b' → Parts a' b' → Parts a b
Parts-Same a b a' b' s t parts front back x y = parts front back (s.forth front x) (t.forth (front ++ back) y)

pub Same-ItemsThen : (a b a' b' : List ℕ → Type 0) (more : ℕ) → Same a a' → Same b b' → Same (ItemsThen a b more) (ItemsThen a' b' more)
Same-ItemsThen a b a' b' zero s t = t
Same-ItemsThen a b a' b' (suc more) s t =
    Same-EitherOf b (Joined a (ItemsThen a b more)) b' (Joined a' (ItemsThen a' b' more)) t
    (Same-Joined a (ItemsThen a b more) a' (ItemsThen a' b' more) s (Same-ItemsThen a b a' b' more s t))

pub Same-PaddedFrom : (a a' : List ℕ → Type 0) → Same a a' → Same (PaddedFrom true a) (PaddedFrom true a')
Same-PaddedFrom a a' s = Same-Joined (BlanksFrom false) a (BlanksFrom false) a' (Same_refl (BlanksFrom false)) s

nat_eq_self : (n : ℕ) → nat_eq n n ≡ false → ⊥
nat_eq_self n e = let same : nat_eq n n ≡ true = search rules in cc

-- the first byte that is no blank
led : List ℕ → Option ℕ
led [] = None
led (byte ∷ bytes) = cond (nat_eq byte 32) (led bytes) (Some byte)

led-blank : (byte : ℕ) (bytes : List ℕ) → byte ≡ 32 → led (byte ∷ bytes) ≡ led bytes
unfolding led
led-blank byte bytes e = subst (λ (b : ℕ). led (b ∷ bytes) ≡ led bytes) (sym e) refl

led-marked : (some : Bool) (blanks : List ℕ) (mark : ℕ) (rest : List ℕ) → BlanksFrom some blanks → nat_eq mark 32 ≡ false →
    led (blanks ++ mark ∷ rest) ≡ Some mark
unfolding led
led-marked true [] mark rest are other = absurd are
led-marked false [] mark rest are other = cond_false (nat_eq mark 32) _ _ other
led-marked true (x ∷ xs) mark rest are other = led-blank x (xs ++ mark ∷ rest) are.0 ∙ led-marked false xs mark rest are.1 other
led-marked false (x ∷ xs) mark rest are other = led-blank x (xs ++ mark ∷ rest) are.0 ∙ led-marked false xs mark rest are.1 other

led-blanks : (blanks : List ℕ) → BlanksFrom false blanks → led blanks ≡ None
unfolding led
led-blanks [] are = refl
led-blanks (x ∷ xs) are = led-blank x xs are.0 ∙ led-blanks xs are.1

led-Joined : (some : Bool) (mark : ℕ) (second : List ℕ → Type 0) (bytes more : List ℕ) → nat_eq mark 32 ≡ false → Joined (IsLead some mark) second bytes →
    led (bytes ++ more) ≡ Some mark
led-Joined some mark second bytes more other pair =
    let blanks = pair.in_first.front in
    let whole : bytes ++ more ≡ blanks ++ mark ∷ (pair.back ++ more) =
    ap (λ (x : List ℕ). x ++ more) pair.whole ∙ ap (λ (x : List ℕ). (x ++ pair.back) ++ more) pair.in_first.whole
    ∙ append_assoc (blanks ++ mark ∷ []) pair.back more ∙ append_assoc blanks (mark ∷ []) (pair.back ++ more) in
    ap led whole ∙ led-marked some blanks mark (pair.back ++ more) pair.in_first.in_inner other

led-whole : (some : Bool) (mark : ℕ) (second : List ℕ → Type 0) (bytes : List ℕ) → nat_eq mark 32 ≡ false → Joined (IsLead some mark) second bytes →
    led bytes ≡ Some mark
led-whole some mark second bytes other pair = ap led (sym (append-nil bytes)) ∙ led-Joined some mark second bytes [] other pair

-- none of three
none_of_three : {A B C : Type 0} → (A → ⊥) → (B → ⊥) → (C → ⊥) → A ⊎ (B ⊎ C) → ⊥
none_of_three a b c (inl x) = a x
none_of_three a b c (inr (inl y)) = b y
none_of_three a b c (inr (inr z)) = c z

-- two different first bytes
two_first : (o : Option ℕ) (x y : ℕ) → o ≡ Some x → o ≡ Some y → nat_eq x y ≡ false → ⊥
two_first o x y e f other =
    let same : Some x ≡ Some y = sym e ∙ f in
    let equal : x ≡ y = cc in
    let alike : nat_eq y y ≡ false = subst (λ (n : ℕ). nat_eq n y ≡ false) equal other in
    nat_eq_self y alike

some_none : (o : Option ℕ) (x : ℕ) → o ≡ Some x → o ≡ None → ⊥
some_none o x e f = cc

-- no further row begins the end of a line
pub Parts-rows : Parts (IsItem row) (BlanksFrom false)
Parts-rows front back item blanks =
    some_none (led (front ++ back)) 44 (led-Joined false 44 (IsQuoted false row) front back refl item) (led-blanks (front ++ back) blanks)

-- no further family begins the end of a line that creates a table
abbrev Versions-rest : List ℕ → Type 0
Versions-rest = Joined (λ bytes. bytes ≡ codes "ersions ") (PaddedFrom true IsVersionCount)

abbrev Splits-rest : List ℕ → Type 0
Splits-rest = Joined (λ bytes. bytes ≡ codes "plits") (Joined (IsQuoted true row) (ItemsThen (IsItem row) (BlanksFrom false) 998))

pub Parts-families : Parts (IsItem family) IsCreateEnd
Parts-families front back item end =
    let bytes : List ℕ = front ++ back in
    let comma : led bytes ≡ Some 44 = led-Joined false 44 (IsQuoted false family) front back refl item in
    none_of_three (λ blanks. some_none (led bytes) 44 comma (led-blanks bytes blanks))
    (λ versions. two_first (led bytes) 44 118 comma (led-whole true 118 Versions-rest bytes refl versions) refl)
    (λ splits. two_first (led bytes) 44 115 comma (led-whole true 115 Splits-rest bytes refl splits) refl) end

-- a number begins with no blank
between : (low max : ℕ) → max < 2 ^ 64 → (bytes : List ℕ) → IsNumeral low max bytes → BetweenFrom low max None bytes
between low max small bytes numeral = (Same-IsNumeral low max small).back bytes numeral

Refuses-IsNumeral : (low max : ℕ) → max < 2 ^ 64 → Refuses (IsNumeral low max) 32
Refuses-IsNumeral low max small rest numeral = let digit = (between low max small (32 ∷ rest) numeral).0 in cc

marked_numeral : (low max mark : ℕ) → max < 2 ^ 64 → (rest front : List ℕ) → 32 ∷ rest ≡ front ++ mark ∷ [] → IsNumeral low max front → ⊥
marked_numeral low max mark small rest [] e numeral = between low max small [] numeral
marked_numeral low max mark small rest (x ∷ xs) e numeral =
    let same : 32 ≡ x = cc in
    let digit : is_digit 32 ≡ true = subst (λ (b : ℕ). is_digit b ≡ true) (sym same) (between low max small (x ∷ xs) numeral).0 in
    cc digit

Refuses-marked_numeral : (low max mark : ℕ) → max < 2 ^ 64 → Refuses (Marked (IsNumeral low max) mark) 32
Refuses-marked_numeral low max mark small rest marked = marked_numeral low max mark small rest marked.front marked.whole marked.in_inner

Refuses-numeral_then : (low max mark : ℕ) → max < 2 ^ 64 → (second : List ℕ → Type 0) → Refuses (Joined (Marked (IsNumeral low max) mark) second) 32
Refuses-numeral_then low max mark small second =
    Refuses-Joined_first (Marked (IsNumeral low max) mark) second 32 (Marked-nil (IsNumeral low max) mark) (Refuses-marked_numeral low max mark small)

pub Refuses-IsNumberEnd : (low max : ℕ) → max < 2 ^ 64 → Refuses (IsNumberEnd low max) 32
Refuses-IsNumberEnd low max small rest (inl numeral) = Refuses-IsNumeral low max small rest numeral
Refuses-IsNumberEnd low max small rest (inr marked) = Refuses-numeral_then low max 32 small (BlanksFrom false) rest marked

pub Refuses-IsStampVersion : Refuses IsStampVersion 32
Refuses-IsStampVersion rest (inl near) = Refuses-numeral_then 0 9223372036854775807 44 (omega arith) IsVersion rest near
Refuses-IsStampVersion rest (inr far) = Refuses-numeral_then 0 9223372036854775807 32 (omega arith) (Joined (IsLead false 44) IsVersion) rest far

pub Refuses-IsVersionCount : Refuses IsVersionCount 32
Refuses-IsVersionCount rest (inl count) = Refuses-IsNumberEnd 1 2147483647 (omega arith) rest count
Refuses-IsVersionCount rest (inr more) = Refuses-numeral_then 1 2147483647 32 (omega arith) (IsSplits false) rest more
