use Rattle.std.proofs.Common.{◌≡◌, ℕ, ◌+◌, ◌*◌, ◌-◌, ◌<◌, ◌≤◌, ◌^◌, List, [], ◌∷◌, ◌++◌, Bool, true, false, Option, Some, None, IfSome, filter, codes, refl, sym, ap, ◌∙◌, subst, arith, ◌⊎◌, inl, inr}
use Rattle.std.specs.Fmt.{decimal}
use Rattle.std.proofs.lemmas.List.{append-nil}
use Rattle.std.proofs.lemmas.List.Elements.{filter-append}
use Rattle.hb_grammar.specs.Class.{is_digit}
use Rattle.hb_grammar.specs.Joined.{Joined}
use Rattle.hb_grammar.specs.Marked.{Marked}
use Rattle.hb_grammar.specs.Numeral.{IsNumeral}
use Rattle.hb_grammar.proofs.Digits.{AreDigits, DigitsAfter}
use Rattle.hb_grammar.proofs.NumberLemmas.{value_after}
use Rattle.hb_grammar.proofs.DecimalLemmas.{AreDigits-decimal, value_after-decimal}
use Rattle.shell_text.specs.Blanks.{BlanksFrom, PaddedFrom}
use Rattle.shell_text.specs.TextLaws.{cond_true}
use Rattle.shell_line.specs.Table.{IsLead, IsNumberEnd, IsStamp, IsStampVersion, IsVersion, IsVersionStamp}
use Rattle.shell_value.specs.Quotes.{number_after, number_of}

-- no digit stands among the bytes
abbrev pub Digitless : List ℕ → Type 0
Digitless bytes = filter is_digit bytes ≡ []

-- none, or those of one number up to a limit
pub record IsDigitsOf (bytes : List ℕ) (limit : ℕ) : Type 0 where
  pub number : ℕ
  pub within : number ≤ limit
  pub digits : filter is_digit bytes ≡ decimal number

abbrev pub HasOne : ℕ → List ℕ → Type 0
HasOne limit bytes = Digitless bytes ⊎ IsDigitsOf bytes limit

filter_digits : (max value : ℕ) (bytes : List ℕ) → DigitsAfter max value bytes → filter is_digit bytes ≡ bytes
filter_digits max value [] after = refl
filter_digits max value (x ∷ xs) after =
    cond_true (is_digit x) _ _ after.1 ∙ ap (λ (l : List ℕ). x ∷ l) (filter_digits max (value * 10 + (x - 48)) xs after.2)

filter_numeral : (max : ℕ) (bytes : List ℕ) → AreDigits false max bytes → filter is_digit bytes ≡ bytes
filter_numeral max [] digits = absurd digits
filter_numeral max (x ∷ xs) digits = cond_true (is_digit x) _ _ digits.0 ∙ ap (λ (l : List ℕ). x ∷ l) (filter_digits max (x - 48) xs digits.2)

pub HasOne-IsNumeral : (low max : ℕ) (bytes : List ℕ) → max < 2 ^ 64 → IsNumeral low max bytes → HasOne max bytes
HasOne-IsNumeral low max bytes small numeral =
    let most = numeral.most in
    let digits = AreDigits-decimal false numeral.number numeral.number (λ e. absurd (cc)) (omega arith) (omega arith) in
    inr (record { number = numeral.number; within = most; digits = ap (filter is_digit) numeral.text ∙ filter_numeral numeral.number (decimal numeral.number) digits })

pub Digitless-append : (xs ys : List ℕ) → Digitless xs → Digitless ys → Digitless (xs ++ ys)
Digitless-append xs ys a b = filter-append is_digit xs ys ∙ ap (λ (l : List ℕ). l ++ filter is_digit ys) a ∙ b

pub HasOne-behind : (limit : ℕ) (xs ys : List ℕ) → Digitless xs → HasOne limit ys → HasOne limit (xs ++ ys)
HasOne-behind limit xs ys a (inl b) = inl (Digitless-append xs ys a b)
HasOne-behind limit xs ys a (inr b) =
    inr (record { number = b.number; within = b.within; digits = filter-append is_digit xs ys ∙ ap (λ (l : List ℕ). l ++ filter is_digit ys) a ∙ b.digits })

pub HasOne-before : (limit : ℕ) (xs ys : List ℕ) → HasOne limit xs → Digitless ys → HasOne limit (xs ++ ys)
HasOne-before limit xs ys (inl a) b = inl (Digitless-append xs ys a b)
HasOne-before limit xs ys (inr a) b =
    inr (record {
      number = a.number;
      within = a.within;
      digits = filter-append is_digit xs ys ∙ ap (λ (l : List ℕ). filter is_digit xs ++ l) b ∙ append-nil (filter is_digit xs) ∙ a.digits;
    })

-- of two grammars, one behind the other
pub HasOne-Joined_behind : (limit : ℕ) (first second : List ℕ → Type 0) → ((b : List ℕ) → first b → Digitless b) → ((b : List ℕ) → second b → HasOne limit b) →
    (bytes : List ℕ) → Joined first second bytes → HasOne limit bytes
HasOne-Joined_behind limit first second f g bytes pair =
    subst (HasOne limit) (sym pair.whole) (HasOne-behind limit pair.front pair.back (f pair.front pair.in_first) (g pair.back pair.in_second))

pub HasOne-Joined_before : (limit : ℕ) (first second : List ℕ → Type 0) → ((b : List ℕ) → first b → HasOne limit b) → ((b : List ℕ) → second b → Digitless b) →
    (bytes : List ℕ) → Joined first second bytes → HasOne limit bytes
HasOne-Joined_before limit first second f g bytes pair =
    subst (HasOne limit) (sym pair.whole) (HasOne-before limit pair.front pair.back (f pair.front pair.in_first) (g pair.back pair.in_second))

pub Digitless-Joined : (first second : List ℕ → Type 0) → ((b : List ℕ) → first b → Digitless b) → ((b : List ℕ) → second b → Digitless b) →
    (bytes : List ℕ) → Joined first second bytes → Digitless bytes
Digitless-Joined first second f g bytes pair =
    subst Digitless (sym pair.whole) (Digitless-append pair.front pair.back (f pair.front pair.in_first) (g pair.back pair.in_second))

-- blanks, and a mark behind them
pub Digitless-BlanksFrom : (some : Bool) (bytes : List ℕ) → BlanksFrom some bytes → Digitless bytes
Digitless-BlanksFrom true [] blanks = refl
Digitless-BlanksFrom false [] blanks = refl
Digitless-BlanksFrom true (x ∷ xs) blanks = subst (λ (n : ℕ). Digitless (n ∷ xs)) (sym blanks.0) (Digitless-BlanksFrom false xs blanks.1)
Digitless-BlanksFrom false (x ∷ xs) blanks = subst (λ (n : ℕ). Digitless (n ∷ xs)) (sym blanks.0) (Digitless-BlanksFrom false xs blanks.1)

pub Digitless-IsLead : (some : Bool) (mark : ℕ) → Digitless (mark ∷ []) → (bytes : List ℕ) → IsLead some mark bytes → Digitless bytes
Digitless-IsLead some mark plain bytes marked =
    subst Digitless (sym marked.whole) (Digitless-append marked.front (mark ∷ []) (Digitless-BlanksFrom some marked.front marked.in_inner) plain)

Digitless-IsVersion : (bytes : List ℕ) → IsVersion bytes → Digitless bytes
Digitless-IsVersion =
    Digitless-Joined (IsLead false 39) (Joined (λ bytes. bytes ≡ codes "version'") (BlanksFrom false)) (Digitless-IsLead false 39 refl)
    (Digitless-Joined (λ bytes. bytes ≡ codes "version'") (BlanksFrom false) (λ b e. subst Digitless (sym e) refl) (Digitless-BlanksFrom false))

HasOne-marked : (low max mark : ℕ) → max < 2 ^ 64 → Digitless (mark ∷ []) → (bytes : List ℕ) → Marked (IsNumeral low max) mark bytes → HasOne max bytes
HasOne-marked low max mark small plain bytes marked =
    subst (HasOne max) (sym marked.whole) (HasOne-before max marked.front (mark ∷ []) (HasOne-IsNumeral low max marked.front small marked.in_inner) plain)

pub HasOne-IsNumberEnd : (low max : ℕ) → max < 2 ^ 64 → (bytes : List ℕ) → IsNumberEnd low max bytes → HasOne max bytes
HasOne-IsNumberEnd low max small bytes (inl numeral) = HasOne-IsNumeral low max bytes small numeral
HasOne-IsNumberEnd low max small bytes (inr marked) =
    HasOne-Joined_before max (Marked (IsNumeral low max) 32) (BlanksFrom false) (HasOne-marked low max 32 small refl) (Digitless-BlanksFrom false) bytes marked

pub HasOne-padded : (limit : ℕ) (inner : List ℕ → Type 0) → ((b : List ℕ) → inner b → HasOne limit b) → (bytes : List ℕ) → PaddedFrom true inner bytes → HasOne limit bytes
HasOne-padded limit inner f = HasOne-Joined_behind limit (BlanksFrom false) inner (Digitless-BlanksFrom false) f

pub HasOne-IsStamp : (bytes : List ℕ) → IsStamp bytes → HasOne 9223372036854775807 bytes
HasOne-IsStamp bytes (inl blanks) = inl (Digitless-BlanksFrom false bytes blanks)
HasOne-IsStamp bytes (inr stamp) =
    HasOne-Joined_behind 9223372036854775807 (IsLead false 44) (PaddedFrom true (IsNumberEnd 0 9223372036854775807)) (Digitless-IsLead false 44 refl)
    (HasOne-padded 9223372036854775807 (IsNumberEnd 0 9223372036854775807) (HasOne-IsNumberEnd 0 9223372036854775807 (omega arith))) bytes stamp

HasOne-IsStampVersion : (bytes : List ℕ) → IsStampVersion bytes → HasOne 9223372036854775807 bytes
HasOne-IsStampVersion bytes (inl near) =
    HasOne-Joined_before 9223372036854775807 (Marked (IsNumeral 0 9223372036854775807) 44) IsVersion (HasOne-marked 0 9223372036854775807 44 (omega arith) refl) Digitless-IsVersion bytes near
HasOne-IsStampVersion bytes (inr far) =
    HasOne-Joined_before 9223372036854775807 (Marked (IsNumeral 0 9223372036854775807) 32) (Joined (IsLead false 44) IsVersion)
    (HasOne-marked 0 9223372036854775807 32 (omega arith) refl) (Digitless-Joined (IsLead false 44) IsVersion (Digitless-IsLead false 44 refl) Digitless-IsVersion) bytes far

pub HasOne-IsVersionStamp : (bytes : List ℕ) → IsVersionStamp bytes → HasOne 9223372036854775807 bytes
HasOne-IsVersionStamp bytes (inl stamp) = HasOne-IsStamp bytes stamp
HasOne-IsVersionStamp bytes (inr versioned) =
    HasOne-Joined_behind 9223372036854775807 (IsLead false 44) (PaddedFrom true IsStampVersion) (Digitless-IsLead false 44 refl)
    (HasOne-padded 9223372036854775807 IsStampVersion HasOne-IsStampVersion) bytes versioned

-- the digits of a number are read as that number
number_digits : (digits : List ℕ) (v : ℕ) → number_after (Some v) digits ≡ Some (value_after v digits)
number_digits [] v = refl
number_digits (x ∷ xs) v = number_digits xs (v * 10 + (x - 48))

number_numeral : (max : ℕ) (digits : List ℕ) → AreDigits false max digits → number_after None digits ≡ Some (value_after 0 digits)
number_numeral max [] digits = absurd digits
number_numeral max (x ∷ xs) digits = number_digits xs (0 * 10 + (x - 48))

pub number_of-decimal : (bytes : List ℕ) (number : ℕ) → number < 2 ^ 64 → filter is_digit bytes ≡ decimal number → number_of bytes ≡ Some number
number_of-decimal bytes number small e =
    ap (number_after None) e
    ∙ number_numeral number (decimal number) (AreDigits-decimal false number number (λ f. absurd (cc)) (omega arith) small)
    ∙ ap (λ (n : ℕ). Some n) (value_after-decimal number small)

-- the number that stands among such bytes is not above the limit
pub number_of-fits : (limit bound : ℕ) (bytes : List ℕ) → limit < bound → limit < 2 ^ 64 → HasOne limit bytes → IfSome (number_of bytes) (λ n. n < bound)
number_of-fits limit bound bytes below small (inl none) = subst (λ (o : Option ℕ). IfSome o (λ n. n < bound)) (sym (ap (number_after None) none)) tt
number_of-fits limit bound bytes below small (inr one) =
    let within = one.within in
    subst (λ (o : Option ℕ). IfSome o (λ n. n < bound)) (sym (number_of-decimal bytes one.number (omega arith) one.digits)) (omega arith)
