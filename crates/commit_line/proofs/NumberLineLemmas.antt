use Rattle.std.proofs.Common.{◌≡◌, ℕ, ◌+◌, ◌-◌, ◌≤◌, ◌<◌, ◌^◌, List, [], ◌∷◌, ◌++◌, length, take, drop, refl, sym, subst, ap, ◌∙◌, arith}
use Rattle.std.specs.Fmt.{decimal}
use Rattle.std.proofs.lemmas.Fmt.{decimal_injective}
use Rattle.std.proofs.lemmas.List.{append_cancel_left, append_cancel_right, length-append, length-drop, drop_at, take_at, take_all, drop-drop}
use Rattle.hb_grammar.specs.Grammar.{IsFault, Same}
use Rattle.hb_grammar.specs.Front.{IsFrontFault}
use Rattle.hb_grammar.specs.Joined.{Joined}
use Rattle.hb_grammar.specs.Marked.{Marked}
use Rattle.hb_grammar.specs.Numeral.{IsNumeral}
use Rattle.hb_grammar.specs.TextOf.{IsTextOf}
use Rattle.commit_line.specs.ListError.{IsValueAt}
use Rattle.commit_line.specs.Line.{ended, IsNumber}

-- numerals are the decimals of numbers
pub Same-IsNumeral : (low max : ℕ) → Same (IsNumeral low max) (IsTextOf (IsNumber low max) decimal)
Same-IsNumeral low max = record {
  forth = λ bytes numeral. (numeral.number, (numeral.least, numeral.most), numeral.text);
  back = λ bytes spelled. record { number = spelled.0; least = spelled.1.0; most = spelled.1.1; text = spelled.2 };
}

-- a text, a numeral and a line feed are the line of a number
pub Same-number_line : (text : List ℕ) (low max : ℕ) →
    Same (Joined (λ bytes. bytes ≡ text) (Marked (IsNumeral low max) 10)) (IsTextOf (IsNumber low max) (λ number. text ++ ended (decimal number)))
Same-number_line text low max =
    let same = Same-IsNumeral low max in
    record {
      forth = λ bytes j.
          let n = same.forth j.in_second.front j.in_second.in_inner in
          (n.0, n.1, j.whole ∙ ap (λ (x : List ℕ). x ++ j.back) j.in_first ∙ ap (λ (x : List ℕ). text ++ x) j.in_second.whole ∙ ap (λ (x : List ℕ). text ++ ended x) n.2);
      back = λ bytes spelled. record {
        front = text;
        back = ended (decimal spelled.0);
        whole = spelled.2;
        in_first = refl;
        in_second = record { front = decimal spelled.0; whole = refl; in_inner = same.back (decimal spelled.0) (spelled.0, spelled.1, refl) };
      };
    }

-- the numbers of equal lines are equal
pub number_line-injective : (text : List ℕ) (m n : ℕ) → m < 2 ^ 64 → n < 2 ^ 64 → text ++ ended (decimal m) ≡ text ++ ended (decimal n) → m ≡ n
number_line-injective text m n small small' e =
    decimal_injective m n small small' (append_cancel_right (decimal m) (decimal n) (10 ∷ []) (append_cancel_left text (ended (decimal m)) (ended (decimal n)) e))

-- what stands between a text and the last byte of such a line
between : (text word : List ℕ) (line : List ℕ) → line ≡ text ++ ended word → take (length line - 1 - length text) (drop (length text) line) ≡ word
between text word line e =
    let behind : drop (length text) line ≡ ended word = ap (drop (length text)) e ∙ drop_at text (ended word) (length text) refl in
    let long : length line ≡ length text + (length word + 1) = ap length e ∙ length-append text (ended word) ∙ ap (λ n. length text + n) (length-append word (10 ∷ [])) in
    let count : length line - 1 - length text ≡ length word = omega arith in
    ap (λ n. take n (drop (length text) line)) count ∙ ap (take (length word)) behind ∙ take_at word (10 ∷ []) (length word) refl

-- is a numeral where the line is that of a number
pub IsNumeral-between : (text line : List ℕ) → IsTextOf (IsNumber 0 18_446_744_073_709_551_615) (λ number. text ++ ended (decimal number)) line →
    IsNumeral 0 18_446_744_073_709_551_615 (take (length line - 1 - length text) (drop (length text) line))
IsNumeral-between text line spelled =
    let same = Same-IsNumeral 0 18_446_744_073_709_551_615 in
    same.back (take (length line - 1 - length text) (drop (length text) line)) (spelled.0, spelled.1, between text (decimal spelled.0) line spelled.2)

-- and the number is told by it
pub text-between : (text line : List ℕ) → IsTextOf (IsNumber 0 18_446_744_073_709_551_615) (λ number. text ++ ended (decimal number)) line → (n : ℕ) →
    decimal n ≡ take (length line - 1 - length text) (drop (length text) line) → line ≡ text ++ ended (decimal n)
text-between text line spelled n e =
    spelled.2 ∙ ap (λ (x : List ℕ). text ++ ended x) (sym (e ∙ between text (decimal spelled.0) line spelled.2))

-- a number of a line that is read, with the line as the text of one within limits
pub number-line : (text line : List ℕ) (low max n : ℕ) → max < 2 ^ 64 → n < 2 ^ 64 →
    IsTextOf (IsNumber low max) (λ number. text ++ ended (decimal number)) line → line ≡ text ++ ended (decimal n) → IsNumber low max n
number-line text line low max n small small' spelled e =
    let within = spelled.1.1 in
    let same : spelled.0 ≡ n = number_line-injective text spelled.0 n (omega arith) small' (sym spelled.2 ∙ e) in
    subst (IsNumber low max) same spelled.1

-- all that stands from a place on
pub take_rest : (bytes : List ℕ) (at : ℕ) → take (length bytes - at) (drop at bytes) ≡ drop at bytes
take_rest bytes at = take_all (length bytes - at) (drop at bytes) (omega (arith, length-drop at bytes))

-- a line of a number that stands at a place
pub IsValueAt-number_line : (text : List ℕ) (low max : ℕ) (bytes : List ℕ) (at : ℕ) (line rest : List ℕ) (n : ℕ) → max < 2 ^ 64 → n < 2 ^ 64 → at ≤ length bytes →
    take (length bytes - at) (drop at bytes) ≡ line ++ rest → IsTextOf (IsNumber low max) (λ number. text ++ ended (decimal number)) line → line ≡ text ++ ended (decimal n) →
    IsValueAt (IsNumber low max) (λ number. text ++ ended (decimal number)) bytes at n (at + length line)
IsValueAt-number_line text low max bytes at line rest n small small' inside whole spelled e =
    let all : drop at bytes ≡ line ++ rest = sym (take_rest bytes at) ∙ whole in
    let long : length (drop at bytes) ≡ length (line ++ rest) = ap length all in
    let behind : drop (at + length line) bytes ≡ rest = sym (drop-drop (length line) at bytes) ∙ ap (drop (length line)) all ∙ drop_at line rest (length line) refl in
    record {
      is_valid = number-line text line low max n small small' spelled e;
      within = omega (arith, long, length-drop at bytes, length-append line rest);
      place = ap (λ (x : List ℕ). at + length x) e;
      whole = all ∙ ap (λ (x : List ℕ). x ++ rest) e ∙ ap (λ (x : List ℕ). (text ++ ended (decimal n)) ++ x) (sym behind);
    }

-- the line of a number within limits is that of one of 64 bits
pub IsTextOf-wider : (text : List ℕ) (low max : ℕ) (line : List ℕ) → max < 2 ^ 64 → IsTextOf (IsNumber low max) (λ number. text ++ ended (decimal number)) line →
    IsTextOf (IsNumber 0 18_446_744_073_709_551_615) (λ number. text ++ ended (decimal number)) line
IsTextOf-wider text low max line small spelled = let within = spelled.1.1 in (spelled.0, (omega arith, omega arith), spelled.2)

-- a fault of all that stands from a place on
pub IsFrontFault-rest : (spells : List ℕ → Type 0) (bytes : List ℕ) (at inner : ℕ) → IsFrontFault spells (take (length bytes - at) (drop at bytes)) inner →
    IsFrontFault spells (drop at bytes) inner
IsFrontFault-rest spells bytes at inner fault = subst (λ (x : List ℕ). IsFrontFault spells x inner) (take_rest bytes at) fault

-- and one of a whole text
pub IsFault-rest : (spells : List ℕ → Type 0) (bytes : List ℕ) (at inner : ℕ) → IsFault spells (take (length bytes - at) (drop at bytes)) inner →
    IsFault spells (drop at bytes) inner
IsFault-rest spells bytes at inner fault = subst (λ (x : List ℕ). IsFault spells x inner) (take_rest bytes at) fault
