use Rattle.std.proofs.Common.{◌≡◌, ℕ, ◌+◌, ◌*◌, List, [], ◌∷◌, ◌++◌, Bool, true, false, ◌||◌, cond, nat_eq, Option, Some, None, option_map, unwrap_or, IsSome, length, drop, get_or, ◌<◌, ◌≤◌, refl, sym, ap, ◌∙◌, subst}
use Rattle.std.specs.List.{list_any}
use Rattle.std.proofs.lemmas.List.{append_assoc, append-nil, drop_all, drop_more}
use Rattle.hb_grammar.specs.declared.class.Class.TheVariants.{LowerHex}
use Rattle.hb_grammar.specs.Class.{has}
use Rattle.shell_text.specs.declared.argument.Argument.{Argument}
use Rattle.shell_text.specs.declared.text.Place.{Place}
use Rattle.shell_text.specs.declared.text.Place.TheVariants.{Between, Escape, First, Second}
use Rattle.shell_text.specs.Argument.{Means}
use Rattle.shell_text.specs.Text.{Holds, IsText, digit_value, is_plain, meaning}
use Rattle.shell_value.specs.Cut.{has_mark}
use Rattle.shell_value.proofs.CutLemmas.{apart}
use Rattle.shell_value.specs.Quotes.{AddsByte, meant}

-- a value in front of what is left of a text
Ahead : ℕ → Option (List ℕ) → List ℕ → Type 0
Ahead byte left all = (more : List ℕ) × (left ≡ Some more) × (all ≡ byte ∷ more)

ahead : (byte : ℕ) (left : Option (List ℕ)) (all : List ℕ) → option_map (λ rest. byte ∷ rest) left ≡ Some all → Ahead byte left all
unfolding Ahead
ahead byte None all e = absurd (cc)
ahead byte (Some more) all e = (more, refl, cc)

plain_ahead : (plain slash : Bool) (byte : ℕ) (left escape : Option (List ℕ)) (all : List ℕ) → slash ≡ false →
    cond plain (option_map (λ rest. byte ∷ rest) left) (cond slash escape None) ≡ Some all → Ahead byte left all
plain_ahead true slash byte left escape all other e = ahead byte left all e
plain_ahead false true byte left escape all other e = absurd (cc)
plain_ahead false false byte left escape all other e = absurd (cc)

some_of : (test : Bool) (left : Option (List ℕ)) (all : List ℕ) → cond test left None ≡ Some all → left ≡ Some all
some_of true left all e = e
some_of false left all e = absurd (cc)

push_ahead : (old : List ℕ) (byte : ℕ) (left : Option (List ℕ)) (all : List ℕ) → Ahead byte left all →
    (more : List ℕ) × (left ≡ Some more) × (old ++ all ≡ (old ++ byte ∷ []) ++ more)
unfolding Ahead
push_ahead old byte left all found =
    (found.0, found.1, ap (λ (x : List ℕ). old ++ x) found.2 ∙ sym (append_assoc old (byte ∷ []) found.0))

-- a byte that stands for itself
pub AddsByte-plain : (old : List ℕ) (byte : ℕ) → nat_eq byte 92 ≡ false → AddsByte old Between byte (old ++ byte ∷ []) Between
AddsByte-plain old byte other rest all e =
    push_ahead old byte (meaning Between rest) all (plain_ahead (is_plain byte) (nat_eq byte 92) byte (meaning Between rest) (meaning Escape rest) all other e)

-- the bytes of an escape
pub AddsByte-escape : (old : List ℕ) (byte : ℕ) → byte ≡ 92 → AddsByte old Between byte old Escape
AddsByte-escape old byte is rest all e =
    let found : meaning Between (92 ∷ rest) ≡ Some all = subst (λ (b : ℕ). meaning Between (b ∷ rest) ≡ Some all) is e in (all, found, refl)

pub AddsByte-x : (old : List ℕ) (byte : ℕ) → AddsByte old Escape byte old First
AddsByte-x old byte rest all e = (all, some_of (nat_eq byte 120) (meaning First rest) all e, refl)

pub AddsByte-first : (old : List ℕ) (byte : ℕ) → AddsByte old First byte old (Second (digit_value byte))
AddsByte-first old byte rest all e = (all, some_of (has LowerHex byte) (meaning (Second (digit_value byte)) rest) all e, refl)

pub AddsByte-second : (old : List ℕ) (high byte : ℕ) → AddsByte old (Second high) byte (old ++ (16 * high + digit_value byte) ∷ []) Between
AddsByte-second old high byte rest all e =
    let value : ℕ = 16 * high + digit_value byte in
    let found = some_of (has LowerHex byte) (option_map (λ more. value ∷ more) (meaning Between rest)) all e in
    push_ahead old value (meaning Between rest) all (ahead value (meaning Between rest) all found)

-- the same, of values that are equal to these
pub AddsByte-at : (old : List ℕ) (place is : Place) (byte : ℕ) (new : List ℕ) (next : Place) → place ≡ is → AddsByte old is byte new next → AddsByte old place byte new next
AddsByte-at old place is byte new next e adds rest all h = adds rest all (subst (λ (p : Place). meaning p (byte ∷ rest) ≡ Some all) e h)

pub AddsByte-plain_at : (old : List ℕ) (byte : ℕ) (new : List ℕ) → (byte ≡ 92 → ⊥) → new ≡ old ++ byte ∷ [] → AddsByte old Between byte new Between
AddsByte-plain_at old byte new other e rest all h =
    let found = AddsByte-plain old byte (apart byte 92 (nat_eq byte 92) refl other) rest all h in
    (found.0, found.1, found.2 ∙ ap (λ (l : List ℕ). l ++ found.0) (sym e))

pub AddsByte-second_at : (old : List ℕ) (high byte digit : ℕ) (new : List ℕ) → digit ≡ digit_value byte → new ≡ old ++ (16 * high + digit) ∷ [] →
    AddsByte old (Second high) byte new Between
AddsByte-second_at old high byte digit new d e rest all h =
    let found = AddsByte-second old high byte rest all h in
    let whole : new ≡ old ++ (16 * high + digit_value byte) ∷ [] = e ∙ ap (λ (n : ℕ). old ++ (16 * high + n) ∷ []) d in
    (found.0, found.1, found.2 ∙ ap (λ (l : List ℕ). l ++ found.0) (sym whole))

-- where nothing is left, no escape is half read
pub nothing_left : (place : Place) (more : List ℕ) → meaning place [] ≡ Some more → more ≡ []
nothing_left Between more e = cc
nothing_left Escape more e = absurd (cc)
nothing_left First more e = absurd (cc)
nothing_left (Second high) more e = absurd (cc)

-- what a text means, where it means anything
some_value : (o : Option (List ℕ)) → IsSome o → o ≡ Some (unwrap_or o [])
some_value None some = absurd (cc)
some_value (Some x) some = refl

pub meant-is : (text : List ℕ) → IsSome (meaning Between text) → meaning Between text ≡ Some (meant text)
meant-is text some = some_value (meaning Between text) some

-- neither of two
none_of_two : (b c : Bool) → b || c ≡ false → (b ≡ false) × (c ≡ false)
none_of_two true c e = absurd (cc)
none_of_two false c e = (refl, e)

-- a text without a backslash means itself
no_escape : (text : List ℕ) (all : List ℕ) → has_mark 92 text ≡ false → meaning Between text ≡ Some all → all ≡ text
unfolding Ahead
no_escape [] all none e = cc
no_escape (byte ∷ bytes) all none e =
    let both = none_of_two (nat_eq byte 92) (list_any (λ b. nat_eq b 92) bytes) none in
    let found = plain_ahead (is_plain byte) (nat_eq byte 92) byte (meaning Between bytes) (meaning Escape bytes) all both.0 e in
    found.2 ∙ ap (λ (x : List ℕ). byte ∷ x) (no_escape bytes found.0 both.1 found.1)

pub meant-plain : (text : List ℕ) → has_mark 92 text ≡ false → IsSome (meaning Between text) → meant text ≡ text
meant-plain text none some = no_escape text (meant text) none (meant-is text some)

-- the meaning of an argument's text
holds_some : (o : Option (List ℕ)) (P : List ℕ → Type 0) → Holds o P → IsSome o × P (unwrap_or o [])
holds_some None P h = absurd h
holds_some (Some x) P h = (refl, h)

pub IsSome-IsText : (argument : Argument) (text : List ℕ) → IsText argument text → IsSome (meaning Between text)
IsSome-IsText argument text h = (holds_some (meaning Between text) (Means argument) h).0

pub Means-meant : (argument : Argument) (text : List ℕ) → IsText argument text → Means argument (meant text)
Means-meant argument text h = (holds_some (meaning Between text) (Means argument) h).1

-- what was read of a text, and what is left of it
pub record IsReading (text out : List ℕ) (place : Place) (left : List ℕ) : Type 0 where
  pub more : List ℕ
  pub means : meaning place left ≡ Some more
  pub whole : meant text ≡ out ++ more

pub IsReading-start : (text : List ℕ) → IsSome (meaning Between text) → IsReading text [] Between text
IsReading-start text some = record { more = meant text; means = meant-is text some; whole = refl }

pub IsReading-next : (text old : List ℕ) (place : Place) (new : List ℕ) (next : Place) (left : List ℕ) (i : ℕ) → i < length left →
    AddsByte old place (get_or left i 0) new next → IsReading text old place (drop i left) → IsReading text new next (drop (i + 1) left)
IsReading-next text old place new next left i below adds so_far =
    let found = adds (drop (i + 1) left) so_far.more (subst (λ (l : List ℕ). meaning place l ≡ Some so_far.more) (drop_more left i 0 below) so_far.means) in
    record { more = found.0; means = found.1; whole = so_far.whole ∙ found.2 }

pub IsReading-end : (text out : List ℕ) (place : Place) (left : List ℕ) (i : ℕ) → length left ≤ i → IsReading text out place (drop i left) → out ≡ meant text
IsReading-end text out place left i past so_far =
    let nothing = nothing_left place so_far.more (subst (λ (l : List ℕ). meaning place l ≡ Some so_far.more) (drop_all i left past) so_far.means) in
    sym (so_far.whole ∙ ap (λ (l : List ℕ). out ++ l) nothing ∙ append-nil out)

pub meant-text : (argument : Argument) (text : List ℕ) (test : Bool) → test ≡ has_mark 92 text → test ≡ false → IsText argument text → meant text ≡ text
meant-text argument text test e none h = meant-plain text (sym e ∙ none) (IsSome-IsText argument text h)
