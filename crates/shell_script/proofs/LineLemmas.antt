use Rattle.std.proofs.Common.{◌≡◌, ℕ, ◌-◌, ◌<◌, ◌≤◌, List, [], ◌∷◌, ◌++◌, Bool, true, false, ◌||◌, cond, eqb, length, take, slice_index, refl, sym, ap, ◌∙◌, subst, arith}
use Rattle.std.specs.List.{All, slice_split, onto_first}
use Rattle.std.specs.Str.Lines.{lines, lines_of_parts, strip_carriage_return}
use Rattle.std.proofs.lemmas.Bool.{eqb-true}
use Rattle.std.proofs.lemmas.Bool.Decides.{nat_tests}
use Rattle.std.proofs.lemmas.List.{length-take}
use Rattle.std.proofs.lemmas.List.Elements.{All-cons, All-nil}
use Rattle.std.proofs.lemmas.List.Splits.{slice_split_at, slice_split_none}
use Rattle.hb_grammar.proofs.AvoidsLemmas.{Lacks}
use Rattle.shell_text.specs.TextLaws.{cond_false, cond_true}
use Rattle.shell_value.specs.Cut.{before, behind, has_mark}
use Rattle.shell_script.specs.Lines.{first_line}

-- bytes cut at a mark that they have
pub record IsCutAt (mark : ℕ) (bytes : List ℕ) : Type 0 where
  pub whole : bytes ≡ before mark bytes ++ mark ∷ behind mark bytes
  pub lacks : Lacks mark (before mark bytes)

cut_first : (mark x : ℕ) (xs : List ℕ) (b : Bool) → eqb x mark ≡ b → b || has_mark mark xs ≡ true → (has_mark mark xs ≡ true → IsCutAt mark xs) → IsCutAt mark (x ∷ xs)
cut_first mark x xs true e has again =
    let is : x ≡ mark = eqb-true x mark e in
    let none : before mark (x ∷ xs) ≡ [] = cond_true (eqb x mark) _ _ e in
    let rest : behind mark (x ∷ xs) ≡ xs = cond_true (eqb x mark) _ _ e in
    record {
      whole = ap (λ (n : ℕ). n ∷ xs) is ∙ ap (λ (l : List ℕ). mark ∷ l) (sym rest) ∙ ap (λ (l : List ℕ). l ++ mark ∷ behind mark (x ∷ xs)) (sym none);
      lacks = subst (Lacks mark) (sym none) tt;
    }
cut_first mark x xs false e has again =
    let cut = again has in
    let front : before mark (x ∷ xs) ≡ x ∷ before mark xs = cond_false (eqb x mark) _ _ e in
    let rest : behind mark (x ∷ xs) ≡ behind mark xs = cond_false (eqb x mark) _ _ e in
    record {
      whole = ap (λ (l : List ℕ). x ∷ l) cut.whole ∙ ap (λ (l : List ℕ). x ∷ (before mark xs ++ mark ∷ l)) (sym rest)
          ∙ ap (λ (l : List ℕ). l ++ mark ∷ behind mark (x ∷ xs)) (sym front);
      lacks = subst (Lacks mark) (sym front) (e, cut.lacks);
    }

pub IsCutAt-has_mark : (mark : ℕ) (bytes : List ℕ) → has_mark mark bytes ≡ true → IsCutAt mark bytes
IsCutAt-has_mark mark [] has = absurd (cc)
IsCutAt-has_mark mark (x ∷ xs) has = cut_first mark x xs (eqb x mark) refl has (IsCutAt-has_mark mark xs)

All-Lacks : (mark : ℕ) (bytes : List ℕ) → Lacks mark bytes → All (λ x. eqb x mark ≡ false) bytes
All-Lacks mark [] lacks = All-nil (λ (x : ℕ). eqb x mark ≡ false)
All-Lacks mark (x ∷ xs) lacks = All-cons (λ x. eqb x mark ≡ false) x xs lacks.0 (All-Lacks mark xs lacks.1)

lacks_first : (b c : Bool) → b || c ≡ false → (b ≡ false) × (c ≡ false)
lacks_first true c e = absurd (cc)
lacks_first false c e = (refl, e)

Lacks-has_mark : (mark : ℕ) (bytes : List ℕ) → has_mark mark bytes ≡ false → Lacks mark bytes
Lacks-has_mark mark [] none = tt
Lacks-has_mark mark (x ∷ xs) none =
    let both = lacks_first (eqb x mark) (has_mark mark xs) none in (both.0, Lacks-has_mark mark xs both.1)

-- there is a first part
record HasFirst (parts : List (List ℕ)) : Type 0 where
  first : List ℕ
  more : List (List ℕ)
  whole : parts ≡ first ∷ more

onto_has : (x : ℕ) (parts : List (List ℕ)) → HasFirst parts → HasFirst (onto_first x parts)
onto_has x parts has = record { first = x ∷ has.first; more = has.more; whole = ap (onto_first x) has.whole }

cond_has : (b : Bool) (p q : List (List ℕ)) → HasFirst p → HasFirst q → HasFirst (cond b p q)
cond_has true p q h k = h
cond_has false p q h k = k

has_first_part : (bytes : List ℕ) → HasFirst (slice_split (λ b. eqb b 10) bytes)
has_first_part [] = record { first = []; more = []; whole = refl }
has_first_part (x ∷ xs) =
    let parts = slice_split (λ b. eqb b 10) xs in
    cond_has (eqb x 10) ([] ∷ parts) (onto_first x parts) (record { first = []; more = parts; whole = refl }) (onto_has x parts (has_first_part xs))

-- a part, where another follows it
not_last : (x : List ℕ) (parts : List (List ℕ)) → HasFirst parts → lines_of_parts (x ∷ parts) ≡ strip_carriage_return x ∷ lines_of_parts parts
not_last x parts has =
    ap (λ (p : List (List ℕ)). lines_of_parts (x ∷ p)) has.whole ∙ sym (ap (λ (p : List (List ℕ)). strip_carriage_return x ∷ lines_of_parts p) has.whole)

-- the lines of bytes that have a line feed
lines-fed : (bytes : List ℕ) → has_mark 10 bytes ≡ true → lines bytes ≡ strip_carriage_return (before 10 bytes) ∷ lines (behind 10 bytes)
lines-fed bytes has =
    let cut = IsCutAt-has_mark 10 bytes has in
    let parts = slice_split (λ b. eqb b 10) (behind 10 bytes) in
    ap lines cut.whole
    ∙ ap lines_of_parts (slice_split_at (λ b. eqb b 10) (before 10 bytes) 10 (behind 10 bytes) (All-Lacks 10 (before 10 bytes) cut.lacks) refl)
    ∙ not_last (before 10 bytes) parts (has_first_part (behind 10 bytes))

-- the one line of bytes that have none
lines-alone : (bytes : List ℕ) → has_mark 10 bytes ≡ false → 0 < length bytes → lines bytes ≡ bytes ∷ []
lines-alone bytes none some =
    ap lines_of_parts (slice_split_none (λ b. eqb b 10) bytes (All-Lacks 10 bytes (Lacks-has_mark 10 bytes none)))
    ∙ cond_false (eqb (length bytes) 0) _ _ (grind (arith, nat_tests))

behind-none : (mark : ℕ) (bytes : List ℕ) → has_mark mark bytes ≡ false → behind mark bytes ≡ []
behind-none mark [] none = refl
behind-none mark (x ∷ xs) none =
    let both = lacks_first (eqb x mark) (has_mark mark xs) none in cond_false (eqb x mark) _ _ both.0 ∙ behind-none mark xs both.1

next_line : (bytes : List ℕ) → 0 < length bytes → (b : Bool) → has_mark 10 bytes ≡ b → lines bytes ≡ first_line bytes ∷ lines (behind 10 bytes)
next_line bytes some true has =
    let first : first_line bytes ≡ strip_carriage_return (before 10 bytes) = cond_true (has_mark 10 bytes) _ _ has in
    lines-fed bytes has ∙ ap (λ (l : List ℕ). l ∷ lines (behind 10 bytes)) (sym first)
next_line bytes some false none =
    let first : first_line bytes ≡ bytes = cond_false (has_mark 10 bytes) _ _ none in
    lines-alone bytes none some ∙ ap (λ (l : List ℕ). l ∷ []) (sym first) ∙ ap (λ (l : List ℕ). first_line bytes ∷ lines l) (sym (behind-none 10 bytes none))

-- the lines of bytes, of which there are some: the first, and those behind it
pub lines-first_line : (bytes : List ℕ) → 0 < length bytes → lines bytes ≡ first_line bytes ∷ lines (behind 10 bytes)
lines-first_line bytes some = next_line bytes some (has_mark 10 bytes) refl

-- there are fewer bytes behind the first line
shorter_at : (mark x : ℕ) (xs : List ℕ) (b : Bool) → eqb x mark ≡ b → length (behind mark xs) ≤ length xs → length (behind mark (x ∷ xs)) ≤ length xs
shorter_at mark x xs true e less = let rest : behind mark (x ∷ xs) ≡ xs = cond_true (eqb x mark) _ _ e in omega (arith, ap length rest)
shorter_at mark x xs false e less = let rest : behind mark (x ∷ xs) ≡ behind mark xs = cond_false (eqb x mark) _ _ e in omega (arith, ap length rest)

not_longer : (mark : ℕ) (bytes : List ℕ) → length (behind mark bytes) ≤ length bytes
not_longer mark [] = omega arith
not_longer mark (x ∷ xs) = let less = shorter_at mark x xs (eqb x mark) refl (not_longer mark xs) in omega arith

pub length-behind : (mark : ℕ) (bytes : List ℕ) → 0 < length bytes → length (behind mark bytes) < length bytes
length-behind mark [] some = absurd (omega arith)
length-behind mark (x ∷ xs) some = let less = shorter_at mark x xs (eqb x mark) refl (not_longer mark xs) in omega arith

-- nor is the first line longer than all
cut_shorter : (mark x : ℕ) (xs : List ℕ) (b : Bool) → eqb x mark ≡ b → length (before mark xs) ≤ length xs → length (before mark (x ∷ xs)) ≤ length (x ∷ xs)
cut_shorter mark x xs true e less = let none : before mark (x ∷ xs) ≡ [] = cond_true (eqb x mark) _ _ e in omega (arith, ap length none)
cut_shorter mark x xs false e less = let front : before mark (x ∷ xs) ≡ x ∷ before mark xs = cond_false (eqb x mark) _ _ e in omega (arith, ap length front)

length-before : (mark : ℕ) (bytes : List ℕ) → length (before mark bytes) ≤ length bytes
length-before mark [] = omega arith
length-before mark (x ∷ xs) = cut_shorter mark x xs (eqb x mark) refl (length-before mark xs)

stripped : (b : Bool) (l : List ℕ) (n : ℕ) → length (cond b (take n l) l) ≤ length l
stripped true l n = omega (arith, length-take n l)
stripped false l n = omega arith

fed_shorter : (b : Bool) (bytes : List ℕ) → length (cond b (strip_carriage_return (before 10 bytes)) bytes) ≤ length bytes
fed_shorter true bytes =
    let l = before 10 bytes in
    let less : length (strip_carriage_return l) ≤ length l = stripped (eqb (slice_index l (length l - 1)) 13) l (length l - 1) in
    let short = length-before 10 bytes in
    omega arith
fed_shorter false bytes = omega arith

pub length-first_line : (bytes : List ℕ) → length (first_line bytes) ≤ length bytes
length-first_line bytes = fed_shorter (has_mark 10 bytes) bytes

-- where bytes are not told to be none, there are some
pub some_left : (bytes : List ℕ) (none : Bool) → none ≡ eqb (length bytes) 0 → none ≡ false → 0 < length bytes
some_left bytes none e f = let other : eqb (length bytes) 0 ≡ false = sym e ∙ f in grind (arith, nat_tests)
