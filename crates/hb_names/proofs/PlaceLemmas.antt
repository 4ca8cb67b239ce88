use Rattle.std.proofs.Common.{◌≡◌, ℕ, ◌≤◌, suc, zero, List, [], ◌∷◌, ◌++◌, length, Bool, true, false, not, ◌&&◌, ◌||◌, nat_le, nat_eq, refl, sym, ap, ◌∙◌, subst, true≢false, arith, inl, inr}
use Rattle.std.proofs.lemmas.List.{append_assoc}
use Rattle.std.specs.List.{list_all, join_with_byte, AllByRecursion}
use Rattle.std.proofs.lemmas.Bool.Decides.{nat_tests}
use Rattle.hb_grammar.specs.declared.class.Class.TheVariants.{Component}
use Rattle.hb_grammar.specs.Class.{has, AllIn}
use Rattle.hb_grammar.specs.Separated.{SeparatedOf}
use Rattle.hb_names.specs.Component.{IsComponent}
use Rattle.hb_names.specs.Place.{IsPlace, AreComponents}

-- whether the bytes are dots alone
abbrev pub all_dots : List ℕ → Bool
all_dots [] = true
all_dots (byte ∷ bytes) = nat_eq byte 46 && all_dots bytes

-- whether the bytes are a component, as a test that computes where they are known
abbrev pub is_component : List ℕ → Bool
is_component bytes = nat_le 1 (length bytes) && nat_le (length bytes) 255 && list_all (has Component) bytes && (nat_le 3 (length bytes) || not (all_dots bytes))

-- whether components, joined, are a place, as such a test
abbrev pub is_path : List (List ℕ) → Bool
is_path components = nat_le 1 (length components) && nat_le (length components) 16 && list_all is_component components

-- both of two tests hold where they hold together
and_first : (a b : Bool) → (a && b) ≡ true → a ≡ true
and_first true b e = refl
and_first false b e = e

and_second : (a b : Bool) → (a && b) ≡ true → b ≡ true
and_second true b e = e
and_second false b e = cc

-- bytes that all pass the class's test are in the class
AllIn-list_all : (bytes : List ℕ) → list_all (has Component) bytes ≡ true → AllIn Component bytes
AllIn-list_all [] e = tt
AllIn-list_all (byte ∷ bytes) e = (
  and_first (has Component byte) (list_all (has Component) bytes) e,
  AllIn-list_all bytes (and_second (has Component byte) (list_all (has Component) bytes) e),
)

-- bytes that pass the test are a component
pub IsComponent-is_component : (bytes : List ℕ) → is_component bytes ≡ true → IsComponent bytes
IsComponent-is_component bytes e =
    let long : Bool = nat_le 3 (length bytes) || not (all_dots bytes) in
    let e1 : (nat_le 1 (length bytes) && nat_le (length bytes) 255 && list_all (has Component) bytes) ≡ true = and_first (nat_le 1 (length bytes) && nat_le (length bytes) 255 && list_all (has Component) bytes) long e in
    let e2 : (nat_le 1 (length bytes) && nat_le (length bytes) 255) ≡ true = and_first (nat_le 1 (length bytes) && nat_le (length bytes) 255) (list_all (has Component) bytes) e1 in
    let e3 : nat_le 1 (length bytes) ≡ true = and_first (nat_le 1 (length bytes)) (nat_le (length bytes) 255) e2 in
    let e4 : nat_le (length bytes) 255 ≡ true = and_second (nat_le 1 (length bytes)) (nat_le (length bytes) 255) e2 in
    let e5 : long ≡ true = and_second (nat_le 1 (length bytes) && nat_le (length bytes) 255 && list_all (has Component) bytes) long e in
    record {
      least = grind (arith, nat_tests);
      most = grind (arith, nat_tests);
      each = AllIn-list_all bytes (and_second (nat_le 1 (length bytes) && nat_le (length bytes) 255) (list_all (has Component) bytes) e1);
      not_dot = λ same. true≢false (sym (subst (λ x. (nat_le 3 (length x) || not (all_dots x)) ≡ true) same e5));
      not_two_dots = λ same. true≢false (sym (subst (λ x. (nat_le 3 (length x) || not (all_dots x)) ≡ true) same e5));
    }

-- a place of fewer components is one of more
SeparatedOf-suc : (inner : List ℕ → Type 0) (mark more : ℕ) (bytes : List ℕ) → inner bytes → SeparatedOf inner mark more bytes
SeparatedOf-suc inner mark zero bytes spelled = spelled
SeparatedOf-suc inner mark (suc more) bytes spelled = inl spelled

-- strings of a grammar, joined by a mark, are a row of them
pub SeparatedOf-join_with_byte : (inner : List ℕ → Type 0) (mark more : ℕ) (part : List ℕ) (parts : List (List ℕ)) →
    length parts ≤ more → inner part → AllByRecursion inner parts → SeparatedOf inner mark more (join_with_byte mark (part ∷ parts))
SeparatedOf-join_with_byte inner mark more part [] short first rest = SeparatedOf-suc inner mark more part first
SeparatedOf-join_with_byte inner mark zero part (next ∷ parts) short first rest = absurd (omega arith)
SeparatedOf-join_with_byte inner mark (suc more) part (next ∷ parts) short first rest = inr (record {
  front = part ++ mark ∷ [];
  back = join_with_byte mark (next ∷ parts);
  whole = sym (append_assoc part (mark ∷ []) (join_with_byte mark (next ∷ parts)));
  in_first = record { front = part; whole = refl; in_inner = first };
  in_second = SeparatedOf-join_with_byte inner mark more next parts (omega arith) rest.0 rest.1;
})

-- components that pass the test
All-list_all : (components : List (List ℕ)) → list_all is_component components ≡ true → AllByRecursion IsComponent components
All-list_all [] e = tt
All-list_all (component ∷ components) e = (
  IsComponent-is_component component (and_first (is_component component) (list_all is_component components) e),
  All-list_all components (and_second (is_component component) (list_all is_component components) e),
)

-- 1 to 16 components, joined by slashes, are a place
pub IsPlace-join_with_byte : (components : List (List ℕ)) → 1 ≤ length components → length components ≤ 16 →
    AllByRecursion IsComponent components → IsPlace (join_with_byte 47 components)
IsPlace-join_with_byte [] least most each = absurd (omega arith)
IsPlace-join_with_byte (first ∷ rest) least most each =
    SeparatedOf-join_with_byte IsComponent 47 15 first rest (omega arith) each.0 each.1

-- a row of strings of a grammar, by the strings
record HasParts (inner : List ℕ → Type 0) (mark more : ℕ) (bytes : List ℕ) : Type 0 where
  part : List ℕ
  parts : List (List ℕ)
  first : inner part
  rest : AllByRecursion inner parts
  short : length parts ≤ more
  whole : bytes ≡ join_with_byte mark (part ∷ parts)

-- each row has some
parts_of : (inner : List ℕ → Type 0) (mark more : ℕ) (bytes : List ℕ) → SeparatedOf inner mark more bytes → HasParts inner mark more bytes
parts_of inner mark zero bytes spelled = record { part = bytes; parts = []; first = spelled; rest = tt; short = omega arith; whole = refl }
parts_of inner mark (suc more) bytes spelled = elim spelled as (λ _. HasParts inner mark (suc more) bytes) [
  | inl one ↦ record { part = bytes; parts = []; first = one; rest = tt; short = omega arith; whole = refl }
  | inr pair ↦ (
      let behind = parts_of inner mark more pair.back pair.in_second in
      let short = behind.short in
      let marked = pair.in_first in
      record {
        part = marked.front;
        parts = behind.part ∷ behind.parts;
        first = marked.in_inner;
        rest = (behind.first, behind.rest);
        short = omega arith;
        whole = pair.whole ∙ ap (λ (x : List ℕ). x ++ pair.back) marked.whole ∙ ap (λ (x : List ℕ). (marked.front ++ mark ∷ []) ++ x) behind.whole ∙ append_assoc marked.front (mark ∷ []) (join_with_byte mark (behind.part ∷ behind.parts));
      }
      )
]

-- a place is its components, joined by slashes
pub components_of : (place : List ℕ) → IsPlace place → (components : List (List ℕ)) × AreComponents components × (place ≡ join_with_byte 47 components)
components_of place is =
    let found = parts_of IsComponent 47 15 place is in
    let short = found.short in
    (found.part ∷ found.parts, record { least = omega arith; most = omega arith; each = (found.first, found.rest) }, found.whole)

-- components that pass the test are a place, joined by slashes: for known components the test is proved by refl
pub IsPlace-is_path : (components : List (List ℕ)) → is_path components ≡ true → IsPlace (join_with_byte 47 components)
IsPlace-is_path components e =
    let e1 : (nat_le 1 (length components) && nat_le (length components) 16) ≡ true = and_first (nat_le 1 (length components) && nat_le (length components) 16) (list_all is_component components) e in
    let e2 : nat_le 1 (length components) ≡ true = and_first (nat_le 1 (length components)) (nat_le (length components) 16) e1 in
    let e3 : nat_le (length components) 16 ≡ true = and_second (nat_le 1 (length components)) (nat_le (length components) 16) e1 in
    IsPlace-join_with_byte components (grind (arith, nat_tests)) (grind (arith, nat_tests))
    (All-list_all components (and_second (nat_le 1 (length components) && nat_le (length components) 16) (list_all is_component components) e))
