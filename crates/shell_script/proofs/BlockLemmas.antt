-- Block lines as a grammar, and where a line of two grammars goes bad.
use Rattle.std.proofs.Common.{◌≡◌, ℕ, ◌<◌, ◌≤◌, List, [], ◌∷◌, ◌++◌, Bool, true, false, ◌&&◌, ◌⊎◌, eqb, codes, drop, length, nat_le, refl, sym, ap, ◌∙◌, subst, arith, inl, inr}
use Rattle.std.specs.List.{list_all, starts_with}
use Rattle.std.proofs.lemmas.Bool.Decides.{Decides-eqb, nat_tests}
use Rattle.std.proofs.lemmas.Slice.Eq.{starts_is}
use Rattle.hb_grammar.specs.declared.class.Class.TheVariants.{NameStart}
use Rattle.hb_grammar.specs.Class.{AllIn, has}
use Rattle.hb_grammar.specs.Either.{EitherOf}
use Rattle.hb_grammar.specs.Grammar.{IsFault, IsReach, Same}
use Rattle.hb_grammar.specs.Joined.{Joined}
use Rattle.hb_grammar.specs.Run.{IsRun}
use Rattle.shell_line.specs.declared.line_kind.LineKind.{LineKind}
use Rattle.shell_line.specs.Line.{IsLine}
use Rattle.shell_script.specs.Block.{IsBlock, block_name, is_block_name}
use Rattle.shell_script.specs.Session.{IsAllowed}

-- the mark of a block line
abbrev mark : List ℕ
mark = codes "=== "

-- a block line as its mark and its name
abbrev pub BlockParts : List ℕ → Type 0
BlockParts = Joined (λ bytes. bytes ≡ mark) (IsRun NameStart 1 32)

both_hold : (b c : Bool) → b && c ≡ true → (b ≡ true) × (c ≡ true)
both_hold true true e = (refl, refl)
both_hold true false e = absurd (cc)
both_hold false c e = absurd (cc)

hold_both : (b c : Bool) → b ≡ true → c ≡ true → b && c ≡ true
hold_both b c e f = cc

all_forth : (bytes : List ℕ) → AllIn NameStart bytes → list_all (has NameStart) bytes ≡ true
all_forth [] all = refl
all_forth (x ∷ xs) all = hold_both (has NameStart x) (list_all (has NameStart) xs) all.0 (all_forth xs all.1)

all_back : (bytes : List ℕ) → list_all (has NameStart) bytes ≡ true → AllIn NameStart bytes
all_back [] e = tt
all_back (x ∷ xs) e = let both = both_hold (has NameStart x) (list_all (has NameStart) xs) e in (both.0, all_back xs both.1)

name_forth : (name : List ℕ) → IsRun NameStart 1 32 name → is_block_name name ≡ true
name_forth name run =
    let least : nat_le 1 (length name) ≡ true = grind (arith, nat_tests, run.least) in
    let most : nat_le (length name) 32 ≡ true = grind (arith, nat_tests, run.most) in
    hold_both (nat_le 1 (length name) && nat_le (length name) 32) (list_all (has NameStart) name)
    (hold_both (nat_le 1 (length name)) (nat_le (length name) 32) least most) (all_forth name run.each)

name_back : (name : List ℕ) → is_block_name name ≡ true → IsRun NameStart 1 32 name
name_back name e =
    let first = both_hold (nat_le 1 (length name) && nat_le (length name) 32) (list_all (has NameStart) name) e in
    let second = both_hold (nat_le 1 (length name)) (nat_le (length name) 32) first.0 in
    record { least = grind (arith, nat_tests, second.0); most = grind (arith, nat_tests, second.1); each = all_back name first.1 }

pub IsBlock-BlockParts : (line : List ℕ) → BlockParts line → IsBlock line
IsBlock-BlockParts line parts =
    let whole : line ≡ mark ++ parts.back = parts.whole ∙ ap (λ (l : List ℕ). l ++ parts.back) parts.in_first in
    let name : parts.back ≡ block_name line = sym (ap (drop 4) whole) in
    hold_both (starts_with eqb line mark) (is_block_name (block_name line)) ((starts_is Decides-eqb line mark (starts_with eqb line mark) refl).1 parts.back whole)
    (subst (λ (l : List ℕ). is_block_name l ≡ true) name (name_forth parts.back parts.in_second))

pub BlockParts-IsBlock : (line : List ℕ) → IsBlock line → BlockParts line
BlockParts-IsBlock line block =
    let both = both_hold (starts_with eqb line mark) (is_block_name (block_name line)) block in
    record {
      front = mark;
      back = block_name line;
      whole = (starts_is Decides-eqb line mark (starts_with eqb line mark) refl).0 both.0;
      in_first = refl;
      in_second = name_back (block_name line) both.1;
    }

pub Same-BlockParts : Same BlockParts IsBlock
Same-BlockParts = record { forth = IsBlock-BlockParts; back = BlockParts-IsBlock }

-- a block line is longer than its mark
pub length-IsBlock : (line : List ℕ) → IsBlock line → 4 ≤ length line
length-IsBlock line block =
    let parts = BlockParts-IsBlock line block in
    let long : length line ≡ length (mark ++ parts.back) = ap length (parts.whole ∙ ap (λ (l : List ℕ). l ++ parts.back) parts.in_first) in
    omega (arith, long)

-- a line of neither of two grammars is bad behind the longer of the two prefixes
either_fault : (first second : List ℕ → Type 0) (line : List ℕ) (i j at : ℕ) → IsFault first line i → IsFault second line j →
    ((at ≡ i) × (j ≤ i)) ⊎ ((at ≡ j) × (i ≤ j)) → IsFault (EitherOf first second) line at
either_fault first second line i j at a b (inl later) = record {
  not_spelled = λ either. elim either as (λ _. ⊥) [ inl x ↦ a.not_spelled x | inr y ↦ b.not_spelled y ];
  reach = subst (λ (n : ℕ). IsReach (EitherOf first second) line n) (sym later.0) (record {
    within = a.reach.within;
    viable = (a.reach.viable.0, inl a.reach.viable.1);
    longest = λ more above within viable. elim viable.1 as (λ _. ⊥) [
      | inl x ↦ a.reach.longest more above within (viable.0, x)
      | inr y ↦ let past : j < more = let below = later.1 in omega arith in b.reach.longest more past within (viable.0, y)
    ];
  });
}
either_fault first second line i j at a b (inr later) = record {
  not_spelled = λ either. elim either as (λ _. ⊥) [ inl x ↦ a.not_spelled x | inr y ↦ b.not_spelled y ];
  reach = subst (λ (n : ℕ). IsReach (EitherOf first second) line n) (sym later.0) (record {
    within = b.reach.within;
    viable = (b.reach.viable.0, inr b.reach.viable.1);
    longest = λ more above within viable. elim viable.1 as (λ _. ⊥) [
      | inl x ↦ let past : i < more = let below = later.1 in omega arith in a.reach.longest more past within (viable.0, x)
      | inr y ↦ b.reach.longest more above within (viable.0, y)
    ];
  });
}

pub IsFault-later : (kinds : List LineKind) (name : List ℕ) (names : List (List ℕ)) (line : List ℕ) (i j at : ℕ) → IsFault (IsLine kinds) line i → IsFault IsBlock line j →
    ((at ≡ i) × (j ≤ i)) ⊎ ((at ≡ j) × (i ≤ j)) → IsFault (IsAllowed kinds true (name ∷ names)) line at
IsFault-later kinds name names line i j at a b later = either_fault (IsLine kinds) IsBlock line i j at a b later

pub IsFault-first : (kinds : List LineKind) (names : List (List ℕ)) (line : List ℕ) (at : ℕ) → names ≡ [] → IsFault IsBlock line at → IsFault (IsAllowed kinds true names) line at
IsFault-first kinds names line at none fault = subst (λ (n : List (List ℕ)). IsFault (IsAllowed kinds true n) line at) (sym none) fault
