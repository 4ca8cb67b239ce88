use Rattle.std.proofs.Common.{◌≡◌, ℕ, ◌-◌, ◌≤◌, ◌<◌, List, [], ◌∷◌, ◌++◌, Bool, true, false, ◌&&◌, ◌||◌, cond, nat_lt, eqb, Some, None, length, refl, sym, ap, ◌∙◌, subst, arith, rules}
use Rattle.std.proofs.lemmas.Bool.{eqb-true}
use Rattle.std.proofs.lemmas.Bool.Decides.{nat_tests}
use Rattle.hb_grammar.specs.declared.class.Class.TheVariants.{Name, FamilyStart}
use Rattle.hb_grammar.specs.Class.{has, AllIn}
use Rattle.hb_grammar.specs.Run.{IsRun, IsExactly}
use Rattle.hb_grammar.proofs.AvoidsLemmas.{eqb_apart, Lacks, Free-IsExactly, Free-IsRun, Free-Joined}
use Rattle.hb_names.specs.FamilyName.{IsFamilyName}
use Rattle.shell_text.specs.declared.argument.Argument.TheVariants.{Column, Qualifier, Run}
use Rattle.shell_text.specs.Argument.{IsLeft, Means}
use Rattle.shell_text.specs.TextLaws.{cond_false, cond_true}
use Rattle.shell_value.specs.Cut.{before, has_mark}
use Rattle.shell_value.specs.Column.{IsColumn}
use Rattle.shell_value.proofs.CutLemmas.{before-Lacks}
use Rattle.shell_value.proofs.NameLemmas.{Means-any, left_none, left_taken}

-- the rest of a family's name, its colon and a qualifier
record IsQualified (more : ℕ) (bytes : List ℕ) : Type 0 where
  front : List ℕ
  rest : List ℕ
  whole : bytes ≡ front ++ 58 ∷ rest
  each : AllIn Name front
  least : length front ≤ more
  most : length rest ≤ 32767

both_hold : (b c : Bool) → b && c ≡ true → (b ≡ true) × (c ≡ true)
both_hold true true e = (refl, refl)
both_hold true false e = absurd (cc)
both_hold false c e = absurd (cc)

hold_both : (b c : Bool) → b ≡ true → c ≡ true → b && c ≡ true
hold_both b c e f = cc

has_none : (b c : Bool) → b ≡ false → c ≡ false → b || c ≡ false
has_none b c e f = cc

has_first : (b c : Bool) → b ≡ true → b || c ≡ true
has_first b c e = cc

has_second : (b c : Bool) → c ≡ true → b || c ≡ true
has_second true c e = refl
has_second false c e = e

qualified_at : (more x : ℕ) (xs : List ℕ) (colon named : Bool) → eqb x 58 ≡ colon → nat_lt 0 more && has Name x ≡ named →
    IsLeft xs (cond colon (Some (Run None 0 32767)) (cond named (Some (Qualifier (more - 1))) None)) →
    ((more : ℕ) → IsLeft xs (Some (Qualifier more)) → IsQualified more xs) → IsQualified more (x ∷ xs)
qualified_at more x xs true named e f h again = record {
  front = [];
  rest = xs;
  whole = ap (λ (n : ℕ). n ∷ xs) (eqb-true x 58 e);
  each = tt;
  least = omega arith;
  most = ((Means-any 0 32767 xs).0 h).1;
}
qualified_at more x xs false true e f h again =
    let rest = again (more - 1) h in
    let tests = both_hold (nat_lt 0 more) (has Name x) f in
    let some : 0 < more = grind (arith, nat_tests, tests.0) in
    record {
      front = x ∷ rest.front;
      rest = rest.rest;
      whole = ap (λ (l : List ℕ). x ∷ l) rest.whole;
      each = (tests.1, rest.each);
      least = omega (arith, rest.least);
      most = rest.most;
    }
qualified_at more x xs false false e f h again = absurd (left_none xs h)

qualified : (bytes : List ℕ) (more : ℕ) → IsLeft bytes (Some (Qualifier more)) → IsQualified more bytes
qualified [] more h = absurd (cc)
qualified (x ∷ xs) more h = qualified_at more x xs (eqb x 58) (nat_lt 0 more && has Name x) refl refl h (qualified xs)

name_apart : (x : ℕ) → has Name x ≡ true → eqb x 58 ≡ false
unfolding has
name_apart x e = eqb_apart (has Name) x 58 e refl (eqb x 58) refl

qualified_back : (front rest : List ℕ) (more : ℕ) → AllIn Name front → length front ≤ more → length rest ≤ 32767 → IsLeft (front ++ 58 ∷ rest) (Some (Qualifier more))
qualified_back [] rest more each least most = (Means-any 0 32767 rest).1 (omega arith, most)
qualified_back (x ∷ xs) rest more each least most =
    let other : eqb x 58 ≡ false = name_apart x each.0 in
    let some : nat_lt 0 more ≡ true = grind (arith, nat_tests) in
    let test : nat_lt 0 more && has Name x ≡ true = hold_both (nat_lt 0 more) (has Name x) some each.0 in
    subst (IsLeft (xs ++ 58 ∷ rest)) (sym (cond_false (eqb x 58) _ _ other ∙ cond_true (nat_lt 0 more && has Name x) _ _ test))
    (qualified_back xs rest (more - 1) each.1 (omega arith) most)

column_back : (front back rest : List ℕ) → IsExactly FamilyStart 1 front → IsRun Name 0 126 back → length rest ≤ 32767 → Means Column ((front ++ back) ++ 58 ∷ rest)
column_back [] back rest a b most = let long = a.long in absurd (omega arith)
column_back (x ∷ y ∷ ys) back rest a b most = let long = a.long in absurd (omega arith)
column_back (x ∷ []) back rest a b most =
    subst (IsLeft (back ++ 58 ∷ rest)) (sym (cond_true (has FamilyStart x) _ _ a.each.0)) (qualified_back back rest 126 b.each b.most most)

pub Means-IsColumn : (bytes : List ℕ) → IsColumn bytes → Means Column bytes
Means-IsColumn bytes column =
    subst (Means Column) (sym (column.whole ∙ ap (λ (l : List ℕ). l ++ 58 ∷ column.qualifier) column.named.whole))
    (column_back column.named.front column.named.back column.qualifier column.named.in_first column.named.in_second column.most)

-- a column, as it is read
pub IsColumn-Means : (bytes : List ℕ) → Means Column bytes → IsColumn bytes
IsColumn-Means [] h = absurd (cc)
IsColumn-Means (x ∷ xs) h =
    let taken = left_taken (has FamilyStart x) xs (Some (Qualifier 126)) h in
    let rest = qualified xs 126 taken.1 in
    record {
      family = x ∷ rest.front;
      qualifier = rest.rest;
      whole = ap (λ (l : List ℕ). x ∷ l) rest.whole;
      named = record {
        front = x ∷ [];
        back = rest.front;
        whole = refl;
        in_first = record { long = refl; each = (taken.0, tt) };
        in_second = record { least = omega arith; most = rest.least; each = rest.each };
      };
      most = rest.most;
    }

-- a family's name has no colon
pub Lacks-IsFamilyName : (bytes : List ℕ) → IsFamilyName bytes → Lacks 58 bytes
unfolding has
Lacks-IsFamilyName bytes named = Free-Joined (IsExactly FamilyStart 1) (IsRun Name 0 126) 58 (Free-IsExactly FamilyStart 1 58 refl) (Free-IsRun Name 0 126 58 refl) bytes named

-- so it stands before a column's first colon
pub before-IsColumn : (bytes : List ℕ) → IsColumn bytes → IsFamilyName (before 58 bytes)
before-IsColumn bytes column =
    subst IsFamilyName (sym (ap (before 58) column.whole ∙ before-Lacks 58 column.family column.qualifier (Lacks-IsFamilyName column.family column.named))) column.named

-- a name has no colon, and a column has one
pub no_mark : (mark : ℕ) (bytes : List ℕ) → Lacks mark bytes → has_mark mark bytes ≡ false
no_mark mark [] lacks = refl
no_mark mark (x ∷ xs) lacks = has_none (eqb x mark) (has_mark mark xs) lacks.0 (no_mark mark xs lacks.1)

pub has_mark-middle : (mark : ℕ) (front rest : List ℕ) → has_mark mark (front ++ mark ∷ rest) ≡ true
has_mark-middle mark [] rest = has_first (eqb mark mark) (has_mark mark rest) (search rules)
has_mark-middle mark (x ∷ xs) rest = has_second (eqb x mark) (has_mark mark (xs ++ mark ∷ rest)) (has_mark-middle mark xs rest)
