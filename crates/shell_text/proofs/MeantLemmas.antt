use Rattle.std.proofs.Common.{◌≡◌, ℕ, zero, suc, ◌+◌, ◌-◌, ◌<◌, ◌≤◌, nat_eq, nat_lt, List, [], ◌∷◌, ◌++◌, Bool, true, false, ◌&&◌, Some, None, length, take, drop, get_or, refl, sym, ap, ◌∙◌, subst, arith}
use Rattle.std.specs.List.{AllByRecursion}
use Rattle.std.proofs.lemmas.Bool.Decides.{nat_tests}
use Rattle.std.proofs.lemmas.List.{length-take-le, take-append-drop, take_more, drop_more, length-drop}
use Rattle.hb_grammar.specs.declared.class.Class.{Class}
use Rattle.hb_grammar.specs.declared.class.Class.TheVariants.{FamilyStart, Name}
use Rattle.hb_grammar.specs.Class.{AllIn, has}
use Rattle.shell_text.specs.declared.argument.Argument.TheVariants.{Column, Named, Qualifier, Run}
use Rattle.shell_text.specs.declared.argument.TheConstants.{MAX_QUALIFIER}
use Rattle.shell_text.specs.Argument.{IsLeft, Means, qualifier_next}
use Rattle.shell_text.specs.TextLaws.{cond_true, cond_false}

-- so many bytes of any kind are a run
pub Means-run : (least more : ℕ) (bytes : List ℕ) → least ≤ length bytes → length bytes ≤ least + more → Means (Run None least more) bytes
Means-run zero more [] low high = refl
Means-run (suc least) more [] low high = absurd (omega arith)
Means-run (suc least) more (x ∷ xs) low high = Means-run least more xs (omega arith) (omega arith)
Means-run zero (suc more) (x ∷ xs) low high = Means-run zero more xs (omega arith) (omega arith)
Means-run zero zero (x ∷ xs) low high = absurd (omega arith)

-- so are bytes of a class
pub Means-class : (class : Class) (more : ℕ) (bytes : List ℕ) → AllIn class bytes → length bytes ≤ more → Means (Run (Some class) 0 more) bytes
Means-class class more [] each high = refl
Means-class class (suc more) (x ∷ xs) each high =
    subst (IsLeft xs) (sym (cond_true (has class x) _ _ each.0)) (Means-class class more xs each.1 (omega arith))
Means-class class zero (x ∷ xs) each high = absurd (omega arith)

-- a name is its first byte and more
pub Means-named : (first : Class) (more byte : ℕ) (rest : List ℕ) → has first byte ≡ true → Means (Run (Some Name) 0 more) rest → Means (Named first more) (byte ∷ rest)
Means-named first more byte rest e more_bytes = subst (IsLeft rest) (sym (cond_true (has first byte) _ _ e)) more_bytes

-- a column is the first byte of its family and more
pub Means-column : (byte : ℕ) (rest : List ℕ) → has FamilyStart byte ≡ true → Means (Qualifier 126) rest → Means Column (byte ∷ rest)
Means-column byte rest e more = subst (IsLeft rest) (sym (cond_true (has FamilyStart byte) _ _ e)) more

-- bytes of a family's name that are no colon
abbrev pub AreNamed : List ℕ → Type 0
AreNamed bytes = AllByRecursion (λ byte. (nat_eq byte 58 ≡ false) × (has Name byte ≡ true)) bytes

AreNamed-push : (bytes : List ℕ) (byte : ℕ) → AreNamed bytes → nat_eq byte 58 ≡ false → has Name byte ≡ true → AreNamed (bytes ++ byte ∷ [])
AreNamed-push [] byte named other e = ((other, e), tt)
AreNamed-push (x ∷ xs) byte named other e = (named.0, AreNamed-push xs byte named.1 other e)

no_colon : (byte : ℕ) (b : Bool) → nat_eq byte 58 ≡ b → (byte ≡ 58 → ⊥) → b ≡ false
no_colon byte true e other = absurd (other (grind (arith, nat_tests)))
no_colon byte false e other = refl

pub AreNamed-take : (bytes : List ℕ) (i : ℕ) → i < length bytes → AreNamed (take i bytes) → (get_or bytes i 0 ≡ 58 → ⊥) → has Name (get_or bytes i 0) ≡ true →
    AreNamed (take (i + 1) bytes)
AreNamed-take bytes i below named other e =
    subst AreNamed (sym (take_more bytes i 0 below))
    (AreNamed-push (take i bytes) (get_or bytes i 0) named (no_colon (get_or bytes i 0) (nat_eq (get_or bytes i 0) 58) refl other) e)

and_true : (a b : Bool) → a ≡ true → b ≡ true → a && b ≡ true
and_true true b e f = f
and_true false b e f = absurd (cc)

qualifier_byte : (more byte : ℕ) → 0 < more → nat_eq byte 58 ≡ false → has Name byte ≡ true → qualifier_next more byte ≡ Some (Qualifier (more - 1))
qualifier_byte more byte some other e =
    let test : nat_lt 0 more ≡ true = grind (arith, nat_tests) in
    cond_false (nat_eq byte 58) _ _ other ∙ cond_true (nat_lt 0 more && has Name byte) (Some (Qualifier (more - 1))) None (and_true (nat_lt 0 more) (has Name byte) test e)

-- they, a colon and a qualifier are the rest of a column
Means-qualifier : (more : ℕ) (family rest : List ℕ) → AreNamed family → length family ≤ more → length rest ≤ MAX_QUALIFIER → Means (Qualifier more) (family ++ 58 ∷ rest)
Means-qualifier more [] rest named high most = Means-run 0 MAX_QUALIFIER rest (omega arith) (omega arith)
Means-qualifier more (x ∷ xs) rest named high most =
    subst (IsLeft (xs ++ 58 ∷ rest)) (sym (qualifier_byte more x (omega arith) named.0.0 named.0.1))
    (Means-qualifier (more - 1) xs rest named.1 (omega arith) most)

pub Means-qualified : (more : ℕ) (bytes : List ℕ) (i : ℕ) → i < length bytes → AreNamed (take i bytes) → get_or bytes i 0 ≡ 58 → i ≤ more →
    length bytes - i - 1 ≤ MAX_QUALIFIER → Means (Qualifier more) bytes
Means-qualified more bytes i below named colon high most =
    let behind : drop i bytes ≡ 58 ∷ drop (i + 1) bytes = drop_more bytes i 0 below ∙ ap (λ (b : ℕ). b ∷ drop (i + 1) bytes) colon in
    let whole : take i bytes ++ 58 ∷ drop (i + 1) bytes ≡ bytes = ap (λ (l : List ℕ). take i bytes ++ l) (sym behind) ∙ take-append-drop i bytes in
    let family : length (take i bytes) ≤ more = omega (arith, length-take-le i bytes (omega arith)) in
    let rest : length (drop (i + 1) bytes) ≤ MAX_QUALIFIER = omega (arith, length-drop (i + 1) bytes) in
    subst (Means (Qualifier more)) whole (Means-qualifier more (take i bytes) (drop (i + 1) bytes) named family rest)
