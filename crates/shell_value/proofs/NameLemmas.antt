use Rattle.std.proofs.Common.{◌≡◌, ℕ, zero, suc, ◌+◌, ◌≤◌, List, [], ◌∷◌, ◌++◌, Bool, true, false, cond, Option, Some, None, length, refl, sym, subst, arith, ◌↔◌}
use Rattle.std.proofs.lemmas.Bool.{eqb-true}
use Rattle.hb_grammar.specs.declared.class.Class.{Class}
use Rattle.hb_grammar.specs.declared.class.Class.TheVariants.{Name}
use Rattle.hb_grammar.specs.Class.{has, AllIn}
use Rattle.hb_grammar.specs.Run.{IsRun, IsExactly}
use Rattle.hb_grammar.specs.Joined.{Joined}
use Rattle.shell_text.specs.declared.argument.Argument.{Argument}
use Rattle.shell_text.specs.declared.argument.Argument.TheVariants.{Named, Run}
use Rattle.shell_text.specs.Argument.{IsLeft, Means, has_byte}
use Rattle.shell_text.specs.TextLaws.{cond_true}

-- so many bytes of a class, or of any kind, and up to so many more
AllHave : Option Class → List ℕ → Type 0
AllHave class [] = Unit {0}
AllHave class (byte ∷ bytes) = (has_byte class byte ≡ true) × AllHave class bytes

record IsRunOf (class : Option Class) (least more : ℕ) (bytes : List ℕ) : Type 0 where
  low : least ≤ length bytes
  high : length bytes ≤ least + more
  each : AllHave class bytes

-- a choice that has a continuation was taken
pub left_taken : (b : Bool) (bytes : List ℕ) (o : Option Argument) → IsLeft bytes (cond b o None) → (b ≡ true) × IsLeft bytes o
left_taken true bytes o h = (refl, h)
left_taken false [] o h = absurd h
left_taken false (x ∷ xs) o h = absurd h

pub left_none : (bytes : List ℕ) → IsLeft bytes None → ⊥
left_none [] h = h
left_none (x ∷ xs) h = h

Run-forth : (class : Option Class) (least more : ℕ) (bytes : List ℕ) → Means (Run class least more) bytes → IsRunOf class least more bytes
unfolding AllHave
Run-forth class zero more [] h = record { low = omega arith; high = omega arith; each = tt }
Run-forth class (suc least) more [] h = let e : suc least ≡ 0 = eqb-true (suc least) 0 h in absurd (omega arith)
Run-forth class (suc least) more (x ∷ xs) h =
    let taken = left_taken (has_byte class x) xs (Some (Run class least more)) h in
    let rest = Run-forth class least more xs taken.1 in
    record { low = omega (arith, rest.low); high = omega (arith, rest.high); each = (taken.0, rest.each) }
Run-forth class zero (suc more) (x ∷ xs) h =
    let taken = left_taken (has_byte class x) xs (Some (Run class 0 more)) h in
    let rest = Run-forth class 0 more xs taken.1 in
    record { low = omega arith; high = omega (arith, rest.high); each = (taken.0, rest.each) }
Run-forth class zero zero (x ∷ xs) h =
    let taken = left_taken (has_byte class x) xs None h in absurd (left_none xs taken.1)

Run-back : (class : Option Class) (least more : ℕ) (bytes : List ℕ) → IsRunOf class least more bytes → Means (Run class least more) bytes
unfolding AllHave
Run-back class zero more [] h = refl
Run-back class (suc least) more [] h = let low = h.low in absurd (omega arith)
Run-back class (suc least) more (x ∷ xs) h =
    let low = h.low in
    let high = h.high in
    subst (IsLeft xs) (sym (cond_true (has_byte class x) _ _ h.each.0))
    (Run-back class least more xs (record { low = omega arith; high = omega arith; each = h.each.1 }))
Run-back class zero (suc more) (x ∷ xs) h =
    let high = h.high in
    subst (IsLeft xs) (sym (cond_true (has_byte class x) _ _ h.each.0))
    (Run-back class 0 more xs (record { low = omega arith; high = omega arith; each = h.each.1 }))
Run-back class zero zero (x ∷ xs) h = let high = h.high in absurd (omega arith)

-- a run of a class has the bytes of the class
AllIn-AllHave : (class : Class) (bytes : List ℕ) → AllHave (Some class) bytes → AllIn class bytes
unfolding AllHave
AllIn-AllHave class [] h = tt
AllIn-AllHave class (x ∷ xs) h = (h.0, AllIn-AllHave class xs h.1)

AllHave-AllIn : (class : Class) (bytes : List ℕ) → AllIn class bytes → AllHave (Some class) bytes
unfolding AllHave
AllHave-AllIn class [] h = tt
AllHave-AllIn class (x ∷ xs) h = (h.0, AllHave-AllIn class xs h.1)

AllHave-any : (bytes : List ℕ) → AllHave None bytes
unfolding AllHave
AllHave-any [] = tt
AllHave-any (x ∷ xs) = (refl, AllHave-any xs)

-- a name: a byte of a class, and up to so many of names
abbrev IsNamed : Class → ℕ → List ℕ → Type 0
IsNamed first more = Joined (IsExactly first 1) (IsRun Name 0 more)

Named-forth : (first : Class) (more : ℕ) (bytes : List ℕ) → Means (Named first more) bytes → IsNamed first more bytes
Named-forth first more [] h = absurd (cc)
Named-forth first more (x ∷ xs) h =
    let taken = left_taken (has first x) xs (Some (Run (Some Name) 0 more)) h in
    let run = Run-forth (Some Name) 0 more xs taken.1 in
    record {
      front = x ∷ [];
      back = xs;
      whole = refl;
      in_first = record { long = refl; each = (taken.0, tt) };
      in_second = record { least = omega arith; most = omega (arith, run.high); each = AllIn-AllHave Name xs run.each };
    }

named_at : (first : Class) (more : ℕ) (bytes front back : List ℕ) → bytes ≡ front ++ back → IsExactly first 1 front → IsRun Name 0 more back → Means (Named first more) bytes
named_at first more bytes [] back e a b = let long = a.long in absurd (omega arith)
named_at first more bytes (x ∷ y ∷ ys) back e a b = let long = a.long in absurd (omega arith)
named_at first more bytes (x ∷ []) back e a b =
    let run = Run-back (Some Name) 0 more back (record { low = omega arith; high = omega (arith, b.most); each = AllHave-AllIn Name back b.each }) in
    let whole : Means (Named first more) (x ∷ back) = subst (IsLeft back) (sym (cond_true (has first x) _ _ a.each.0)) run in
    subst (Means (Named first more)) (sym e) whole

pub Means-Named : (first : Class) (more : ℕ) (bytes : List ℕ) → Means (Named first more) bytes ↔ IsNamed first more bytes
Means-Named first more bytes =
    (Named-forth first more bytes, λ pair. named_at first more bytes pair.front pair.back pair.whole pair.in_first pair.in_second)

-- so many bytes of any kind
pub Means-any : (least more : ℕ) (bytes : List ℕ) → Means (Run None least more) bytes ↔ ((least ≤ length bytes) × (length bytes ≤ least + more))
Means-any least more bytes = (
  (λ h. let run = Run-forth None least more bytes h in (run.low, run.high)),
  (λ h. Run-back None least more bytes (record { low = h.0; high = h.1; each = AllHave-any bytes })),
)

pub Means-cell : (bytes : List ℕ) → Means (Run None 0 10485760) bytes ↔ (length bytes ≤ 10485760)
Means-cell bytes = ((λ h. ((Means-any 0 10485760 bytes).0 h).1), (λ h. (Means-any 0 10485760 bytes).1 (omega arith, h)))
