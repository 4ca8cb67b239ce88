use Rattle.std.proofs.Common.{◌≡◌, ℕ, List, [], ◌∷◌, ◌++◌, refl, Option, Some, None, sym, subst}
use Rattle.hb_grammar.specs.Grammar.{IsLive, Refuses}
use Rattle.hb_grammar.specs.Joined.{Joined, LeftOf}

-- two grammars that have strings have one together
pub IsLive-Joined : (first second : List ℕ → Type 0) → IsLive first → IsLive second → IsLive (Joined first second)
IsLive-Joined first second a b =
    (a.0 ++ b.0, record { front = a.0; back = b.0; whole = refl; in_first = a.1; in_second = b.1 })

-- so has what is left of two
pub IsLive-LeftOf : {A B : Type 0} (spells_first : A → List ℕ → Type 0) (spells_second : B → List ℕ → Type 0) →
    ((a : A) → IsLive (spells_first a)) → ((b : B) → IsLive (spells_second b)) →
    (first : Option A) (second : B) → IsLive (LeftOf spells_first first (spells_second second))
IsLive-LeftOf spells_first spells_second lives_first lives_second None b = lives_second b
IsLive-LeftOf spells_first spells_second lives_first lives_second (Some a) b =
    IsLive-Joined (spells_first a) (spells_second b) (lives_first a) (lives_second b)

-- no bytes have no bytes in front
nil-front : (first : List ℕ → Type 0) (front back : List ℕ) → [] ≡ front ++ back → first front → first []
nil-front first [] back e spelled = spelled
nil-front first (x ∷ xs) back e spelled = cc

-- no bytes have no bytes behind
nil-back : (second : List ℕ → Type 0) (front back : List ℕ) → [] ≡ front ++ back → second back → second []
nil-back second [] back e spelled = subst second (sym e) spelled
nil-back second (x ∷ xs) back e spelled = cc

-- where the two have the string of no bytes, the first has it
pub Joined-nil_first : (first second : List ℕ → Type 0) → Joined first second [] → first []
Joined-nil_first first second pair = nil-front first pair.front pair.back pair.whole pair.in_first

-- and so has the second
pub Joined-nil_second : (first second : List ℕ → Type 0) → Joined first second [] → second []
Joined-nil_second first second pair = nil-back second pair.front pair.back pair.whole pair.in_second

-- a byte that the second refuses stands behind no string of a first that goes on with none
refused-back : (first second : List ℕ → Type 0) (byte : ℕ) (rest : List ℕ) → ((b : ℕ) → Refuses first b) → Refuses second byte →
    (front back : List ℕ) → byte ∷ rest ≡ front ++ back → first front → second back → ⊥
refused-back first second byte rest done refused [] back e a b = refused rest (subst second (sym e) b)
refused-back first second byte rest done refused (x ∷ xs) back e a b = done x xs a

-- where the first goes on with no byte, the two refuse what the second refuses
pub Refuses-Joined_second : (first second : List ℕ → Type 0) (byte : ℕ) → ((b : ℕ) → Refuses first b) → Refuses second byte →
    Refuses (Joined first second) byte
Refuses-Joined_second first second byte done refused rest pair =
    refused-back first second byte rest done refused pair.front pair.back pair.whole pair.in_first pair.in_second

-- what is left of two closed grammars is closed
pub Refuses-LeftOf : {A B : Type 0} (spells_first : A → List ℕ → Type 0) (spells_second : B → List ℕ → Type 0) →
    ((a : A) → spells_first a [] → (byte : ℕ) → Refuses (spells_first a) byte) →
    ((b : B) → spells_second b [] → (byte : ℕ) → Refuses (spells_second b) byte) →
    (first : Option A) (second : B) → LeftOf spells_first first (spells_second second) [] →
    (byte : ℕ) → Refuses (LeftOf spells_first first (spells_second second)) byte
Refuses-LeftOf spells_first spells_second closed_first closed_second None b whole byte = closed_second b whole byte
Refuses-LeftOf spells_first spells_second closed_first closed_second (Some a) b whole byte =
    let whole_first = Joined-nil_first (spells_first a) (spells_second b) whole in
    let whole_second = Joined-nil_second (spells_first a) (spells_second b) whole in
    Refuses-Joined_second (spells_first a) (spells_second b) byte (closed_first a whole_first) (closed_second b whole_second byte)
