use Rattle.std.proofs.Common.{◌≡◌, ℕ, List, [], ◌∷◌, ◌++◌, refl, sym, ap, subst}
use Rattle.hb_grammar.specs.Grammar.{Refuses, Follows}
use Rattle.hb_grammar.specs.Joined.{Joined}

-- what stands behind a byte of the first
behind-first : (first next second : List ℕ → Type 0) (byte : ℕ) (rest : List ℕ) → (first [] → ⊥) → Follows first byte next →
    (front back : List ℕ) → byte ∷ rest ≡ front ++ back → first front → second back → Joined next second rest
behind-first first next second byte rest never follows [] back e a b = absurd (never a)
behind-first first next second byte rest never follows (x ∷ xs) back e a b =
    let same : byte ≡ x = cc in
    let behind : rest ≡ xs ++ back = cc in
    record {
      front = xs;
      back = back;
      whole = behind;
      in_first = follows.forth xs (subst (λ (y : ℕ). first (y ∷ xs)) (sym same) a);
      in_second = b;
    }

-- where the first is not done, a byte leaves what it leaves of the first, and the second
pub Follows-Joined_first : (first next second : List ℕ → Type 0) (byte : ℕ) → (first [] → ⊥) → Follows first byte next →
    Follows (Joined first second) byte (Joined next second)
Follows-Joined_first first next second byte never follows = record {
  forth = λ rest pair. behind-first first next second byte rest never follows pair.front pair.back pair.whole pair.in_first pair.in_second;
  back = λ rest pair. record {
    front = byte ∷ pair.front;
    back = pair.back;
    whole = ap (λ (x : List ℕ). byte ∷ x) pair.whole;
    in_first = follows.back pair.front pair.in_first;
    in_second = pair.in_second;
  };
}

-- what stands behind a byte of the second
behind-second : (first second next : List ℕ → Type 0) (byte : ℕ) (rest : List ℕ) → ((b : ℕ) → Refuses first b) → Follows second byte next →
    (front back : List ℕ) → byte ∷ rest ≡ front ++ back → first front → second back → next rest
behind-second first second next byte rest done follows [] back e a b = follows.forth rest (subst second (sym e) b)
behind-second first second next byte rest done follows (x ∷ xs) back e a b = absurd (done x xs a)

-- where the first is done, a byte leaves what it leaves of the second
pub Follows-Joined_second : (first second next : List ℕ → Type 0) (byte : ℕ) → first [] → ((b : ℕ) → Refuses first b) →
    Follows second byte next → Follows (Joined first second) byte next
Follows-Joined_second first second next byte whole done follows = record {
  forth = λ rest pair. behind-second first second next byte rest done follows pair.front pair.back pair.whole pair.in_first pair.in_second;
  back = λ rest spelled. record { front = []; back = byte ∷ rest; whole = refl; in_first = whole; in_second = follows.back rest spelled };
}

-- a byte that the first refuses begins no front
refused-front : (first : List ℕ → Type 0) (byte : ℕ) (rest : List ℕ) → (first [] → ⊥) → Refuses first byte →
    (front back : List ℕ) → byte ∷ rest ≡ front ++ back → first front → ⊥
refused-front first byte rest never refused [] back e a = never a
refused-front first byte rest never refused (x ∷ xs) back e a =
    let same : byte ≡ x = cc in refused xs (subst (λ (y : ℕ). first (y ∷ xs)) (sym same) a)

-- where the first is not done, the two refuse what it refuses
pub Refuses-Joined_first : (first second : List ℕ → Type 0) (byte : ℕ) → (first [] → ⊥) → Refuses first byte →
    Refuses (Joined first second) byte
Refuses-Joined_first first second byte never refused rest pair =
    refused-front first byte rest never refused pair.front pair.back pair.whole pair.in_first

-- the two have the string of no bytes where each has it
pub Joined-nil : (first second : List ℕ → Type 0) → first [] → second [] → Joined first second []
Joined-nil first second a b = record { front = []; back = []; whole = refl; in_first = a; in_second = b }
