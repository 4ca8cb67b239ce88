use Rattle.std.proofs.Common.{◌≡◌, ℕ, List, [], ◌∷◌, ◌++◌, sym, ap, subst, ◌≢◌, ◌⊎◌, inl, inr}
use Rattle.hb_grammar.specs.Grammar.{Refuses, Follows}
use Rattle.hb_grammar.specs.Marked.{Marked, Avoids}

-- what follows a byte of a grammar avoids what the grammar avoids
pub Avoids-Follows : (inner next : List ℕ → Type 0) (mark byte : ℕ) → Avoids inner mark → Follows inner byte next → Avoids next mark
Avoids-Follows inner next mark byte avoids follows =
    λ front rest spelled. avoids (byte ∷ front) rest (follows.back (front ++ mark ∷ rest) spelled)

-- the first byte of a marked string is the mark behind nothing, or a byte of the inner string
first-marked : (inner : List ℕ → Type 0) (mark byte : ℕ) (rest front : List ℕ) → byte ∷ rest ≡ front ++ mark ∷ [] → inner front →
    ((byte ≡ mark) × (rest ≡ []) × inner []) ⊎ ((more : List ℕ) × (rest ≡ more ++ mark ∷ []) × inner (byte ∷ more))
first-marked inner mark byte rest [] e a =
    let same : byte ≡ mark = cc in
    let none : rest ≡ [] = cc in
    inl (same, none, a)
first-marked inner mark byte rest (x ∷ xs) e a =
    let same : byte ≡ x = cc in
    let behind : rest ≡ xs ++ mark ∷ [] = cc in
    inr (xs, behind, subst (λ (y : ℕ). inner (y ∷ xs)) (sym same) a)

-- behind a whole string the mark leaves nothing
pub Follows-Marked_end : (inner : List ℕ → Type 0) (mark byte : ℕ) → byte ≡ mark → Avoids inner mark → inner [] →
    Follows (Marked inner mark) byte (λ bytes. bytes ≡ [])
Follows-Marked_end inner mark byte e avoids whole = record {
  forth = λ rest marked. elim (first-marked inner mark byte rest marked.front marked.whole marked.in_inner) as (λ _. rest ≡ [])
      [ inl p ↦ p.1 | inr p ↦ absurd (avoids [] p.0 (subst (λ (y : ℕ). inner (y ∷ p.0)) e p.2)) ];
  back = λ rest none. record { front = []; whole = cc; in_inner = whole };
}

-- where the inner string is not whole, the mark is refused
pub Refuses-Marked_end : (inner : List ℕ → Type 0) (mark byte : ℕ) → byte ≡ mark → Avoids inner mark → (inner [] → ⊥) →
    Refuses (Marked inner mark) byte
Refuses-Marked_end inner mark byte e avoids never rest marked =
    elim (first-marked inner mark byte rest marked.front marked.whole marked.in_inner) as (λ _. ⊥)
    [ inl p ↦ never p.2 | inr p ↦ avoids [] p.0 (subst (λ (y : ℕ). inner (y ∷ p.0)) e p.2) ]

-- another byte leaves what it leaves of the inner string, and the mark
pub Follows-Marked : (inner next : List ℕ → Type 0) (mark byte : ℕ) → byte ≢ mark → Follows inner byte next →
    Follows (Marked inner mark) byte (Marked next mark)
Follows-Marked inner next mark byte other follows = record {
  forth = λ rest marked. elim (first-marked inner mark byte rest marked.front marked.whole marked.in_inner) as (λ _. Marked next mark rest)
      [ inl p ↦ absurd (other p.0) | inr p ↦ record { front = p.0; whole = p.1; in_inner = follows.forth p.0 p.2 } ];
  back = λ rest marked. record {
    front = byte ∷ marked.front;
    whole = ap (λ (x : List ℕ). byte ∷ x) marked.whole;
    in_inner = follows.back marked.front marked.in_inner;
  };
}

-- another byte is refused where the inner string refuses it
pub Refuses-Marked : (inner : List ℕ → Type 0) (mark byte : ℕ) → byte ≢ mark → Refuses inner byte → Refuses (Marked inner mark) byte
Refuses-Marked inner mark byte other refused rest marked =
    elim (first-marked inner mark byte rest marked.front marked.whole marked.in_inner) as (λ _. ⊥)
    [ inl p ↦ other p.0 | inr p ↦ refused p.0 p.2 ]
