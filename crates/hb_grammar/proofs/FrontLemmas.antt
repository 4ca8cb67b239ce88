use Rattle.std.proofs.Common.{◌≡◌, ℕ, ◌+◌, ◌<◌, ◌≤◌, List, [], ◌∷◌, ◌++◌, length, take, drop, refl, sym, ap, ◌∙◌, subst, arith, ◌⊎◌, inl, inr}
use Rattle.std.proofs.lemmas.List.{append_assoc, append-nil, length-append, length-take-le, take-append-drop, take_at}
use Rattle.hb_grammar.specs.Grammar.{IsReach, IsFault, Refuses, Same}
use Rattle.hb_grammar.specs.Front.{IsAlone, IsFrontFault}
use Rattle.hb_grammar.specs.Marked.{Marked, Avoids}
use Rattle.hb_grammar.proofs.GrammarLemmas.{Leaves}
use Rattle.hb_grammar.proofs.SameLemmas.{IsFault-Same}

-- the longer front is the front and more, with which the back begins
abbrev pub GoesOn : List ℕ → List ℕ → List ℕ → List ℕ → Type 0
GoesOn front back longer rest = (more : List ℕ) × (longer ≡ front ++ more) × (back ≡ more ++ rest)

-- of two fronts of the same bytes one goes on with the other
pub GoesOn-cuts : (front back piece rest : List ℕ) → front ++ back ≡ piece ++ rest → GoesOn front back piece rest ⊎ GoesOn piece rest front back
GoesOn-cuts [] back piece rest e = inl (piece, refl, e)
GoesOn-cuts (x ∷ xs) back [] rest e = inr (x ∷ xs, refl, sym e)
GoesOn-cuts (x ∷ xs) back (y ∷ ys) rest e =
    let same : x ≡ y = cc in
    let behind : xs ++ back ≡ ys ++ rest = cc in
    elim (GoesOn-cuts xs back ys rest behind) as (λ _. GoesOn (x ∷ xs) back (y ∷ ys) rest ⊎ GoesOn (y ∷ ys) rest (x ∷ xs) back) [
      | inl on ↦ let longer : ys ≡ xs ++ on.0 = on.1 in inl (on.0, cc, on.2)
      | inr on ↦ let longer : xs ≡ ys ++ on.0 = on.1 in inr (on.0, cc, on.2)
    ]

-- no string of the grammar is a prefix of the bytes that is shorter than this
abbrev pub NoneBelow : (List ℕ → Type 0) → List ℕ → ℕ → Type 0
NoneBelow spells bytes count = (k : ℕ) → k < count → spells (take k bytes) → ⊥

-- one prefix more
pub NoneBelow-push : (spells : List ℕ → Type 0) (bytes : List ℕ) (i : ℕ) → NoneBelow spells bytes i → (spells (take i bytes) → ⊥) →
    NoneBelow spells bytes (i + 1)
NoneBelow-push spells bytes i none never k below spelled =
    let other : k ≡ i → ⊥ = λ e. never (subst (λ (n : ℕ). spells (take n bytes)) e spelled) in none k (omega arith) spelled

-- a front of the bytes is their prefix of its length
take-front : (front back bytes : List ℕ) → front ++ back ≡ bytes → take (length front) bytes ≡ front
take-front front back bytes e = ap (λ (x : List ℕ). take (length front) x) (sym e) ∙ take_at front back (length front) refl

-- where none of the prefixes up to the reach is a string, no string begins the bytes
pub IsFrontFault-IsReach : (spells : List ℕ → Type 0) (bytes : List ℕ) (at : ℕ) → IsReach spells bytes at → NoneBelow spells bytes (at + 1) →
    IsFrontFault spells bytes at
IsFrontFault-IsReach spells bytes at reach none = record {
  none = λ front back spelled e.
      let prefix : spells (take (length front) bytes) = subst spells (sym (take-front front back bytes e)) spelled in
      let inside : length front ≤ length bytes = omega (arith, ap length e, length-append front back) in
      let within : at < length front → ⊥ = λ above.
      reach.longest (length front) above inside ([], subst spells (sym (append-nil (take (length front) bytes))) prefix) in
      none (length front) (omega arith) prefix;
  reach = reach;
}

-- bytes that leave a grammar without the string of no bytes are no string
pub Leaves-not_nil : (old mid : List ℕ → Type 0) (bytes : List ℕ) → Leaves old bytes mid → (mid [] → ⊥) → old bytes → ⊥
Leaves-not_nil old mid bytes leaves never spelled = never (leaves.forth [] (subst old (sym (append-nil bytes)) spelled))

-- no string is shorter than the prefix
shorter-front : (spells : List ℕ → Type 0) (bytes : List ℕ) (i : ℕ) → i ≤ length bytes → NoneBelow spells bytes i →
    (front more : List ℕ) → spells front → take i bytes ≡ front ++ more → front ≡ take i bytes
shorter-front spells bytes i within none front [] spelled e = sym (e ∙ append-nil front)
shorter-front spells bytes i within none front (x ∷ xs) spelled e =
    let long : length (take i bytes) ≡ i = length-take-le i bytes within in
    let shorter : length front < i = omega (arith, ap length e, length-append front (x ∷ xs)) in
    let begins : front ++ ((x ∷ xs) ++ drop i bytes) ≡ bytes =
    sym (append_assoc front (x ∷ xs) (drop i bytes)) ∙ ap (λ (l : List ℕ). l ++ drop i bytes) (sym e) ∙ take-append-drop i bytes in
    absurd (none (length front) shorter (subst spells (sym (take-front front ((x ∷ xs) ++ drop i bytes) bytes begins)) spelled))

-- no string goes on behind bytes that leave a grammar that refuses each byte
longer-front : (spells left : List ℕ → Type 0) (piece : List ℕ) → Leaves spells piece left → ((byte : ℕ) → Refuses left byte) →
    (front more : List ℕ) → spells front → front ≡ piece ++ more → front ≡ piece
longer-front spells left piece leaves done front [] spelled e = e ∙ append-nil piece
longer-front spells left piece leaves done front (x ∷ xs) spelled e = absurd (done x xs (leaves.forth (x ∷ xs) (subst spells e spelled)))

-- a prefix that is the first string, and behind which none goes on, is alone
pub IsAlone-take : (spells left : List ℕ → Type 0) (bytes : List ℕ) (i : ℕ) → i ≤ length bytes → Leaves spells (take i bytes) left →
    ((byte : ℕ) → Refuses left byte) → NoneBelow spells bytes i → IsAlone spells (take i bytes)
IsAlone-take spells left bytes i within leaves done none front back rest spelled e =
    elim (GoesOn-cuts front back (take i bytes) rest e) as (λ _. front ≡ take i bytes) [
      | inl on ↦ shorter-front spells bytes i within none front on.0 spelled on.1
      | inr on ↦ longer-front spells left (take i bytes) leaves done front on.0 spelled on.1
    ]

-- where no string begins the bytes, they are none themselves
pub IsFault-IsFrontFault : (spells : List ℕ → Type 0) (bytes : List ℕ) (at : ℕ) → IsFrontFault spells bytes at → IsFault spells bytes at
IsFault-IsFrontFault spells bytes at fault =
    record { not_spelled = λ spelled. fault.none bytes [] spelled (append-nil bytes); reach = fault.reach }

-- a string that is alone in a grammar is so in each that has the same strings
pub IsAlone-Same : (a b : List ℕ → Type 0) → Same a b → (piece : List ℕ) → IsAlone a piece → IsAlone b piece
IsAlone-Same a b same piece alone = λ front back rest spelled e. alone front back rest (same.back front spelled) e

-- a fault at the front of bytes is one of each grammar that has the same strings
pub IsFrontFault-Same : (a b : List ℕ → Type 0) → Same a b → (bytes : List ℕ) (at : ℕ) → IsFrontFault a bytes at → IsFrontFault b bytes at
IsFrontFault-Same a b same bytes at fault = record {
  none = λ front back spelled e. fault.none front back (same.back front spelled) e;
  reach = (IsFault-Same a b same bytes at (IsFault-IsFrontFault a bytes at fault)).reach;
}

-- of two fronts that a mark ends in the same bytes, the second is the first or has the mark
marked-more : (front back piece rest : List ℕ) (mark : ℕ) → (more : List ℕ) → piece ≡ front ++ more → mark ∷ back ≡ more ++ mark ∷ rest →
    (front ≡ piece) ⊎ ((behind : List ℕ) × (piece ≡ front ++ mark ∷ behind))
marked-more front back piece rest mark [] longer e = inl (sym (longer ∙ append-nil front))
marked-more front back piece rest mark (x ∷ xs) longer e =
    let same : mark ≡ x = cc in inr (xs, longer ∙ ap (λ (y : ℕ). front ++ y ∷ xs) (sym same))

-- of two strings that lack the mark behind them, neither goes on with the other
pub same-marked : (inner : List ℕ → Type 0) (mark : ℕ) → Avoids inner mark → (front back piece rest : List ℕ) → inner front → inner piece →
    front ++ mark ∷ back ≡ piece ++ mark ∷ rest → front ≡ piece
same-marked inner mark avoids front back piece rest a b e =
    elim (GoesOn-cuts front (mark ∷ back) piece (mark ∷ rest) e) as (λ _. front ≡ piece) [
      | inl on ↦ elim (marked-more front back piece rest mark on.0 on.1 on.2) as (λ _. front ≡ piece)
          [ inl same ↦ same | inr has ↦ absurd (avoids front has.0 (subst inner has.1 b)) ]
      | inr on ↦ elim (marked-more piece rest front back mark on.0 on.1 on.2) as (λ _. front ≡ piece)
          [ inl same ↦ sym same | inr has ↦ absurd (avoids piece has.0 (subst inner has.1 a)) ]
    ]

-- a string that a mark ends is alone
pub IsAlone-Marked : (inner : List ℕ → Type 0) (mark : ℕ) (front : List ℕ) → Avoids inner mark → inner front →
    IsAlone (Marked inner mark) (front ++ mark ∷ [])
IsAlone-Marked inner mark front avoids spelled other back rest marked e =
    let behind : marked.front ++ mark ∷ back ≡ front ++ mark ∷ rest =
    sym (append_assoc marked.front (mark ∷ []) back) ∙ ap (λ (x : List ℕ). x ++ back) (sym marked.whole) ∙ e ∙ append_assoc front (mark ∷ []) rest in
    let same = same-marked inner mark avoids marked.front back front rest marked.in_inner spelled behind in
    marked.whole ∙ ap (λ (x : List ℕ). x ++ mark ∷ []) same
