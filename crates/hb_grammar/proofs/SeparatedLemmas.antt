use Rattle.std.proofs.Common.{◌≡◌, ℕ, zero, suc, ◌-◌, ◌<◌, List, [], ◌∷◌, ◌++◌, refl, sym, subst, inl, inr, arith, ◌≢◌}
use Rattle.hb_grammar.specs.Grammar.{Refuses, Follows}
use Rattle.hb_grammar.specs.Joined.{Joined}
use Rattle.hb_grammar.specs.JoinedLaws.{Joined-nil_first}
use Rattle.hb_grammar.specs.Marked.{Marked, Avoids}
use Rattle.hb_grammar.specs.MarkedLaws.{Marked-nil}
use Rattle.hb_grammar.specs.Separated.{SeparatedFrom}
use Rattle.hb_grammar.proofs.EitherLemmas.{Follows-EitherOf}
use Rattle.hb_grammar.proofs.JoinedLemmas.{Follows-Joined_first, Refuses-Joined_first}
use Rattle.hb_grammar.proofs.MarkedLemmas.{Follows-Marked_end, Refuses-Marked_end, Follows-Marked, Refuses-Marked}

-- what stands behind nothing is all there is
behind-nil : (second : List ℕ → Type 0) (rest front back : List ℕ) → rest ≡ front ++ back → front ≡ [] → second back → second rest
behind-nil second rest [] back e n s = subst second (sym e) s
behind-nil second rest (x ∷ xs) back e n s = cc

-- the same, where the count is plainly not 0
Follows-SeparatedFrom_suc : (current fresh : List ℕ → Type 0) (mark byte left : ℕ) → byte ≡ mark → Avoids current mark → current [] →
    Follows (SeparatedFrom current fresh mark (suc left)) byte (SeparatedFrom fresh fresh mark left)
Follows-SeparatedFrom_suc current fresh mark byte left e h w =
    let second : List ℕ → Type 0 = SeparatedFrom fresh fresh mark left in
    let nothing : List ℕ → Type 0 = λ bytes. bytes ≡ [] in
    let f : Follows (Joined (Marked current mark) second) byte (Joined nothing second) =
    Follows-Joined_first (Marked current mark) nothing second byte (Marked-nil current mark) (Follows-Marked_end current mark byte e h w) in
    record {
      forth = λ rest s. elim s as (λ _. second rest) [
        | inl a ↦ absurd (h [] rest (subst (λ (y : ℕ). current (y ∷ rest)) e a))
        | inr j ↦ let k = f.forth rest j in behind-nil second rest k.front k.back k.whole k.in_first k.in_second
      ];
      back = λ rest s. inr (f.back rest (record { front = []; back = rest; whole = refl; in_first = refl; in_second = s }));
    }

-- behind a whole string, and where more may come, the mark begins the next
pub Follows-SeparatedFrom_mark : (current fresh : List ℕ → Type 0) (mark byte left : ℕ) → byte ≡ mark → 0 < left → Avoids current mark → current [] →
    Follows (SeparatedFrom current fresh mark left) byte (SeparatedFrom fresh fresh mark (left - 1))
Follows-SeparatedFrom_mark current fresh mark byte zero e l h w = absurd (omega arith)
Follows-SeparatedFrom_mark current fresh mark byte (suc left) e l h w =
    let same : left ≡ suc left - 1 = omega arith in
    subst (λ (n : ℕ). Follows (SeparatedFrom current fresh mark (suc left)) byte (SeparatedFrom fresh fresh mark n)) same (Follows-SeparatedFrom_suc current fresh mark byte left e h w)

-- behind a string that is not whole the mark is refused
pub Refuses-SeparatedFrom_mark : (current fresh : List ℕ → Type 0) (mark byte left : ℕ) → byte ≡ mark → Avoids current mark → (current [] → ⊥) →
    Refuses (SeparatedFrom current fresh mark left) byte
Refuses-SeparatedFrom_mark current fresh mark byte zero e h w = λ rest a. h [] rest (subst (λ (y : ℕ). current (y ∷ rest)) e a)
Refuses-SeparatedFrom_mark current fresh mark byte (suc left) e h w = λ rest s. elim s as (λ _. ⊥) [
  | inl a ↦ h [] rest (subst (λ (y : ℕ). current (y ∷ rest)) e a)
  | inr j ↦ Refuses-Joined_first (Marked current mark) (SeparatedFrom fresh fresh mark left) byte (Marked-nil current mark) (Refuses-Marked_end current mark byte e h w) rest j
]

-- behind the last string the mark is refused
pub Refuses-SeparatedFrom_last : (current fresh : List ℕ → Type 0) (mark byte left : ℕ) → byte ≡ mark → Avoids current mark → left ≡ 0 →
    Refuses (SeparatedFrom current fresh mark left) byte
Refuses-SeparatedFrom_last current fresh mark byte zero e h z = λ rest a. h [] rest (subst (λ (y : ℕ). current (y ∷ rest)) e a)
Refuses-SeparatedFrom_last current fresh mark byte (suc left) e h z = absurd (omega arith)

-- another byte leaves what it leaves of the current string
pub Follows-SeparatedFrom : (current next fresh : List ℕ → Type 0) (mark byte left : ℕ) → byte ≢ mark → Follows current byte next →
    Follows (SeparatedFrom current fresh mark left) byte (SeparatedFrom next fresh mark left)
Follows-SeparatedFrom current next fresh mark byte zero n f = f
Follows-SeparatedFrom current next fresh mark byte (suc left) n f =
    let second : List ℕ → Type 0 = SeparatedFrom fresh fresh mark left in
    Follows-EitherOf current (Joined (Marked current mark) second) next (Joined (Marked next mark) second) byte f
    (Follows-Joined_first (Marked current mark) (Marked next mark) second byte (Marked-nil current mark) (Follows-Marked current next mark byte n f))

-- another byte is refused where the current string refuses it
pub Refuses-SeparatedFrom : (current fresh : List ℕ → Type 0) (mark byte left : ℕ) → byte ≢ mark → Refuses current byte →
    Refuses (SeparatedFrom current fresh mark left) byte
Refuses-SeparatedFrom current fresh mark byte zero n r = r
Refuses-SeparatedFrom current fresh mark byte (suc left) n r = λ rest s. elim s as (λ _. ⊥) [
  | inl a ↦ r rest a
  | inr j ↦ Refuses-Joined_first (Marked current mark) (SeparatedFrom fresh fresh mark left) byte (Marked-nil current mark) (Refuses-Marked current mark byte n r) rest j
]

-- where the current string is whole, so is the row
pub SeparatedFrom-nil : (current fresh : List ℕ → Type 0) (mark left : ℕ) → current [] → SeparatedFrom current fresh mark left []
SeparatedFrom-nil current fresh mark zero w = w
SeparatedFrom-nil current fresh mark (suc left) w = inl w

-- where the current string is not whole, the row is not
pub SeparatedFrom-not_nil : (current fresh : List ℕ → Type 0) (mark left : ℕ) → (current [] → ⊥) → SeparatedFrom current fresh mark left [] → ⊥
SeparatedFrom-not_nil current fresh mark zero w = w
SeparatedFrom-not_nil current fresh mark (suc left) w = λ s. elim s as (λ _. ⊥) [
  | inl a ↦ w a
  | inr j ↦ Marked-nil current mark (Joined-nil_first (Marked current mark) (SeparatedFrom fresh fresh mark left) j)
]
