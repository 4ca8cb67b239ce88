use Rattle.std.proofs.Common.{◌≡◌, ℕ, ◌+◌, List, ◌++◌, length, take, drop, refl, sym, subst, ap, ◌∙◌, inl, inr, append_assoc}
use Rattle.std.proofs.lemmas.List.{append_cancel_left, take-append-drop}
use Rattle.hb_grammar.specs.Grammar.{IsLive, IsReach, IsFault}
use Rattle.hb_grammar.specs.Front.{IsFrontFault}
use Rattle.hb_grammar.specs.TextOf.{IsTextOf, IsTold, IsPair, pair_text}
use Rattle.hb_grammar.proofs.GrammarLemmas.{Leaves}
use Rattle.hb_grammar.proofs.FrontLemmas.{GoesOn-cuts}
use Rattle.hb_grammar.proofs.LeavesLemmas.{IsReach-Leaves}

-- what stands behind a value that is told
pub behind-IsTold : {V : Type 0} (valid : V → Type 0) (text : V → List ℕ) → IsTold valid text → (v w : V) (a b : List ℕ) → valid v → valid w →
    text v ++ a ≡ text w ++ b → a ≡ b
behind-IsTold valid text told v w a b ok ok' e =
    let same = told v w a b ok ok' e in
    append_cancel_left (text v) a b (e ∙ ap (λ x. text x ++ b) (sym same))

-- pairs of which each part is told are told
pub IsTold-IsPair : {V W : Type 0} (valid : V → Type 0) (text : V → List ℕ) (valid' : V → W → Type 0) (text' : W → List ℕ) → IsTold valid text →
    ((v : V) → valid v → IsTold (valid' v) text') → IsTold (IsPair valid valid') (pair_text text text')
IsTold-IsPair {V} {W} valid text valid' text' told told' p q a b ok ok' e =
    let whole : text p.0 ++ (text' p.1 ++ a) ≡ text q.0 ++ (text' q.1 ++ b) =
    sym (append_assoc (text p.0) (text' p.1) a) ∙ e ∙ append_assoc (text q.0) (text' q.1) b in
    let first : p.0 ≡ q.0 = told p.0 q.0 (text' p.1 ++ a) (text' q.1 ++ b) ok.0 ok'.0 whole in
    let behind = behind-IsTold valid text told p.0 q.0 (text' p.1 ++ a) (text' q.1 ++ b) ok.0 ok'.0 whole in
    let second : p.1 ≡ q.1 = told' p.0 ok.0 p.1 q.1 a b ok.1 (subst (λ v. valid' v q.1) (sym first) ok'.1) behind in
    λ i. (first i, second i)

-- behind the first of a pair stands the second
pub Leaves-IsPair : {V W : Type 0} (valid : V → Type 0) (text : V → List ℕ) (valid' : V → W → Type 0) (text' : W → List ℕ) → IsTold valid text →
    (v : V) → valid v → Leaves (IsTextOf (IsPair valid valid') (pair_text text text')) (text v) (IsTextOf (valid' v) text')
Leaves-IsPair valid text valid' text' told v ok = record {
  forth = λ rest spelled.
      let p = spelled.0 in
      let same : v ≡ p.0 = told v p.0 rest (text' p.1) ok spelled.1.0 spelled.2 in
      (p.1, subst (λ x. valid' x p.1) (sym same) spelled.1.1, behind-IsTold valid text told v p.0 rest (text' p.1) ok spelled.1.0 spelled.2);
  back = λ rest spelled. ((v, spelled.0), (ok, spelled.1), ap (λ (x : List ℕ). text v ++ x) spelled.2);
}

-- the reach of the first of a pair is that of the pair where no first begins the bytes
pub IsReach-IsPair_first : {V W : Type 0} (valid : V → Type 0) (text : V → List ℕ) (valid' : V → W → Type 0) (text' : W → List ℕ) →
    ((v : V) → valid v → IsLive (IsTextOf (valid' v) text')) → (bytes : List ℕ) (at : ℕ) → IsFrontFault (IsTextOf valid text) bytes at →
    IsReach (IsTextOf (IsPair valid valid') (pair_text text text')) bytes at
IsReach-IsPair_first {V} {W} valid text valid' text' live bytes at fault =
    let viable = fault.reach.viable in
    let v = viable.1.0 in
    let other = live v viable.1.1 in
    let w = other.1.0 in
    record {
      within = fault.reach.within;
      viable = (viable.0 ++ text' w, ((v, w), (viable.1.1, other.1.1), sym (append_assoc (take at bytes) viable.0 (text' w)) ∙ ap (λ (x : List ℕ). x ++ text' w) viable.1.2));
      longest = λ more above within longer.
          let p = longer.1.0 in
          elim (GoesOn-cuts (take more bytes) longer.0 (text p.0) (text' p.1) longer.1.2) as (λ _. ⊥) [
            | inl goes_on ↦ fault.reach.longest more above within (goes_on.0, (p.0, longer.1.1.0, sym goes_on.1))
            | inr begins ↦ fault.none (text p.0) (begins.0 ++ drop more bytes) (p.0, longer.1.1.0, refl)
                (sym (append_assoc (text p.0) begins.0 (drop more bytes)) ∙ ap (λ (x : List ℕ). x ++ drop more bytes) (sym begins.1) ∙ take-append-drop more bytes)
          ];
    }

-- a front of no first is one of no pair
pub IsFrontFault-IsPair_first : {V W : Type 0} (valid : V → Type 0) (text : V → List ℕ) (valid' : V → W → Type 0) (text' : W → List ℕ) →
    ((v : V) → valid v → IsLive (IsTextOf (valid' v) text')) → (bytes : List ℕ) (at : ℕ) → IsFrontFault (IsTextOf valid text) bytes at →
    IsFrontFault (IsTextOf (IsPair valid valid') (pair_text text text')) bytes at
IsFrontFault-IsPair_first {V} {W} valid text valid' text' live bytes at fault = record {
  none = λ front back spelled whole.
      let p = spelled.0 in
      fault.none (text p.0) (text' p.1 ++ back) (p.0, spelled.1.0, refl)
      (sym (append_assoc (text p.0) (text' p.1) back) ∙ ap (λ (x : List ℕ). x ++ back) (sym spelled.2) ∙ whole);
  reach = IsReach-IsPair_first valid text valid' text' live bytes at fault;
}

-- nor are the bytes a pair
pub IsFault-IsPair_first : {V W : Type 0} (valid : V → Type 0) (text : V → List ℕ) (valid' : V → W → Type 0) (text' : W → List ℕ) →
    ((v : V) → valid v → IsLive (IsTextOf (valid' v) text')) → (bytes : List ℕ) (at : ℕ) → IsFrontFault (IsTextOf valid text) bytes at →
    IsFault (IsTextOf (IsPair valid valid') (pair_text text text')) bytes at
IsFault-IsPair_first {V} {W} valid text valid' text' live bytes at fault = record {
  not_spelled = λ spelled. let p = spelled.0 in fault.none (text p.0) (text' p.1) (p.0, spelled.1.0, refl) (sym spelled.2);
  reach = IsReach-IsPair_first valid text valid' text' live bytes at fault;
}

-- behind a first, a front of no second is one of no pair
pub IsFrontFault-IsPair_second : {V W : Type 0} (valid : V → Type 0) (text : V → List ℕ) (valid' : V → W → Type 0) (text' : W → List ℕ) → IsTold valid text →
    (v : V) → valid v → (rest : List ℕ) (at : ℕ) → IsFrontFault (IsTextOf (valid' v) text') rest at →
    IsFrontFault (IsTextOf (IsPair valid valid') (pair_text text text')) (text v ++ rest) (length (text v) + at)
IsFrontFault-IsPair_second {V} {W} valid text valid' text' told v ok rest at fault = record {
  none = λ front back spelled whole.
      let p = spelled.0 in
      let e : text p.0 ++ (text' p.1 ++ back) ≡ text v ++ rest =
      sym (append_assoc (text p.0) (text' p.1) back) ∙ ap (λ (x : List ℕ). x ++ back) (sym spelled.2) ∙ whole in
      let same : p.0 ≡ v = told p.0 v (text' p.1 ++ back) rest spelled.1.0 ok e in
      fault.none (text' p.1) back (p.1, subst (λ x. valid' x p.1) same spelled.1.1, refl) (behind-IsTold valid text told p.0 v (text' p.1 ++ back) rest spelled.1.0 ok e);
  reach = IsReach-Leaves _ (IsTextOf (valid' v) text') (text v) rest at (Leaves-IsPair valid text valid' text' told v ok) fault.reach;
}
