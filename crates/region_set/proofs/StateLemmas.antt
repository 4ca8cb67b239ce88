use Rattle.std.proofs.Common.{◌≡◌, ℕ, List, refl, subst, sym, ap, length, get_or, eqb, rules, true, false}
use Rattle.hb_grammar.specs.Marked.{Avoids}
use Rattle.hb_grammar.specs.TextOf.{IsTextOf, IsTold}
use Rattle.hb_grammar.proofs.AvoidsLemmas.{Lacks, Avoids-Free}
use Rattle.hb_grammar.proofs.MarkedTextLemmas.{IsTold-marked}
use Rattle.commit_line.specs.Line.{ended}
use Rattle.region_set.specs.declared.set_state.SetState.{SetState}
use Rattle.region_set.specs.declared.set_state.SetState.TheVariants.{Enabled, Disabled, Dropped}
use Rattle.region_set.specs.SetState.{IsState, state_word}

-- no state's word has a line feed
Lacks-state_word : (state : SetState) → Lacks 10 (state_word state)
Lacks-state_word Enabled = (refl, (refl, (refl, (refl, (refl, (refl, (refl, tt)))))))
Lacks-state_word Disabled = (refl, (refl, (refl, (refl, (refl, (refl, (refl, (refl, tt))))))))
Lacks-state_word Dropped = (refl, (refl, (refl, (refl, (refl, (refl, (refl, tt)))))))

-- so the words avoid it
pub Avoids-state_word : Avoids (IsTextOf IsState state_word) 10
Avoids-state_word =
    Avoids-Free (IsTextOf IsState state_word) 10 (λ bytes spelled. subst (Lacks 10) (sym spelled.2) (Lacks-state_word spelled.0))

-- a test tells two numbers apart
unequal : (m n : ℕ) → eqb m n ≡ false → m ≡ n → ⊥
unequal m n other e =
    let same : eqb n n ≡ true = search rules in
    let moved : eqb n n ≡ false = subst (λ x. eqb x n ≡ false) e other in
    cc

-- a state is told by its word
state_word-injective : (s t : SetState) → IsState s → IsState t → state_word s ≡ state_word t → s ≡ t
state_word-injective Enabled Enabled ok ok' e = refl
state_word-injective Enabled Disabled ok ok' e = absurd (unequal 7 8 refl (ap length e))
state_word-injective Enabled Dropped ok ok' e = absurd (unequal 101 100 refl (ap (λ (word : List ℕ). get_or word 0 0) e))
state_word-injective Disabled Enabled ok ok' e = absurd (unequal 8 7 refl (ap length e))
state_word-injective Disabled Disabled ok ok' e = refl
state_word-injective Disabled Dropped ok ok' e = absurd (unequal 8 7 refl (ap length e))
state_word-injective Dropped Enabled ok ok' e = absurd (unequal 100 101 refl (ap (λ (word : List ℕ). get_or word 0 0) e))
state_word-injective Dropped Disabled ok ok' e = absurd (unequal 7 8 refl (ap length e))
state_word-injective Dropped Dropped ok ok' e = refl

-- and by its line
pub IsTold-state : IsTold IsState (λ state. ended (state_word state))
IsTold-state = IsTold-marked IsState state_word 10 Avoids-state_word state_word-injective
