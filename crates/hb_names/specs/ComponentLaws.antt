use Rattle.std.proofs.Common.{ℕ, ◌≤◌, [], ◌∷◌, Bool, refl, arith, inl, inr}
use Rattle.std.proofs.lemmas.Bool.{cases_lt}
use Rattle.hb_grammar.specs.Grammar.{IsLive}
use Rattle.hb_grammar.specs.Class.{has}
use Rattle.hb_names.specs.ComponentGrammar.{ComponentAfter}
use Rattle.hb_names.specs.declared.component.TheConstants.{MAX_COMPONENT}

-- whatever was read of a component can be completed: by the digit 0, or by nothing at full length
pub IsLive-ComponentAfter : (read : ℕ) (dots : Bool) → read ≤ MAX_COMPONENT → IsLive (ComponentAfter read dots)
unfolding has
IsLive-ComponentAfter read dots within = elim (cases_lt read MAX_COMPONENT) as (λ _. IsLive (ComponentAfter read dots)) [
  | inl below ↦ (48 ∷ [], record { least = omega arith; most = omega arith; each = (refl, tt); not_dots = λ _ all. let e = all.0 in absurd (omega arith) })
  | inr full ↦ ([], record { least = omega arith; most = omega arith; each = tt; not_dots = λ _ _. omega arith })
]
