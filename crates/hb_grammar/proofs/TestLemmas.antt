use Rattle.std.proofs.Common.{◌≡◌, Bool, true, false, true≢false, refl, sym, ◌∙◌}
use Rattle.std.specs.Prelude.{IsTrue, ◌↔◌}

-- what a test refuses does not hold
pub refused : {P : Type 0} {test : Bool} → IsTrue test ↔ P → test ≡ false → P → ⊥
refused {P} {test} decides e holds = true≢false (sym (decides.1 holds) ∙ e)

-- a test that takes what holds, and refuses what doesn't
pub decided : {P : Type 0} (test : Bool) → ((test ≡ true) → P) → ((test ≡ false) → P → ⊥) → IsTrue test ↔ P
decided {P} test takes refuses = elim test as (λ b. (b ≡ true → P) → (b ≡ false → P → ⊥) → IsTrue b ↔ P) [
  | true ↦ λ t r. (λ _. t refl, λ _. refl)
  | false ↦ λ t r. (λ e. absurd (true≢false (sym e)), λ holds. absurd (r refl holds))
] takes refuses
