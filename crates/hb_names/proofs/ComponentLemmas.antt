use Rattle.std.proofs.Common.{◌≡◌, ◌≢◌, ℕ, ◌≤◌, List, [], ◌∷◌, length, codes, true, refl, sym, ap, subst, arith}
use Rattle.hb_grammar.specs.Grammar.{Same}
use Rattle.hb_grammar.specs.declared.class.Class.TheVariants.{Component}
use Rattle.hb_grammar.specs.Class.{has}
use Rattle.hb_grammar.specs.Marked.{Avoids}
use Rattle.hb_grammar.proofs.AvoidsLemmas.{Avoids-Free, Lacks-AllIn}
use Rattle.hb_names.specs.Component.{IsComponent}
use Rattle.hb_names.specs.ComponentGrammar.{AllDots, ComponentAfter}

-- what is dots alone, and neither one nor two of them, is at least three
long-AllDots : (bytes : List ℕ) → 1 ≤ length bytes → bytes ≢ codes "." → bytes ≢ codes ".." → AllDots bytes → 3 ≤ length bytes
long-AllDots [] least one two dots = absurd (omega arith)
long-AllDots (a ∷ []) least one two dots = absurd (one (ap (λ x. x ∷ []) dots.0))
long-AllDots (a ∷ b ∷ []) least one two dots = absurd (two (same a b dots.0 dots.1.0))
  where
    same : (a b : ℕ) → a ≡ 46 → b ≡ 46 → a ∷ b ∷ [] ≡ 46 ∷ 46 ∷ []
    same a b e f = cc
long-AllDots (a ∷ b ∷ c ∷ bytes) least one two dots = omega arith

-- before its first byte stands a component
pub Same-ComponentAfter : Same (ComponentAfter 0 true) IsComponent
Same-ComponentAfter = record {
  forth = λ bytes after. let least = after.least in let most = after.most in record {
    least = omega arith;
    most = omega arith;
    each = after.each;
    not_dot = λ e. let long = after.not_dots refl (subst AllDots (sym e) (refl, tt)) in let short = ap length e in omega arith;
    not_two_dots = λ e. let long = after.not_dots refl (subst AllDots (sym e) (refl, (refl, tt))) in let short = ap length e in omega arith;
  };
  back = λ bytes component. let least = component.least in let most = component.most in record {
    least = omega arith;
    most = omega arith;
    each = component.each;
    not_dots = λ _ all. let long = long-AllDots bytes component.least component.not_dot component.not_two_dots all in omega arith;
  };
}

-- no component has a slash
pub Avoids-IsComponent : Avoids IsComponent 47
unfolding has
Avoids-IsComponent = Avoids-Free IsComponent 47 (λ bytes component. Lacks-AllIn Component 47 refl bytes component.each)
