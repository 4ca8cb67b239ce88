use Rattle.std.proofs.Common.{◌≡◌, ℕ, List, [], ◌∷◌, inl, inr, Option, Some, None, IfSome, option_copied, true, false, nat_eq, length, is_gt, true≢false, refl, ap, sym, subst, ◌∙◌, Bor, ◌<◌, arith}
use Rattle.std.proofs.lemmas.Bool.Decides.{nat_tests}
use Rattle.std.proofs.lemmas.Cmp.{nat_list_cmp_total, tied_itself}
use Rattle.hb_grammar.specs.Grammar.{Same}
use Rattle.hb_grammar.specs.Marked.{Avoids}
use Rattle.hb_grammar.specs.AtLeast.{IsAtLeast, NotBelow, FromBound, IsBoundOf}

-- bytes are not below themselves
IsAtLeast-self : (bytes : List ℕ) → IsAtLeast bytes bytes
IsAtLeast-self bytes e = true≢false (sym (ap is_gt (sym (tied_itself nat_list_cmp_total bytes) ∙ e)))

-- two facts that a text is a bound are the same
pub IsBoundOf-alike : (spells : List ℕ → Type 0) (bound : Option (List ℕ)) (a b : IsBoundOf spells bound) → a ≡ b
IsBoundOf-alike spells bound a b =
    let alike : (bytes : List ℕ) (e : bound ≡ Some bytes) (never : spells bytes → ⊥) → a bytes e never ≡ b bytes e never =
    λ bytes e never. absurd (a bytes e never) in
    λ i bytes e never. alike bytes e never i

-- what a reference to a bound says of the bound
pub spelled_bound : (spells : List ℕ → Type 0) (bound : Option (Bor (List ℕ))) → IfSome bound (λ b. spells b.now) →
    (bytes : List ℕ) → option_copied bound ≡ Some bytes → spells bytes
spelled_bound spells None spelled bytes e = cc
spelled_bound spells (Some b) spelled bytes e = let same : b.now ≡ bytes = cc in subst spells same spelled

-- a bound that is not used up is above no bytes
pub FromBound-nil : (spells : List ℕ → Type 0) (bound : List ℕ) → nat_eq (length bound) 0 ≡ false → FromBound spells (Some bound) [] → ⊥
FromBound-nil spells [] some either = absurd (cc some)
FromBound-nil spells (first ∷ bound) some either = elim either as (λ _. ⊥) [ inl e ↦ cc e | inr both ↦ both.1 refl ]

-- and one that is used up is the string of no bytes
pub FromBound-all : (spells : List ℕ → Type 0) (bound : List ℕ) → nat_eq (length bound) 0 ≡ true → FromBound spells (Some bound) []
FromBound-all spells [] none = inl refl
FromBound-all spells (first ∷ bound) none = let some : 0 < length (first ∷ bound) = omega arith in absurd (grind (arith, nat_tests))

-- a bound that is a string of the grammar is one of those that are not below it
pub Same-FromBound : (spells : List ℕ → Type 0) (bound : Option (List ℕ)) → ((bytes : List ℕ) → bound ≡ Some bytes → spells bytes) →
    Same (FromBound spells bound) (NotBelow spells bound)
Same-FromBound spells None spelled = record { forth = λ bytes x. x; back = λ bytes x. x }
Same-FromBound spells (Some bound) spelled = record {
  forth = λ bytes either. elim either as (λ _. NotBelow spells (Some bound) bytes) [
    | inl e ↦ (subst spells (sym e) (spelled bound refl), subst (IsAtLeast bound) (sym e) (IsAtLeast-self bound))
    | inr both ↦ both
  ];
  back = λ bytes both. inr both;
}

-- from a bound on, grammars with the same strings have the same
pub Same-NotBelow : (a a' : List ℕ → Type 0) (bound : Option (List ℕ)) → Same a a' → Same (NotBelow a bound) (NotBelow a' bound)
Same-NotBelow a a' None same = same
Same-NotBelow a a' (Some bound) same = record {
  forth = λ bytes both. (same.forth bytes both.0, both.1);
  back = λ bytes both. (same.back bytes both.0, both.1);
}

-- from a bound on, a grammar avoids the marks that it avoids
pub Avoids-NotBelow : (spells : List ℕ → Type 0) (bound : Option (List ℕ)) (mark : ℕ) → Avoids spells mark → Avoids (NotBelow spells bound) mark
Avoids-NotBelow spells None mark avoids = avoids
Avoids-NotBelow spells (Some bound) mark avoids = λ front rest both. avoids front rest both.0
