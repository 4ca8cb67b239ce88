use Rattle.std.proofs.Common.{◌≡◌, ℕ, List, [], ◌∷◌, ◌++◌, refl, sym, ap, ◌∙◌, append_assoc}
use Rattle.hb_grammar.specs.Grammar.{Same}
use Rattle.hb_grammar.specs.Marked.{Marked, Avoids}
use Rattle.hb_grammar.proofs.FrontLemmas.{same-marked}
use Rattle.hb_grammar.specs.TextOf.{IsTextOf, IsTold}

-- values that their words tell are told by these and a mark, where no word has the mark
pub IsTold-marked : {V : Type 0} (valid : V → Type 0) (word : V → List ℕ) (mark : ℕ) → Avoids (IsTextOf valid word) mark →
    ((v w : V) → valid v → valid w → word v ≡ word w → v ≡ w) → IsTold valid (λ v. word v ++ mark ∷ [])
IsTold-marked {V} valid word mark avoids injective v w a b ok ok' e =
    let whole : word v ++ mark ∷ a ≡ word w ++ mark ∷ b = sym (append_assoc (word v) (mark ∷ []) a) ∙ e ∙ append_assoc (word w) (mark ∷ []) b in
    injective v w ok ok' (same-marked (IsTextOf valid word) mark avoids (word v) a (word w) b (v, ok, refl) (w, ok', refl) whole)

-- words and a mark are texts of the same values
pub Same-marked : {V : Type 0} (valid : V → Type 0) (word : V → List ℕ) (mark : ℕ) →
    Same (Marked (IsTextOf valid word) mark) (IsTextOf valid (λ v. word v ++ mark ∷ []))
Same-marked valid word mark = record {
  forth = λ bytes m. (m.in_inner.0, m.in_inner.1, m.whole ∙ ap (λ (x : List ℕ). x ++ mark ∷ []) m.in_inner.2);
  back = λ bytes s. record { front = word s.0; whole = s.2; in_inner = (s.0, s.1, refl) };
}
