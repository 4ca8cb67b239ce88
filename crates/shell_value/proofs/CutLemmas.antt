use Rattle.std.proofs.Common.{◌≡◌, ℕ, ◌+◌, ◌<◌, List, [], ◌∷◌, ◌++◌, Bool, true, false, eqb, length, take, drop, get_or, refl, sym, ap, ◌∙◌, rules}
use Rattle.std.proofs.lemmas.Bool.{eqb-true}
use Rattle.std.proofs.lemmas.List.{append_assoc, append-nil, take_more, drop_more}
use Rattle.shell_text.specs.TextLaws.{cond_false, cond_true}
use Rattle.hb_grammar.proofs.AvoidsLemmas.{Lacks}
use Rattle.shell_value.specs.Cut.{before, behind}

eqb_self : (n : ℕ) → eqb n n ≡ true
eqb_self n = search rules

-- another byte is not the mark
pub apart : (x mark : ℕ) (b : Bool) → eqb x mark ≡ b → (x ≡ mark → ⊥) → b ≡ false
apart x mark true e other = absurd (other (eqb-true x mark e))
apart x mark false e other = refl

before-other : (mark x : ℕ) (xs : List ℕ) → (x ≡ mark → ⊥) → before mark (x ∷ xs) ≡ x ∷ before mark xs
before-other mark x xs other = cond_false (eqb x mark) _ _ (apart x mark (eqb x mark) refl other)

behind-other : (mark x : ℕ) (xs : List ℕ) → (x ≡ mark → ⊥) → behind mark (x ∷ xs) ≡ behind mark xs
behind-other mark x xs other = cond_false (eqb x mark) _ _ (apart x mark (eqb x mark) refl other)

before-mark : (mark x : ℕ) (xs : List ℕ) → x ≡ mark → before mark (x ∷ xs) ≡ []
before-mark mark x xs e = cond_true (eqb x mark) _ _ (ap (λ (n : ℕ). eqb x n) (sym e) ∙ eqb_self x)

behind-mark : (mark x : ℕ) (xs : List ℕ) → x ≡ mark → behind mark (x ∷ xs) ≡ xs
behind-mark mark x xs e = cond_true (eqb x mark) _ _ (ap (λ (n : ℕ). eqb x n) (sym e) ∙ eqb_self x)

-- a byte more of what stands before the mark
pub before-more : (mark : ℕ) (bytes : List ℕ) (i : ℕ) → i < length bytes → (get_or bytes i 0 ≡ mark → ⊥) →
    before mark bytes ≡ take i bytes ++ before mark (drop i bytes) → before mark bytes ≡ take (i + 1) bytes ++ before mark (drop (i + 1) bytes)
before-more mark bytes i below other so_far =
    let x = get_or bytes i 0 in
    let step : before mark (drop i bytes) ≡ x ∷ before mark (drop (i + 1) bytes) =
    ap (before mark) (drop_more bytes i 0 below) ∙ before-other mark x (drop (i + 1) bytes) other in
    so_far ∙ ap (λ (l : List ℕ). take i bytes ++ l) step ∙ sym (append_assoc (take i bytes) (x ∷ []) (before mark (drop (i + 1) bytes)))
    ∙ ap (λ (l : List ℕ). l ++ before mark (drop (i + 1) bytes)) (sym (take_more bytes i 0 below))

pub before-found : (mark : ℕ) (bytes : List ℕ) (i : ℕ) → i < length bytes → get_or bytes i 0 ≡ mark →
    before mark bytes ≡ take i bytes ++ before mark (drop i bytes) → take i bytes ≡ before mark bytes
before-found mark bytes i below is so_far =
    let step : before mark (drop i bytes) ≡ [] = ap (before mark) (drop_more bytes i 0 below) ∙ before-mark mark (get_or bytes i 0) (drop (i + 1) bytes) is in
    sym (so_far ∙ ap (λ (l : List ℕ). take i bytes ++ l) step ∙ append-nil (take i bytes))

pub behind-more : (mark : ℕ) (bytes : List ℕ) (i : ℕ) → i < length bytes → (get_or bytes i 0 ≡ mark → ⊥) →
    behind mark bytes ≡ behind mark (drop i bytes) → behind mark bytes ≡ behind mark (drop (i + 1) bytes)
behind-more mark bytes i below other so_far =
    so_far ∙ ap (behind mark) (drop_more bytes i 0 below) ∙ behind-other mark (get_or bytes i 0) (drop (i + 1) bytes) other

pub behind-found : (mark : ℕ) (bytes : List ℕ) (i : ℕ) → i < length bytes → get_or bytes i 0 ≡ mark →
    behind mark bytes ≡ behind mark (drop i bytes) → drop (i + 1) bytes ≡ behind mark bytes
behind-found mark bytes i below is so_far =
    sym (so_far ∙ ap (behind mark) (drop_more bytes i 0 below) ∙ behind-mark mark (get_or bytes i 0) (drop (i + 1) bytes) is)

-- bytes without the mark, and a mark behind them
pub before-Lacks : (mark : ℕ) (xs ys : List ℕ) → Lacks mark xs → before mark (xs ++ mark ∷ ys) ≡ xs
before-Lacks mark [] ys lacks = before-mark mark mark ys refl
before-Lacks mark (x ∷ xs) ys lacks =
    cond_false (eqb x mark) _ _ lacks.0 ∙ ap (λ (l : List ℕ). x ∷ l) (before-Lacks mark xs ys lacks.1)

pub behind-Lacks : (mark : ℕ) (xs ys : List ℕ) → Lacks mark xs → behind mark (xs ++ mark ∷ ys) ≡ ys
behind-Lacks mark [] ys lacks = behind-mark mark mark ys refl
behind-Lacks mark (x ∷ xs) ys lacks = cond_false (eqb x mark) _ _ lacks.0 ∙ behind-Lacks mark xs ys lacks.1
