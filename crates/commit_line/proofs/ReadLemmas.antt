use Rattle.std.proofs.Common.{◌≡◌, ℕ, ◌+◌, ◌-◌, ◌≤◌, List, [], ◌∷◌, ◌++◌, length, take, drop, sym, subst, ap, ◌∙◌, append_assoc, arith}
use Rattle.std.proofs.lemmas.List.{length-append, length-drop}
use Rattle.hb_grammar.specs.Grammar.{IsLive, Same}
use Rattle.hb_grammar.specs.Front.{IsFrontFault}
use Rattle.hb_grammar.specs.TextOf.{IsTextOf, IsTold, IsPair, pair_text}
use Rattle.hb_grammar.proofs.FrontLemmas.{IsFrontFault-Same}
use Rattle.hb_grammar.proofs.TextOfLemmas.{IsFrontFault-IsPair_first, IsFrontFault-IsPair_second}
use Rattle.commit_line.specs.declared.error.ListError.{ListError}
use Rattle.commit_line.specs.declared.error.ListError.TheVariants.{BadList, NoMemory}
use Rattle.commit_line.specs.ListError.{IsFrontRefusal, IsValueAt, IsWord}

-- a refusal of strings is one of those of a grammar with the same
pub IsFrontRefusal-Same : (a b : List ℕ → Type 0) → Same a b → (bytes : List ℕ) (at : ℕ) (error : ListError) → IsFrontRefusal a bytes at error →
    IsFrontRefusal b bytes at error
IsFrontRefusal-Same a b same bytes at (BadList place) refused = (refused.0, refused.1, IsFrontFault-Same a b same (drop at bytes) refused.0 refused.2)
IsFrontRefusal-Same a b same bytes at NoMemory refused = tt

-- a refusal of the first of a pair is one of the pair
pub IsFrontRefusal-IsPair_first : {V W : Type 0} (valid : V → Type 0) (text : V → List ℕ) (valid' : V → W → Type 0) (text' : W → List ℕ) →
    ((v : V) → valid v → IsLive (IsTextOf (valid' v) text')) → (bytes : List ℕ) (at : ℕ) (error : ListError) → IsFrontRefusal (IsTextOf valid text) bytes at error →
    IsFrontRefusal (IsTextOf (IsPair valid valid') (pair_text text text')) bytes at error
IsFrontRefusal-IsPair_first {V} {W} valid text valid' text' live bytes at (BadList place) refused =
    (refused.0, refused.1, IsFrontFault-IsPair_first valid text valid' text' live (drop at bytes) refused.0 refused.2)
IsFrontRefusal-IsPair_first {V} {W} valid text valid' text' live bytes at NoMemory refused = tt

-- behind the first of a pair, so is a refusal of the second
pub IsFrontRefusal-IsPair_second : {V W : Type 0} (valid : V → Type 0) (text : V → List ℕ) (valid' : V → W → Type 0) (text' : W → List ℕ) → IsTold valid text →
    (bytes : List ℕ) (at mid : ℕ) (v : V) → IsValueAt valid text bytes at v mid → (error : ListError) → IsFrontRefusal (IsTextOf (valid' v) text') bytes mid error →
    IsFrontRefusal (IsTextOf (IsPair valid valid') (pair_text text text')) bytes at error
IsFrontRefusal-IsPair_second {V} {W} valid text valid' text' told bytes at mid v first (BadList place) refused =
    let here = first.place in
    let pair : List ℕ → Type 0 = IsTextOf (IsPair valid valid') (pair_text text text') in (
      length (text v) + refused.0,
      omega (arith, refused.1),
      subst (λ (x : List ℕ). IsFrontFault pair x (length (text v) + refused.0)) (sym first.whole)
          (IsFrontFault-IsPair_second valid text valid' text' told v first.is_valid (drop mid bytes) refused.0 refused.2),
    )
IsFrontRefusal-IsPair_second {V} {W} valid text valid' text' told bytes at mid v first NoMemory refused = tt

-- a value and one behind it are a pair
pub IsValueAt-IsPair : {V W : Type 0} (valid : V → Type 0) (text : V → List ℕ) (valid' : V → W → Type 0) (text' : W → List ℕ) →
    (bytes : List ℕ) (at mid end : ℕ) (v : V) (w : W) → IsValueAt valid text bytes at v mid → IsValueAt (valid' v) text' bytes mid w end →
    IsValueAt (IsPair valid valid') (pair_text text text') bytes at (v, w) end
IsValueAt-IsPair {V} {W} valid text valid' text' bytes at mid end v w first second =
    let here = first.place in
    let there = second.place in
    record {
      is_valid = (first.is_valid, second.is_valid);
      within = second.within;
      place = omega (arith, length-append (text v) (text' w));
      whole = first.whole ∙ ap (λ (x : List ℕ). text v ++ x) second.whole ∙ sym (append_assoc (text v) (text' w) (drop end bytes));
    }

-- a word that is a value's, with its mark, is that value's text
pub IsValueAt-IsWord : {V : Type 0} (valid : V → Type 0) (word : V → List ℕ) (spells : List ℕ → Type 0) (mark : ℕ) (bytes : List ℕ) (at end : ℕ) →
    at ≤ length bytes → IsWord spells mark bytes at end → (v : V) → valid v → word v ≡ take (end - 1 - at) (drop at bytes) →
    IsValueAt valid (λ v. word v ++ mark ∷ []) bytes at v end
IsValueAt-IsWord {V} valid word spells mark bytes at end inside found v ok same =
    let order = found.order in
    let within = found.within in
    let text : drop at bytes ≡ (word v ++ mark ∷ []) ++ drop end bytes = found.whole ∙ ap (λ (x : List ℕ). (x ++ mark ∷ []) ++ drop end bytes) (sym same) in
    let long : length (drop at bytes) ≡ length ((word v ++ mark ∷ []) ++ drop end bytes) = ap length text in
    record {
      is_valid = ok;
      within = found.within;
      place = omega (arith, long, length-drop at bytes, length-drop end bytes, length-append (word v ++ mark ∷ []) (drop end bytes));
      whole = text;
    }

-- values of two types whose texts are the same
pub IsValueAt-map : {V W : Type 0} (valid : V → Type 0) (text : V → List ℕ) (valid' : W → Type 0) (text' : W → List ℕ) (f : V → W) →
    ((v : V) → valid v → valid' (f v)) → ((v : V) → text v ≡ text' (f v)) → (bytes : List ℕ) (at end : ℕ) (v : V) →
    IsValueAt valid text bytes at v end → IsValueAt valid' text' bytes at (f v) end
IsValueAt-map {V} {W} valid text valid' text' f ok same bytes at end v found = record {
  is_valid = ok v found.is_valid;
  within = found.within;
  place = found.place ∙ ap (λ (x : List ℕ). at + length x) (same v);
  whole = found.whole ∙ ap (λ (x : List ℕ). x ++ drop end bytes) (same v);
}

-- the texts of values of two types that are each other's
pub Same-map : {V W : Type 0} (valid : V → Type 0) (text : V → List ℕ) (valid' : W → Type 0) (text' : W → List ℕ) (f : V → W) (g : W → V) →
    ((v : V) → valid v → valid' (f v)) → ((w : W) → valid' w → valid (g w)) → ((v : V) → text v ≡ text' (f v)) → ((w : W) → text' w ≡ text (g w)) →
    Same (IsTextOf valid text) (IsTextOf valid' text')
Same-map {V} {W} valid text valid' text' f g ok ok' same same' = record {
  forth = λ bytes spelled. (f spelled.0, ok spelled.0 spelled.1, spelled.2 ∙ same spelled.0);
  back = λ bytes spelled. (g spelled.0, ok' spelled.0 spelled.1, spelled.2 ∙ same' spelled.0);
}
