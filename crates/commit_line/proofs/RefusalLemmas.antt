use Rattle.std.proofs.Common.{◌≡◌, ℕ, ◌+◌, List, length, drop, sym, subst, arith}
use Rattle.hb_grammar.specs.Grammar.{IsLive, IsFault, Same}
use Rattle.hb_grammar.specs.TextOf.{IsTextOf, IsTold, IsPair, pair_text}
use Rattle.hb_grammar.proofs.SameLemmas.{IsFault-Same}
use Rattle.hb_grammar.proofs.LeavesLemmas.{IsFault-Leaves}
use Rattle.hb_grammar.proofs.TextOfLemmas.{Leaves-IsPair, IsFault-IsPair_first}
use Rattle.commit_line.specs.declared.error.ListError.{ListError}
use Rattle.commit_line.specs.declared.error.ListError.TheVariants.{BadList, NoMemory}
use Rattle.commit_line.specs.ListError.{IsFileRefusal, IsRefusalAt, IsFrontRefusal, IsValueAt}

-- a refusal of what stands from a place on is one of each grammar that has the same strings
pub IsRefusalAt-Same : (a b : List ℕ → Type 0) → Same a b → (bytes : List ℕ) (at : ℕ) (error : ListError) → IsRefusalAt a bytes at error →
    IsRefusalAt b bytes at error
IsRefusalAt-Same a b same bytes at (BadList place) refused = (refused.0, refused.1, IsFault-Same a b same (drop at bytes) refused.0 refused.2)
IsRefusalAt-Same a b same bytes at NoMemory refused = tt

-- where no first of a pair begins what stands there, that is no pair
pub IsRefusalAt-IsPair_first : {V W : Type 0} (valid : V → Type 0) (text : V → List ℕ) (valid' : V → W → Type 0) (text' : W → List ℕ) →
    ((v : V) → valid v → IsLive (IsTextOf (valid' v) text')) → (bytes : List ℕ) (at : ℕ) (error : ListError) → IsFrontRefusal (IsTextOf valid text) bytes at error →
    IsRefusalAt (IsTextOf (IsPair valid valid') (pair_text text text')) bytes at error
IsRefusalAt-IsPair_first {V} {W} valid text valid' text' live bytes at (BadList place) refused =
    (refused.0, refused.1, IsFault-IsPair_first valid text valid' text' live (drop at bytes) refused.0 refused.2)
IsRefusalAt-IsPair_first {V} {W} valid text valid' text' live bytes at NoMemory refused = tt

-- what is refused behind the first of a pair is refused of the pair
pub IsRefusalAt-IsPair_second : {V W : Type 0} (valid : V → Type 0) (text : V → List ℕ) (valid' : V → W → Type 0) (text' : W → List ℕ) → IsTold valid text →
    (bytes : List ℕ) (at mid : ℕ) (v : V) → IsValueAt valid text bytes at v mid → (error : ListError) → IsRefusalAt (IsTextOf (valid' v) text') bytes mid error →
    IsRefusalAt (IsTextOf (IsPair valid valid') (pair_text text text')) bytes at error
IsRefusalAt-IsPair_second {V} {W} valid text valid' text' told bytes at mid v first (BadList place) refused =
    let here = first.place in
    let pair : List ℕ → Type 0 = IsTextOf (IsPair valid valid') (pair_text text text') in (
      length (text v) + refused.0,
      omega (arith, refused.1),
      subst (λ (x : List ℕ). IsFault pair x (length (text v) + refused.0)) (sym first.whole)
          (IsFault-Leaves pair (IsTextOf (valid' v) text') (text v) (drop mid bytes) refused.0 (Leaves-IsPair valid text valid' text' told v first.is_valid) refused.2),
    )
IsRefusalAt-IsPair_second {V} {W} valid text valid' text' told bytes at mid v first NoMemory refused = tt

-- a refusal of what stands from the first byte on is one of the bytes
pub IsFileRefusal-IsRefusalAt : (spells : List ℕ → Type 0) (bytes : List ℕ) (error : ListError) → IsRefusalAt spells bytes 0 error → IsFileRefusal spells bytes error
IsFileRefusal-IsRefusalAt spells bytes (BadList place) refused =
    let same : refused.0 ≡ place = omega (arith, refused.1) in subst (IsFault spells bytes) same refused.2
IsFileRefusal-IsRefusalAt spells bytes NoMemory refused = tt
