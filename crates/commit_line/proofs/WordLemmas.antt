use Rattle.std.proofs.Common.{ℕ, ◌-◌, List, [], ◌∷◌, ◌++◌, take, drop, sym, subst, Result, Ok, Err}
use Rattle.hb_grammar.specs.Grammar.{Same}
use Rattle.hb_grammar.specs.Marked.{Marked, Avoids}
use Rattle.hb_grammar.specs.TextOf.{IsTextOf, IsTold}
use Rattle.hb_grammar.proofs.SameLemmas.{Same-Marked}
use Rattle.hb_grammar.proofs.MarkedTextLemmas.{IsTold-marked}
use Rattle.commit_line.specs.declared.error.BadText.{BadText}
use Rattle.commit_line.specs.declared.error.ListError.TheVariants.{BadList}
use Rattle.commit_line.specs.ListError.{IsWord, IsWordEnd}
use Rattle.commit_line.proofs.ReadLemmas.{IsFrontRefusal-Same}

-- words with a mark behind them are texts of themselves
pub Same-marked_word : (spells a : List ℕ → Type 0) (mark : ℕ) → Same spells a → Same (Marked spells mark) (IsTextOf a (λ word. word ++ mark ∷ []))
Same-marked_word spells a mark same = record {
  forth = λ bytes marked. (marked.front, same.forth marked.front marked.in_inner, marked.whole);
  back = λ bytes spelled. record { front = spelled.0; whole = spelled.2; in_inner = same.back spelled.0 spelled.1 };
}

-- words that lack a mark are told where it is behind them
pub IsTold-word : (spells : List ℕ → Type 0) (mark : ℕ) → Avoids spells mark → IsTold spells (λ word. word ++ mark ∷ [])
IsTold-word spells mark avoids =
    IsTold-marked spells (λ word. word) mark (λ front rest spelled. avoids front rest (subst spells (sym spelled.2) spelled.1)) (λ v w ok ok' e. e)

-- a word is one of each grammar that has the same strings
pub IsWord-Same : (a b : List ℕ → Type 0) → Same a b → (mark : ℕ) (bytes : List ℕ) (at end : ℕ) → IsWord a mark bytes at end → IsWord b mark bytes at end
IsWord-Same a b same mark bytes at end found = record {
  order = found.order;
  within = found.within;
  spelled = same.forth (take (end - 1 - at) (drop at bytes)) found.spelled;
  whole = found.whole;
}

-- where a word of a grammar ends, one does of each grammar that has the same strings
pub IsWordEnd-Same : (a b : List ℕ → Type 0) → Same a b → (mark : ℕ) (bytes : List ℕ) (at : ℕ) (result : Result ℕ BadText) →
    IsWordEnd a mark bytes at result → IsWordEnd b mark bytes at result
IsWordEnd-Same a b same mark bytes at (Ok end) word = IsWord-Same a b same mark bytes at end word
IsWordEnd-Same a b same mark bytes at (Err bad) refused =
    IsFrontRefusal-Same (Marked a mark) (Marked b mark) (Same-Marked a b mark same) bytes at (BadList bad.0) refused
