use Rattle.std.proofs.Common.{◌≡◌, ℕ, ◌≤◌, List, ◌++◌, length, take, drop, ap, ◌∙◌, sym, subst, arith}
use Rattle.std.proofs.Math.Seq.{take-append_seam, drop-append_seam}
use Rattle.std.proofs.lemmas.List.{length-append}
use Rattle.hb_grammar.specs.Joined.{Joined}

-- the bytes are in two parts, of which the first has so many
pub record IsSplit (first second : List ℕ → Type 0) (count : ℕ) (bytes : List ℕ) : Type 0 where
  pub within : count ≤ length bytes
  pub front : first (take count bytes)
  pub back : second (drop count bytes)

-- two grammars of which the first has strings of one length alone
pub IsSplit-Joined : (first second : List ℕ → Type 0) (count : ℕ) (bytes : List ℕ) → ((xs : List ℕ) → first xs → length xs ≡ count) →
    Joined first second bytes → IsSplit first second count bytes
IsSplit-Joined first second count bytes long pair =
    let at : length pair.front ≡ count = long pair.front pair.in_first in
    let taken : take count bytes ≡ pair.front =
    ap (take count) pair.whole ∙ subst (λ n. take n (pair.front ++ pair.back) ≡ pair.front) at (take-append_seam pair.front pair.back) in
    let left : drop count bytes ≡ pair.back =
    ap (drop count) pair.whole ∙ subst (λ n. drop n (pair.front ++ pair.back) ≡ pair.back) at (drop-append_seam pair.front pair.back) in
    record {
      within = omega (arith, length-append pair.front pair.back, ap length pair.whole, at);
      front = subst first (sym taken) pair.in_first;
      back = subst second (sym left) pair.in_second;
    }
