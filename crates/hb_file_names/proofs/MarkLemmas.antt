use Rattle.std.proofs.Common.{◌≡◌, ◌≢◌, ℕ, zero, suc, ◌+◌, ◌<◌, List, [], ◌∷◌, ◌++◌, length, slice_index, take, drop, refl, ap, sym, ◌∙◌, subst, arith}
use Rattle.std.proofs.Math.Seq.{take-append_seam, drop-append_seam}
use Rattle.std.proofs.lemmas.Bool.Decides.{nat_tests}
use Rattle.std.proofs.lemmas.List.{append_assoc, length-append}
use Rattle.hb_grammar.specs.Joined.{Joined}
use Rattle.hb_grammar.specs.Marked.{Marked}
use Rattle.hb_grammar.proofs.AvoidsLemmas.{Lacks, Free}

-- the first mark stands behind the bytes that lack it
pub length-Lacks : (front back : List ℕ) (mark n : ℕ) → Lacks mark front → ((k : ℕ) → k < n → slice_index (front ++ mark ∷ back) k ≢ mark) →
    (n < length (front ++ mark ∷ back) → slice_index (front ++ mark ∷ back) n ≡ mark) → n ≡ length front
length-Lacks [] back mark zero lacks before at = refl
length-Lacks [] back mark (suc n) lacks before at = absurd (before 0 (omega arith) refl)
length-Lacks (x ∷ xs) back mark zero lacks before at = let same : x ≡ mark = at (omega arith) in let other = lacks.0 in absurd (grind (arith, nat_tests))
length-Lacks (x ∷ xs) back mark (suc n) lacks before at =
    ap suc (length-Lacks xs back mark n lacks.1 (λ k below. before (suc k) (omega arith)) (λ below. at (omega arith)))

-- the bytes are a string of one grammar, a mark, and behind it a string of another
pub record IsMarkedSplit (inner second : List ℕ → Type 0) (mark n : ℕ) (bytes : List ℕ) : Type 0 where
  pub within : n < length bytes
  pub front : inner (take n bytes)
  pub back : second (drop (n + 1) bytes)
  pub whole : take n bytes ++ mark ∷ drop (n + 1) bytes ≡ bytes

-- where the mark stands behind the first string
pub IsMarkedSplit-Joined : (inner second : List ℕ → Type 0) (mark n : ℕ) (bytes : List ℕ) (pair : Joined (Marked inner mark) second bytes) →
    n ≡ length pair.in_first.front → IsMarkedSplit inner second mark n bytes
IsMarkedSplit-Joined inner second mark n bytes pair at =
    let front = pair.in_first.front in
    let regrouped : bytes ≡ front ++ (mark ∷ pair.back) =
    pair.whole ∙ ap (λ (x : List ℕ). x ++ pair.back) pair.in_first.whole ∙ append_assoc front (mark ∷ []) pair.back in
    let long : length pair.front ≡ n + 1 = ap length pair.in_first.whole ∙ omega (arith, length-append front (mark ∷ []), at) in
    let taken : take n bytes ≡ front =
    ap (take n) regrouped ∙ subst (λ m. take m (front ++ (mark ∷ pair.back)) ≡ front) (sym at) (take-append_seam front (mark ∷ pair.back)) in
    let left : drop (n + 1) bytes ≡ pair.back =
    ap (drop (n + 1)) pair.whole ∙ subst (λ m. drop m (pair.front ++ pair.back) ≡ pair.back) long (drop-append_seam pair.front pair.back) in
    record {
      within = omega (arith, ap length pair.whole, length-append pair.front pair.back, long);
      front = subst inner (sym taken) pair.in_first.in_inner;
      back = subst second (sym left) pair.in_second;
      whole = ap (λ (x : List ℕ). x ++ mark ∷ drop (n + 1) bytes) taken ∙ ap (λ (x : List ℕ). front ++ mark ∷ x) left ∙ sym regrouped;
    }

-- where the first string has a length of its own
pub IsMarkedSplit_first : (inner second : List ℕ → Type 0) (mark n : ℕ) (bytes : List ℕ) → ((xs : List ℕ) → inner xs → length xs ≡ n) →
    Joined (Marked inner mark) second bytes → IsMarkedSplit inner second mark n bytes
IsMarkedSplit_first inner second mark n bytes long pair =
    IsMarkedSplit-Joined inner second mark n bytes pair (sym (long pair.in_first.front pair.in_first.in_inner))

-- the bytes behind the second of two marks
pub text-IsMarkedSplit : (table region file rest bytes : List ℕ) (n m first second : ℕ) → table ≡ take n bytes → rest ≡ drop (n + 1) bytes →
    region ≡ take m rest → file ≡ drop (m + 1) rest → take n bytes ++ first ∷ drop (n + 1) bytes ≡ bytes → take m rest ++ second ∷ drop (m + 1) rest ≡ rest →
    table ++ first ∷ (region ++ second ∷ file) ≡ bytes
text-IsMarkedSplit table region file rest bytes n m first second a b c d e f = cc

-- the bytes round one mark
pub text_split : (front back bytes : List ℕ) (n mark : ℕ) → front ≡ take n bytes → back ≡ drop (n + 1) bytes →
    take n bytes ++ mark ∷ drop (n + 1) bytes ≡ bytes → front ++ mark ∷ back ≡ bytes
text_split front back bytes n mark a b c = cc

-- the first mark stands behind the first string, which lacks it
pub length-Free : (inner second : List ℕ → Type 0) (mark n : ℕ) (bytes : List ℕ) (pair : Joined (Marked inner mark) second bytes) → Free inner mark →
    ((k : ℕ) → k < n → slice_index bytes k ≢ mark) → (n < length bytes → slice_index bytes n ≡ mark) → n ≡ length pair.in_first.front
length-Free inner second mark n bytes pair free before at =
    let front = pair.in_first.front in
    let regrouped : bytes ≡ front ++ (mark ∷ pair.back) =
    pair.whole ∙ ap (λ (x : List ℕ). x ++ pair.back) pair.in_first.whole ∙ append_assoc front (mark ∷ []) pair.back in
    length-Lacks front pair.back mark n (free front pair.in_first.in_inner)
    (subst (λ (xs : List ℕ). (k : ℕ) → k < n → slice_index xs k ≢ mark) regrouped before)
    (subst (λ (xs : List ℕ). n < length xs → slice_index xs n ≡ mark) regrouped at)
