use Rattle.std.proofs.Common.{◌≡◌, ℕ, ◌+◌, ◌<◌, List, [], ◌∷◌, ◌++◌, length, take, false, eqb, refl, sym, ap, ◌∙◌, subst, arith, inl, inr, ◌⊎◌}
use Rattle.std.proofs.Math.Seq.{take-append_seam}
use Rattle.std.proofs.lemmas.Bool.Decides.{nat_tests}
use Rattle.std.proofs.lemmas.List.{append_assoc, length-append}
use Rattle.hb_grammar.specs.Joined.{Joined}
use Rattle.hb_grammar.specs.Marked.{Marked, Avoids}
use Rattle.hb_grammar.proofs.AvoidsLemmas.{Lacks, Lacks-append, Avoids-Free}
use Rattle.hb_names.specs.Encoded.{IsEncoded}
use Rattle.hb_names.specs.TableName.{IsTableName}
use Rattle.hb_file_names.specs.declared.file_parts.FileParts.{FileParts}
use Rattle.hb_file_names.specs.FileName.{IsFileName}
use Rattle.hb_file_names.specs.FileParts.{file_text, sixteen_digits, suffix_text}
use Rattle.hb_file_names.specs.LinkName.{IsLinkName}
use Rattle.hb_file_names.specs.LinkParts.{link_text}
use Rattle.hb_file_names.specs.HalfName.{IsHalfName}
use Rattle.hb_file_names.specs.RefName.{IsRefName, ref_text}
use Rattle.hb_file_names.specs.NameLaws.{HasDigitsFirst, LinksAreTold, ReferencesAreTold, BackReferencesAreTold, HalvesAreNoLinks}
use Rattle.hb_file_names.proofs.DigitsLemmas.{IsExactly-sixteen_digits}
use Rattle.hb_file_names.proofs.FreeLemmas.{Free-IsFileName_equals, Free-IsFileName_dot, Free-IsTableName_equals, Free-IsEncoded_dash, Free-IsEncoded_dot, Free-IsEncoded_equals, Avoids-IsFileName}

-- a byte that is not the mark
no_mark : (mark x : ℕ) → eqb x mark ≡ false → x ≡ mark → ⊥
no_mark mark x e same = grind (arith, nat_tests)

-- the first mark ends what lacks it
cut : (mark : ℕ) (a b c d : List ℕ) → Lacks mark a → Lacks mark c → a ++ mark ∷ b ≡ c ++ mark ∷ d → (a ≡ c) × (b ≡ d)
cut mark [] b [] d h k e = (refl, (cc))
cut mark [] b (y ∷ ys) d h k e = let z : y ≡ mark = (cc) in absurd (no_mark mark y k.0 z)
cut mark (x ∷ xs) b [] d h k e = let z : x ≡ mark = (cc) in absurd (no_mark mark x h.0 z)
cut mark (x ∷ xs) b (y ∷ ys) d h k e =
    let i : x ≡ y = (cc) in
    let j : xs ++ mark ∷ b ≡ ys ++ mark ∷ d = (cc) in
    let r = cut mark xs b ys d h.1 k.1 j in
    let f = r.0 in ((cc), r.1)

-- what lacks a mark is nothing that has it
clash : (mark : ℕ) (a c d : List ℕ) → Lacks mark a → a ≡ c ++ mark ∷ d → ⊥
clash mark [] [] d h e = absurd (cc)
clash mark [] (y ∷ ys) d h e = absurd (cc)
clash mark (x ∷ xs) [] d h e = let z : x ≡ mark = (cc) in no_mark mark x h.0 z
clash mark (x ∷ xs) (y ∷ ys) d h e = let j : xs ≡ ys ++ mark ∷ d = (cc) in clash mark xs ys d h.1 j

-- two texts with ends of one length
cut_end : (mark : ℕ) (a b c d : List ℕ) → length b ≡ length d → a ++ mark ∷ b ≡ c ++ mark ∷ d → (a ≡ c) × (b ≡ d)
cut_end mark [] b [] d h e = (refl, (cc))
cut_end mark [] b (y ∷ ys) d h e = let long = ap length e in absurd (omega (arith, length-append ys (mark ∷ d)))
cut_end mark (x ∷ xs) b [] d h e = let long = ap length e in absurd (omega (arith, length-append xs (mark ∷ b)))
cut_end mark (x ∷ xs) b (y ∷ ys) d h e =
    let i : x ≡ y = (cc) in
    let j : xs ++ mark ∷ b ≡ ys ++ mark ∷ d = (cc) in
    let r = cut_end mark xs b ys d h j in
    let f = r.0 in ((cc), r.1)

-- the digits that a name begins with
front_of : (n : ℕ) (xs ys : List ℕ) → length xs ≡ n → take n (xs ++ ys) ≡ xs
front_of n xs ys e = subst (λ m. take m (xs ++ ys) ≡ xs) e (take-append_seam xs ys)

pub take-file_text : (parts : FileParts) → HasDigitsFirst parts
take-file_text parts =
    let a : List ℕ = sixteen_digits parts.epoch in
    let b : List ℕ = sixteen_digits parts.counter in
    let m : length a ≡ 16 = (IsExactly-sixteen_digits parts.epoch).long in
    let n : length b ≡ 16 = (IsExactly-sixteen_digits parts.counter).long in
    let l : length (a ++ b) ≡ 32 = omega (arith, length-append a b, m, n) in
    ap (take 32) (sym (append_assoc a b (suffix_text parts.seq))) ∙ front_of 32 (a ++ b) (suffix_text parts.seq) l

pub links_told : LinksAreTold
links_told t u r s f g table table' region region' e =
    let first = cut 61 t (r ++ 45 ∷ f) u (s ++ 45 ∷ g) (Free-IsTableName_equals t table) (Free-IsTableName_equals u table') e in
    let second = cut 45 r f s g (Free-IsEncoded_dash r region) (Free-IsEncoded_dash s region') first.1 in
    (first.0, second.0, second.1)

pub references_told : ReferencesAreTold
references_told n m p q encoded encoded' e = let long = encoded.long in let long' = encoded'.long in cut_end 46 n p m q (omega arith) e

pub backs_told : BackReferencesAreTold
backs_told r s t u encoded encoded' e = cut 46 r t s u (Free-IsEncoded_dot r encoded) (Free-IsEncoded_dot s encoded') e

pub halves_apart : HalvesAreNoLinks
halves_apart f p t r g file encoded e =
    clash 61 (ref_text f p) t (r ++ 45 ∷ g) (Lacks-append 61 f (46 ∷ p) (Free-IsFileName_equals f file) (refl, Free-IsEncoded_equals p encoded)) e

-- a string of a grammar, a mark, and what stands behind it, have the mark
marked_text : (inner second : List ℕ → Type 0) (mark : ℕ) (bytes : List ℕ) (pair : Joined (Marked inner mark) second bytes) →
    bytes ≡ pair.in_first.front ++ mark ∷ pair.back
marked_text inner second mark bytes pair =
    pair.whole ∙ ap (λ (x : List ℕ). x ++ pair.back) pair.in_first.whole ∙ append_assoc pair.in_first.front (mark ∷ []) pair.back

-- so no file name is that of a link or a reference
pub file_alone : (bytes : List ℕ) → IsFileName bytes → IsLinkName bytes ⊎ IsRefName bytes → ⊥
file_alone bytes file (inl link) =
    clash 61 bytes link.in_first.front link.back (Free-IsFileName_equals bytes file) (marked_text _ _ 61 bytes link)
file_alone bytes file (inr (inl half)) =
    clash 46 bytes half.in_first.front half.back (Free-IsFileName_dot bytes file) (marked_text _ _ 46 bytes half)
file_alone bytes file (inr (inr half)) =
    clash 46 bytes half.in_first.front half.back (Free-IsFileName_dot bytes file) (marked_text _ _ 46 bytes half)
