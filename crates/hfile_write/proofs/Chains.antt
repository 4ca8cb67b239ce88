-- Blocks of a kind, one after another.
use Rattle.std.proofs.Common.{◌≡◌, ℕ, zero, suc, ◌+◌, ◌<◌, ◌≤◌, ℤ, List, [], ◌∷◌, ◌++◌, length, get_or, drop, Option, Some, Result, Ok, Err, OnOk, sym, subst, ap, ◌∙◌, append_assoc, append-nil, arith}
use Rattle.std.specs.Int.{w64, cast_unsigned}
use Rattle.std.specs.List.{AllByRecursion}
use Rattle.std.proofs.lemmas.List.{length-append, drop_all, drop_more}
use Rattle.hb_wire.specs.Fixed.{be_bytes}
use Rattle.hfile_block.specs.declared.magic.Magic.{Magic}
use Rattle.hfile_block.specs.Header.{magic_bytes, header_bytes, block_bytes, written_header}
use Rattle.hfile_block.proofs.HeaderLaws.{length-header_bytes}
use Rattle.hfile_index.specs.Short.{IsSmall}
use Rattle.hfile_write.specs.Written.{previous_of, chain}

-- ---- one block

-- the place of the previous block counts by its eight bytes
pub block_bytes-previous : (m : Magic) (content : List ℕ) (p q : ℤ) → cast_unsigned w64 p ≡ cast_unsigned w64 q → block_bytes m content p ≡ block_bytes m content q
unfolding block_bytes header_bytes
block_bytes-previous m content p q e =
    ap (λ (n : ℕ). (magic_bytes m ++ (be_bytes 4 (length content) ++ (be_bytes 4 (length content) ++ (be_bytes 8 n ++ (0 ∷ (be_bytes 4 16384 ++ be_bytes 4 (33 + length content))))))) ++ content) e

pub length-block_bytes : (m : Magic) (content : List ℕ) (p : ℤ) → length (block_bytes m content p) ≡ 33 + length content
unfolding block_bytes
length-block_bytes m content p =
    omega (arith, length-append (header_bytes (written_header m (length content) p)) content, length-header_bytes (written_header m (length content) p))

-- ---- many of them

pub small_at : (more : List (List ℕ)) (i : ℕ) (content : List ℕ) → i < length more → content ≡ get_or more i content → AllByRecursion IsSmall more → IsSmall content
small_at [] i content inside is small = absurd (omega arith)
small_at (x ∷ more) zero content inside is small = subst IsSmall (sym is) small.0
small_at (x ∷ more) (suc i) content inside is small = small_at more i content (omega arith) is small.1

-- the blocks so far, and those that are left, are all
pub chain-push : (magic : Magic) (before : Option ℕ) (out next : List ℕ) (more : List (List ℕ)) (i : ℕ) (content : List ℕ) (whole : List ℕ)
    → i < length more → content ≡ get_or more i content → next ≡ out ++ block_bytes magic content (previous_of before)
    → out ++ chain magic before (length out) (drop i more) ≡ whole → next ++ chain magic (Some (length out)) (length next) (drop (i + 1) more) ≡ whole
chain-push magic before out next more i content whole inside is added all =
    let cut : drop i more ≡ content ∷ drop (i + 1) more = drop_more more i content inside ∙ ap (λ (x : List ℕ). x ∷ drop (i + 1) more) (sym is) in
    let block = block_bytes magic content (previous_of before) in
    let size : length next ≡ length out + (33 + length content) = ap length added ∙ omega (arith, length-append out block, length-block_bytes magic content (previous_of before)) in
    let rest : ℕ → List ℕ = λ n. chain magic (Some (length out)) n (drop (i + 1) more) in
    ap (λ (n : ℕ). next ++ rest n) size ∙ ap (λ (t : List ℕ). t ++ rest (length out + (33 + length content))) added
    ∙ append_assoc out block (rest (length out + (33 + length content))) ∙ ap (λ (xs : List (List ℕ)). out ++ chain magic before (length out) xs) (sym cut) ∙ all

pub chain-all : (magic : Magic) (before : Option ℕ) (out : List ℕ) (more : List (List ℕ)) (i : ℕ) (whole : List ℕ)
    → length more ≤ i → out ++ chain magic before (length out) (drop i more) ≡ whole → out ≡ whole
chain-all magic before out more i whole end all =
    sym (append-nil out) ∙ ap (λ (xs : List (List ℕ)). out ++ chain magic before (length out) xs) (sym (drop_all i more end)) ∙ all

-- ---- answers

pub OnOk-to : {A E P Q : Type 0} (r : Result A E) → (P → Q) → OnOk r P → OnOk r Q
OnOk-to (Ok x) f p = f p
OnOk-to (Err e) f p = tt
