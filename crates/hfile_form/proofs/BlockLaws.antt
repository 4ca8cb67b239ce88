-- Blocks that are read are spelled so, and blocks that are spelled so are read.
use Rattle.std.proofs.Common.{◌≡◌, ℕ, zero, suc, ◌+◌, ◌-◌, ◌<◌, ◌≤◌, Bool, true, false, cond, eqb, List, [], ◌∷◌, ◌++◌, length, take, drop, Option, Some, Result, Ok, Err, refl, sym, ap, subst, ◌∙◌, append_assoc, inl, inr, arith}
use Rattle.std.proofs.lemmas.Bool.{le-ltb, eqb-true, eqb-false, ne_eqb, eq-eqb}
use Rattle.std.proofs.lemmas.List.{take_at, drop_at, drop_all, append-nil, length-append, length-take-le, length-drop, drop-drop, take-append-drop}
use Rattle.hb_wire.proofs.BigEndian.{IsBytes, IsBytes-drop}
use Rattle.hfile_block.specs.declared.fault.HFileError.{HFileError}
use Rattle.hfile_block.specs.declared.fault.HFileError.TheVariants as errors
use Rattle.hfile_block.specs.declared.header.Header.{Header}
use Rattle.hfile_block.specs.Header.{magic_of, header_at, header_bytes}
use Rattle.hfile_block.proofs.HeaderLaws.{BeginsWith-header_at, header_at-header_bytes, magic_of-header_bytes, length-header_bytes}
use Rattle.hfile_form.specs.declared.section.Section.{Section}
use Rattle.hfile_form.specs.Blocks.{Block, size_of, block_spelling, spelled, IsBlock, AreBlocks, allowed, kind_at, block_of, block_at, steps, blocks_at, ◌>>=◌}
use Rattle.hfile_form.proofs.Tools.{bind_ok, then_ok, ok, ok_is, chosen, on_both, length-zero}

-- a block at the front of the bytes
pub record Takes (section : Section) (bytes : List ℕ) (b : Block) : Type 0 where
  pub is : IsBlock section b
  pub whole : bytes ≡ block_spelling b ++ drop (size_of b) bytes

kind_at-long : (bytes : List ℕ) → 8 ≤ length bytes → kind_at bytes ≡ magic_of (take 8 bytes)
kind_at-long bytes long = rw (le-ltb (length bytes) 8 long) refl

pub Takes-block_at : (section : Section) (at : ℕ) (bytes : List ℕ) (b : Block) → IsBytes bytes → block_at section at bytes ≡ Ok b → Takes section bytes b
unfolding block_at
Takes-block_at section at bytes b fits e =
    let a = then_ok (allowed section (kind_at bytes)) (errors.Magic at) (header_at at bytes >>= λ h. Ok (block_of bytes h)) b e in
    let c = bind_ok (header_at at bytes) (λ h. Ok (block_of bytes h)) b a.1 in
    let h = c.0 in
    let begins = BeginsWith-header_at at bytes h fits c.1 in
    let behind = drop 33 bytes in
    let room = begins.room in
    let long : 8 ≤ length bytes = omega (arith, ap length begins.whole, length-append (header_bytes h) behind, length-header_bytes h) in
    let kind : kind_at bytes ≡ Some h.magic = kind_at-long bytes long ∙ ap (λ (t : List ℕ). magic_of (take 8 t)) begins.whole ∙ magic_of-header_bytes h behind in
    let allows : allowed section (Some h.magic) ≡ true = sym (ap (allowed section) kind) ∙ a.0 in
    let cut : drop h.on_disk behind ≡ drop (33 + h.on_disk) bytes = drop-drop h.on_disk 33 bytes in
    let made : Takes section bytes (block_of bytes h) = record {
      is = record { header = begins.is; size = length-take-le h.on_disk behind room; kind = allows };
      whole = begins.whole ∙ ap (λ (t : List ℕ). header_bytes h ++ t) (sym (take-append-drop h.on_disk behind) ∙ ap (λ (t : List ℕ). take h.on_disk behind ++ t) cut) ∙ sym (append_assoc (header_bytes h) (take h.on_disk behind) (drop (33 + h.on_disk) bytes));
    } in
    subst (Takes section bytes) (ok_is (block_of bytes h) b c.2) made

pub block_at-block_spelling : (section : Section) (at : ℕ) (b : Block) (rest : List ℕ) → IsBlock section b → block_at section at (block_spelling b ++ rest) ≡ Ok b
unfolding block_at
block_at-block_spelling section at b rest is =
    let h = b.header in
    let bytes = block_spelling b ++ rest in
    let whole : bytes ≡ header_bytes h ++ (b.body ++ rest) = append_assoc (header_bytes h) b.body rest in
    let size = is.size in
    let long : 8 ≤ length bytes = omega (arith, ap length whole, length-append (header_bytes h) (b.body ++ rest), length-header_bytes h) in
    let kind : kind_at bytes ≡ Some h.magic = kind_at-long bytes long ∙ ap (λ (t : List ℕ). magic_of (take 8 t)) whole ∙ magic_of-header_bytes h (b.body ++ rest) in
    let read : header_at at bytes ≡ Ok h = header_at-header_bytes at bytes (b.body ++ rest) h is.header (omega (arith, length-append b.body rest)) whole in
    let behind : drop 33 bytes ≡ b.body ++ rest = ap (drop 33) whole ∙ drop_at (header_bytes h) (b.body ++ rest) 33 (length-header_bytes h) in
    let body : take h.on_disk (drop 33 bytes) ≡ b.body = ap (take h.on_disk) behind ∙ take_at b.body rest h.on_disk size in
    let allows : allowed section (kind_at bytes) ≡ true = ap (allowed section) kind ∙ is.kind in
    ap (λ (t : Bool). cond t (header_at at bytes >>= λ g. Ok (block_of bytes g)) (Err (errors.Magic at))) allows
    ∙ ap (λ r. r >>= λ (g : Header). ok (block_of bytes g)) read ∙ (λ i. Ok (record { header = h; body = body i }))

pub length-block_spelling : (section : Section) (b : Block) → IsBlock section b → length (block_spelling b) ≡ size_of b
length-block_spelling section b is = let size = is.size in omega (arith, length-append (header_bytes b.header) b.body, length-header_bytes b.header)

pub drop-block_spelling : (section : Section) (b : Block) (rest : List ℕ) → IsBlock section b → drop (size_of b) (block_spelling b ++ rest) ≡ rest
drop-block_spelling section b rest is = drop_at (block_spelling b) rest (size_of b) (length-block_spelling section b is)

-- ---- blocks one after another

pub record Cut {S : Type 0} (step : ℕ → Block → S → Result S HFileError) (section : Section) (at : ℕ) (bytes : List ℕ) (s end : S) : Type 0 where
  pub blocks : List Block
  pub are : AreBlocks section blocks
  pub whole : bytes ≡ spelled blocks
  pub made : steps step at blocks s ≡ Ok end

none_left : {S : Type 0} (step : ℕ → Block → S → Result S HFileError) (section : Section) (at : ℕ) (bytes : List ℕ) (s end : S) → length bytes ≡ 0 → ok s ≡ Ok end → Cut step section at bytes s end
none_left step section at bytes s end none e = record { blocks = []; are = tt; whole = length-zero bytes none; made = e }

Cut-more : {S : Type 0} (step : ℕ → Block → S → Result S HFileError) (section : Section) (at : ℕ) (bytes : List ℕ) (s next end : S) (b : Block)
    → Takes section bytes b → step at b s ≡ Ok next → Cut step section (at + size_of b) (drop (size_of b) bytes) next end → Cut step section at bytes s end
Cut-more step section at bytes s next end b takes made on = record {
  blocks = b ∷ on.blocks;
  are = (takes.is, on.are);
  whole = takes.whole ∙ ap (λ (t : List ℕ). block_spelling b ++ t) on.whole;
  made = ap (λ r. r >>= λ n. steps step (at + size_of b) on.blocks n) made ∙ on.made;
}

pub Cut-blocks_at : {S : Type 0} (step : ℕ → Block → S → Result S HFileError) (section : Section) (more at : ℕ) (bytes : List ℕ) (s end : S) → IsBytes bytes → length bytes ≤ more
    → blocks_at step section more at bytes s ≡ Ok end → Cut step section at bytes s end
Cut-blocks_at step section zero at bytes s end fits short e = none_left step section at bytes s end (omega arith) e
Cut-blocks_at step section (suc more) at bytes s end fits short e =
    elim (chosen (eqb (length bytes) 0) (ok s) _ (Ok end) e) [
      | inl none ↦ none_left step section at bytes s end (eqb-true (length bytes) 0 none.0) none.1
      | inr some ↦
          let a = bind_ok (block_at section at bytes) (λ b. step at b s >>= λ n. blocks_at step section more (at + size_of b) (drop (size_of b) bytes) n) end some.1 in
          let c = bind_ok (step at a.0 s) (λ n. blocks_at step section more (at + size_of a.0) (drop (size_of a.0) bytes) n) end a.2 in
          let takes = Takes-block_at section at bytes a.0 fits a.1 in
          let less : length (drop (size_of a.0) bytes) ≤ more = omega (arith, length-drop (size_of a.0) bytes) in
          Cut-more step section at bytes s c.0 end a.0 takes c.1 (Cut-blocks_at step section more (at + size_of a.0) (drop (size_of a.0) bytes) c.0 end (IsBytes-drop (size_of a.0) bytes fits) less c.2)
    ]

-- blocks that are spelled so are read, to whatever answer they make
pub blocks_at-spelled : {S : Type 0} (step : ℕ → Block → S → Result S HFileError) (section : Section) (more at : ℕ) (blocks : List Block) (s : S) → AreBlocks section blocks → length (spelled blocks) ≤ more
    → blocks_at step section more at (spelled blocks) s ≡ steps step at blocks s
blocks_at-spelled step section zero at [] s are short = refl
blocks_at-spelled step section (suc more) at [] s are short = refl
blocks_at-spelled step section zero at (b ∷ blocks) s are short = absurd (omega (arith, length-append (block_spelling b) (spelled blocks), length-block_spelling section b are.0))
blocks_at-spelled step section (suc more) at (b ∷ blocks) s are short =
    let bytes = block_spelling b ++ spelled blocks in
    let size = length-block_spelling section b are.0 in
    let all = length-append (block_spelling b) (spelled blocks) in
    let some : eqb (length bytes) 0 ≡ false = ne_eqb (length bytes) 0 (λ none. omega arith) in
    let read : block_at section at bytes ≡ Ok b = block_at-block_spelling section at b (spelled blocks) are.0 in
    let behind : drop (size_of b) bytes ≡ spelled blocks = drop-block_spelling section b (spelled blocks) are.0 in
    rw (some, read, behind) (on_both (step at b s) (λ n. blocks_at step section more (at + size_of b) (spelled blocks) n) (λ n. steps step (at + size_of b) blocks n)
    (λ n. blocks_at-spelled step section more (at + size_of b) blocks n are.1 (omega arith)))
