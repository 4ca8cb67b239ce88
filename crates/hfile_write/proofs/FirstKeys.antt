-- The key of the first cell in a block's content.
use Rattle.std.proofs.Common.{◌≡◌, ℕ, ◌+◌, ◌^◌, ◌<◌, ◌≤◌, Bool, true, List, [], ◌∷◌, ◌++◌, length, take, drop, refl, sym, ap, ◌∙◌, append_assoc, append-nil, arith}
use Rattle.std.proofs.lemmas.List.{length-append, take_at, drop_at}
use Rattle.std.specs.List.{AllByRecursion}
use Rattle.hb_wire.specs.Fixed.{be_bytes, be_number}
use Rattle.hb_wire.proofs.BigEndian.{length-be_bytes, be_number-be_bytes}
use Rattle.hb_cell.specs.declared.cell.Cell.{Cell}
use Rattle.hb_cell.specs.Limits.{IsCell}
use Rattle.hb_cell.specs.Stored.{key, seq_bytes, stored}
use Rattle.hb_cell.proofs.Parts.{parts_bytes-append, length-parts_bytes}
use Rattle.hb_cell.proofs.Cells.{length-key}
use Rattle.hfile_index.proofs.Smalls.{length-vlong}
use Rattle.hfile_write.specs.Blocks.{content_of, first_key}
use Rattle.hfile_write.specs.Ended.{key_in, HasFirstKey}

pub key_short : (c : Cell) → IsCell c → length (key c) ≤ 65673
key_short c is = omega (arith, length-key c, is.column.row_high, is.column.family_high, is.column.qualifier_high)

-- bytes that begin with a stored cell have its key
pub record FirstKey (content : List ℕ) (k : List ℕ) : Type 0 where
  pub has : HasFirstKey content
  pub is : key_in content ≡ k

pub first_key-stored : (with_seq : Bool) (c : Cell) (rest content : List ℕ) → IsCell c → content ≡ stored with_seq c ++ rest → FirstKey content (key c)
first_key-stored with_seq c rest content is e =
    let seq = seq_bytes with_seq c.seq in
    let behind = key c ++ (c.value ++ (seq ++ rest)) in
    let a = be_bytes 4 (length (key c)) in
    let b = be_bytes 4 (length c.value) in
    let whole : content ≡ a ++ (b ++ behind) = e ∙ parts_bytes-append (key c) c.value seq rest in
    let number : be_number 4 content ≡ length (key c) = ap (be_number 4) whole ∙ be_number-be_bytes 4 (length (key c)) (b ++ behind) (omega (arith, key_short c is)) in
    let size : length content ≡ length (stored with_seq c) + length rest = ap length e ∙ length-append (stored with_seq c) rest in
    let cut : drop 8 content ≡ behind =
    ap (drop 8) (whole ∙ sym (append_assoc a b behind)) ∙ drop_at (a ++ b) behind 8 (omega (arith, length-append a b, length-be_bytes 4 (length (key c)), length-be_bytes 4 (length c.value))) in
    record {
      has = record {
        lengths = omega (arith, length-parts_bytes (key c) c.value seq);
        whole = omega (arith, length-parts_bytes (key c) c.value seq);
        short = omega (arith, key_short c is);
      };
      is = ap (λ (n : ℕ). take n (drop 8 content)) number ∙ ap (take (length (key c))) cut ∙ take_at (key c) (c.value ++ (seq ++ rest)) (length (key c)) refl;
    }

-- the same of the content of a block, and of one that has one more cell
pub first_key-content : (c : Cell) (cells : List Cell) (content : List ℕ) → IsCell c → content ≡ content_of (c ∷ cells) → FirstKey content (key c)
first_key-content c cells content is e = first_key-stored true c (content_of cells) content is e

pub first_key-push : (held : List Cell) (c : Cell) (block content : List ℕ) → AllByRecursion IsCell held → IsCell c → block ≡ content_of held → content ≡ block ++ stored true c
    → FirstKey content (first_key (held ++ c ∷ []))
first_key-push [] c block content fits is held e =
    first_key-stored true c [] content is (e ∙ ap (λ (t : List ℕ). t ++ stored true c) held ∙ sym (append-nil (stored true c)))
first_key-push (x ∷ held) c block content fits is e_held e =
    first_key-stored true x (content_of held ++ stored true c) content fits.0
    (e ∙ ap (λ (t : List ℕ). t ++ stored true c) e_held ∙ append_assoc (stored true x) (content_of held) (stored true c))

-- a block that was not full has room for a cell
pub stored_small : (c : Cell) (block content : List ℕ) → IsCell c → length block < 65536 → content ≡ block ++ stored true c → length content < 2 ^ 24
stored_small c block content is low e =
    let size : length content ≡ length (block ++ stored true c) = ap length e in
    omega (arith, length-append block (stored true c), length-parts_bytes (key c) c.value (seq_bytes true c.seq), key_short c is, length-vlong c.seq is.seq_high, is.value_high)
