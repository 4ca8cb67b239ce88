-- The cells of a data block, read one by one behind those before it.
use Rattle.std.proofs.Common.{◌≡◌, ℕ, suc, ◌+◌, ◌-◌, ◌<◌, ◌≤◌, Bool, true, false, cond, eqb, List, [], ◌∷◌, ◌++◌, length, get_or, drop, Option, Some, None, Result, Ok, Err, refl, sym, ap, ◌∙◌, append_assoc, arith}
use Rattle.std.proofs.lemmas.Bool.{ne_eqb, eqb-false}
use Rattle.std.proofs.lemmas.List.{append-nil, length-drop}
use Rattle.hb_cell.specs.declared.cell.Cell.{Cell}
use Rattle.hb_cell.specs.declared.fault.CellError.{CellError}
use Rattle.hb_cell.specs.declared.fault.CellError.TheVariants as causes
use Rattle.hb_cell.specs.Limits.{IsCell}
use Rattle.hb_cell.specs.Stored.{stored, IsNumbered}
use Rattle.hb_cell.specs.Reading.{cell_at, Fails as CellFails}
use Rattle.hfile_block.specs.declared.fault.HFileError.{HFileError}
use Rattle.hfile_block.specs.declared.fault.HFileError.TheVariants as errors
use Rattle.hfile_block.specs.CellBlock.{cells_bytes, block_fault}
use Rattle.hfile_block.proofs.CellLists.{IsUpTo, IsUpTo-none, IsUpTo-push, IsUpTo-all}
use Rattle.hfile_form.specs.Blocks.{◌>>=◌}
use Rattle.hfile_form.specs.DataCells.{is_above, last_or, cells_at, misplaced, or_first, ordered, data_at}
use Rattle.hfile_form.proofs.CellLaws.{last_or-append, misplaced-push, cells_at-cells_bytes, cells_at-fault}
use Rattle.hfile_read.specs.Answers.{Fails}

-- some cells of the content stand behind those before it, up to a place, and the first that is misplaced is known
pub record IsBehind (with_seq : Bool) (content : List ℕ) (at place : ℕ) (before cells : List Cell) (first : Option ℕ) : Type 0 where
  pub found : List Cell
  pub up_to : IsUpTo with_seq content place found
  pub all : cells ≡ before ++ found
  pub order : first ≡ misplaced with_seq at (last_or None before) found

pub IsBehind-none : (with_seq : Bool) (content : List ℕ) (at : ℕ) (before : List Cell) → IsBehind with_seq content at 0 before before None
IsBehind-none with_seq content at before = record { found = []; up_to = IsUpTo-none with_seq content; all = sym (append-nil before); order = refl }

pub IsBehind-push : (with_seq : Bool) (content : List ℕ) (at place used : ℕ) (before cells more : List Cell) (first next : Option ℕ) (c : Cell) → IsBehind with_seq content at place before cells first
    → place + used ≤ length content → IsCell c × IsNumbered with_seq c × (drop place content ≡ stored with_seq c ++ drop (place + used) content) → more ≡ cells ++ c ∷ []
    → next ≡ or_first first (cond (is_above (last_or None cells) c) None (Some (at + place))) → IsBehind with_seq content at (place + used) before more next
IsBehind-push with_seq content at place used before cells more first next c so_far inside read pushed test =
    let found = so_far.found in
    let last : last_or None cells ≡ last_or (last_or None before) found = ap (last_or None) so_far.all ∙ last_or-append None before found in
    let here : at + place ≡ at + length (cells_bytes with_seq found) = ap (λ (n : ℕ). at + n) so_far.up_to.here in
    record {
      found = found ++ c ∷ [];
      up_to = IsUpTo-push with_seq content place used found c so_far.up_to inside read;
      all = pushed ∙ ap (λ (cs : List Cell). cs ++ c ∷ []) so_far.all ∙ append_assoc before found (c ∷ []);
      order = test ∙ ap (λ (o : Option ℕ). or_first o (cond (is_above (last_or None cells) c) None (Some (at + place)))) so_far.order
          ∙ ap (λ (l : Option Cell). or_first (misplaced with_seq at (last_or None before) found) (cond (is_above l c) None (Some (at + place)))) last
          ∙ ap (λ (n : ℕ). or_first (misplaced with_seq at (last_or None before) found) (cond (is_above (last_or (last_or None before) found) c) None (Some n))) here
          ∙ sym (misplaced-push with_seq at (last_or None before) found c);
    }

-- a content with cells is judged by them and their order
data_at-read : (with_seq : Bool) (at : ℕ) (last : Option Cell) (content : List ℕ) (r : Result (List Cell) HFileError) → 0 < length content → cells_at with_seq (length content) at content ≡ r
    → data_at with_seq at last content ≡ (r >>= λ cells. ordered cells (misplaced with_seq at last cells))
unfolding data_at
data_at-read with_seq at last content r some read =
    let test : eqb (length content) 0 ≡ false = ne_eqb (length content) 0 (λ none. omega arith) in
    rw (test, read) refl

whole_content : (with_seq : Bool) (content : List ℕ) (at place : ℕ) (before cells : List Cell) (first : Option ℕ) (h : IsBehind with_seq content at place before cells first) → 0 < length content → length content ≤ place
    → data_at with_seq at (last_or None before) content ≡ ordered h.found first
whole_content with_seq content at place before cells first h some end =
    let all = IsUpTo-all with_seq content place h.found h.up_to end in
    let short : length (cells_bytes with_seq h.found) ≤ length content = omega (arith, ap length all.1) in
    let read : cells_at with_seq (length content) at content ≡ Ok h.found = ap (cells_at with_seq (length content) at) all.1 ∙ cells_at-cells_bytes with_seq (length content) at h.found all.0 short in
    data_at-read with_seq at (last_or None before) content (Ok h.found) some read ∙ ap (ordered h.found) (sym h.order)

-- the cells of a content, each above the one before it
pub IsBehind-all : (with_seq : Bool) (content : List ℕ) (at place : ℕ) (before cells : List Cell) → IsBehind with_seq content at place before cells None → 0 < length content → length content ≤ place
    → (found : List Cell) × (data_at with_seq at (last_or None before) content ≡ Ok found) × (cells ≡ before ++ found)
IsBehind-all with_seq content at place before cells h some end = (h.found, whole_content with_seq content at place before cells None h some end, h.all)

-- the first that is misplaced is the fault
pub IsBehind-misplaced : (with_seq : Bool) (content : List ℕ) (at place wrong : ℕ) (before cells : List Cell) → IsBehind with_seq content at place before cells (Some wrong) → 0 < length content → length content ≤ place
    → data_at with_seq at (last_or None before) content ≡ Err (errors.Order wrong)
IsBehind-misplaced with_seq content at place wrong before cells h some end = whole_content with_seq content at place before cells (Some wrong) h some end

-- a cell that cannot be read is the fault
unread : (with_seq : Bool) (content : List ℕ) (at place : ℕ) (before cells : List Cell) (first : Option ℕ) (cause : CellError) → IsBehind with_seq content at place before cells first → place < length content
    → cell_at with_seq (drop place content) ≡ Err cause → data_at with_seq at (last_or None before) content ≡ Err (errors.Cell (at + place) cause)
unread with_seq content at place before cells first cause h inside wrong =
    let up_to = h.up_to in
    let rest = drop place content in
    let bytes = cells_bytes with_seq h.found in
    let some : 0 < length rest = omega (arith, length-drop place content) in
    let read : cells_at with_seq (length content) at content ≡ Err (errors.Cell (at + length bytes) cause) =
    ap (cells_at with_seq (length content) at) up_to.whole ∙ cells_at-fault with_seq (length content) at h.found rest cause up_to.storable (omega (arith, ap length up_to.whole)) some wrong in
    data_at-read with_seq at (last_or None before) content (Err (errors.Cell (at + length bytes) cause)) (omega arith) read ∙ (λ i. Err (errors.Cell (at + sym up_to.here i) cause))

pub IsBehind-unread : (with_seq : Bool) (content : List ℕ) (at place : ℕ) (before cells : List Cell) (first : Option ℕ) (cause : CellError) → IsBehind with_seq content at place before cells first → place < length content
    → CellFails cause (cell_at with_seq (drop place content)) → Fails (block_fault (at + place) cause) (data_at with_seq at (last_or None before) content)
IsBehind-unread with_seq content at place before cells first causes.NoMemory h inside wrong = tt
IsBehind-unread with_seq content at place before cells first (causes.Short need) h inside wrong = unread with_seq content at place before cells first (causes.Short need) h inside wrong
IsBehind-unread with_seq content at place before cells first causes.RowLength h inside wrong = unread with_seq content at place before cells first causes.RowLength h inside wrong
IsBehind-unread with_seq content at place before cells first causes.FamilyLength h inside wrong = unread with_seq content at place before cells first causes.FamilyLength h inside wrong
IsBehind-unread with_seq content at place before cells first (causes.Kind n) h inside wrong = unread with_seq content at place before cells first (causes.Kind n) h inside wrong
IsBehind-unread with_seq content at place before cells first causes.Timestamp h inside wrong = unread with_seq content at place before cells first causes.Timestamp h inside wrong
IsBehind-unread with_seq content at place before cells first causes.ValueLength h inside wrong = unread with_seq content at place before cells first causes.ValueLength h inside wrong
IsBehind-unread with_seq content at place before cells first causes.Sequence h inside wrong = unread with_seq content at place before cells first causes.Sequence h inside wrong

-- the last of some cells
pub last_or-back : (front : List Cell) (c : Cell) → last_or None (front ++ c ∷ []) ≡ Some c
last_or-back front c = last_or-append None front (c ∷ [])

pub last_or-at : (cells : List Cell) (c : Cell) → 0 < length cells → c ≡ get_or cells (length cells - 1) c → last_or None cells ≡ Some c
last_or-at [] c some is = absurd (omega arith)
last_or-at (d ∷ []) c some is = λ i. Some (sym is i)
last_or-at (d ∷ e ∷ cells) c some is =
    let less : length (d ∷ e ∷ cells) - 1 ≡ suc (length (e ∷ cells) - 1) = omega arith in
    last_or-at (e ∷ cells) c (omega arith) (is ∙ ap (λ (n : ℕ). get_or (d ∷ e ∷ cells) n c) less)

-- a content without a byte lacks its first cell
pub data_at-none : (with_seq : Bool) (at : ℕ) (last : Option Cell) (content : List ℕ) → eqb (length content) 0 ≡ true → data_at with_seq at last content ≡ Err (errors.Cell at (causes.Short 8))
unfolding data_at
data_at-none with_seq at last content none = rw none refl

pub some_content : (content : List ℕ) → eqb (length content) 0 ≡ false → 0 < length content
some_content content some = let differ = eqb-false (length content) 0 some in omega arith
