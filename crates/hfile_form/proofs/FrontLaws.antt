-- What blocks hold, read one by one, and as parts one after another.
use Rattle.std.proofs.Common.{◌≡◌, ℕ, ◌+◌, ◌≤◌, Bool, true, List, [], ◌∷◌, ◌++◌, length, take, drop, map, Option, Some, None, Result, Ok, Err, refl, sym, ap, subst, ◌∙◌, append_assoc, arith}
use Rattle.std.proofs.lemmas.List.{append-nil, take_at, drop_at}
use Rattle.hfile_block.specs.Header.{header_bytes}
use Rattle.hb_wire.proofs.BigEndian.{IsBytes, IsBytes-take, IsBytes-drop}
use Rattle.hb_cell.specs.declared.cell.Cell.{Cell}
use Rattle.hfile_block.specs.declared.fault.HFileError.{HFileError}
use Rattle.hfile_form.specs.declared.section.Section.{Section}
use Rattle.hfile_form.specs.Blocks.{Block, content, size_of, block_spelling, spelled, IsBlock, AreBlocks, steps, ◌>>=◌}
use Rattle.hfile_form.specs.DataCells.{HoldsCells, Ascends, last_or, data_at}
use Rattle.hfile_form.specs.Front.{Front, Role, data_role, node_role, other_role, role_of, with_data, with_node, node_of, Part, HoldsAs, Holds, AreHeld, blocks_of, cells_of, with_part_as, joined, taken_as, taken}
use Rattle.hfile_form.proofs.Tools.{bind_ok, ok, ok_is}
use Rattle.hfile_form.proofs.CellLaws.{last_or-append, Ascends-append, Ascends-parts, holds-data_at, data_at-holds}

-- the bytes of each block are bytes
abbrev pub AreBytes : List Block → Type 0
AreBytes [] = Unit {0}
AreBytes (b ∷ blocks) = IsBytes b.body × AreBytes blocks

-- ---- one part

-- what a block holds, as a part, and what it makes of what stands before it
pub record Took (role : Role) (with_seq : Bool) (at : ℕ) (b : Block) (front next : Front) : Type 0 where
  pub cells : List Cell
  pub holds : HoldsAs role with_seq (record { block = b; cells = cells })
  pub up : Ascends (last_or None front.cells) cells
  pub is : next ≡ with_part_as role at (record { block = b; cells = cells }) front

pub Took-taken_as : (role : Role) (with_seq : Bool) (at : ℕ) (b : Block) (front next : Front) → IsBytes b.body → taken_as role with_seq at b front ≡ Ok next → Took role with_seq at b front next
Took-taken_as data_role with_seq at b front next fits e =
    let a = bind_ok (data_at with_seq (at + 33) (last_or None front.cells) (content b)) (λ cells. Ok (with_data at (size_of b) cells front)) next e in
    let held = holds-data_at with_seq (at + 33) (last_or None front.cells) (content b) a.0 (IsBytes-take b.header.uncompressed b.body fits) a.1 in
    record { cells = a.0; holds = held.0; up = held.1; is = sym (ok_is (with_data at (size_of b) a.0 front) next a.2) }
Took-taken_as node_role with_seq at b front next fits e = record { cells = []; holds = refl; up = tt; is = sym (ok_is (with_node at (node_of b) front) next e) }
Took-taken_as other_role with_seq at b front next fits e = record { cells = []; holds = refl; up = tt; is = sym (ok_is front next e) }

pub taken_as-holds : (role : Role) (with_seq : Bool) (at : ℕ) (p : Part) (front : Front) → HoldsAs role with_seq p → Ascends (last_or None front.cells) p.cells
    → taken_as role with_seq at p.block front ≡ Ok (with_part_as role at p front)
taken_as-holds data_role with_seq at p front holds up =
    ap (λ r. r >>= λ (cells : List Cell). ok (with_data at (size_of p.block) cells front)) (data_at-holds with_seq (at + 33) (last_or None front.cells) (content p.block) p.cells holds up)
taken_as-holds node_role with_seq at p front holds up = refl
taken_as-holds other_role with_seq at p front holds up = refl

-- the cells behind one part more
pub cells-with_part : (role : Role) (with_seq : Bool) (at : ℕ) (p : Part) (front : Front) → HoldsAs role with_seq p → (with_part_as role at p front).cells ≡ front.cells ++ p.cells
cells-with_part data_role with_seq at p front holds = refl
cells-with_part node_role with_seq at p front holds = sym (ap (λ (cs : List Cell). front.cells ++ cs) holds ∙ append-nil front.cells)
cells-with_part other_role with_seq at p front holds = sym (ap (λ (cs : List Cell). front.cells ++ cs) holds ∙ append-nil front.cells)

-- ---- all of them

pub record Held (with_seq : Bool) (at : ℕ) (blocks : List Block) (front end : Front) : Type 0 where
  pub parts : List Part
  pub blocks_are : blocks_of parts ≡ blocks
  pub held : AreHeld with_seq parts
  pub up : Ascends (last_or None front.cells) (cells_of parts)
  pub is : end ≡ joined at parts front

Held-more : (with_seq : Bool) (at : ℕ) (b : Block) (blocks : List Block) (front next end : Front) → Took (role_of b.header.magic) with_seq at b front next → Held with_seq (at + size_of b) blocks next end
    → Held with_seq at (b ∷ blocks) front end
Held-more with_seq at b blocks front next end took on =
    let p : Part = record { block = b; cells = took.cells } in
    let cells : next.cells ≡ front.cells ++ took.cells = ap (λ (f : Front). f.cells) took.is ∙ cells-with_part (role_of b.header.magic) with_seq at p front took.holds in
    let last : last_or None next.cells ≡ last_or (last_or None front.cells) took.cells = ap (last_or None) cells ∙ last_or-append None front.cells took.cells in
    record {
      parts = p ∷ on.parts;
      blocks_are = ap (λ (bs : List Block). b ∷ bs) on.blocks_are;
      held = (took.holds, on.held);
      up = Ascends-append (last_or None front.cells) took.cells (cells_of on.parts) took.up (subst (λ (l : Option Cell). Ascends l (cells_of on.parts)) last on.up);
      is = on.is ∙ ap (joined (at + size_of b) on.parts) took.is;
    }

pub Held-steps : (with_seq : Bool) (at : ℕ) (blocks : List Block) (front end : Front) → AreBytes blocks → steps (taken with_seq) at blocks front ≡ Ok end → Held with_seq at blocks front end
unfolding taken
Held-steps with_seq at [] front end fits e = record { parts = []; blocks_are = refl; held = tt; up = tt; is = sym (ok_is front end e) }
Held-steps with_seq at (b ∷ blocks) front end fits e =
    let a = bind_ok (taken_as (role_of b.header.magic) with_seq at b front) (λ n. steps (taken with_seq) (at + size_of b) blocks n) end e in
    Held-more with_seq at b blocks front a.0 end (Took-taken_as (role_of b.header.magic) with_seq at b front a.0 fits.0 a.1) (Held-steps with_seq (at + size_of b) blocks a.0 end fits.1 a.2)

pub steps-held : (with_seq : Bool) (at : ℕ) (parts : List Part) (front : Front) → AreHeld with_seq parts → Ascends (last_or None front.cells) (cells_of parts)
    → steps (taken with_seq) at (blocks_of parts) front ≡ Ok (joined at parts front)
unfolding taken
steps-held with_seq at [] front held up = refl
steps-held with_seq at (p ∷ parts) front held up =
    let role = role_of p.block.header.magic in
    let both = Ascends-parts (last_or None front.cells) p.cells (cells_of parts) up in
    let next = with_part_as role at p front in
    let cells : next.cells ≡ front.cells ++ p.cells = cells-with_part role with_seq at p front held.0 in
    let last : last_or (last_or None front.cells) p.cells ≡ last_or None next.cells = sym (ap (last_or None) cells ∙ last_or-append None front.cells p.cells) in
    let up_more : Ascends (last_or None next.cells) (cells_of parts) = subst (λ (l : Option Cell). Ascends l (cells_of parts)) last both.1 in
    ap (λ r. r >>= λ (n : Front). steps (taken with_seq) (at + size_of p.block) (blocks_of parts) n) (taken_as-holds role with_seq at p front held.0 both.0)
    ∙ steps-held with_seq (at + size_of p.block) parts next held.1 up_more

-- the cells of all of them
pub cells-joined : (with_seq : Bool) (at : ℕ) (parts : List Part) (front : Front) → AreHeld with_seq parts → (joined at parts front).cells ≡ front.cells ++ cells_of parts
cells-joined with_seq at [] front held = sym (append-nil front.cells)
cells-joined with_seq at (p ∷ parts) front held =
    let role = role_of p.block.header.magic in
    cells-joined with_seq (at + size_of p.block) parts (with_part_as role at p front) held.1
    ∙ ap (λ (cs : List Cell). cs ++ cells_of parts) (cells-with_part role with_seq at p front held.0) ∙ append_assoc front.cells p.cells (cells_of parts)

-- blocks within bytes have bytes
pub IsBytes-left : (xs ys : List ℕ) → IsBytes (xs ++ ys) → IsBytes xs
IsBytes-left xs ys fits = subst IsBytes (take_at xs ys (length xs) refl) (IsBytes-take (length xs) (xs ++ ys) fits)

pub IsBytes-right : (xs ys : List ℕ) → IsBytes (xs ++ ys) → IsBytes ys
IsBytes-right xs ys fits = subst IsBytes (drop_at xs ys (length xs) refl) (IsBytes-drop (length xs) (xs ++ ys) fits)

pub AreBytes-spelled : (blocks : List Block) → IsBytes (spelled blocks) → AreBytes blocks
AreBytes-spelled [] fits = tt
AreBytes-spelled (b ∷ blocks) fits = (
  IsBytes-right (header_bytes b.header) b.body (IsBytes-left (block_spelling b) (spelled blocks) fits),
  AreBytes-spelled blocks (IsBytes-right (block_spelling b) (spelled blocks) fits),
)
