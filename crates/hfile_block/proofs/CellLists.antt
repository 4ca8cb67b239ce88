-- Cells one after another: reading them one by one, and that no two lists of them have the same bytes.
use Rattle.std.proofs.Common.{◌≡◌, ◌≢◌, ℕ, ◌+◌, ◌<◌, ◌≤◌, Bool, List, [], ◌∷◌, ◌++◌, length, drop, Result, Ok, Err, refl, sym, ap, ◌∙◌, append_assoc, arith}
use Rattle.std.specs.Prelude.{IfOk, IfErr}
use Rattle.std.proofs.lemmas.List.{append-nil, drop_at, drop_all, length-append, length-drop}
use Rattle.std.proofs.lemmas.List.Concat.{flat_map-append}
use Rattle.hb_cell.specs.declared.cell.Cell.{Cell}
use Rattle.hb_cell.specs.declared.fault.CellError.{CellError}
use Rattle.hb_cell.specs.declared.fault.CellError.TheVariants as causes
use Rattle.hb_cell.specs.Limits.{IsCell}
use Rattle.hb_cell.specs.Stored.{key, seq_bytes, stored, IsNumbered}
use Rattle.hb_cell.specs.Reading.{Fails, cell_at}
use Rattle.hb_cell.proofs.Cells.{cell_at-stored}
use Rattle.hb_cell.proofs.Taking.{ok, ok_is}
use Rattle.hb_cell.proofs.Parts.{length-parts_bytes}
use Rattle.hfile_block.specs.declared.fault.HFileError.{HFileError}
use Rattle.hfile_block.specs.declared.fault.HFileError.TheVariants as errors
use Rattle.hfile_block.specs.CellBlock.{cells_bytes, IsStorable, AreStorable, IsCellFault, block_fault, IsBlockFault, GivesCells}

-- a cell has bytes
pub stored_long : (with_seq : Bool) (c : Cell) → 8 ≤ length (stored with_seq c)
stored_long with_seq c = omega (arith, length-parts_bytes (key c) c.value (seq_bytes with_seq c.seq))

-- ---- one list of cells for some bytes

-- the cells that go on from some
record GoesOn (with_seq : Bool) (xs ys : List Cell) (rest : List ℕ) : Type 0 where
  others : List Cell
  storable : AreStorable with_seq others
  joined : ys ≡ xs ++ others
  behind : rest ≡ cells_bytes with_seq others

same_front : (with_seq : Bool) (x y : Cell) (a b : List ℕ) → IsStorable with_seq x → IsStorable with_seq y → stored with_seq x ++ a ≡ stored with_seq y ++ b → (x ≡ y) × (a ≡ b)
same_front with_seq x y a b fits_x fits_y e =
    let read : ok (x, length (stored with_seq x)) ≡ ok (y, length (stored with_seq y)) = sym (cell_at-stored with_seq x a fits_x.0 fits_x.1) ∙ ap (cell_at with_seq) e ∙ cell_at-stored with_seq y b fits_y.0 fits_y.1 in
    let same = ok_is (x, length (stored with_seq x)) (y, length (stored with_seq y)) read in
    let first : x ≡ y = ap (λ (p : Cell × ℕ). p.0) same in
    let size : length (stored with_seq y) ≡ length (stored with_seq x) = sym (ap (λ (p : Cell × ℕ). p.1) same) in
    (first, sym (drop_at (stored with_seq x) a (length (stored with_seq x)) refl) ∙ ap (drop (length (stored with_seq x))) e ∙ drop_at (stored with_seq y) b (length (stored with_seq x)) size)

GoesOn-cells_bytes : (with_seq : Bool) (xs ys : List Cell) (rest : List ℕ) → AreStorable with_seq xs → AreStorable with_seq ys → cells_bytes with_seq xs ++ rest ≡ cells_bytes with_seq ys → GoesOn with_seq xs ys rest
GoesOn-cells_bytes with_seq [] ys rest fits_x fits_y e = record { others = ys; storable = fits_y; joined = refl; behind = e }
GoesOn-cells_bytes with_seq (x ∷ xs) [] rest fits_x fits_y e =
    let none : length ((stored with_seq x ++ cells_bytes with_seq xs) ++ rest) ≡ 0 = ap length e in
    absurd (omega (arith, stored_long with_seq x, length-append (stored with_seq x ++ cells_bytes with_seq xs) rest, length-append (stored with_seq x) (cells_bytes with_seq xs)))
GoesOn-cells_bytes with_seq (x ∷ xs) (y ∷ ys) rest fits_x fits_y e =
    let regrouped : stored with_seq x ++ (cells_bytes with_seq xs ++ rest) ≡ stored with_seq y ++ cells_bytes with_seq ys = sym (append_assoc (stored with_seq x) (cells_bytes with_seq xs) rest) ∙ e in
    let front = same_front with_seq x y (cells_bytes with_seq xs ++ rest) (cells_bytes with_seq ys) fits_x.0 fits_y.0 regrouped in
    let on = GoesOn-cells_bytes with_seq xs ys rest fits_x.1 fits_y.1 front.1 in
    let first = front.0 in
    let tail = on.joined in
    record { others = on.others; storable = on.storable; joined = λ i. sym first i ∷ tail i; behind = on.behind }

no_bytes : (with_seq : Bool) (cells : List Cell) → [] ≡ cells_bytes with_seq cells → cells ≡ []
no_bytes with_seq [] e = refl
no_bytes with_seq (c ∷ cells) e =
    let none : 0 ≡ length (stored with_seq c ++ cells_bytes with_seq cells) = ap length e in
    absurd (omega (arith, stored_long with_seq c, length-append (stored with_seq c) (cells_bytes with_seq cells)))

one_list : (with_seq : Bool) (found cells : List Cell) (content : List ℕ) → AreStorable with_seq found → content ≡ cells_bytes with_seq found → AreStorable with_seq cells → content ≡ cells_bytes with_seq cells → found ≡ cells
one_list with_seq found cells content fits_found is_found fits_cells is_cells =
    let on = GoesOn-cells_bytes with_seq found cells [] fits_found fits_cells (append-nil (cells_bytes with_seq found) ∙ sym is_found ∙ is_cells) in
    let none : on.others ≡ [] = no_bytes with_seq on.others on.behind in
    sym (on.joined ∙ ap (λ (zs : List Cell). found ++ zs) none ∙ append-nil found)

no_fault_at : (with_seq : Bool) (others : List Cell) (rest : List ℕ) (cause : CellError) → AreStorable with_seq others → rest ≡ cells_bytes with_seq others → rest ≢ [] → cell_at with_seq rest ≡ Err cause → ⊥
no_fault_at with_seq [] rest cause fits is more fault = more is
no_fault_at with_seq (c ∷ others) rest cause fits is more fault =
    let read : cell_at with_seq rest ≡ Ok (c, length (stored with_seq c)) = ap (cell_at with_seq) is ∙ cell_at-stored with_seq c (cells_bytes with_seq others) fits.0.0 fits.0.1 in
    absurd cc

no_fault : (with_seq : Bool) (content : List ℕ) (place : ℕ) (cause : CellError) (cells : List Cell) → IsCellFault with_seq content place cause → AreStorable with_seq cells → content ≡ cells_bytes with_seq cells → ⊥
no_fault with_seq content place cause cells fault fits is =
    let on = GoesOn-cells_bytes with_seq fault.cells cells fault.rest fault.storable fits (sym fault.whole ∙ is) in
    no_fault_at with_seq on.others fault.rest cause on.storable on.behind fault.more fault.fault

-- an answer that is right gives the cells of the content
pub GivesCells-from : (with_seq : Bool) (content : List ℕ) (at : ℕ) (r : Result (List Cell) HFileError)
    → IfOk r (λ cells. AreStorable with_seq cells × (content ≡ cells_bytes with_seq cells)) → IfErr r (λ fault. IsBlockFault with_seq content at fault)
    → (cells : List Cell) → AreStorable with_seq cells → content ≡ cells_bytes with_seq cells → GivesCells r cells
GivesCells-from with_seq content at (Ok found) read fault cells fits is = one_list with_seq found cells content read.0 read.1 fits is
GivesCells-from with_seq content at (Err (errors.Cell place cause)) read fault cells fits is = no_fault with_seq content fault.0 cause cells fault.2 fits is
GivesCells-from with_seq content at (Err errors.NoMemory) read fault cells fits is = tt
GivesCells-from with_seq content at (Err _) read fault cells fits is = fault

-- ---- reading one by one

-- the content up to a place is these cells
pub record IsUpTo (with_seq : Bool) (content : List ℕ) (place : ℕ) (cells : List Cell) : Type 0 where
  pub storable : AreStorable with_seq cells
  pub whole : content ≡ cells_bytes with_seq cells ++ drop place content
  pub here : place ≡ length (cells_bytes with_seq cells)
  pub within : place ≤ length content

pub IsUpTo-none : (with_seq : Bool) (content : List ℕ) → IsUpTo with_seq content 0 []
IsUpTo-none with_seq content = record { storable = tt; whole = refl; here = refl; within = omega arith }

AreStorable-push : (with_seq : Bool) (cells : List Cell) (c : Cell) → AreStorable with_seq cells → IsStorable with_seq c → AreStorable with_seq (cells ++ c ∷ [])
AreStorable-push with_seq [] c fits is = (is, tt)
AreStorable-push with_seq (d ∷ cells) c fits is = (fits.0, AreStorable-push with_seq cells c fits.1 is)

-- the bytes of one cell more
taken : (with_seq : Bool) (content : List ℕ) (place used : ℕ) (c : Cell) → place + used ≤ length content → drop place content ≡ stored with_seq c ++ drop (place + used) content → used ≡ length (stored with_seq c)
taken with_seq content place used c inside is =
    let size : length (drop place content) ≡ length (stored with_seq c ++ drop (place + used) content) = ap length is in
    omega (arith, length-append (stored with_seq c) (drop (place + used) content), length-drop place content, length-drop (place + used) content)

pub taken_some : (with_seq : Bool) (content : List ℕ) (place used : ℕ) (c : Cell) → place + used ≤ length content → drop place content ≡ stored with_seq c ++ drop (place + used) content → 0 < used
taken_some with_seq content place used c inside is = omega (arith, taken with_seq content place used c inside is, stored_long with_seq c)

pub IsUpTo-push : (with_seq : Bool) (content : List ℕ) (place used : ℕ) (cells : List Cell) (c : Cell) → IsUpTo with_seq content place cells → place + used ≤ length content
    → IsCell c × IsNumbered with_seq c × (drop place content ≡ stored with_seq c ++ drop (place + used) content) → IsUpTo with_seq content (place + used) (cells ++ c ∷ [])
IsUpTo-push with_seq content place used cells c so_far inside read =
    let behind = drop (place + used) content in
    let one : cells_bytes with_seq (cells ++ c ∷ []) ≡ cells_bytes with_seq cells ++ stored with_seq c = flat_map-append (stored with_seq) cells (c ∷ []) ∙ ap (λ (t : List ℕ). cells_bytes with_seq cells ++ t) (append-nil (stored with_seq c)) in
    let size = taken with_seq content place used c inside read.2 in
    record {
      storable = AreStorable-push with_seq cells c so_far.storable (read.0, read.1);
      whole = so_far.whole ∙ ap (λ (t : List ℕ). cells_bytes with_seq cells ++ t) read.2 ∙ sym (append_assoc (cells_bytes with_seq cells) (stored with_seq c) behind) ∙ ap (λ (t : List ℕ). t ++ behind) (sym one);
      here = ap (λ (n : ℕ). n + used) so_far.here ∙ omega (arith, size, length-append (cells_bytes with_seq cells) (stored with_seq c), ap length one);
      within = inside;
    }

pub IsUpTo-all : (with_seq : Bool) (content : List ℕ) (place : ℕ) (cells : List Cell) → IsUpTo with_seq content place cells → length content ≤ place → AreStorable with_seq cells × (content ≡ cells_bytes with_seq cells)
IsUpTo-all with_seq content place cells so_far end =
    (so_far.storable, so_far.whole ∙ ap (λ (t : List ℕ). cells_bytes with_seq cells ++ t) (drop_all place content end) ∙ append-nil (cells_bytes with_seq cells))

IsCellFault-from : (with_seq : Bool) (content : List ℕ) (place : ℕ) (cells : List Cell) (cause : CellError) → IsUpTo with_seq content place cells → place < length content → cell_at with_seq (drop place content) ≡ Err cause → IsCellFault with_seq content place cause
IsCellFault-from with_seq content place cells cause so_far more fault = record {
  cells = cells;
  rest = drop place content;
  storable = so_far.storable;
  whole = so_far.whole;
  more = λ e. let none : length (drop place content) ≡ 0 = ap length e in omega (arith, length-drop place content);
  here = so_far.here;
  fault = fault;
}

pub IsBlockFault-block_fault : (with_seq : Bool) (content : List ℕ) (at place : ℕ) (cells : List Cell) (cause : CellError) → IsUpTo with_seq content place cells → place < length content
    → Fails cause (cell_at with_seq (drop place content)) → IsBlockFault with_seq content at (block_fault (at + place) cause)
IsBlockFault-block_fault with_seq content at place cells causes.NoMemory so_far more fault = tt
IsBlockFault-block_fault with_seq content at place cells (causes.Short need) so_far more fault = (place, refl, IsCellFault-from with_seq content place cells (causes.Short need) so_far more fault)
IsBlockFault-block_fault with_seq content at place cells causes.RowLength so_far more fault = (place, refl, IsCellFault-from with_seq content place cells causes.RowLength so_far more fault)
IsBlockFault-block_fault with_seq content at place cells causes.FamilyLength so_far more fault = (place, refl, IsCellFault-from with_seq content place cells causes.FamilyLength so_far more fault)
IsBlockFault-block_fault with_seq content at place cells (causes.Kind n) so_far more fault = (place, refl, IsCellFault-from with_seq content place cells (causes.Kind n) so_far more fault)
IsBlockFault-block_fault with_seq content at place cells causes.Timestamp so_far more fault = (place, refl, IsCellFault-from with_seq content place cells causes.Timestamp so_far more fault)
IsBlockFault-block_fault with_seq content at place cells causes.ValueLength so_far more fault = (place, refl, IsCellFault-from with_seq content place cells causes.ValueLength so_far more fault)
IsBlockFault-block_fault with_seq content at place cells causes.Sequence so_far more fault = (place, refl, IsCellFault-from with_seq content place cells causes.Sequence so_far more fault)
