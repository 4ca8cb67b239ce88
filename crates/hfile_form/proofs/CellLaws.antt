-- The cells of a data block that are read are spelled so, and those that are spelled so are read; their order.
use Rattle.std.proofs.Common.{◌≡◌, ◌≢◌, ℕ, zero, suc, ◌+◌, ◌-◌, ◌<◌, ◌≤◌, Bool, true, false, cond, eqb, List, [], ◌∷◌, ◌++◌, length, take, drop, Option, Some, None, Result, Ok, Err, refl, sym, ap, subst, ◌∙◌, append_assoc, inl, inr, arith}
use Rattle.std.proofs.lemmas.Bool.{eqb-true, eqb-false, ne_eqb}
use Rattle.std.proofs.lemmas.List.{drop_at, append-nil, length-append, length-drop}
use Rattle.hb_wire.proofs.BigEndian.{IsBytes, IsBytes-drop}
use Rattle.hb_cell.specs.declared.cell.Cell.{Cell}
use Rattle.hb_cell.specs.declared.fault.CellError.{CellError}
use Rattle.hb_cell.specs.declared.fault.CellError.TheVariants as causes
use Rattle.hb_cell.specs.Order.{key_cmp}
use Rattle.hb_cell.specs.Stored.{stored}
use Rattle.hb_cell.specs.Reading.{cell_at}
use Rattle.hb_cell.proofs.Cells.{IsRead, IsRead-cell_at, cell_at-stored}
use Rattle.hfile_block.specs.declared.fault.HFileError.{HFileError}
use Rattle.hfile_block.specs.declared.fault.HFileError.TheVariants as errors
use Rattle.hfile_block.specs.CellBlock.{cells_bytes, IsStorable, AreStorable}
use Rattle.hfile_block.proofs.CellLists.{stored_long}
use Rattle.hfile_form.specs.Blocks.{◌>>=◌}
use Rattle.hfile_form.specs.DataCells.{HoldsCells, is_above, Ascends, last_or, one_at, cells_at, misplaced, or_first, ordered, data_at}
use Rattle.hfile_form.proofs.Tools.{bind_ok, else_ok, chosen, ok, ok_is, length-zero, on_both}

-- ---- the cells

one_ok : (at : ℕ) (r : Result (Cell × ℕ) CellError) (x : Cell × ℕ) → one_at at r ≡ Ok x → r ≡ Ok x
one_ok at (Ok y) x e = let same : y ≡ x = cc in λ i. Ok (same i)
one_ok at (Err cause) x e = absurd cc

pub record AreCells (with_seq : Bool) (bytes : List ℕ) (cells : List Cell) : Type 0 where
  pub storable : AreStorable with_seq cells
  pub whole : bytes ≡ cells_bytes with_seq cells

AreCells-more : (with_seq : Bool) (bytes : List ℕ) (c : Cell) (used : ℕ) (cells : List Cell) → IsRead with_seq bytes c used → AreCells with_seq (drop used bytes) cells → AreCells with_seq bytes (c ∷ cells)
AreCells-more with_seq bytes c used cells read on = record {
  storable = ((read.cell, read.numbered), on.storable);
  whole = read.whole ∙ ap (λ (t : List ℕ). stored with_seq c ++ t) on.whole;
}

pub AreCells-cells_at : (with_seq : Bool) (more at : ℕ) (bytes : List ℕ) (cells : List Cell) → IsBytes bytes → length bytes ≤ more → cells_at with_seq more at bytes ≡ Ok cells → AreCells with_seq bytes cells
AreCells-cells_at with_seq zero at bytes cells fits short e =
    let none : [] ≡ cells = ok_is [] cells e in
    subst (AreCells with_seq bytes) none (record { storable = tt; whole = length-zero bytes (omega arith) })
AreCells-cells_at with_seq (suc more) at bytes cells fits short e =
    elim (chosen (eqb (length bytes) 0) (ok []) _ (Ok cells) e) [
      | inl none ↦ subst (AreCells with_seq bytes) (ok_is [] cells none.1) (record { storable = tt; whole = length-zero bytes (eqb-true (length bytes) 0 none.0) })
      | inr some ↦
          let a = bind_ok (one_at at (cell_at with_seq bytes)) (λ x. cells_at with_seq more (at + x.1) (drop x.1 bytes) >>= λ cs. Ok (x.0 ∷ cs)) cells some.1 in
          let c = bind_ok (cells_at with_seq more (at + a.0.1) (drop a.0.1 bytes)) (λ cs. Ok (a.0.0 ∷ cs)) cells a.2 in
          let read = IsRead-cell_at with_seq bytes a.0 fits (one_ok at (cell_at with_seq bytes) a.0 a.1) in
          let less : length (drop a.0.1 bytes) ≤ more = omega (arith, stored_long with_seq a.0.0, ap length read.whole, length-append (stored with_seq a.0.0) (drop a.0.1 bytes)) in
          subst (AreCells with_seq bytes) (ok_is (a.0.0 ∷ c.0) cells c.2)
          (AreCells-more with_seq bytes a.0.0 a.0.1 c.0 read (AreCells-cells_at with_seq more (at + a.0.1) (drop a.0.1 bytes) c.0 (IsBytes-drop a.0.1 bytes fits) less c.1))
    ]

pub cells_at-cells_bytes : (with_seq : Bool) (more at : ℕ) (cells : List Cell) → AreStorable with_seq cells → length (cells_bytes with_seq cells) ≤ more → cells_at with_seq more at (cells_bytes with_seq cells) ≡ Ok cells
cells_at-cells_bytes with_seq zero at [] fits short = refl
cells_at-cells_bytes with_seq (suc more) at [] fits short = refl
cells_at-cells_bytes with_seq zero at (c ∷ cells) fits short = absurd (omega (arith, stored_long with_seq c, length-append (stored with_seq c) (cells_bytes with_seq cells)))
cells_at-cells_bytes with_seq (suc more) at (c ∷ cells) fits short =
    let text = stored with_seq c in
    let rest = cells_bytes with_seq cells in
    let all = length-append text rest in
    let long = stored_long with_seq c in
    let some : eqb (length (text ++ rest)) 0 ≡ false = ne_eqb (length (text ++ rest)) 0 (λ none. omega arith) in
    let read : cell_at with_seq (text ++ rest) ≡ Ok (c, length text) = cell_at-stored with_seq c rest fits.0.0 fits.0.1 in
    let behind : drop (length text) (text ++ rest) ≡ rest = drop_at text rest (length text) refl in
    let others : cells_at with_seq more (at + length text) rest ≡ Ok cells = cells_at-cells_bytes with_seq more (at + length text) cells fits.1 (omega arith) in
    rw (some, read, behind, others) refl

-- ---- the order

pub last_or-append : (last : Option Cell) (xs ys : List Cell) → last_or last (xs ++ ys) ≡ last_or (last_or last xs) ys
last_or-append last [] ys = refl
last_or-append last (x ∷ xs) ys = last_or-append (Some x) xs ys

pub Ascends-append : (last : Option Cell) (xs ys : List Cell) → Ascends last xs → Ascends (last_or last xs) ys → Ascends last (xs ++ ys)
Ascends-append last [] ys up_x up_y = up_y
Ascends-append last (x ∷ xs) ys up_x up_y = (up_x.0, Ascends-append (Some x) xs ys up_x.1 up_y)

pub Ascends-parts : (last : Option Cell) (xs ys : List Cell) → Ascends last (xs ++ ys) → Ascends last xs × Ascends (last_or last xs) ys
Ascends-parts last [] ys up = (tt, up)
Ascends-parts last (x ∷ xs) ys up = let on = Ascends-parts (Some x) xs ys up.1 in ((up.0, on.0), on.1)

none_then : (b : Bool) (o : Option ℕ) (at : ℕ) → cond b o (Some at) ≡ None → (b ≡ true) × (o ≡ None)
none_then true o at e = (refl, e)
none_then false o at e = absurd cc

pub Ascends-misplaced : (with_seq : Bool) (at : ℕ) (last : Option Cell) (cells : List Cell) → misplaced with_seq at last cells ≡ None → Ascends last cells
Ascends-misplaced with_seq at last [] e = tt
Ascends-misplaced with_seq at last (c ∷ cells) e =
    let a = none_then (is_above last c) (misplaced with_seq (at + length (stored with_seq c)) (Some c) cells) at e in
    (a.0, Ascends-misplaced with_seq (at + length (stored with_seq c)) (Some c) cells a.1)

pub misplaced-Ascends : (with_seq : Bool) (at : ℕ) (last : Option Cell) (cells : List Cell) → Ascends last cells → misplaced with_seq at last cells ≡ None
misplaced-Ascends with_seq at last [] up = refl
misplaced-Ascends with_seq at last (c ∷ cells) up = rw up.0 (misplaced-Ascends with_seq (at + length (stored with_seq c)) (Some c) cells up.1)

push_test : (b : Bool) (at : ℕ) (x y z : Option ℕ) → x ≡ or_first y z → cond b x (Some at) ≡ or_first (cond b y (Some at)) z
push_test true at x y z e = e
push_test false at x y z e = refl

-- one cell more
pub misplaced-push : (with_seq : Bool) (at : ℕ) (last : Option Cell) (cells : List Cell) (c : Cell)
    → misplaced with_seq at last (cells ++ c ∷ []) ≡ or_first (misplaced with_seq at last cells) (cond (is_above (last_or last cells) c) None (Some (at + length (cells_bytes with_seq cells))))
misplaced-push with_seq at last [] c = ap (λ (n : ℕ). cond (is_above last c) None (Some n)) (omega arith)
misplaced-push with_seq at last (d ∷ cells) c =
    let size : at + length (stored with_seq d) + length (cells_bytes with_seq cells) ≡ at + length (cells_bytes with_seq (d ∷ cells)) = omega (arith, length-append (stored with_seq d) (cells_bytes with_seq cells)) in
    push_test (is_above last d) at _ _ _ (misplaced-push with_seq (at + length (stored with_seq d)) (Some d) cells c
    ∙ ap (λ (n : ℕ). or_first (misplaced with_seq (at + length (stored with_seq d)) (Some d) cells) (cond (is_above (last_or (Some d) cells) c) None (Some n))) size)

-- ---- a data block

ordered_ok : (cells : List Cell) (o : Option ℕ) (found : List Cell) → ordered cells o ≡ Ok found → (o ≡ None) × (cells ≡ found)
ordered_ok cells None found e = (refl, ok_is cells found e)
ordered_ok cells (Some at) found e = absurd cc

no_cells : (with_seq : Bool) (cells : List Cell) → length (cells_bytes with_seq cells) ≡ 0 → cells ≡ []
no_cells with_seq [] e = refl
no_cells with_seq (c ∷ cells) e = absurd (omega (arith, stored_long with_seq c, length-append (stored with_seq c) (cells_bytes with_seq cells)))

pub holds-data_at : (with_seq : Bool) (at : ℕ) (last : Option Cell) (content : List ℕ) (cells : List Cell) → IsBytes content → data_at with_seq at last content ≡ Ok cells → HoldsCells with_seq content cells × Ascends last cells
unfolding data_at
holds-data_at with_seq at last content cells fits e =
    let a = else_ok (eqb (length content) 0) (errors.Cell at (causes.Short 8)) _ cells e in
    let b = bind_ok (cells_at with_seq (length content) at content) (λ cs. ordered cs (misplaced with_seq at last cs)) cells a.1 in
    let c = ordered_ok b.0 (misplaced with_seq at last b.0) cells b.2 in
    let are = AreCells-cells_at with_seq (length content) at content b.0 fits (omega arith) b.1 in
    let up = Ascends-misplaced with_seq at last b.0 c.0 in
    subst (λ (cs : List Cell). HoldsCells with_seq content cs × Ascends last cs) c.1
    (record { storable = are.storable; whole = are.whole; some = λ none. eqb-false (length content) 0 a.0 (ap length are.whole ∙ ap (λ (cs : List Cell). length (cells_bytes with_seq cs)) none) }, up)

pub data_at-holds : (with_seq : Bool) (at : ℕ) (last : Option Cell) (content : List ℕ) (cells : List Cell) → HoldsCells with_seq content cells → Ascends last cells → data_at with_seq at last content ≡ Ok cells
unfolding data_at
data_at-holds with_seq at last content cells holds up =
    let some : eqb (length content) 0 ≡ false = ne_eqb (length content) 0 (λ none. holds.some (no_cells with_seq cells (sym (ap length holds.whole) ∙ none))) in
    let short : length (cells_bytes with_seq cells) ≤ length content = omega (arith, ap length holds.whole) in
    let read : cells_at with_seq (length content) at content ≡ Ok cells = ap (cells_at with_seq (length content) at) holds.whole ∙ cells_at-cells_bytes with_seq (length content) at cells holds.storable short in
    rw (some, read, misplaced-Ascends with_seq at last cells up) refl

-- where a cell behind others cannot be read, that is the fault
pub cells_at-fault : (with_seq : Bool) (more at : ℕ) (cells : List Cell) (rest : List ℕ) (cause : CellError) → AreStorable with_seq cells → length (cells_bytes with_seq cells ++ rest) ≤ more → 0 < length rest → cell_at with_seq rest ≡ Err cause
    → cells_at with_seq more at (cells_bytes with_seq cells ++ rest) ≡ Err (errors.Cell (at + length (cells_bytes with_seq cells)) cause)
cells_at-fault with_seq zero at cells rest cause fits short some fault = absurd (omega (arith, length-append (cells_bytes with_seq cells) rest))
cells_at-fault with_seq (suc more) at [] rest cause fits short some fault =
    let test : eqb (length rest) 0 ≡ false = ne_eqb (length rest) 0 (λ none. omega arith) in
    let here : at + 0 ≡ at = omega arith in
    rw (test, fault, here) refl
cells_at-fault with_seq (suc more) at (c ∷ cells) rest cause fits short some fault =
    let text = stored with_seq c in
    let others = cells_bytes with_seq cells ++ rest in
    let regrouped : cells_bytes with_seq (c ∷ cells) ++ rest ≡ text ++ others = append_assoc text (cells_bytes with_seq cells) rest in
    let all = length-append text others in
    let long = stored_long with_seq c in
    let test : eqb (length (text ++ others)) 0 ≡ false = ne_eqb (length (text ++ others)) 0 (λ none. omega arith) in
    let read : cell_at with_seq (text ++ others) ≡ Ok (c, length text) = cell_at-stored with_seq c others fits.0.0 fits.0.1 in
    let behind : drop (length text) (text ++ others) ≡ others = drop_at text others (length text) refl in
    let size : at + length text + length (cells_bytes with_seq cells) ≡ at + length (cells_bytes with_seq (c ∷ cells)) = omega (arith, length-append text (cells_bytes with_seq cells)) in
    let on = cells_at-fault with_seq more (at + length text) cells rest cause fits.1 (omega (arith, ap length regrouped)) some fault in
    ap (cells_at with_seq (suc more) at) regrouped ∙ rw (test, read, behind, on, size) refl
