-- The laws of stored cells: what is read is a cell that is spelled so, and what is spelled so is read.
use Rattle.std.proofs.Common.{◌≡◌, ℕ, ◌+◌, ◌≤◌, Bool, true, false, cond, ltb, List, ◌++◌, length, drop, Option, Some, None, Result, Ok, Err, refl, sym, ap, subst, ◌∙◌, arith}
use Rattle.std.specs.Prelude.{IfOk}
use Rattle.std.proofs.lemmas.Bool.{le-ltb, ltb-false}
use Rattle.hb_wire.proofs.BigEndian.{IsBytes, IsBytes-drop}
use Rattle.std.proofs.lemmas.List.{drop-drop, length-drop}
use Rattle.hb_cell.specs.declared.cell.Cell.{Cell}
use Rattle.hb_cell.specs.declared.fault.CellError.{CellError}
use Rattle.hb_cell.specs.declared.fault.CellError.TheVariants as errors
use Rattle.hb_cell.specs.Limits.{IsCell}
use Rattle.hb_cell.specs.Stored.{key, seq_bytes, parts_bytes, stored, IsNumbered}
use Rattle.hb_cell.specs.Reading.{◌>>=◌, Gives, Parts, parts_at, Key, key_at, with_seq_of, cell_at}
use Rattle.hb_cell.proofs.Taking.{bind_ok, guard_ok, ok_is}
use Rattle.hb_cell.proofs.Keys.{IsKey-key_at, key_at-key_bytes, length-key_bytes}
use Rattle.hb_cell.proofs.Parts.{IsParts-parts_at, parts_at-parts_bytes}

-- what a cell that was read tells of the bytes
pub record IsRead (with_seq : Bool) (bytes : List ℕ) (c : Cell) (used : ℕ) : Type 0 where
  pub cell : IsCell c
  pub numbered : IsNumbered with_seq c
  pub whole : bytes ≡ stored with_seq c ++ drop used bytes
  pub within : used ≤ length bytes

IsNumbered-from : (with_seq : Bool) (c : Cell) → (with_seq ≡ false → c.seq ≡ 0) → IsNumbered with_seq c
IsNumbered-from true c h = tt
IsNumbered-from false c h = h refl

numbered_by : (with_seq : Bool) (c : Cell) → IsNumbered with_seq c → with_seq ≡ false → c.seq ≡ 0
numbered_by true c h e = absurd cc
numbered_by false c h e = h

-- the cell of a key, a value and a number
abbrev cell_of : Key → List ℕ → ℕ → Cell
cell_of k value seq = record { row = k.row; family = k.family; qualifier = k.version.qualifier; ts = k.version.ts; kind = k.version.kind; seq = seq; value = value }

with_seq_ok : (k : Key) (value : List ℕ) (seq : Option ℕ) (used : ℕ) (x : Cell × ℕ) → with_seq_of k value seq used ≡ Ok x → (n : ℕ) × (seq ≡ Some n) × ((cell_of k value n, used) ≡ x)
with_seq_ok k value None used x e = absurd cc
with_seq_ok k value (Some n) used x e = (n, refl, ok_is (cell_of k value n, used) x e)

pub IsRead-cell_at : (with_seq : Bool) (bytes : List ℕ) (x : Cell × ℕ) → IsBytes bytes → cell_at with_seq bytes ≡ Ok x → IsRead with_seq bytes x.0 x.1
unfolding cell_at
IsRead-cell_at with_seq bytes x fits e =
    let judged = λ (p : Parts) (k : Key). cond (ltb 10485760 (length p.value)) (Err errors.ValueLength) (with_seq_of k p.value p.seq p.used) in
    let a = bind_ok (parts_at with_seq bytes) (λ p. key_at p.key >>= λ k. judged p k) x e in
    let p = a.0 in
    let b = bind_ok (key_at p.key) (λ k. judged p k) x a.2 in
    let k = b.0 in
    let c = guard_ok (ltb 10485760 (length p.value)) errors.ValueLength (with_seq_of k p.value p.seq p.used) x b.2 in
    let d = with_seq_ok k p.value p.seq p.used x c.1 in
    let n = d.0 in
    let parts = IsParts-parts_at with_seq bytes p n fits a.1 d.1 in
    let keys = IsKey-key_at p.key k parts.key_fits b.1 in
    let made : IsRead with_seq bytes (cell_of k p.value n) p.used = record {
      cell = record { column = keys.column; ts_high = keys.ts_high; seq_high = parts.small; value_high = ltb-false 10485760 (length p.value) c.0 };
      numbered = IsNumbered-from with_seq (cell_of k p.value n) parts.numbered;
      whole = parts.whole ∙ ap (λ (t : List ℕ). parts_bytes t p.value (seq_bytes with_seq n) ++ drop p.used bytes) keys.whole;
      within = parts.within;
    } in
    subst (λ (y : Cell × ℕ). IsRead with_seq bytes y.0 y.1) d.2 made

pub length-key : (c : Cell) → length (key c) ≡ 12 + length c.row + length c.family + length c.qualifier
length-key c = length-key_bytes c.row c.family c.qualifier c.ts c.kind

pub cell_at-stored : (with_seq : Bool) (c : Cell) (rest : List ℕ) → IsCell c → IsNumbered with_seq c → cell_at with_seq (stored with_seq c ++ rest) ≡ Ok (c, length (stored with_seq c))
unfolding cell_at
cell_at-stored with_seq c rest is numbered =
    let column = is.column in
    let value_high : length c.value ≤ 10485760 = is.value_high in
    let parts = parts_at-parts_bytes with_seq (key c) c.value c.seq rest (omega (arith, length-key c, column.row_high, column.family_high, column.qualifier_high)) (omega arith) is.seq_high (numbered_by with_seq c numbered) in
    let keys = key_at-key_bytes c.row c.family c.qualifier c.ts c.kind column is.ts_high in
    rw (parts, keys, le-ltb 10485760 (length c.value) value_high) refl

-- what an answer tells of the bytes behind a place
pub found_cell : (with_seq : Bool) (bytes : List ℕ) (r : Result (Cell × ℕ) CellError) → IsBytes bytes → Gives (λ x. x) r (cell_at with_seq bytes) → IfOk r (λ x. IsRead with_seq bytes x.0 x.1)
found_cell with_seq bytes (Ok x) fits given = IsRead-cell_at with_seq bytes x fits given
found_cell with_seq bytes (Err e) fits given = tt

IsRead-from : (with_seq : Bool) (bytes : List ℕ) (at : ℕ) (behind : List ℕ) (x : Cell × ℕ) → IsBytes bytes → behind ≡ drop at bytes → cell_at with_seq behind ≡ Ok x → IsRead with_seq (drop at bytes) x.0 x.1
IsRead-from with_seq bytes at behind x fits is given = IsRead-cell_at with_seq (drop at bytes) x (IsBytes-drop at bytes fits) (ap (cell_at with_seq) (sym is) ∙ given)

pub within_cell : (with_seq : Bool) (bytes : List ℕ) (at : ℕ) (behind : List ℕ) (r : Result (Cell × ℕ) CellError) → IsBytes bytes → at ≤ length bytes → behind ≡ drop at bytes
    → Gives (λ x. x) r (cell_at with_seq behind) → IfOk r (λ x. at + x.1 ≤ length bytes)
within_cell with_seq bytes at behind (Err e) fits inside is given = tt
within_cell with_seq bytes at behind (Ok x) fits inside is given =
    let read = IsRead-from with_seq bytes at behind x fits is given in
    let long : x.1 ≤ length (drop at bytes) = read.within in
    omega (arith, length-drop at bytes)

pub spelled_cell : (with_seq : Bool) (bytes : List ℕ) (at : ℕ) (behind : List ℕ) (r : Result (Cell × ℕ) CellError) → IsBytes bytes → behind ≡ drop at bytes
    → Gives (λ x. x) r (cell_at with_seq behind)
    → IfOk r (λ x. IsCell x.0 × IsNumbered with_seq x.0 × (drop at bytes ≡ stored with_seq x.0 ++ drop (at + x.1) bytes))
spelled_cell with_seq bytes at behind (Err e) fits is given = tt
spelled_cell with_seq bytes at behind (Ok x) fits is given =
    let read = IsRead-from with_seq bytes at behind x fits is given in
    (read.cell, read.numbered, read.whole ∙ ap (λ (t : List ℕ). stored with_seq x.0 ++ t) (drop-drop x.1 at bytes))
