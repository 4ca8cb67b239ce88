use Rattle.std.proofs.Common.{◌≡◌, ℕ, ◌+◌, ◌≤◌, List, [], ◌∷◌, ◌++◌, length, drop, refl, sym, subst, ap, ◌∙◌, append_assoc, arith, Option, None, Bool}
use Rattle.std.proofs.lemmas.List.{append-nil, length-append}
use Rattle.std.proofs.lemmas.List.Concat.{flat_map-append}
use Rattle.std.specs.List.{flat_map}
use Rattle.hb_grammar.specs.Grammar.{IsLive, IsFault}
use Rattle.hb_grammar.specs.TextOf.{IsTextOf}
use Rattle.hb_grammar.specs.Rows.{last_of, RowsThen, IsBegun}
use Rattle.hb_grammar.proofs.RowsLemmas.{IsApart, IsFault-RowsThen, IsFault-RowsThen_row, IsFault-RowsThen_tail, RowsFrom-push}
use Rattle.commit_line.specs.declared.error.ListError.{ListError}
use Rattle.commit_line.specs.declared.error.ListError.TheVariants.{BadList, NoMemory}
use Rattle.commit_line.specs.Rows.{AreRows, IsRowRefused}
use Rattle.commit_line.specs.ListError.{IsFrontRefusal, IsRefusalAt, IsValueAt}

-- none do between a place and itself
pub AreRows-none : {V : Type 0} (right : Option V → V → Type 0) (text : V → List ℕ) (bytes : List ℕ) (at : ℕ) → at ≤ length bytes → AreRows right text bytes at [] at
AreRows-none right text bytes at within = let e : at ≡ at + 0 = omega arith in record { each = tt; within = within; place = e; whole = refl }

-- and one more behind them
pub AreRows-push : {V : Type 0} (right : Option V → V → Type 0) (text : V → List ℕ) (bytes : List ℕ) (at mid end : ℕ) (rows : List V) (row : V) →
    AreRows right text bytes at rows mid → IsValueAt (right (last_of None rows)) text bytes mid row end → AreRows right text bytes at (rows ++ row ∷ []) end
AreRows-push right text bytes at mid end rows row so_far found =
    let here = so_far.place in
    let there = found.place in
    let one : flat_map text (rows ++ row ∷ []) ≡ flat_map text rows ++ text row =
    flat_map-append text rows (row ∷ []) ∙ ap (λ (x : List ℕ). flat_map text rows ++ x) (append-nil (text row)) in
    record {
      each = RowsFrom-push right None rows row so_far.each found.is_valid;
      within = found.within;
      place = omega (arith, ap length one, length-append (flat_map text rows) (text row));
      whole = so_far.whole ∙ ap (λ (x : List ℕ). flat_map text rows ++ x) found.whole ∙ sym (append_assoc (flat_map text rows) (text row) (drop end bytes)) ∙
          ap (λ (x : List ℕ). x ++ drop end bytes) (sym one);
    }

-- what is refused behind some rows is refused of the rows
IsRefusalAt-AreRows : {V : Type 0} (right : Option V → V → Type 0) (text : V → List ℕ) (tail : List ℕ → Type 0) (first : ℕ → Bool) → IsApart right text tail first →
    (bytes : List ℕ) (at mid : ℕ) (rows : List V) → AreRows right text bytes at rows mid → (error : ListError) →
    IsRefusalAt (RowsThen right text tail (last_of None rows)) bytes mid error → IsRefusalAt (RowsThen right text tail None) bytes at error
IsRefusalAt-AreRows right text tail first apart bytes at mid rows so_far (BadList place) refused =
    let here = so_far.place in (
      length (flat_map text rows) + refused.0,
      omega (arith, refused.1),
      subst (λ (x : List ℕ). IsFault (RowsThen right text tail None) x (length (flat_map text rows) + refused.0)) (sym so_far.whole)
          (IsFault-RowsThen right text tail first apart None rows so_far.each (drop mid bytes) refused.0 refused.2),
    )
IsRefusalAt-AreRows right text tail first apart bytes at mid rows so_far NoMemory refused = tt

-- a refusal of the row behind some is one of the rows
pub IsRefusalAt-row : {V : Type 0} (right : Option V → V → Type 0) (text : V → List ℕ) (tail : List ℕ → Type 0) (first : ℕ → Bool) → IsApart right text tail first → IsLive tail →
    (bytes : List ℕ) (at mid : ℕ) (rows : List V) → AreRows right text bytes at rows mid → IsBegun first (drop mid bytes) → (error : ListError) →
    IsFrontRefusal (IsTextOf (right (last_of None rows)) text) bytes mid error → IsRefusalAt (RowsThen right text tail None) bytes at error
IsRefusalAt-row right text tail first apart live bytes at mid rows so_far begun (BadList place) refused =
    IsRefusalAt-AreRows right text tail first apart bytes at mid rows so_far (BadList place)
    (refused.0, refused.1, IsFault-RowsThen_row right text tail first apart live (last_of None rows) (drop mid bytes) refused.0 begun refused.2)
IsRefusalAt-row right text tail first apart live bytes at mid rows so_far begun NoMemory refused = tt

-- a refusal of what stands behind the rows is one of the rows
pub IsRefusalAt-tail : {V : Type 0} (right : Option V → V → Type 0) (text : V → List ℕ) (tail : List ℕ → Type 0) (first : ℕ → Bool) → IsApart right text tail first →
    (bytes : List ℕ) (at mid : ℕ) (rows : List V) → AreRows right text bytes at rows mid → (IsBegun first (drop mid bytes) → ⊥) → (error : ListError) →
    IsRefusalAt tail bytes mid error → IsRefusalAt (RowsThen right text tail None) bytes at error
IsRefusalAt-tail right text tail first apart bytes at mid rows so_far other (BadList place) refused =
    IsRefusalAt-AreRows right text tail first apart bytes at mid rows so_far (BadList place)
    (refused.0, refused.1, IsFault-RowsThen_tail right text tail first apart (last_of None rows) (drop mid bytes) refused.0 other refused.2)
IsRefusalAt-tail right text tail first apart bytes at mid rows so_far other NoMemory refused = tt

-- where a row is refused, so are the rows, whatever stands behind them and begins otherwise
pub IsRefusalAt-IsRowRefused : {V : Type 0} (right : Option V → V → Type 0) (text : V → List ℕ) (tail : List ℕ → Type 0) (first : ℕ → Bool) → IsApart right text tail first → IsLive tail →
    (bytes : List ℕ) (at : ℕ) (error : ListError) → IsRowRefused right text first bytes at error → IsRefusalAt (RowsThen right text tail None) bytes at error
IsRefusalAt-IsRowRefused right text tail first apart live bytes at error refused =
    IsRefusalAt-row right text tail first apart live bytes at refused.mid refused.rows refused.before refused.begun error refused.refused
