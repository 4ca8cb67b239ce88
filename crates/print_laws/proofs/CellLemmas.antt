use Rattle.std.proofs.Common.{◌≡◌, ℕ, ◌<◌, ◌^◌, List, ◌∷◌, ◌++◌, refl, arith}
use Rattle.std.specs.Fmt.{decimal}
use Rattle.std.proofs.lemmas.Fmt.{decimal_injective}
use Rattle.hb_cell.specs.declared.cell.Cell.{Cell}
use Rattle.hb_grammar.specs.Class.{has}
use Rattle.hb_grammar.proofs.AvoidsLemmas.{Lacks}
use Rattle.hb_names.specs.FamilyName.{IsFamilyName}
use Rattle.hb_names.proofs.FreeLemmas.{Free-IsFamilyName}
use Rattle.shell_print.specs.Shown.{shown}
use Rattle.print_laws.specs.Reply.{IsTableCell, shown_cell}
use Rattle.print_laws.proofs.ShownLemmas.{shown_told, Lacks-shown}
use Rattle.print_laws.proofs.LinesLemmas.{cut_told, Lacks-decimal}

-- the text of a cell's line, by its parts
abbrev pub value_part : Cell → List ℕ
value_part cell = 118 ∷ 97 ∷ 108 ∷ 117 ∷ 101 ∷ 61 ∷ shown cell.value

abbrev pub ts_part : Cell → List ℕ
ts_part cell = 116 ∷ 115 ∷ 61 ∷ (decimal cell.ts ++ 32 ∷ value_part cell)

abbrev pub column_part : Cell → List ℕ
column_part cell = cell.family ++ 58 ∷ (shown cell.qualifier ++ 32 ∷ ts_part cell)

abbrev pub cell_body : Cell → List ℕ
cell_body cell = shown cell.row ++ 32 ∷ column_part cell

same_cells : (a b : Cell) → a.row ≡ b.row → a.family ≡ b.family → a.qualifier ≡ b.qualifier → a.ts ≡ b.ts → a.value ≡ b.value →
    shown_cell a ≡ shown_cell b
same_cells a b row family qualifier ts value = cc

ts_told : (a b : Cell) → a.ts < 2 ^ 64 → b.ts < 2 ^ 64 → ts_part a ≡ ts_part b → (a.ts ≡ b.ts) × (a.value ≡ b.value)
ts_told a b small small' e =
    let at : decimal a.ts ++ 32 ∷ value_part a ≡ decimal b.ts ++ 32 ∷ value_part b = cc in
    let both : (decimal a.ts ≡ decimal b.ts) × (value_part a ≡ value_part b) =
    cut_told 32 (decimal a.ts) (decimal b.ts) (value_part a) (value_part b) (Lacks-decimal 32 (omega arith) a.ts small) (Lacks-decimal 32 (omega arith) b.ts small') at in
    let values : shown a.value ≡ shown b.value = let same : value_part a ≡ value_part b = both.1 in cc in
    (decimal_injective a.ts b.ts small small' both.0, shown_told a.value b.value values)

-- no family has a colon
family_lacks : (family : List ℕ) → IsFamilyName family → Lacks 58 family
unfolding has
family_lacks family is = Free-IsFamilyName 58 refl refl family is

-- a cell's line tells the cell but for its kind and number
pub cell_told : (a b : Cell) → IsTableCell a → IsTableCell b → cell_body a ≡ cell_body b → shown_cell a ≡ shown_cell b
cell_told a b ca cb e =
    let rows : (shown a.row ≡ shown b.row) × (column_part a ≡ column_part b) =
    cut_told 32 (shown a.row) (shown b.row) (column_part a) (column_part b) (Lacks-shown 32 (omega arith) a.row) (Lacks-shown 32 (omega arith) b.row) e in
    let families : (a.family ≡ b.family) × (shown a.qualifier ++ 32 ∷ ts_part a ≡ shown b.qualifier ++ 32 ∷ ts_part b) =
    cut_told 58 a.family b.family (shown a.qualifier ++ 32 ∷ ts_part a) (shown b.qualifier ++ 32 ∷ ts_part b)
    (family_lacks a.family ca.family) (family_lacks b.family cb.family) rows.1 in
    let qualifiers : (shown a.qualifier ≡ shown b.qualifier) × (ts_part a ≡ ts_part b) =
    cut_told 32 (shown a.qualifier) (shown b.qualifier) (ts_part a) (ts_part b) (Lacks-shown 32 (omega arith) a.qualifier) (Lacks-shown 32 (omega arith) b.qualifier) families.1 in
    let ends : (a.ts ≡ b.ts) × (a.value ≡ b.value) = ts_told a b ca.ts cb.ts qualifiers.1 in
    same_cells a b (shown_told a.row b.row rows.0) families.0 (shown_told a.qualifier b.qualifier qualifiers.0) ends.0 ends.1
