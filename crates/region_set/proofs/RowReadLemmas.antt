use Rattle.std.proofs.Common.{◌≡◌, ℕ, zero, suc, ◌+◌, ◌<◌, ◌-◌, List, [], ◌∷◌, ◌++◌, length, get_or, take, refl, sym, subst, ap, ◌∙◌, arith, Option, Some, None, slice_get, Bool, Result, Ok, Err, IsErrAnd}
use Rattle.std.proofs.lemmas.List.{take_more}
use Rattle.hb_grammar.specs.Rows.{RowsFrom, last_of}
use Rattle.hb_grammar.proofs.RowsLemmas.{RowsFrom-push, last_of-push}
use Rattle.commit_line.specs.declared.error.ListError.{ListError}
use Rattle.commit_line.specs.Rows.{IsRowRefused, AreRowsRead}

-- the last item of a list that has one
slice_get-last : {V : Type 0} (row : V) (rows : List V) → slice_get (row ∷ rows) (length rows) ≡ last_of (Some row) rows
slice_get-last row [] = refl
slice_get-last row (next ∷ rows) = slice_get-last next rows

-- the last of a list's items is the last of some rows
pub last_of-slice_get : {V : Type 0} (rows : List V) → slice_get rows (length rows - 1) ≡ last_of None rows
last_of-slice_get [] = refl
last_of-slice_get (row ∷ rows) = let e : suc (length rows) - 1 ≡ length rows = omega arith in rw e (slice_get-last row rows)

-- what a list gives as its last item is the last of some rows
pub last_of-items : {V : Type 0} (rows items : List V) (last : Option V) → items ≡ rows → last ≡ slice_get items (length items - 1) → last ≡ last_of None rows
last_of-items {V} rows items last same given = given ∙ ap (λ (x : List V). slice_get x (length x - 1)) same ∙ last_of-slice_get rows

-- an error that is passed on is that of a reading of rows
pub AreRowsRead-Err : {V : Type 0} (right : Option V → V → Type 0) (text : V → List ℕ) (first : ℕ → Bool) (bytes : List ℕ) (at : ℕ) (result : Result (List V × ℕ) ListError) (error : ListError) →
    IsErrAnd result (λ given. given ≡ error) → IsRowRefused right text first bytes at error → AreRowsRead right text first bytes at result
AreRowsRead-Err right text first bytes at (Ok read) error given refused = absurd given
AreRowsRead-Err right text first bytes at (Err other) error given refused = subst (IsRowRefused right text first bytes at) (sym given) refused

-- one row more of a list
pub take_more-row : {V : Type 0} (rows : List V) (i : ℕ) (row : V) → i < length rows → row ≡ get_or rows i row → take (i + 1) rows ≡ take i rows ++ row ∷ []
take_more-row {V} rows i row below here = take_more rows i row below ∙ ap (λ (x : V). take i rows ++ x ∷ []) (sym here)

-- the rows up to it, where it is right behind those before it
pub RowsFrom-take_more : {V : Type 0} (right : Option V → V → Type 0) (last : Option V) (rows : List V) (i : ℕ) (row : V) → i < length rows → row ≡ get_or rows i row →
    RowsFrom right last (take i rows) → right (last_of last (take i rows)) row → RowsFrom right last (take (i + 1) rows)
RowsFrom-take_more right last rows i row below here each ok =
    subst (RowsFrom right last) (sym (take_more-row rows i row below here)) (RowsFrom-push right last (take i rows) row each ok)

-- it is the last of these
pub last_of-take_more : {V : Type 0} (last : Option V) (rows : List V) (i : ℕ) (row : V) → i < length rows → row ≡ get_or rows i row →
    Some row ≡ last_of last (take (i + 1) rows)
last_of-take_more last rows i row below here = sym (ap (last_of last) (take_more-row rows i row below here) ∙ last_of-push last (take i rows) row)

-- each of some rows is right behind the ones before it
pub RowsFrom-at : {V : Type 0} (right : Option V → V → Type 0) (last : Option V) (rows : List V) (i : ℕ) (d : V) → i < length rows → RowsFrom right last rows →
    right (last_of last (take i rows)) (get_or rows i d)
RowsFrom-at right last [] i d below each = absurd (omega arith)
RowsFrom-at right last (row ∷ rows) zero d below each = each.0
RowsFrom-at right last (row ∷ rows) (suc i) d below each = RowsFrom-at right (Some row) rows i d (omega arith) each.1

-- so is the row at a place
pub RowsFrom-get_or : {V : Type 0} (right : Option V → V → Type 0) (last : Option V) (rows : List V) (i : ℕ) (row : V) → i < length rows → row ≡ get_or rows i row →
    RowsFrom right last rows → right (last_of last (take i rows)) row
RowsFrom-get_or {V} right last rows i row below here each =
    subst (λ (x : V). right (last_of last (take i rows)) x) (sym here) (RowsFrom-at right last rows i row below each)
