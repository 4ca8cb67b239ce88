use Rattle.std.proofs.Common.{◌≡◌, ℕ, suc, ◌<◌, ◌+◌, List, [], ◌∷◌, ◌++◌, ◌-◌, length, take, drop, refl, sym, subst, ap, ◌∙◌, inl, inr, append_assoc, Option, Some, Bool, arith}
use Rattle.std.proofs.lemmas.List.{take-append-drop, append-nil, length-append}
use Rattle.std.specs.List.{flat_map}
use Rattle.hb_grammar.specs.Grammar.{IsLive, IsFault}
use Rattle.hb_grammar.specs.Front.{IsFrontFault}
use Rattle.hb_grammar.specs.TextOf.{IsTextOf, IsTold}
use Rattle.hb_grammar.specs.Rows.{RowsFrom, last_of, RowsThen, IsBegun}
use Rattle.hb_grammar.proofs.GrammarLemmas.{Leaves}
use Rattle.hb_grammar.proofs.FrontLemmas.{GoesOn-cuts}
use Rattle.hb_grammar.proofs.LeavesLemmas.{IsFault-Leaves}
use Rattle.hb_grammar.proofs.TextOfLemmas.{behind-IsTold}

-- what begins with such a byte still does with more behind it
IsBegun-append : (first : ℕ → Bool) (front rest : List ℕ) → IsBegun first front → IsBegun first (front ++ rest)
IsBegun-append first [] rest begun = absurd begun
IsBegun-append first (x ∷ front) rest begun = begun

-- a front that isn't empty begins as its bytes do
IsBegun-take : (first : ℕ → Bool) (n : ℕ) (bytes rest : List ℕ) → n < length bytes → IsBegun first (take (n + 1) bytes ++ rest) → IsBegun first bytes
IsBegun-take first n [] rest below begun = absurd (omega arith)
IsBegun-take first n (x ∷ bytes) rest below begun = let e : n + 1 ≡ suc n = omega arith in rw e at begun

-- and the bytes as it does
IsBegun-front : (first : ℕ → Bool) (n : ℕ) (bytes rest : List ℕ) → n < length bytes → IsBegun first bytes → IsBegun first (take (n + 1) bytes ++ rest)
IsBegun-front first n [] rest below begun = absurd (omega arith)
IsBegun-front first n (x ∷ bytes) rest below begun = let e : n + 1 ≡ suc n = omega arith in rw e begun

-- each row begins with a byte of a test that no string behind the rows begins with, and each is told
pub record IsApart {V : Type 0} (right : Option V → V → Type 0) (text : V → List ℕ) (tail : List ℕ → Type 0) (first : ℕ → Bool) : Type 0 where
  pub rows : (last : Option V) (v : V) → right last v → IsBegun first (text v)
  pub tails : (bytes : List ℕ) → tail bytes → IsBegun first bytes → ⊥
  pub told : (last : Option V) → IsTold (right last) text

-- the first of the rows that bytes with such a beginning are
pub record FirstRow {V : Type 0} (right : Option V → V → Type 0) (text : V → List ℕ) (tail : List ℕ → Type 0) (last : Option V) (bytes : List ℕ) : Type 0 where
  pub row : V
  pub rest : List ℕ
  pub is_right : right last row
  pub whole : bytes ≡ text row ++ rest
  pub behind : RowsThen right text tail (Some row) rest

-- there is one
pub FirstRow-RowsThen : {V : Type 0} (right : Option V → V → Type 0) (text : V → List ℕ) (tail : List ℕ → Type 0) (first : ℕ → Bool) → IsApart right text tail first →
    (last : Option V) (bytes : List ℕ) → IsBegun first bytes → (rows : List V) (back : List ℕ) → RowsFrom right last rows → tail back →
    bytes ≡ flat_map text rows ++ back → FirstRow right text tail last bytes
FirstRow-RowsThen right text tail first apart last bytes begun [] back each in_tail whole = absurd (apart.tails back in_tail (subst (IsBegun first) whole begun))
FirstRow-RowsThen right text tail first apart last bytes begun (row ∷ rows) back each in_tail whole = record {
  row = row;
  rest = flat_map text rows ++ back;
  is_right = each.0;
  whole = whole ∙ append_assoc (text row) (flat_map text rows) back;
  behind = record { rows = rows; back = back; each = each.1; in_tail = in_tail; whole = refl };
}

-- behind a row stand the rows that may follow it
pub Leaves-RowsThen : {V : Type 0} (right : Option V → V → Type 0) (text : V → List ℕ) (tail : List ℕ → Type 0) (first : ℕ → Bool) → IsApart right text tail first →
    (last : Option V) (v : V) → right last v → Leaves (RowsThen right text tail last) (text v) (RowsThen right text tail (Some v))
Leaves-RowsThen right text tail first apart last v ok = record {
  forth = λ rest spelled.
      let row = FirstRow-RowsThen right text tail first apart last (text v ++ rest) (IsBegun-append first (text v) rest (apart.rows last v ok))
      spelled.rows spelled.back spelled.each spelled.in_tail spelled.whole in
      let same : row.row ≡ v = sym (apart.told last v row.row rest row.rest ok row.is_right row.whole) in
      let here : rest ≡ row.rest = behind-IsTold (right last) text (apart.told last) v row.row rest row.rest ok row.is_right row.whole in
      subst (RowsThen right text tail (Some v)) (sym here) (subst (λ x. RowsThen right text tail (Some x) row.rest) same row.behind);
  back = λ rest spelled. record {
    rows = v ∷ spelled.rows;
    back = spelled.back;
    each = (ok, spelled.each);
    in_tail = spelled.in_tail;
    whole = ap (λ (x : List ℕ). text v ++ x) spelled.whole ∙ sym (append_assoc (text v) (flat_map text spelled.rows) spelled.back);
  };
}

-- a fault behind some rows is one of the rows
pub IsFault-RowsThen : {V : Type 0} (right : Option V → V → Type 0) (text : V → List ℕ) (tail : List ℕ → Type 0) (first : ℕ → Bool) → IsApart right text tail first →
    (last : Option V) (rows : List V) → RowsFrom right last rows → (rest : List ℕ) (at : ℕ) → IsFault (RowsThen right text tail (last_of last rows)) rest at →
    IsFault (RowsThen right text tail last) (flat_map text rows ++ rest) (length (flat_map text rows) + at)
IsFault-RowsThen right text tail first apart last [] each rest at fault =
    let e : at ≡ 0 + at = omega arith in subst (IsFault (RowsThen right text tail last) rest) e fault
IsFault-RowsThen right text tail first apart last (row ∷ rows) each rest at fault =
    let behind = IsFault-RowsThen right text tail first apart (Some row) rows each.1 rest at fault in
    let whole = IsFault-Leaves (RowsThen right text tail last) (RowsThen right text tail (Some row)) (text row) (flat_map text rows ++ rest)
    (length (flat_map text rows) + at) (Leaves-RowsThen right text tail first apart last row each.0) behind in
    let place : length (text row) + (length (flat_map text rows) + at) ≡ length (text row ++ flat_map text rows) + at = omega (arith, length-append (text row) (flat_map text rows)) in
    subst (IsFault (RowsThen right text tail last) (flat_map text (row ∷ rows) ++ rest)) place
    (subst (λ (x : List ℕ). IsFault (RowsThen right text tail last) x (length (text row) + (length (flat_map text rows) + at)))
    (sym (append_assoc (text row) (flat_map text rows) rest)) whole)

-- bytes that begin as a row does, and with no row, have the fault of the row
pub IsFault-RowsThen_row : {V : Type 0} (right : Option V → V → Type 0) (text : V → List ℕ) (tail : List ℕ → Type 0) (first : ℕ → Bool) → IsApart right text tail first →
    IsLive tail → (last : Option V) (bytes : List ℕ) (at : ℕ) → IsBegun first bytes → IsFrontFault (IsTextOf (right last) text) bytes at →
    IsFault (RowsThen right text tail last) bytes at
IsFault-RowsThen_row right text tail first apart live last bytes at begun fault =
    let viable = fault.reach.viable in
    let v = viable.1.0 in
    record {
      not_spelled = λ spelled.
          let row = FirstRow-RowsThen right text tail first apart last bytes begun spelled.rows spelled.back spelled.each spelled.in_tail spelled.whole in
          fault.none (text row.row) row.rest (row.row, row.is_right, refl) (sym row.whole);
      reach = record {
        within = fault.reach.within;
        viable = (
          viable.0 ++ live.0,
          record {
            rows = v ∷ [];
            back = live.0;
            each = (viable.1.1, tt);
            in_tail = live.1;
            whole = sym (append_assoc (take at bytes) viable.0 live.0) ∙ ap (λ (x : List ℕ). x ++ live.0) (viable.1.2 ∙ sym (append-nil (text v)));
          },
        );
        longest = λ more above within longer.
            let s = longer.1 in
            let less : ℕ = more - 1 in
            let e : more ≡ less + 1 = omega arith in
            let begins : IsBegun first (take more bytes ++ longer.0) =
            subst (λ (n : ℕ). IsBegun first (take n bytes ++ longer.0)) (sym e) (IsBegun-front first less bytes longer.0 (omega arith) begun) in
            let row = FirstRow-RowsThen right text tail first apart last (take more bytes ++ longer.0) begins s.rows s.back s.each s.in_tail s.whole in
            elim (GoesOn-cuts (take more bytes) longer.0 (text row.row) row.rest row.whole) as (λ _. ⊥) [
              | inl goes_on ↦ fault.reach.longest more above within (goes_on.0, (row.row, row.is_right, sym goes_on.1))
              | inr begins ↦ fault.none (text row.row) (begins.0 ++ drop more bytes) (row.row, row.is_right, refl)
                  (sym (append_assoc (text row.row) begins.0 (drop more bytes)) ∙ ap (λ (x : List ℕ). x ++ drop more bytes) (sym begins.1) ∙ take-append-drop more bytes)
            ];
      };
    }

-- rows that begin the bytes, where these don't begin as one: then there are none
no_row : {V : Type 0} (right : Option V → V → Type 0) (text : V → List ℕ) (tail : List ℕ → Type 0) (first : ℕ → Bool) → IsApart right text tail first →
    (last : Option V) (bytes : List ℕ) → (IsBegun first bytes → ⊥) → (rows : List V) (back : List ℕ) → RowsFrom right last rows → tail back →
    bytes ≡ flat_map text rows ++ back → tail bytes
no_row right text tail first apart last bytes other [] back each in_tail whole = subst tail (sym whole) in_tail
no_row right text tail first apart last bytes other (row ∷ rows) back each in_tail whole =
    let e : text row ++ (flat_map text rows ++ back) ≡ bytes = sym (whole ∙ append_assoc (text row) (flat_map text rows) back) in
    absurd (other (subst (IsBegun first) e (IsBegun-append first (text row) (flat_map text rows ++ back) (apart.rows last row each.0))))

-- bytes that don't begin as a row does have the fault of what stands behind the rows
pub IsFault-RowsThen_tail : {V : Type 0} (right : Option V → V → Type 0) (text : V → List ℕ) (tail : List ℕ → Type 0) (first : ℕ → Bool) → IsApart right text tail first →
    (last : Option V) (bytes : List ℕ) (at : ℕ) → (IsBegun first bytes → ⊥) → IsFault tail bytes at → IsFault (RowsThen right text tail last) bytes at
IsFault-RowsThen_tail right text tail first apart last bytes at other fault = record {
  not_spelled = λ s. fault.not_spelled (no_row right text tail first apart last bytes other s.rows s.back s.each s.in_tail s.whole);
  reach = record {
    within = fault.reach.within;
    viable = (fault.reach.viable.0, record { rows = []; back = take at bytes ++ fault.reach.viable.0; each = tt; in_tail = fault.reach.viable.1; whole = refl });
    longest = λ more above within longer.
        let s = longer.1 in
        let less : ℕ = more - 1 in
        let e : more ≡ less + 1 = omega arith in
        let still : IsBegun first (take more bytes ++ longer.0) → ⊥ =
        λ b. other (IsBegun-take first less bytes longer.0 (omega arith) (subst (λ (n : ℕ). IsBegun first (take n bytes ++ longer.0)) e b)) in
        fault.reach.longest more above within
        (longer.0, no_row right text tail first apart last (take more bytes ++ longer.0) still s.rows s.back s.each s.in_tail s.whole);
  };
}

-- one row more behind some
pub RowsFrom-push : {V : Type 0} (right : Option V → V → Type 0) (last : Option V) (rows : List V) (v : V) → RowsFrom right last rows →
    right (last_of last rows) v → RowsFrom right last (rows ++ v ∷ [])
RowsFrom-push right last [] v each ok = (ok, tt)
RowsFrom-push right last (row ∷ rows) v each ok = (each.0, RowsFrom-push right (Some row) rows v each.1 ok)

-- it is the last of them
pub last_of-push : {V : Type 0} (last : Option V) (rows : List V) (v : V) → last_of last (rows ++ v ∷ []) ≡ Some v
last_of-push last [] v = refl
last_of-push last (row ∷ rows) v = last_of-push (Some row) rows v

-- rows of equal texts are equal, where what stands behind them doesn't begin as a row does
pub rows-injective : {V : Type 0} (right : Option V → V → Type 0) (text : V → List ℕ) (tail : List ℕ → Type 0) (first : ℕ → Bool) → IsApart right text tail first →
    (last : Option V) (rows rows' : List V) → RowsFrom right last rows → RowsFrom right last rows' → (back back' : List ℕ) → (IsBegun first back → ⊥) →
    (IsBegun first back' → ⊥) → flat_map text rows ++ back ≡ flat_map text rows' ++ back' → rows ≡ rows'
rows-injective right text tail first apart last [] [] each each' back back' other other' e = refl
rows-injective right text tail first apart last [] (row ∷ rows) each each' back back' other other' e =
    let whole : text row ++ (flat_map text rows ++ back') ≡ back = sym (e ∙ append_assoc (text row) (flat_map text rows) back') in
    absurd (other (subst (IsBegun first) whole (IsBegun-append first (text row) (flat_map text rows ++ back') (apart.rows last row each'.0))))
rows-injective right text tail first apart last (row ∷ rows) [] each each' back back' other other' e =
    let whole : text row ++ (flat_map text rows ++ back) ≡ back' = sym (append_assoc (text row) (flat_map text rows) back) ∙ e in
    absurd (other' (subst (IsBegun first) whole (IsBegun-append first (text row) (flat_map text rows ++ back) (apart.rows last row each.0))))
rows-injective right text tail first apart last (row ∷ rows) (row' ∷ rows') each each' back back' other other' e =
    let whole : text row ++ (flat_map text rows ++ back) ≡ text row' ++ (flat_map text rows' ++ back') =
    sym (append_assoc (text row) (flat_map text rows) back) ∙ e ∙ append_assoc (text row') (flat_map text rows') back' in
    let same : row ≡ row' = apart.told last row row' (flat_map text rows ++ back) (flat_map text rows' ++ back') each.0 each'.0 whole in
    let behind = behind-IsTold (right last) text (apart.told last) row row' (flat_map text rows ++ back) (flat_map text rows' ++ back') each.0 each'.0 whole in
    let rest : rows ≡ rows' = rows-injective right text tail first apart (Some row) rows rows' each.1
    (subst (λ v. RowsFrom right (Some v) rows') (sym same) each'.1) back back' other other' behind in
    λ i. same i ∷ rest i
