-- What the key order says of two cells' parts.
use Rattle.std.proofs.Common.{◌≡◌, ℕ, ◌<◌, ◌≤◌, true, false, List, refl, sym, ap, ◌∙◌, arith}
use Rattle.std.specs.declared.cmp.Ordering.{Ordering}
use Rattle.std.specs.declared.cmp.Ordering.TheVariants.{Less, Equal, Greater}
use Rattle.std.specs.Ordering.{nat_cmp, is_gt, ordering_then, MatchOrdering}
use Rattle.std.proofs.lemmas.Cmp.{ranked, nat_list_cmp_total}
use Rattle.hb_cell.specs.declared.cell.Cell.{Cell}
use Rattle.hb_cell.specs.Kinds.{code}
use Rattle.hb_cell.specs.Hiding.{same_family, same_column}
use Rattle.hb_cell.specs.Order.{bytes_cmp, same_bytes, column_cmp, version_cmp, key_cmp}
use Rattle.hb_cell.proofs.SameKeys.{bytes_cmp-same}
use Rattle.cell_sight.proofs.ShownExactly.{tied}
use Rattle.cell_sight.proofs.Versions.{tied_bytes, tied_numbers, same_bytes-true, same_bytes-from}
use Rattle.cell_sight.proofs.Truths.{left, right, both}

-- equal row and family, and equal qualifier
pub record InFamily (a b : Cell) : Type 0 where
  pub row : a.row ≡ b.row
  pub family : a.family ≡ b.family

pub record InColumn (a b : Cell) : Type 0 where
  pub row : a.row ≡ b.row
  pub family : a.family ≡ b.family
  pub qualifier : a.qualifier ≡ b.qualifier

pub in_family : (a b : Cell) → same_family a b ≡ true → InFamily a b
in_family a b h = record { row = same_bytes-true a.row b.row (left _ _ h); family = same_bytes-true a.family b.family (right (same_bytes a.row b.row) _ h) }

pub from_family : (a b : Cell) → InFamily a b → same_family a b ≡ true
from_family a b h = both _ _ (same_bytes-from a.row b.row h.row) (same_bytes-from a.family b.family h.family)

pub in_column : (a b : Cell) → same_column a b ≡ true → InColumn a b
in_column a b h = let f = in_family a b (left _ _ h) in
    record { row = f.row; family = f.family; qualifier = same_bytes-true a.qualifier b.qualifier (right (same_family a b) _ h) }

pub from_column : (a b : Cell) → InColumn a b → same_column a b ≡ true
from_column a b h = both _ _ (from_family a b (record { row = h.row; family = h.family })) (same_bytes-from a.qualifier b.qualifier h.qualifier)

pub column_family : (a b : Cell) → same_column a b ≡ true → same_family a b ≡ true
column_family a b h = left (same_family a b) _ h

pub family_back : (a b : Cell) → same_family a b ≡ true → same_family b a ≡ true
family_back a b h = let f = in_family a b h in from_family b a (record { row = sym f.row; family = sym f.family })

pub family_own : (a : Cell) → same_family a a ≡ true
family_own a = from_family a a (record { row = refl; family = refl })

pub family_on : (a b c : Cell) → same_family a b ≡ true → same_family b c ≡ true → same_family a c ≡ true
family_on a b c h k = let f = in_family a b h in let g = in_family b c k in from_family a c (record { row = f.row ∙ g.row; family = f.family ∙ g.family })

pub column_back : (a b : Cell) → same_column a b ≡ true → same_column b a ≡ true
column_back a b h = let f = in_column a b h in from_column b a (record { row = sym f.row; family = sym f.family; qualifier = sym f.qualifier })

pub column_on : (a b c : Cell) → same_column a b ≡ true → same_column b c ≡ true → same_column a c ≡ true
column_on a b c h k = let f = in_column a b h in let g = in_column b c k in
    from_column a c (record { row = f.row ∙ g.row; family = f.family ∙ g.family; qualifier = f.qualifier ∙ g.qualifier })

then_left : (o p : Ordering) → is_gt (ordering_then o p) ≡ false → is_gt o ≡ false
then_left Less p h = refl
then_left Equal p h = refl
then_left Greater p h = h

then_right : (o p : Ordering) → o ≡ Equal → is_gt (ordering_then o p) ≡ false → is_gt p ≡ false
then_right o p e h = ap (λ x. is_gt (ordering_then x p)) (sym e) ∙ h

-- a is not behind b in key order
abbrev pub Ahead : Cell → Cell → Type 0
Ahead a b = is_gt (key_cmp a b) ≡ false

row_ahead : (a b : Cell) → Ahead a b → is_gt (bytes_cmp a.row b.row) ≡ false
row_ahead a b h = then_left (bytes_cmp a.row b.row) _ (then_left (column_cmp a b) _ h)

family_ahead : (a b : Cell) → a.row ≡ b.row → Ahead a b → is_gt (bytes_cmp a.family b.family) ≡ false
family_ahead a b e h = then_left (bytes_cmp a.family b.family) _ (then_right (bytes_cmp a.row b.row) _ (tied_bytes a.row b.row e) (then_left (column_cmp a b) _ h))

qualifier_ahead : (a b : Cell) → InFamily a b → Ahead a b → is_gt (bytes_cmp a.qualifier b.qualifier) ≡ false
qualifier_ahead a b f h = then_right (bytes_cmp a.family b.family) _ (tied_bytes a.family b.family f.family)
    (then_right (bytes_cmp a.row b.row) _ (tied_bytes a.row b.row f.row) (then_left (column_cmp a b) _ h))

tied_column : (a b : Cell) → InColumn a b → column_cmp a b ≡ Equal
tied_column a b k =
    ap (λ o. ordering_then o (ordering_then (bytes_cmp a.family b.family) (bytes_cmp a.qualifier b.qualifier))) (tied_bytes a.row b.row k.row)
    ∙ ap (λ o. ordering_then o (bytes_cmp a.qualifier b.qualifier)) (tied_bytes a.family b.family k.family) ∙ tied_bytes a.qualifier b.qualifier k.qualifier

version_ahead : (a b : Cell) → InColumn a b → Ahead a b → is_gt (version_cmp a b) ≡ false
version_ahead a b k h = then_left (version_cmp a b) _ (then_right (column_cmp a b) _ (tied_column a b k) h)

not_above : (m n : ℕ) (r : Ordering) → MatchOrdering r (m < n) (m ≡ n) (n < m) → is_gt r ≡ false → m ≤ n
not_above m n Less h k = omega (arith, h)
not_above m n Equal h k = omega (arith, h)
not_above m n Greater h k = absurd (cc)

-- in a column timestamps fall
pub ts_falls : (a b : Cell) → same_column a b ≡ true → Ahead a b → b.ts ≤ a.ts
ts_falls a b k h = not_above b.ts a.ts (nat_cmp b.ts a.ts) (ranked b.ts a.ts (nat_cmp b.ts a.ts) refl) (then_left (nat_cmp b.ts a.ts) _ (version_ahead a b (in_column a b k) h))

-- and at one timestamp codes fall
pub code_falls : (a b : Cell) → same_column a b ≡ true → b.ts ≡ a.ts → Ahead a b → code b.kind ≤ code a.kind
code_falls a b k e h =
    not_above (code b.kind) (code a.kind) (nat_cmp (code b.kind) (code a.kind)) (ranked (code b.kind) (code a.kind) (nat_cmp (code b.kind) (code a.kind)) refl)
    (then_left (nat_cmp (code b.kind) (code a.kind)) _ (then_right (nat_cmp b.ts a.ts) _ (tied_numbers b.ts a.ts e) (version_ahead a b (in_column a b k) h)))

squeezed : (a b c : List ℕ) → is_gt (bytes_cmp a b) ≡ false → is_gt (bytes_cmp b c) ≡ false → a ≡ c → a ≡ b
squeezed a b c h k e = bytes_cmp-same a b (tied (bytes_cmp a b) (bytes_cmp b a) (nat_list_cmp_total.antisymm a b) h (ap (λ x. is_gt (bytes_cmp b x)) e ∙ k))

-- what stands between two of a family, or of a column, is of it
pub between_family : (a b c : Cell) → Ahead a b → Ahead b c → same_family a c ≡ true → same_family a b ≡ true
between_family a b c h k s =
    let f = in_family a c s in
    let row = squeezed a.row b.row c.row (row_ahead a b h) (row_ahead b c k) f.row in
    let family = squeezed a.family b.family c.family (family_ahead a b row h) (family_ahead b c (sym row ∙ f.row) k) f.family in
    from_family a b (record { row = row; family = family })

pub between_column : (a b c : Cell) → Ahead a b → Ahead b c → same_column a c ≡ true → same_column a b ≡ true
between_column a b c h k s =
    let f = in_column a c s in
    let g = in_family a b (between_family a b c h k (column_family a c s)) in
    let qualifier = squeezed a.qualifier b.qualifier c.qualifier (qualifier_ahead a b g h)
    (qualifier_ahead b c (record { row = sym g.row ∙ f.row; family = sym g.family ∙ f.family }) k) f.qualifier in
    from_column a b (record { row = g.row; family = g.family; qualifier = qualifier })
