-- Cells of one column and timestamp, and which of them comes first.
use Rattle.std.proofs.Common.{◌≡◌, ℕ, ◌<◌, ◌≤◌, true, false, ◌==◌, List, refl, sym, ap, ◌∙◌, arith}
use Rattle.std.specs.declared.cmp.Ordering.{Ordering}
use Rattle.std.specs.declared.cmp.Ordering.TheVariants.{Less, Equal, Greater}
use Rattle.std.specs.Ordering.{nat_cmp, is_gt, is_lt, ordering_then, ordering_reverse, MatchOrdering}
use Rattle.std.specs.Cmp.{tied_itself}
use Rattle.std.proofs.lemmas.Cmp.{ranked, nat_list_cmp_total, nat_cmp_total}
use Rattle.std.specs.Cmp.Lexicographic.{bytes_decides}
use Rattle.std.proofs.lemmas.Bool.{eqb-true, eq-eqb}
use Rattle.hb_cell.specs.declared.cell.Cell.{Cell}
use Rattle.hb_cell.specs.declared.kind.Kind.{Kind}
use Rattle.hb_cell.specs.declared.kind.Kind.TheVariants.{Put, Delete, DeleteColumn, DeleteFamily}
use Rattle.hb_cell.specs.Kinds.{code}
use Rattle.hb_cell.specs.Order.{bytes_cmp, column_cmp, version_cmp, key_cmp}
use Rattle.hb_cell.specs.Order.{same_bytes, is_below}
use Rattle.hb_cell.specs.Hiding.{same_family, same_column}
use Rattle.cell_sight.specs.Visible.{is_put, same_version}
use Rattle.cell_sight.proofs.Truths.{left, right, both}

-- equal column and timestamp
pub record Alike (a b : Cell) : Type 0 where
  pub row : a.row ≡ b.row
  pub family : a.family ≡ b.family
  pub qualifier : a.qualifier ≡ b.qualifier
  pub ts : a.ts ≡ b.ts

pub same_bytes-true : (xs ys : List ℕ) → same_bytes xs ys ≡ true → xs ≡ ys
same_bytes-true xs ys h = (bytes_decides xs ys).0 h

pub same_bytes-from : (xs ys : List ℕ) → xs ≡ ys → same_bytes xs ys ≡ true
same_bytes-from xs ys e = (bytes_decides xs ys).1 e

pub alike : (a b : Cell) → same_version a b ≡ true → Alike a b
alike a b h =
    let column = left (same_column a b) _ h in
    let family = left (same_family a b) _ column in
    record {
      row = same_bytes-true a.row b.row (left (same_bytes a.row b.row) _ family);
      family = same_bytes-true a.family b.family (right (same_bytes a.row b.row) _ family);
      qualifier = same_bytes-true a.qualifier b.qualifier (right (same_family a b) _ column);
      ts = eqb-true a.ts b.ts (right (same_column a b) _ h);
    }

eqb_own : (n : ℕ) → (n == n) ≡ true
eqb_own n = eq-eqb n n refl

pub from_alike : (a b : Cell) → Alike a b → same_version a b ≡ true
from_alike a b h = both (same_column a b) _ (both (same_family a b) _ (both (same_bytes a.row b.row) _ (same_bytes-from a.row b.row h.row) (same_bytes-from a.family b.family h.family))
    (same_bytes-from a.qualifier b.qualifier h.qualifier)) (ap (λ n. a.ts == n) (sym h.ts) ∙ eqb_own a.ts)

pub alike_back : (a b : Cell) → same_version a b ≡ true → same_version b a ≡ true
alike_back a b h = let k = alike a b h in from_alike b a (record { row = sym k.row; family = sym k.family; qualifier = sym k.qualifier; ts = sym k.ts })

pub alike_itself : (a : Cell) → same_version a a ≡ true
alike_itself a = from_alike a a (record { row = refl; family = refl; qualifier = refl; ts = refl })

pub tied_bytes : (xs ys : List ℕ) → xs ≡ ys → bytes_cmp xs ys ≡ Equal
tied_bytes xs ys e = ap (bytes_cmp xs) (sym e) ∙ tied_itself nat_list_cmp_total xs

pub tied_numbers : (m n : ℕ) → m ≡ n → nat_cmp m n ≡ Equal
tied_numbers m n e = ap (nat_cmp m) (sym e) ∙ tied_itself nat_cmp_total m

put_code : (k : Kind) → is_put k ≡ true → code k ≡ 4
put_code Put h = refl
put_code Delete h = absurd (cc)
put_code DeleteColumn h = absurd (cc)
put_code DeleteFamily h = absurd (cc)

-- two puts of one column and timestamp are in the order of their numbers, the greatest first, and then of their values
pub key_of_alike : (c d : Cell) → same_version c d ≡ true → is_put c.kind ≡ true → is_put d.kind ≡ true
    → key_cmp c d ≡ ordering_then (nat_cmp d.seq c.seq) (bytes_cmp c.value d.value)
key_of_alike c d h p q =
    let k = alike c d h in
    let column : column_cmp c d ≡ Equal =
    ap (λ o. ordering_then o (ordering_then (bytes_cmp c.family d.family) (bytes_cmp c.qualifier d.qualifier))) (tied_bytes c.row d.row k.row)
    ∙ ap (λ o. ordering_then o (bytes_cmp c.qualifier d.qualifier)) (tied_bytes c.family d.family k.family) ∙ tied_bytes c.qualifier d.qualifier k.qualifier in
    let version : version_cmp c d ≡ nat_cmp d.seq c.seq =
    ap (λ o. ordering_then o (ordering_then (nat_cmp (code d.kind) (code c.kind)) (nat_cmp d.seq c.seq))) (tied_numbers d.ts c.ts (sym k.ts))
    ∙ ap (λ o. ordering_then o (nat_cmp d.seq c.seq)) (tied_numbers (code d.kind) (code c.kind) (put_code d.kind q ∙ sym (put_code c.kind p))) in
    ap (λ o. ordering_then o (ordering_then (version_cmp c d) (bytes_cmp c.value d.value))) column
    ∙ ap (λ o. ordering_then o (bytes_cmp c.value d.value)) version

later : (m n : ℕ) (r o : Ordering) → MatchOrdering r (m < n) (m ≡ n) (n < m) → is_gt (ordering_then r o) ≡ false → (m ≤ n) × (m ≡ n → is_gt o ≡ false)
later m n Less o h k = (omega (arith, h), λ e. absurd (omega (arith, h, e)))
later m n Equal o h k = (omega (arith, h), λ _. k)
later m n Greater o h k = absurd (cc)

sooner : (m n : ℕ) (r o : Ordering) → MatchOrdering r (m < n) (m ≡ n) (n < m) → m ≤ n → (m ≡ n → is_gt o ≡ false) → is_gt (ordering_then r o) ≡ false
sooner m n Less o h l k = refl
sooner m n Equal o h l k = k h
sooner m n Greater o h l k = absurd (omega (arith, h, l))

pub turned : (r s : Ordering) → r ≡ ordering_reverse s → is_lt r ≡ is_gt s
turned r Less e = ap is_lt e
turned r Equal e = ap is_lt e
turned r Greater e = ap is_lt e

value_turned : (xs ys : List ℕ) → is_below ys xs ≡ is_gt (bytes_cmp xs ys)
value_turned xs ys = turned (bytes_cmp ys xs) (bytes_cmp xs ys) (nat_list_cmp_total.antisymm ys xs)

-- the one that isn't behind the other has a number not below, and with an equal number a value not above
pub ahead : (c d : Cell) → same_version c d ≡ true → is_put c.kind ≡ true → is_put d.kind ≡ true → is_gt (key_cmp c d) ≡ false
    → (d.seq ≤ c.seq) × (d.seq ≡ c.seq → is_below d.value c.value ≡ false)
ahead c d h p q g =
    let k = later d.seq c.seq (nat_cmp d.seq c.seq) (bytes_cmp c.value d.value) (ranked d.seq c.seq (nat_cmp d.seq c.seq) refl)
    (ap is_gt (sym (key_of_alike c d h p q)) ∙ g) in
    (k.0, λ e. value_turned c.value d.value ∙ k.1 e)

pub not_behind : (c d : Cell) → same_version c d ≡ true → is_put c.kind ≡ true → is_put d.kind ≡ true → d.seq ≤ c.seq → (d.seq ≡ c.seq → is_below d.value c.value ≡ false)
    → is_gt (key_cmp c d) ≡ false
not_behind c d h p q l v = ap is_gt (key_of_alike c d h p q) ∙
    sooner d.seq c.seq (nat_cmp d.seq c.seq) (bytes_cmp c.value d.value) (ranked d.seq c.seq (nat_cmp d.seq c.seq) refl) l (λ e. sym (value_turned c.value d.value) ∙ v e)
