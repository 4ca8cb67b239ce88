-- What is visible of some rows or families is what is visible of all, as far as it is of these.
use Rattle.std.proofs.Common.{◌≡◌, ℕ, Bool, true, false, cond, not, ◌&&◌, List, [], ◌∷◌, refl, sym, ap, ◌∙◌}
use Rattle.std.specs.Prelude.{filter, nat_lt}
use Rattle.std.specs.Cmp.Lexicographic.{bytes_decides}
use Rattle.hb_cell.specs.declared.cell.Cell.{Cell}
use Rattle.hb_cell.specs.declared.kind.Kind.{Kind}
use Rattle.hb_cell.specs.declared.kind.Kind.TheVariants.{Put, Delete, DeleteColumn, DeleteFamily}
use Rattle.hb_cell.specs.Order.{same_bytes}
use Rattle.hb_cell.specs.Hiding.{hides, hides_as, same_family, same_column}
use Rattle.cell_sight.specs.Same.{sorted}
use Rattle.cell_sight.specs.Visible.{is_put, same_version, versions_of, is_newer, unhidden, firsts, newest, visible}
use Rattle.cell_sight.specs.VisibleLaws.{SameSeen, SeenByRow, SeenByFamily}
use Rattle.cell_sight.proofs.Filters.{filter-swap, filter-kept, any-filter, count-kept}
use Rattle.cell_sight.proofs.InOrder.{sorted-same, sorted-filter}
use Rattle.cell_sight.proofs.Truths.{left, right}

-- a test that doesn't tell cells of one row and family apart
abbrev pub Respects : (Cell → Bool) → Type 0
Respects q = (a b : Cell) → same_family a b ≡ true → q a ≡ q b

hider_family : (k : Kind) (m c : Cell) → hides_as k m c ≡ true → same_family m c ≡ true
hider_family Put m c h = absurd (cc)
hider_family Delete m c h = left _ _ (left (same_column m c) _ h)
hider_family DeleteColumn m c h = left _ _ (left (same_column m c) _ h)
hider_family DeleteFamily m c h = left (same_family m c) _ h

-- a test that doesn't tell cells of one version apart, before or behind the choice of the first ones
module _ (q : Cell → Bool) (v : (a b : Cell) → same_version a b ≡ true → q a ≡ q b) where
  other_version : (x d : Cell) → q x ≡ false → q d ≡ true → (b : Bool) → same_version x d ≡ b → not b ≡ true
  other_version x d e h true i = let k = v x d i in absurd (cc)
  other_version x d e h false i = refl

  pub firsts-filter : (xs : List Cell) → firsts (filter q xs) ≡ filter q (firsts xs)
  firsts-filter [] = refl
  firsts-filter (x ∷ xs) = let i = firsts-filter xs in
      elim (q x) as (λ b. q x ≡ b → firsts (cond b (x ∷ filter q xs) (filter q xs))
      ≡ cond b (x ∷ filter q (filter (λ d. not (same_version x d)) (firsts xs))) (filter q (filter (λ d. not (same_version x d)) (firsts xs)))) [
        | true ↦ λ e. ap (λ ys. x ∷ ys) (ap (filter (λ d. not (same_version x d))) i ∙ filter-swap _ _ q (firsts xs) (λ c _. refl))
        | false ↦ λ e. i ∙ sym (filter-kept (λ d. not (same_version x d)) q (firsts xs) (λ d h. other_version x d e h (same_version x d) refl))
      ] refl

-- a test that passes what is newer than what it passes, before or behind the choice of the newest
pub newest-filter : (q : Cell → Bool) → ((d c : Cell) → is_newer d c ≡ true → q c ≡ true → q d ≡ true)
    → (families : List (List ℕ × ℕ)) (xs : List Cell) → newest families (filter q xs) ≡ filter q (newest families xs)
newest-filter q n families xs = filter-swap _ _ q xs (λ c e. ap (λ k. nat_lt k (versions_of families c.family))
    (count-kept (λ d. is_newer d c) q xs (λ d h. n d c h e)))

module _ (q : Cell → Bool) (r : Respects q) where
  unhidden-filter : (xs : List Cell) → unhidden (filter q xs) ≡ filter q (unhidden xs)
  unhidden-filter xs = filter-swap _ _ q xs (λ c e. ap (λ b. is_put c.kind && not b)
      (any-filter (λ m. hides m c) q xs (λ m h. r m c (hider_family m.kind m c h) ∙ e)))

  version_family : (a b : Cell) → same_version a b ≡ true → q a ≡ q b
  version_family a b h = r a b (left _ _ (left (same_column a b) _ h))

  newer_family : (d c : Cell) → is_newer d c ≡ true → q c ≡ true → q d ≡ true
  newer_family d c h e = r d c (left _ _ (left (same_column d c) _ h)) ∙ e

  pub seen_by : (families : List (List ℕ × ℕ)) (xs : List Cell) → visible families (filter q xs) ≡ filter q (visible families xs)
  seen_by families xs =
      ap (λ ys. newest families (firsts (unhidden ys))) (sorted-filter q xs)
      ∙ ap (λ ys. newest families (firsts ys)) (unhidden-filter (sorted xs))
      ∙ ap (newest families) (firsts-filter q version_family (unhidden (sorted xs)))
      ∙ newest-filter q newer_family families (firsts (unhidden (sorted xs)))

same_bytes-true : (xs ys : List ℕ) → same_bytes xs ys ≡ true → xs ≡ ys
same_bytes-true xs ys h = (bytes_decides xs ys).0 h

pub seen_by_row : (families : List (List ℕ × ℕ)) (p : List ℕ → Bool) (cells : List Cell) → SeenByRow families p cells
seen_by_row families p cells = seen_by (λ c. p c.row) (λ a b h. ap p (same_bytes-true a.row b.row (left _ _ h))) families cells

pub seen_by_family : (families : List (List ℕ × ℕ)) (p : List ℕ → Bool) (cells : List Cell) → SeenByFamily families p cells
seen_by_family families p cells = seen_by (λ c. p c.family) (λ a b h. ap p (same_bytes-true a.family b.family (right (same_bytes a.row b.row) _ h))) families cells

pub same_seen : (families : List (List ℕ × ℕ)) (xs ys : List Cell) → SameSeen families xs ys
same_seen families xs ys h = ap (λ cs. newest families (firsts (unhidden cs))) (sorted-same xs ys h)
