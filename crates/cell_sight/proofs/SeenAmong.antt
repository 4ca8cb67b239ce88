-- What is visible of a whole is visible among any part that has it and all that hides.
use Rattle.std.proofs.Common.{◌≡◌, ℕ, ◌+◌, ◌≤◌, Bool, true, false, cond, not, ◌&&◌, List, [], ◌∷◌, length, inl, inr, refl, sym, ap, ◌∙◌, subst, arith}
use Rattle.std.specs.Prelude.{filter, nat_eq, nat_lt}
use Rattle.std.specs.Cmp.Lexicographic.{pointwise}
use Rattle.std.specs.List.{list_any, list_all}
use Rattle.std.specs.declared.cmp.Ordering.{Ordering}
use Rattle.std.specs.declared.cmp.Ordering.TheVariants.{Less, Equal, Greater}
use Rattle.std.specs.Ordering.{is_gt, is_lt, ordering_reverse}
use Rattle.hb_cell.specs.declared.cell.Cell.{Cell}
use Rattle.hb_cell.specs.Hiding.{hides, same_column}
use Rattle.hb_cell.specs.Order.{key_cmp}
use Rattle.hb_cell.specs.OrderLaws.{key_cmp_total}
use Rattle.cell_sight.specs.Member.{Member}
use Rattle.cell_sight.specs.Same.{sorted}
use Rattle.cell_sight.specs.Visible.{same_version, is_newer, unhidden, firsts}
use Rattle.cell_sight.specs.VisibleLaws.{IsUnhidden, IsWinner, Rises, IsOutdated, SeenAmong}
use Rattle.cell_sight.proofs.Members.{of_filter, in_filter, of_all, all_by}
use Rattle.cell_sight.proofs.ShownExactly.{shows_exactly, in_unhidden, of_winners, ordered_unhidden, rises_filter, rises_firsts, newer_of}
use Rattle.cell_sight.proofs.Versions.{alike, from_alike, alike_back, alike_itself, not_behind}
use Rattle.cell_sight.proofs.Truths.{left, turn, never, any_some, some_any}

version_on : (a b c : Cell) → same_version a b ≡ true → same_version b c ≡ true → same_version a c ≡ true
version_on a b c h k = let f = alike a b h in let g = alike b c k in
    from_alike a c (record { row = f.row ∙ g.row; family = f.family ∙ g.family; qualifier = f.qualifier ∙ g.qualifier; ts = f.ts ∙ g.ts })

-- ---- no two of a version, and each has one of its version: no more than those

abbrev Apart : List Cell → Type 0
Apart [] = Unit {0}
Apart (x ∷ xs) = (list_all (λ y. not (same_version x y)) xs ≡ true) × Apart xs

abbrev others : Cell → List Cell → List Cell
others x ys = filter (λ y. not (same_version x y)) ys

at_most : (x : Cell) (ys : List Cell) → length (others x ys) ≤ length ys
at_most x [] = omega arith
at_most x (y ∷ ys) = let k = at_most x ys in elim (not (same_version x y)) as (λ b. length (cond b (y ∷ others x ys) (others x ys)) ≤ length (y ∷ ys)) [
  | true ↦ omega arith
  | false ↦ omega arith
]

fewer : (x y : Cell) (ys : List Cell) → Member y ys → same_version x y ≡ true → length (others x ys) + 1 ≤ length ys
fewer x y [] m s = absurd m
fewer x y (z ∷ zs) (inl e) s =
    let i : not (same_version x z) ≡ false = ap not (ap (same_version x) e ∙ s) in
    let k = at_most x zs in
    subst (λ b. length (cond b (z ∷ others x zs) (others x zs)) + 1 ≤ length (z ∷ zs)) (sym i) (omega arith)
fewer x y (z ∷ zs) (inr m) s = let k = fewer x y zs m s in elim (not (same_version x z)) as (λ b. length (cond b (z ∷ others x zs) (others x zs)) + 1 ≤ length (z ∷ zs)) [
  | true ↦ omega arith
  | false ↦ omega arith
]

no_longer : (xs ys : List Cell) → Apart xs → ((x : Cell) → Member x xs → (y : Cell) × Member y ys × (same_version x y ≡ true)) → length xs ≤ length ys
no_longer [] ys d h = omega arith
no_longer (x ∷ xs) ys d h =
    let y = h x (inl refl) in
    let f = fewer x y.0 ys y.1 y.2 in
    let k = no_longer xs (others x ys) d.1 (λ z m. let w = h z (inr m) in (
      w.0,
      in_filter (λ y. not (same_version x y)) w.0 ys w.1 (ap not (never (same_version x w.0) (λ s.
          let n = turn _ (of_all (λ y. not (same_version x y)) z xs d.0 m) in let t : same_version x z ≡ true = version_on x w.0 z s (alike_back z w.0 w.2) in absurd (cc)))),
      w.2,
    )) in
    omega arith

-- ---- of each version the first is among the first ones

first_of : (us : List Cell) (d : Cell) → Member d us → (e : Cell) × Member e (firsts us) × (same_version d e ≡ true)
first_of [] d m = absurd m
first_of (x ∷ xs) d (inl e) = (x, inl refl, ap (λ y. same_version y x) (sym e) ∙ alike_itself x)
first_of (x ∷ xs) d (inr m) = let k = first_of xs d m in by k (same_version x k.0) refl
  where
    by : (k : (e : Cell) × Member e (firsts xs) × (same_version d e ≡ true)) → (b : Bool) → same_version x k.0 ≡ b → (e : Cell) × Member e (firsts (x ∷ xs)) × (same_version d e ≡ true)
    by k true s = (x, inl refl, version_on d k.0 x k.2 (alike_back x k.0 s))
    by k false s = (k.0, inr (in_filter (λ e. not (same_version x e)) k.0 (firsts xs) k.1 (ap not s)), k.2)

-- ---- winners of one version are one

not_less : (r s : Ordering) → r ≡ ordering_reverse s → is_lt r ≡ true → is_gt s ≡ false → ⊥
not_less Less Less e h k = absurd (cc)
not_less Less Equal e h k = absurd (cc)
not_less Less Greater e h k = absurd (cc)
not_less Equal s e h k = absurd (cc)
not_less Greater s e h k = absurd (cc)

two_winners : (cells : List Cell) (a b : Cell) → IsWinner cells a → IsWinner cells b → is_lt (key_cmp a b) ≡ true → same_version a b ≡ true → ⊥
two_winners cells a b v w l s =
    let u = v.unhidden in let z = w.unhidden in
    not_less (key_cmp a b) (key_cmp b a) (key_cmp_total.antisymm a b) l
    (not_behind b a (alike_back a b s) z.1 u.1 (w.number a u s) (λ e. w.value a u s e))

apart_rises : (cells xs : List Cell) → Rises xs → ((d : Cell) → Member d xs → IsWinner cells d) → Apart xs
apart_rises cells [] r h = tt
apart_rises cells (x ∷ xs) r h = (
  all_by (λ y. not (same_version x y)) xs (λ y m. ap not (never (same_version x y) (λ s. two_winners cells x y (h x (inl refl)) (h y (inr m)) (of_all (λ d. is_lt (key_cmp x d)) y xs r.0 m) s))),
  apart_rises cells xs r.1 (λ d m. h d (inr m)),
)

-- a newer one of a column stays newer in another of its version
newer_too : (d e c : Cell) → is_newer d c ≡ true → same_version d e ≡ true → is_newer e c ≡ true
newer_too d e c n s =
    let a = alike d e s in
    let same : is_newer e c ≡ is_newer d c = λ i. ((pointwise nat_eq (sym a.row i) c.row && pointwise nat_eq (sym a.family i) c.family) && pointwise nat_eq (sym a.qualifier i) c.qualifier) && nat_lt c.ts (sym a.ts i) in
    same ∙ n

module _ (families : List (List ℕ × ℕ)) (whole part : List Cell) (c : Cell)
    (within : (d : Cell) → Member d part → Member d whole)
    (hiders : (d m : Cell) → Member d part → same_column d c ≡ true → Member m whole → hides m d ≡ true → Member m part) where
  up : (d : Cell) → same_column d c ≡ true → IsUnhidden part d → IsUnhidden whole d
  up d s u = (
    within d u.0,
    u.1,
    never (list_any (λ m. hides m d) whole) (λ k.
        let m = any_some (λ m. hides m d) whole k in
        let n = some_any (λ m. hides m d) part m.0 (hiders d m.0 u.0 s m.1 m.2) m.2 in let f = u.2 in absurd (cc)),
  )

  down : Member c part → IsUnhidden whole c → IsUnhidden part c
  down p u = (
    p,
    u.1,
    never (list_any (λ m. hides m c) part) (λ k.
        let m = any_some (λ m. hides m c) part k in
        let n = some_any (λ m. hides m c) whole m.0 (within m.0 m.1) m.2 in let f = u.2 in absurd (cc)),
  )

  version_column : (d : Cell) → same_version d c ≡ true → same_column d c ≡ true
  version_column d s = left (same_column d c) _ s

  winner : Member c part → IsWinner whole c → IsWinner part c
  winner p w = record {
    unhidden = down p w.unhidden;
    number = λ d u s. w.number d (up d (version_column d s) u) s;
    value = λ d u s e. w.value d (up d (version_column d s) u) s e;
  }

  outdated : IsOutdated families part c → IsOutdated families whole c
  outdated o =
      let of = λ (d : Cell) (m : Member d o.0). let i = o.2 d m in let w = i.0 in
      let u = up d (left (same_column d c) _ i.1) w.unhidden in
      let e = first_of (unhidden (sorted whole)) d (in_unhidden whole d u) in
      pick d e i.1 in
      let few = no_longer o.0 (newer_of whole c) (apart_rises part o.0 o.1 (λ d m. let i = o.2 d m in i.0)) of in
      let v = o.3 in (
        newer_of whole c,
        rises_filter _ (firsts (unhidden (sorted whole))) (rises_firsts _ (ordered_unhidden whole)),
        λ d m. (let k = of_filter (λ d. is_newer d c) d (firsts (unhidden (sorted whole))) m in (of_winners whole d k.0, k.1)),
        omega arith,
      )
    where
      pick : (d : Cell) → ((e : Cell) × Member e (firsts (unhidden (sorted whole))) × (same_version d e ≡ true)) → is_newer d c ≡ true
          → (e : Cell) × Member e (newer_of whole c) × (same_version d e ≡ true)
      pick d e n = (e.0, in_filter (λ d. is_newer d c) e.0 (firsts (unhidden (sorted whole))) e.1 (newer_too d e.0 c n e.2), e.2)

pub seen_among : (families : List (List ℕ × ℕ)) (whole part : List Cell) (c : Cell) → SeenAmong families whole part c
seen_among families whole part c within hiders m p =
    let w = (shows_exactly families whole c).0 m in
    (shows_exactly families part c).1 (winner families whole part c within hiders p w.0, λ o. w.1 (outdated families whole part c within hiders o))
