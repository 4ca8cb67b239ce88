-- What is visible, cell by cell.
use Rattle.std.proofs.Common.{◌≡◌, ◌⊎◌, ℕ, Bool, true, false, cond, not, ◌&&◌, List, [], ◌∷◌, length, inl, inr, refl, sym, ap, ◌∙◌, subst, arith}
use Rattle.std.specs.Prelude.{filter, count_by, nat_lt}
use Rattle.std.specs.List.{list_any}
use Rattle.std.specs.declared.cmp.Ordering.{Ordering}
use Rattle.std.specs.declared.cmp.Ordering.TheVariants.{Less, Equal, Greater}
use Rattle.std.specs.Ordering.{is_gt, is_lt, is_eq, ordering_reverse}
use Rattle.std.specs.Cmp.{tied_itself}
use Rattle.std.proofs.lemmas.Bool.{ltb-true, ltb-false}
use Rattle.std.proofs.lemmas.List.Sums.{length-filter}
use Rattle.hb_cell.specs.declared.cell.Cell.{Cell}
use Rattle.hb_cell.specs.Order.{key_cmp}
use Rattle.hb_cell.specs.OrderLaws.{key_cmp_total}
use Rattle.cell_sight.specs.Member.{Member}
use Rattle.hb_cell.specs.Hiding.{hides}
use Rattle.cell_sight.specs.Same.{sorted}
use Rattle.cell_sight.specs.Visible.{is_put, same_version, versions_of, is_newer, unhidden, firsts, visible}
use Rattle.cell_sight.specs.VisibleLaws.{IsUnhidden, IsWinner, Rises, IsOutdated, ShowsExactly, Ascends}
use Rattle.cell_sight.proofs.Distinct.{Distinct, no_longer}
use Rattle.cell_sight.proofs.InOrder.{ordered-sorted}
use Rattle.cell_sight.proofs.Members.{of_filter, in_filter, of_all, all_by, of_sorted, in_sorted, any-sorted}
use Rattle.hb_cell.proofs.SameKeys.{key_cmp-same}
use Rattle.cell_sight.proofs.Sorting.{Ordered, ordered-filter}
use Rattle.cell_sight.proofs.Versions.{alike_back, alike_itself, ahead, not_behind}
use Rattle.cell_sight.proofs.Truths.{left, right, both, turn}

-- ---- the puts that nothing hides

of_unhidden : (cells : List Cell) (c : Cell) → Member c (unhidden (sorted cells)) → IsUnhidden cells c
of_unhidden cells c m =
    let k = of_filter (λ c. is_put c.kind && not (list_any (λ marker. hides marker c) (sorted cells))) c (sorted cells) m in (
      of_sorted c cells k.0,
      left (is_put c.kind) _ k.1,
      sym (any-sorted (λ marker. hides marker c) cells) ∙ turn _ (right (is_put c.kind) _ k.1),
    )

pub in_unhidden : (cells : List Cell) (c : Cell) → IsUnhidden cells c → Member c (unhidden (sorted cells))
in_unhidden cells c h = in_filter (λ c. is_put c.kind && not (list_any (λ marker. hides marker c) (sorted cells))) c (sorted cells) (in_sorted c cells h.0)
    (both (is_put c.kind) _ h.1 (ap not (any-sorted (λ marker. hides marker c) cells ∙ h.2)))

-- ---- the first of each version

-- none of its version is before it
pub record IsFirst (us : List Cell) (c : Cell) : Type 0 where
  pub in_it : Member c us
  pub least : (d : Cell) → Member d us → same_version c d ≡ true → is_gt (key_cmp c d) ≡ false

itself : (c : Cell) → is_gt (key_cmp c c) ≡ false
itself c = ap is_gt (tied_itself key_cmp_total c)

of_firsts : (us : List Cell) (c : Cell) → Ordered key_cmp us → Member c (firsts us) → IsFirst us c
of_firsts [] c o m = absurd m
of_firsts (x ∷ xs) c o (inl e) =
    let P : Cell → Type 0 = λ z. IsFirst (x ∷ xs) z in
    subst P e (record {
      in_it = inl refl;
      least = λ d k s. elim k [
        | inl i ↦ ap (λ z. is_gt (key_cmp x z)) (sym i) ∙ itself x
        | inr n ↦ turn _ (of_all (λ y. not (is_gt (key_cmp x y))) d xs o.0 n)
      ];
    })
of_firsts (x ∷ xs) c o (inr m) =
    let k = of_filter (λ d. not (same_version x d)) c (firsts xs) m in
    let i = of_firsts xs c o.1 k.0 in
    record {
      in_it = inr i.in_it;
      least = λ d n s. elim n [
        | inl e ↦ let t : same_version x c ≡ true = alike_back c x (ap (same_version c) e ∙ s) in let f = turn _ k.1 in absurd (cc)
        | inr l ↦ i.least d l s
      ];
    }

pub tied : (r s : Ordering) → r ≡ ordering_reverse s → is_gt r ≡ false → is_gt s ≡ false → r ≡ Equal
tied Less Less e h k = absurd (cc)
tied Less Equal e h k = absurd (cc)
tied Less Greater e h k = absurd (cc)
tied Equal s e h k = refl
tied Greater s e h k = absurd (cc)

in_firsts : (us : List Cell) (c : Cell) → Ordered key_cmp us → IsFirst us c → Member c (firsts us)
in_firsts [] c o h = absurd h.in_it
in_firsts (x ∷ xs) c o h = by (λ m. in_firsts xs c o.1 (record { in_it = m; least = λ d n s. h.least d (inr n) s })) h.in_it
  where
    later : (Member c xs → Member c (firsts xs)) → Member c xs → (b : Bool) → same_version x c ≡ b → Member c (x ∷ filter (λ d. not (same_version x d)) (firsts xs))
    later rest m true e =
        inl (key_cmp-same x c (tied (key_cmp x c) (key_cmp c x) (key_cmp_total.antisymm x c)
        (turn _ (of_all (λ y. not (is_gt (key_cmp x y))) c xs o.0 m)) (h.least x (inl refl) (alike_back x c e))))
    later rest m false e = inr (in_filter (λ d. not (same_version x d)) c (firsts xs) (rest m) (ap not e))

    by : (Member c xs → Member c (firsts xs)) → (x ≡ c) ⊎ Member c xs → Member c (x ∷ filter (λ d. not (same_version x d)) (firsts xs))
    by rest (inl e) = inl e
    by rest (inr m) = later rest m (same_version x c) refl

-- the winners of a list
abbrev pub winners : List Cell → List Cell
winners cells = firsts (unhidden (sorted cells))

pub ordered_unhidden : (cells : List Cell) → Ordered key_cmp (unhidden (sorted cells))
ordered_unhidden cells = ordered-filter key_cmp _ (sorted cells) (ordered-sorted cells)

pub of_winners : (cells : List Cell) (c : Cell) → Member c (winners cells) → IsWinner cells c
of_winners cells c m =
    let f = of_firsts (unhidden (sorted cells)) c (ordered_unhidden cells) m in
    let u = of_unhidden cells c f.in_it in
    record {
      unhidden = u;
      number = λ d k s. (ahead c d (alike_back d c s) u.1 k.1 (f.least d (in_unhidden cells d k) (alike_back d c s))).0;
      value = λ d k s e. (ahead c d (alike_back d c s) u.1 k.1 (f.least d (in_unhidden cells d k) (alike_back d c s))).1 e;
    }

in_winners : (cells : List Cell) (c : Cell) → IsWinner cells c → Member c (winners cells)
in_winners cells c h = in_firsts (unhidden (sorted cells)) c (ordered_unhidden cells) (record {
  in_it = in_unhidden cells c h.unhidden;
  least = λ d m s. let k = of_unhidden cells d m in
      not_behind c d s h.unhidden.1 k.1 (h.number d k (alike_back c d s)) (h.value d k (alike_back c d s));
})

-- ---- strictly in order

strict : (r : Ordering) → is_gt r ≡ false → (r ≡ Equal → ⊥) → is_lt r ≡ true
strict Less h k = refl
strict Equal h k = absurd (k refl)
strict Greater h k = absurd (cc)

pub rises_filter : (q : Cell → Bool) (xs : List Cell) → Rises xs → Rises (filter q xs)
rises_filter q [] h = tt
rises_filter q (x ∷ xs) h = elim (q x) as (λ b. Rises (cond b (x ∷ filter q xs) (filter q xs))) [
  | true ↦ (all_by (λ d. is_lt (key_cmp x d)) (filter q xs) (λ d m. of_all (λ d. is_lt (key_cmp x d)) d xs h.0 (of_filter q d xs m).0), rises_filter q xs h.1)
  | false ↦ rises_filter q xs h.1
]

pub rises_firsts : (us : List Cell) → Ordered key_cmp us → Rises (firsts us)
rises_firsts [] o = tt
rises_firsts (x ∷ xs) o = (
  all_by (λ d. is_lt (key_cmp x d)) (filter (λ d. not (same_version x d)) (firsts xs)) (λ d m.
      let k = of_filter (λ d. not (same_version x d)) d (firsts xs) m in
      let f = of_firsts xs d o.1 k.0 in
      strict (key_cmp x d) (turn _ (of_all (λ y. not (is_gt (key_cmp x y))) d xs o.0 f.in_it)) (λ e.
      let t : same_version x d ≡ true = ap (same_version x) (sym (key_cmp-same x d e)) ∙ alike_itself x in let n = turn _ k.1 in absurd (cc))),
  rises_filter (λ d. not (same_version x d)) (firsts xs) (rises_firsts xs o.1),
)

pub ascends : (families : List (List ℕ × ℕ)) (cells : List Cell) → Ascends families cells
ascends families cells = rises_filter _ (winners cells) (rises_firsts _ (ordered_unhidden cells))

-- ---- the newest

unlike : (r : Ordering) → is_lt r ≡ true → not (is_eq r) ≡ true
unlike Less h = refl
unlike Equal h = absurd (cc)
unlike Greater h = absurd (cc)

abbrev same : Cell → Cell → Bool
same a b = is_eq (key_cmp a b)

same_own : (a : Cell) → same a a ≡ true
same_own a = ap is_eq (tied_itself key_cmp_total a)

distinct_rises : (xs : List Cell) → Rises xs → Distinct same same_own xs
distinct_rises [] h = tt
distinct_rises (x ∷ xs) h = (all_by (λ d. not (same x d)) xs (λ d m. unlike (key_cmp x d) (of_all (λ d. is_lt (key_cmp x d)) d xs h.0 m)), distinct_rises xs h.1)

-- so many winners of the column are newer
abbrev pub newer_of : List Cell → Cell → List Cell
newer_of cells c = filter (λ d. is_newer d c) (winners cells)

pub newer_count : (cells : List Cell) (c : Cell) → length (newer_of cells c) ≡ count_by (λ d. is_newer d c) (winners cells)
newer_count cells c = length-filter (λ d. is_newer d c) (winners cells)

shown : (families : List (List ℕ × ℕ)) (cells : List Cell) (c : Cell) → Member c (visible families cells) → IsWinner cells c × (IsOutdated families cells c → ⊥)
shown families cells c m =
    let k = of_filter (λ c. nat_lt (count_by (λ d. is_newer d c) (winners cells)) (versions_of families c.family)) c (winners cells) m in (
      of_winners cells c k.0,
      λ o.
          let few = ltb-true (count_by (λ d. is_newer d c) (winners cells)) (versions_of families c.family) k.1 in
          let within = no_longer same same_own o.0 (newer_of cells c) (distinct_rises o.0 o.1)
          (λ d n. let i = o.2 d n in in_filter (λ d. is_newer d c) d (winners cells) (in_winners cells d i.0) i.1) in
          let n = newer_count cells c in
          let v = o.3 in absurd (omega arith),
    )

shows : (families : List (List ℕ × ℕ)) (cells : List Cell) (c : Cell) → IsWinner cells c → (IsOutdated families cells c → ⊥) → Member c (visible families cells)
shows families cells c h o = in_filter (λ c. nat_lt (count_by (λ d. is_newer d c) (winners cells)) (versions_of families c.family)) c (winners cells) (in_winners cells c h)
    (by (nat_lt (count_by (λ d. is_newer d c) (winners cells)) (versions_of families c.family)) refl)
  where
    by : (b : Bool) → nat_lt (count_by (λ d. is_newer d c) (winners cells)) (versions_of families c.family) ≡ b
        → nat_lt (count_by (λ d. is_newer d c) (winners cells)) (versions_of families c.family) ≡ true
    by true e = e
    by false e =
        let many = ltb-false (count_by (λ d. is_newer d c) (winners cells)) (versions_of families c.family) e in
        let n = newer_count cells c in
        absurd (o (
          newer_of cells c,
          rises_filter _ (winners cells) (rises_firsts _ (ordered_unhidden cells)),
          λ d m. (let k = of_filter (λ d. is_newer d c) d (winners cells) m in (of_winners cells d k.0, k.1)),
          omega arith,
        ))

-- a cell is visible exactly where it is a winner, and not outdated
pub shows_exactly : (families : List (List ℕ × ℕ)) (cells : List Cell) → ShowsExactly families cells
shows_exactly families cells c = (shown families cells c, λ h. shows families cells c h.0 h.1)
