-- A value that is written through its place.
use Rattle.std.proofs.Common.{subst, inl, inr, ◌≡◌, Option, Some, List, cond, refl, ap, ◌∙◌, is_some}
use Rattle.std.specs.Cmp.{IsTotalOrder, Equal-is}
use Rattle.std.specs.Ordering.{is_eq}
use Rattle.std.specs.declared.cmp.Ordering.{Ordering}
use Rattle.std.specs.declared.cmp.Ordering.TheVariants.{Equal}
use Rattle.std.specs.Map.{lookup}
use Rattle.std.specs.BTreeMap as tree
use Rattle.std.specs.BTreeMap.{BTreeMap, WritesThrough, is_at}
use Rattle.std.specs.Option.{IsSome}
use Rattle.std.proofs.lemmas.Bool.{cases_Bool}
use Rattle.std.specs.FinMap.{IsAntisymmetric}
use Rattle.reserved_map.specs.Lends.{WritesValue}
use Rattle.reserved_map.proofs.Values.{written}

module _ {K X : Type 0} {R : K → K → Ordering} (o : IsTotalOrder R) (same : IsAntisymmetric R) where
  tied : (es : List (K × Option X)) (p q : K) → R p q ≡ Equal → lookup (is_at (R p)) es ≡ lookup (is_at (R q)) es
  tied es p q e = λ i. lookup (λ x. is_eq (o.congr p q x e i)) es

  stays : (m n : BTreeMap K (Option X)) (p : K) (old w : Option X) → Some old ≡ tree.get R m p → WritesThrough R (R p) m w n → (q : K) → is_some (tree.get R n q) ≡ is_some (tree.get R m q)
  stays m n p old w stands h q =
      ap is_some ((h.3 (subst IsSome stands refl)).0 q)
      ∙ elim (cases_Bool (is_at (R p) q)) as (λ _. is_some (cond (is_at (R p) q) (Some w) (tree.get R m q)) ≡ is_some (tree.get R m q)) [
        | inl here ↦ ap (λ b. is_some (cond b (Some w) (tree.get R m q))) here ∙ ap is_some (stands ∙ tied m.entries p q ((Equal-is (R p q)).0 here))
        | inr not ↦ ap (λ b. is_some (cond b (Some w) (tree.get R m q))) not
      ]

  pub writes : (m n : BTreeMap K (Option X)) (key : K) (old : Option X) (w : X) → Some old ≡ tree.get R m key → WritesThrough R (R key) m (Some w) n → WritesValue R m key n w
  writes m n key old w stands h = record { values = written o same m n key (Some w) (Some w) old stands refl h; kept = stays m n key old (Some w) stands h }
