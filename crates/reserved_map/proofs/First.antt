-- A map of pairs, one pair more.
use Rattle.std.proofs.Common.{◌≡◌, List, [], ◌∷◌, ◌++◌, Option, Some, None, Bool, true, false, cond, refl, sym, ap, ◌∙◌, is_some}
use Rattle.std.specs.FinMap.{IsAntisymmetric, find, from_entries, insert, get-from_entries, get_tied, same_map, from_entries_push}
use Rattle.std.specs.Cmp.{IsTotalOrder, Equal-is}
use Rattle.std.specs.Ordering.{eq_by_cmp}
use Rattle.std.specs.declared.cmp.Ordering.{Ordering}
use Rattle.reserved_map.specs.Changes.{with_first}

-- the first of two
abbrev either : {X : Type 0} → Option X → Option X → Option X
either None o = o
either (Some x) o = Some x

either-cond : {X : Type 0} (b : Bool) (x y z : Option X) → is_some x ≡ true → cond b x (either y z) ≡ either (cond b x y) z
either-cond true None y z h = absurd (cc)
either-cond true (Some v) y z h = refl
either-cond false x y z h = refl

module _ {K X : Type 0} {R : K → K → Ordering} (o : IsTotalOrder R) (same : IsAntisymmetric R) where
  find-push : (es : List (K × X)) (k : K) (v : X) (q : K) → find R q (es ++ (k, v) ∷ []) ≡ either (find R q es) (cond (eq_by_cmp R q k) (Some v) None)
  find-push [] k v q = refl
  find-push (e ∷ es) k v q = ap (cond (eq_by_cmp R q e.0) (Some e.1)) (find-push es k v q) ∙ either-cond (eq_by_cmp R q e.0) (Some e.1) (find R q es) (cond (eq_by_cmp R q k) (Some v) None) refl

  had : (x : Option X) (b : Bool) (v : X) → (b ≡ true → is_some x ≡ true) → either x (cond b (Some v) None) ≡ x
  had None true v h = absurd (let e : false ≡ true = h refl in cc)
  had None false v h = refl
  had (Some w) b v h = refl

  -- a pair whose key has a value changes nothing
  push-had : (es : List (K × X)) (k : K) (v : X) → is_some (find R k es) ≡ true → from_entries {R = R} (es ++ (k, v) ∷ []) ≡ from_entries es
  push-had es k v h = same_map o same _ _ (λ q.
      get-from_entries o (es ++ (k, v) ∷ []) q
      ∙ find-push es k v q
      ∙ had (find R q es) (eq_by_cmp R q k) v (λ e. ap is_some (sym (get-from_entries o es q) ∙ sym (get_tied o (from_entries es) q k ((Equal-is (R q k)).0 e)) ∙ get-from_entries o es k) ∙ h)
      ∙ sym (get-from_entries o es q))

  none : (x : Option X) → is_some x ≡ false → x ≡ None
  none None h = refl
  none (Some v) h = absurd (cc)

  -- one pair more
  pub push-first : (es : List (K × X)) (k : K) (v : X) → from_entries {R = R} (es ++ (k, v) ∷ []) ≡ with_first (from_entries es) k v
  push-first es k v = by (is_some (find R k es)) refl
    where
      by : (b : Bool) → is_some (find R k es) ≡ b → from_entries {R = R} (es ++ (k, v) ∷ []) ≡ with_first (from_entries es) k v
      by true h = push-had es k v h ∙ sym (ap (λ x. cond (is_some x) (from_entries {R = R} es) (insert (from_entries {R = R} es) k v)) (get-from_entries o es k) ∙ ap (λ b. cond b (from_entries {R = R} es) (insert (from_entries {R = R} es) k v)) h)
      by false h = from_entries_push o same es k v (none _ h) ∙ sym (ap (λ x. cond (is_some x) (from_entries {R = R} es) (insert (from_entries {R = R} es) k v)) (get-from_entries o es k) ∙ ap (λ b. cond b (from_entries {R = R} es) (insert (from_entries {R = R} es) k v)) h)
