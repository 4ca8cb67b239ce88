-- The regions that were drawn, with those of a step.
use Rattle.std.proofs.Common.{◌≡◌, ℕ, ◌+◌, ◌<◌, suc, add-one, drop, drop-cons, get_or, length, Bool, true, false, cond, List, [], ◌∷◌, ◌++◌, map, Some, refl, sym, ap, subst, ◌∙◌, ◌⊎◌, inl, inr, rules}
use Rattle.std.specs.Prelude.{is_some}
use Rattle.std.specs.FinMap.{get, insert, get-insert}
use Rattle.std.specs.Cmp.{IsTotalOrder, Equal-is, tied_itself}
use Rattle.std.specs.Cmp.Rules.{comparing}
use Rattle.std.specs.Ordering.{eq_by_cmp, is_eq, on, then_cmp}
use Rattle.std.specs.declared.cmp.Ordering.{Ordering}
use Rattle.std.proofs.lemmas.List.{append-nil, append_assoc}
use Rattle.cell_sight.specs.Member.{Member}
use Rattle.hb_cell.specs.Order.{bytes_cmp}
use Rattle.reserved_map.specs.Keys.{region_cmp, region_cmp-exact}
use Rattle.plain_model.specs.declared.region_key.RegionKey.{RegionKey}
use Rattle.core_model.specs.declared.step.Started.TheVariants as started
use Rattle.core_model.specs.declared.step.Step.{Step}
use Rattle.core_model.specs.declared.step.Step.TheVariants as step
use Rattle.plain_model.specs.Keys.{key_of}
use Rattle.core_model.specs.FileChanges.{drawn_by}
use Rattle.world_state.specs.Changes.{keys_drawn}
use Rattle.world_state.specs.Parts.{AreDrawn, Drawn, with_all}

-- ---- members

front : {X : Type 0} (x : X) (xs ys : List X) → Member x xs → Member x (xs ++ ys)
front x [] ys i = absurd i
front x (y ∷ xs) ys (inl e) = inl e
front x (y ∷ xs) ys (inr i) = inr (front x xs ys i)

behind : {X : Type 0} (x : X) (xs ys : List X) → Member x ys → Member x (xs ++ ys)
behind x [] ys i = i
behind x (y ∷ xs) ys i = inr (behind x xs ys i)

either : {X : Type 0} (x : X) (xs ys : List X) → Member x (xs ++ ys) → Member x xs ⊎ Member x ys
either x [] ys i = inr i
either x (y ∷ xs) ys (inl e) = inl (inl e)
either x (y ∷ xs) ys (inr i) = elim (either x xs ys i) [ inl k ↦ inl (inr k) | inr k ↦ inr k ]

-- ---- regions

abbrev by_parts : RegionKey → RegionKey → Ordering
by_parts = then_cmp (on (λ k. k.table) bytes_cmp) (on (λ k. k.region) bytes_cmp)

pub region_cmp-total : IsTotalOrder region_cmp
region_cmp-total = let h : IsTotalOrder by_parts = search (comparing, rules) in h

same_region : (a b : RegionKey) → eq_by_cmp region_cmp a b ≡ true → a ≡ b
same_region a b e = region_cmp-exact a b ((Equal-is (region_cmp a b)).0 e)

region_self : (a b : RegionKey) → a ≡ b → eq_by_cmp region_cmp a b ≡ true
region_self a b e = subst (λ x. eq_by_cmp region_cmp a x ≡ true) e (ap is_eq (tied_itself region_cmp-total a))

-- with one region more
drawn_one : (m : Drawn) (rs : List RegionKey) (k : RegionKey) → AreDrawn m rs → AreDrawn (insert m k tt) (rs ++ k ∷ [])
drawn_one m rs k h r = (λ e. there (eq_by_cmp region_cmp r k) refl (sym (ap is_some (get-insert region_cmp-total m k tt r)) ∙ e), λ i. ap is_some (get-insert region_cmp-total m k tt r) ∙ here (either r rs (k ∷ []) i))
  where
    there : (b : Bool) → eq_by_cmp region_cmp r k ≡ b → is_some (cond (eq_by_cmp region_cmp r k) (Some tt) (get m r)) ≡ true → Member r (rs ++ k ∷ [])
    there true e i = behind r rs (k ∷ []) (inl (sym (same_region r k e)))
    there false e i = front r rs (k ∷ []) ((h r).0 (sym (ap (λ b. is_some (cond b (Some tt) (get m r))) e) ∙ i))

    or_else : (b : Bool) → is_some (get m r) ≡ true → is_some (cond b (Some tt) (get m r)) ≡ true
    or_else true i = refl
    or_else false i = i

    here : Member r rs ⊎ Member r (k ∷ []) → is_some (cond (eq_by_cmp region_cmp r k) (Some tt) (get m r)) ≡ true
    here (inl i) = or_else (eq_by_cmp region_cmp r k) ((h r).1 i)
    here (inr (inl e)) = ap (λ b. is_some (cond b (Some tt) (get m r))) (region_self r k (sym e))
    here (inr (inr i)) = absurd i

drawn_all : (ks : List RegionKey) (m : Drawn) (rs : List RegionKey) → AreDrawn m rs → AreDrawn (with_all ks m) (rs ++ ks)
drawn_all [] m rs h = subst (AreDrawn m) (sym (append-nil rs)) h
drawn_all (k ∷ ks) m rs h = subst (AreDrawn (with_all ks (insert m k tt))) (append_assoc rs (k ∷ []) ks) (drawn_all ks (insert m k tt) (rs ++ k ∷ []) (drawn_one m rs k h))

pub drawn_step : (p : Step) (m : Drawn) (rs : List RegionKey) → AreDrawn m rs → AreDrawn (with_all (keys_drawn p) m) (drawn_by p rs)
drawn_step (step.Start who job (started.Live actor) drawn) m rs h = drawn_all (map key_of drawn.regions) m rs h
drawn_step (step.Start who job (started.Refused reply) drawn) m rs h = h
drawn_step _ m rs h = h

-- ---- the loop over the keys

drop_item : (ks : List RegionKey) (i : ℕ) (k : RegionKey) → i < length ks → k ≡ get_or ks i k → drop i ks ≡ k ∷ drop (i + 1) ks
drop_item ks i k l is = rw (add-one, drop-cons ks i k) (ap (λ x. x ∷ drop (suc i) ks) (sym is))

pub one_more : (ks : List RegionKey) (i : ℕ) (k : RegionKey) (m new : Drawn) → i < length ks → k ≡ get_or ks i k → new ≡ insert m k tt → with_all (drop (i + 1) ks) new ≡ with_all (drop i ks) m
one_more ks i k m new l is put = ap (with_all (drop (i + 1) ks)) put ∙ ap (λ xs. with_all xs m) (sym (drop_item ks i k l is))
