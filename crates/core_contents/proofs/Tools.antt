-- Facts at each region, where the value at one is new.
use Rattle.std.proofs.Common.{◌≡◌, true, false, cond, ap, sym, refl, subst}
use Rattle.plain_model.specs.declared.region_key.RegionKey.{RegionKey}
use Rattle.plain_model.specs.Keys.{same_key, set_at}
use Rattle.core_sound.proofs.Tests.{same_key-true}
use Rattle.core_sound.proofs.Vacant.{same_key-self}

-- a fact at each region, where the value at one is new
pub set_at-each : {A : Type 0} (P : RegionKey → A → Type 0) (f : RegionKey → A) (r : RegionKey) (v : A) → ((q : RegionKey) → P q (f q)) → P r v → (q : RegionKey) → P q (set_at r v f q)
set_at-each P f r v h k q = elim (same_key q r) as (λ b. same_key q r ≡ b → P q (cond b v (f q))) [
  | true ↦ λ e. subst (λ m. P m v) (sym (same_key-true q r e)) k
  | false ↦ λ e. h q
] refl

-- the same of two values
pub set_at-both : {A B : Type 0} (P : RegionKey → A → B → Type 0) (f : RegionKey → A) (g : RegionKey → B) (r : RegionKey) (v : A) (w : B) → ((q : RegionKey) → P q (f q) (g q)) → P r v w
    → (q : RegionKey) → P q (set_at r v f q) (set_at r w g q)
set_at-both P f g r v w h k q = elim (same_key q r) as (λ b. same_key q r ≡ b → P q (cond b v (f q)) (cond b w (g q))) [
  | true ↦ λ e. subst (λ m. P m v w) (sym (same_key-true q r e)) k
  | false ↦ λ e. h q
] refl

-- the value that is new
pub set_here : {A : Type 0} (r : RegionKey) (v : A) (f : RegionKey → A) → set_at r v f r ≡ v
set_here r v f = ap (λ b. cond b v (f r)) (same_key-self r)
