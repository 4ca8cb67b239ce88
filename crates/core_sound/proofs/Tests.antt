-- Tests, and functions with another value at one key.
use Rattle.std.proofs.Common.{◌≡◌, ℕ, ◌==◌, ◌&&◌, Bool, true, false, cond, List, refl, sym, arith}
use Rattle.std.proofs.lemmas.Bool.Decides.{nat_tests}
use Rattle.std.specs.Cmp.Lexicographic.{same_text, nat_list_eq_equiv}
use Rattle.hb_layout.specs.declared.base.Base.{Base}
use Rattle.plain_model.specs.declared.region_key.RegionKey.{RegionKey}
use Rattle.hb_cell.specs.Order.{same_bytes}
use Rattle.plain_model.specs.Keys.{same_key}
use Rattle.core_model.specs.Keys.{same_base}

-- what a choice gives, by either side
pub cond_cases : {A P : Type 0} (b : Bool) (x o y : A) → cond b x o ≡ y → (b ≡ true → x ≡ y → P) → (b ≡ false → o ≡ y → P) → P
cond_cases true x o y e f g = f refl e
cond_cases false x o y e f g = g refl e

pub same_number : (m n : ℕ) → (m == n) ≡ true → m ≡ n
same_number m n e = grind (arith, nat_tests)

pub both_left : (a b : Bool) → (a && b) ≡ true → a ≡ true
both_left true b e = refl
both_left false b e = e

pub both_right : (a b : Bool) → (a && b) ≡ true → b ≡ true
both_right true b e = e
both_right false b e = absurd (cc)

pub same_bytes-true : (a b : List ℕ) → same_bytes a b ≡ true → a ≡ b
same_bytes-true a b e = same_text a b (sym e)

pub same_bytes-self : (a : List ℕ) → same_bytes a a ≡ true
same_bytes-self a = nat_list_eq_equiv.refl a

key_path : (a b : RegionKey) → a.table ≡ b.table → a.region ≡ b.region → a ≡ b
key_path a b p q = λ i. record { table = p i; region = q i }

pub same_key-true : (a b : RegionKey) → same_key a b ≡ true → a ≡ b
same_key-true a b e = key_path a b (same_bytes-true _ _ (both_left (same_bytes a.table b.table) _ e)) (same_bytes-true _ _ (both_right (same_bytes a.table b.table) _ e))

base_path : (b c : Base) → b.table ≡ c.table → b.region ≡ c.region → b.family ≡ c.family → b.name ≡ c.name → b ≡ c
base_path b c p q r s = λ i. record { table = p i; region = q i; family = r i; name = s i }

pub same_base-true : (b c : Base) → same_base b c ≡ true → b ≡ c
same_base-true b c e =
    let r = both_right (same_bytes b.table c.table) _ e in
    let s = both_right (same_bytes b.region c.region) _ r in
    base_path b c (same_bytes-true _ _ (both_left (same_bytes b.table c.table) _ e)) (same_bytes-true _ _ (both_left (same_bytes b.region c.region) _ r))
    (same_bytes-true _ _ (both_left (same_bytes b.family c.family) _ s)) (same_bytes-true _ _ (both_right (same_bytes b.family c.family) _ s))

pub same_base-self : (b : Base) → same_base b b ≡ true
same_base-self b = (λ i. (same_bytes-self b.table i) && ((same_bytes-self b.region i) && ((same_bytes-self b.family i) && (same_bytes-self b.name i))))
