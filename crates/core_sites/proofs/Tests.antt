-- Tests that compute.
use Rattle.std.proofs.Common.{◌≡◌, ℕ, ◌==◌, ◌&&◌, Bool, true, false, List, refl, sym, ap, ◌∙◌, arith}
use Rattle.std.proofs.lemmas.Bool.Decides.{nat_tests}
use Rattle.std.specs.Cmp.Lexicographic.{same_text, nat_list_eq_equiv}
use Rattle.hb_cell.specs.Order.{same_bytes}
use Rattle.hb_layout.specs.declared.base.Base.{Base}
use Rattle.core_model.specs.Disk.{same_site}
use Rattle.core_model.specs.Keys.{same_base}
use Rattle.core_model.specs.Site.{Site, Epoch, Tmp, RegionSet, StoreList, Live, Archived, BackRefTo, Info, Manifest, WorkInfo, WorkManifest, Staged}

pub both_left : (a b : Bool) → (a && b) ≡ true → a ≡ true
both_left true b e = refl
both_left false b e = e

pub both_right : (a b : Bool) → (a && b) ≡ true → b ≡ true
both_right true b e = e
both_right false b e = absurd (cc)

pub both : {a b : Bool} → a ≡ true → b ≡ true → (a && b) ≡ true
both e f = λ i. e i && f i

same_number : (m n : ℕ) → (m == n) ≡ true → m ≡ n
same_number m n e = grind (arith, nat_tests)

self_number : (n : ℕ) → (n == n) ≡ true
self_number n = grind (arith, nat_tests)

pub same_bytes-true : (a b : List ℕ) → same_bytes a b ≡ true → a ≡ b
same_bytes-true a b e = same_text a b (sym e)

pub same_bytes-self : (a : List ℕ) → same_bytes a a ≡ true
same_bytes-self a = nat_list_eq_equiv.refl a

pub base_equal : (b c : Base) → b.table ≡ c.table → b.region ≡ c.region → b.family ≡ c.family → b.name ≡ c.name → b ≡ c
base_equal b c p q r s = λ i. record { table = p i; region = q i; family = r i; name = s i }

same_base-true : (b c : Base) → same_base b c ≡ true → b ≡ c
same_base-true b c e =
    let r = both_right (same_bytes b.table c.table) _ e in
    let s = both_right (same_bytes b.region c.region) _ r in
    base_equal b c (same_bytes-true _ _ (both_left (same_bytes b.table c.table) _ e)) (same_bytes-true _ _ (both_left (same_bytes b.region c.region) _ r))
    (same_bytes-true _ _ (both_left (same_bytes b.family c.family) _ s)) (same_bytes-true _ _ (both_right (same_bytes b.family c.family) _ s))

same_base-self : (b : Base) → same_base b b ≡ true
same_base-self b = both (same_bytes-self b.table) (both (same_bytes-self b.region) (both (same_bytes-self b.family) (same_bytes-self b.name)))

-- ---- sites

pub same_site-true : (p q : Site) → same_site p q ≡ true → p ≡ q
same_site-true (Epoch m) (Epoch n) e = ap Epoch (same_number m n e)
same_site-true (Tmp m) (Tmp n) e = ap Tmp (same_bytes-true m n e)
same_site-true (RegionSet t m) (RegionSet u n) e = ap (λ x. RegionSet x m) (same_bytes-true t u (both_left _ _ e)) ∙ ap (RegionSet u) (same_number m n (both_right (same_bytes t u) _ e))
same_site-true (StoreList t r m) (StoreList u q n) e =
    let k = both_right (same_bytes t u) _ e in
    ap (λ x. StoreList x r m) (same_bytes-true t u (both_left _ _ e)) ∙ ap (λ x. StoreList u x m) (same_bytes-true r q (both_left _ _ k)) ∙ ap (StoreList u q) (same_number m n (both_right (same_bytes r q) _ k))
same_site-true (Live b) (Live c) e = ap Live (same_base-true b c e)
same_site-true (Archived b) (Archived c) e = ap Archived (same_base-true b c e)
same_site-true (BackRefTo b m) (BackRefTo c n) e = ap (λ x. BackRefTo x m) (same_base-true b c (both_left _ _ e)) ∙ ap (BackRefTo c) (same_bytes-true m n (both_right (same_base b c) _ e))
same_site-true (Info m) (Info n) e = ap Info (same_bytes-true m n e)
same_site-true (Manifest m) (Manifest n) e = ap Manifest (same_bytes-true m n e)
same_site-true (WorkInfo m) (WorkInfo n) e = ap WorkInfo (same_bytes-true m n e)
same_site-true (WorkManifest m) (WorkManifest n) e = ap WorkManifest (same_bytes-true m n e)
same_site-true (Staged d f n) (Staged e g m) i =
    let k = both_right (same_bytes d e) _ i in
    ap (λ x. Staged x f n) (same_bytes-true d e (both_left _ _ i)) ∙ ap (λ x. Staged e x n) (same_bytes-true f g (both_left _ _ k)) ∙ ap (Staged e g) (same_bytes-true n m (both_right (same_bytes f g) _ k))
same_site-true _ _ e = absurd (cc)

pub same_site-self : (p : Site) → same_site p p ≡ true
same_site-self (Epoch m) = self_number m
same_site-self (Tmp m) = same_bytes-self m
same_site-self (RegionSet t m) = both (same_bytes-self t) (self_number m)
same_site-self (StoreList t r m) = both (same_bytes-self t) (both (same_bytes-self r) (self_number m))
same_site-self (Live b) = same_base-self b
same_site-self (Archived b) = same_base-self b
same_site-self (BackRefTo b m) = both (same_base-self b) (same_bytes-self m)
same_site-self (Info m) = same_bytes-self m
same_site-self (Manifest m) = same_bytes-self m
same_site-self (WorkInfo m) = same_bytes-self m
same_site-self (WorkManifest m) = same_bytes-self m
same_site-self (Staged d f n) = both (same_bytes-self d) (both (same_bytes-self f) (same_bytes-self n))
