-- Halves of one base and parent among entries that fit are one entry.
use Rattle.std.proofs.Common.{◌≡◌, ◌⊎◌, ℕ, true, List, [], ◌∷◌, sym, ap, ◌∙◌, subst, inl, inr}
use Rattle.cell_sight.specs.Member.{Member}
use Rattle.hb_layout.specs.declared.base.Base.{Base}
use Rattle.core_model.specs.declared.entry.Entry.{Entry}
use Rattle.core_model.specs.declared.entry.Entry.TheVariants.{Own, Link, Half}
use Rattle.core_model.specs.Entries.{is_half, side_of}
use Rattle.core_sound.proofs.HoldsFound.{some_is}
use Rattle.core_sound.proofs.Sources.{each-member}
use Rattle.core_points.specs.Points.{half_key, HaveOneSide}
use Rattle.core_points.proofs.Pointers.{half_too}
use Rattle.core_opens.specs.Fits.{EachTwo, MayStandBeside}

two_members : {X : Type 0} (R : X → X → Type 0) (xs : List X) (x y : X) → EachTwo R xs → Member x xs → Member y xs → (x ≡ y) ⊎ (R x y ⊎ R y x)
two_members R [] x y h m n = absurd m
two_members R (z ∷ zs) x y h (inl e) (inl f) = inl (sym e ∙ f)
two_members R (z ∷ zs) x y h (inl e) (inr n) = inr (inl (subst (λ v. R v y) e (each-member (R z) zs y h.0 n)))
two_members R (z ∷ zs) x y h (inr m) (inl f) = inr (inr (subst (λ v. R v x) f (each-member (R z) zs x h.0 m)))
two_members R (z ∷ zs) x y h (inr m) (inr n) = two_members R zs x y h.1 m n

not_beside : {P : Type 0} (x y : Entry) → is_half x ≡ true → half_key x ≡ half_key y → MayStandBeside x y → P
not_beside (Own b) y h k m = absurd (cc)
not_beside (Link b) y h k m = absurd (cc)
not_beside (Half b l p r t) (Own c) h k m = absurd (cc)
not_beside (Half b l p r t) (Link c) h k m = absurd (cc)
not_beside (Half b l p r t) (Half c n q s u) h k m = elim m [
  | inl d ↦ absurd (d (ap (λ (v : Base × List ℕ). v.0) (some_is k)))
  | inr d ↦ absurd (d (ap (λ (v : Base × List ℕ). v.1) (some_is k)))
]

pub one_side : (es : List Entry) → EachTwo MayStandBeside es → HaveOneSide (λ e. Member e es)
one_side es h x y m n u v = elim (two_members MayStandBeside es x y h m n) [
  | inl e ↦ ap side_of e
  | inr k ↦ elim k [ inl d ↦ not_beside x y u v d | inr d ↦ not_beside y x (half_too x y u v) (sym v) d ]
]
