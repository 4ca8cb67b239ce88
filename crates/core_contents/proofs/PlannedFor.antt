-- Which entries of a plan are for which region.
use Rattle.std.proofs.Common.{◌≡◌, ℕ, ◌+◌, true, false, cond, List, [], ◌∷◌, ◌++◌, refl, sym, ap, ◌∙◌, inl, inr, append_assoc}
use Rattle.std.specs.Prelude.{map, zip}
use Rattle.std.specs.List.{AllZip}
use Rattle.std.proofs.lemmas.List.{append-nil}
use Rattle.hb_cell.specs.Order.{same_bytes}
use Rattle.hb_records.specs.declared.region_info.RegionInfo.{RegionInfo}
use Rattle.plain_model.specs.declared.region_key.RegionKey.{RegionKey}
use Rattle.plain_model.specs.Keys.{key_of, encoded}
use Rattle.cell_sight.specs.Member.{Member}
use Rattle.core_model.specs.declared.entry.Entry.{Entry}
use Rattle.core_model.specs.declared.plan.Plan.{Plan}
use Rattle.core_model.specs.declared.snapshot.CopiedRegion.{CopiedRegion}
use Rattle.core_model.specs.Plans.{planned_for, in_region, copies_in, copied_regions, copy_of}
use Rattle.core_sound.proofs.Tests.{same_bytes-self, same_bytes-true}
use Rattle.core_contents.specs.PlanFacts.{CopyPlan}

pub planned-append : (xs ys : List (List ℕ × Entry)) (r : RegionKey) → planned_for (xs ++ ys) r ≡ planned_for xs r ++ planned_for ys r
planned-append [] ys r = refl
planned-append (x ∷ xs) ys r = let h = planned-append xs ys r in (elim (same_bytes x.0 r.region) as (λ b. cond b (x.1 ∷ planned_for (xs ++ ys) r) (planned_for (xs ++ ys) r) ≡ cond b (x.1 ∷ planned_for xs r) (planned_for xs r) ++ planned_for ys r) [
  | true ↦ ap (λ es. x.1 ∷ es) h
  | false ↦ h
])

pub planned-own : (i : RegionInfo) (es : List Entry) → planned_for (in_region i es) (key_of i) ≡ es
planned-own i [] = refl
planned-own i (e ∷ es) = ap (λ b. cond b (e ∷ planned_for (in_region i es) (key_of i)) (planned_for (in_region i es) (key_of i))) (same_bytes-self (encoded i)) ∙ ap (λ xs. e ∷ xs) (planned-own i es)

pub planned-other : (i : RegionInfo) (es : List Entry) (r : RegionKey) → (encoded i ≡ r.region → ⊥) → planned_for (in_region i es) r ≡ []
planned-other i [] r n = refl
planned-other i (e ∷ es) r n = (elim (same_bytes (encoded i) r.region) as (λ b. same_bytes (encoded i) r.region ≡ b → cond b (e ∷ planned_for (in_region i es) r) (planned_for (in_region i es) r) ≡ []) [
  | true ↦ λ d. absurd (n (same_bytes-true (encoded i) r.region d))
  | false ↦ λ d. planned-other i es r n
]) refl

-- no two of some regions have one encoded name
abbrev pub AreDistinct : List RegionInfo → Type 0
AreDistinct [] = Unit {0}
AreDistinct (i ∷ is) = ((j : RegionInfo) → Member j is → encoded i ≡ encoded j → ⊥) × AreDistinct is

-- as many
abbrev pub AsMany : List RegionInfo → List CopiedRegion → Type 0
AsMany [] [] = Unit {0}
AsMany (i ∷ is) (r ∷ rs) = AsMany is rs
AsMany _ _ = ⊥

pub as_many : (table : List ℕ) (id : ℕ) (rs : List CopiedRegion) → AsMany (copied_regions table id rs) rs
as_many table id [] = tt
as_many table id (r ∷ rs) = as_many table (id + 1) rs

-- the copies of other regions are not for this one
copies-other : (is : List RegionInfo) (rs : List CopiedRegion) (r : RegionKey) → ((j : RegionInfo) → Member j is → encoded j ≡ r.region → ⊥) → planned_for (copies_in (zip is rs)) r ≡ []
copies-other [] rs r n = refl
copies-other (i ∷ is) [] r n = refl
copies-other (i ∷ is) (c ∷ rs) r n = planned-append (in_region i (map copy_of c.entries)) (copies_in (zip is rs)) r
    ∙ ap (λ es. es ++ planned_for (copies_in (zip is rs)) r) (planned-other i (map copy_of c.entries) r (n i (inl refl))) ∙ copies-other is rs r (λ j m. n j (inr m))

-- what is planned of copies, region by region
pub copies-plan : (plan : Plan) (before : List (List ℕ × Entry)) (is : List RegionInfo) (rs : List CopiedRegion) → plan.entries ≡ before ++ copies_in (zip is rs) → ((j : RegionInfo) → Member j is → planned_for before (key_of j) ≡ []) → AreDistinct is → AsMany is rs
    → AllZip (CopyPlan plan) is rs
copies-plan plan before [] [] e b d n = tt
copies-plan plan before (i ∷ is) (r ∷ rs) e b d n = (
  record {
    entries = ap (λ es. planned_for es (key_of i)) e ∙ planned-append before (in_region i xs ++ copies_in (zip is rs)) (key_of i) ∙ ap (λ es. es ++ planned_for (in_region i xs ++ copies_in (zip is rs)) (key_of i)) (b i (inl refl))
        ∙ planned-append (in_region i xs) (copies_in (zip is rs)) (key_of i) ∙ ap (λ es. planned_for (in_region i xs) (key_of i) ++ es) (copies-other is rs (key_of i) (λ j m z. d.0 j m (sym z)))
        ∙ append-nil (planned_for (in_region i xs) (key_of i)) ∙ planned-own i xs;
  },
  copies-plan plan (before ++ in_region i xs) is rs (e ∙ sym (append_assoc before (in_region i xs) (copies_in (zip is rs))))
      (λ j m. planned-append before (in_region i xs) (key_of j) ∙ ap (λ es. es ++ planned_for (in_region i xs) (key_of j)) (b j (inr m)) ∙ planned-other i xs (key_of j) (d.0 j m)) d.1 n,
)
  where
    xs : List Entry
    xs = map copy_of r.entries
copies-plan plan before [] (r ∷ rs) e b d n = absurd n
copies-plan plan before (i ∷ is) [] e b d n = absurd n

-- ---- regions with different keys

member-split : {X : Type 0} (x : X) (xs : List X) → Member x xs → (front : List X) × (behind : List X) × (xs ≡ front ++ (x ∷ behind))
member-split x [] m = absurd m
member-split x (y ∷ ys) (inl e) = ([], ys, ap (λ z. z ∷ ys) e)
member-split x (y ∷ ys) (inr m) = let w = member-split x ys m in (y ∷ w.0, w.1, ap (λ zs. y ∷ zs) w.2)

-- regions of one table, no two of which have one key, are distinct
pub distinct : (t : List ℕ) (is : List RegionInfo) → ((i : RegionInfo) → Member i is → i.table ≡ t)
    → ((before between behind : List RegionInfo) (r q : RegionInfo) → is ≡ before ++ (r ∷ between ++ (q ∷ behind)) → key_of r ≡ key_of q → ⊥) → AreDistinct is
distinct t [] k n = tt
distinct t (i ∷ is) k n = (
  λ j m e. let w = member-split j is m in n [] w.0 w.1 i j (ap (λ zs. i ∷ zs) w.2) (λ x. record { table = (k i (inl refl) ∙ sym (k j (inr m))) x; region = e x }),
  distinct t is (λ j m. k j (inr m)) (λ before between behind r q e. n (i ∷ before) between behind r q (ap (λ zs. i ∷ zs) e)),
)

pub copied_table : (table : List ℕ) (id : ℕ) (rs : List CopiedRegion) (i : RegionInfo) → Member i (copied_regions table id rs) → i.table ≡ table
copied_table table id [] i m = absurd m
copied_table table id (r ∷ rs) i (inl e) = ap (λ (x : RegionInfo). x.table) (sym e)
copied_table table id (r ∷ rs) i (inr m) = copied_table table (id + 1) rs i m
