-- The halves of one base and parent that are planned for a region serve one side of one row.
use Rattle.std.proofs.Common.{◌≡◌, ◌≢◌, ℕ, Bool, true, false, cond, List, [], ◌∷◌, Option, Some, None, refl, sym, ap, ◌∙◌, subst, inl, inr}
use Rattle.std.specs.Prelude.{map, IsSome}
use Rattle.std.specs.FinMap.{get}
use Rattle.std.specs.List.{AllZip, AllByRecursion}
use Rattle.cell_sight.specs.Member.{Member}
use Rattle.hb_cell.specs.Order.{same_bytes}
use Rattle.hb_records.specs.declared.region_info.RegionInfo.{RegionInfo}
use Rattle.plain_model.specs.declared.job.Job.{Job}
use Rattle.plain_model.specs.declared.job.Job.TheVariants as jobs
use Rattle.plain_model.specs.declared.region_key.RegionKey.{RegionKey}
use Rattle.plain_model.specs.Keys.{key_of}
use Rattle.plain_model.specs.LiveEvents.{job_of}
use Rattle.core_model.specs.declared.entry.Entry.{Entry}
use Rattle.core_model.specs.declared.entry.Entry.TheVariants.{Own, Link, Half}
use Rattle.core_model.specs.declared.plan.Plan.{Plan}
use Rattle.core_model.specs.declared.snapshot.Snapshot.{Snapshot}
use Rattle.core_model.specs.ActorFacts.{ComesFrom}
use Rattle.core_model.specs.Actors.{Plans}
use Rattle.core_model.specs.Entries.{base_of, is_half, side_of}
use Rattle.core_model.specs.Plans.{half_of, copy_of, planned_for}
use Rattle.core_model.specs.Sound.{IsSound}
use Rattle.core_model.specs.State.{Parts}
use Rattle.core_sound.proofs.Sources.{map-member, each-member}
use Rattle.core_sound.proofs.Tests.{same_bytes-self}
use Rattle.core_contents.specs.Faithful.{IsFaithful}
use Rattle.core_contents.specs.PlanFacts.{CopyPlan, IsPlan}
use Rattle.core_contents.proofs.Changed.{used_there}
use Rattle.core_points.specs.Points.{half_key, HaveOneSide, HaveSides}

-- ---- what is planned for a region

member-planned : (es : List (List ℕ × Entry)) (r : RegionKey) (e : Entry) → Member (r.region, e) es → Member e (planned_for es r)
member-planned [] r e m = absurd m
member-planned (x ∷ xs) r e (inl d) =
    subst (λ b. Member e (cond b (x.1 ∷ planned_for xs r) (planned_for xs r))) (sym (ap (λ (y : List ℕ × Entry). same_bytes y.0 r.region) d ∙ same_bytes-self r.region)) (inl (ap (λ (y : List ℕ × Entry). y.1) d))
member-planned (x ∷ xs) r e (inr m) = elim (same_bytes x.0 r.region) as (λ b. Member e (cond b (x.1 ∷ planned_for xs r) (planned_for xs r))) [ true ↦ inr (member-planned xs r e m) | false ↦ member-planned xs r e m ]

-- each planned entry is made of one of some entries
made_of : (f : Entry → Entry) (es : List Entry) (plan : Plan) (r : RegionKey) (e : Entry) → planned_for plan.entries r ≡ map f es → Member (r.region, e) plan.entries → (x : Entry) × Member x es × (f x ≡ e)
made_of f es plan r e k m = map-member f e es (subst (Member e) k (member-planned plan.entries r e m))

-- ---- the halves of a split

half_side : (parent row : List ℕ) (top : Bool) (e : Entry) → is_half e ≡ false → side_of (half_of parent row top e) ≡ Some (row, top)
half_side parent row top (Own b) n = refl
half_side parent row top (Link b) n = refl
half_side parent row top (Half b l p r t) n = absurd (cc)

split_side : (parent row : List ℕ) (top : Bool) (es : List Entry) (plan : Plan) (r : RegionKey) → AllByRecursion (λ e. is_half e ≡ false) es → planned_for plan.entries r ≡ map (half_of parent row top) es
    → (e : Entry) → Member (r.region, e) plan.entries → side_of e ≡ Some (row, top)
split_side parent row top es plan r w k e m =
    let v = made_of (half_of parent row top) es plan r e k m in
    ap side_of (sym v.2) ∙ half_side parent row top v.0 (each-member (λ x. is_half x ≡ false) es v.0 w v.1)

-- ---- the copies of a snapshot's entries

copy_half : (e : Entry) → is_half (copy_of e) ≡ is_half e
copy_half (Own b) = refl
copy_half (Link b) = refl
copy_half (Half b l p r t) = refl

copy_side : (e : Entry) → side_of (copy_of e) ≡ side_of e
copy_side (Own b) = refl
copy_side (Link b) = refl
copy_side (Half b l p r t) = refl

copy_key : (e : Entry) → half_key (copy_of e) ≡ half_key e
copy_key (Own b) = refl
copy_key (Link b) = refl
copy_key (Half b l p r t) = refl

copies_side : (es : List Entry) (plan : Plan) (r : RegionKey) → planned_for plan.entries r ≡ map copy_of es → HaveOneSide (λ e. Member e es) → HaveOneSide (λ e. Member (r.region, e) plan.entries)
copies_side es plan r k s x y p q u v =
    let a = made_of copy_of es plan r x k p in
    let b = made_of copy_of es plan r y k q in
    let key = sym (copy_key a.0) ∙ ap half_key a.2 ∙ v ∙ sym (ap half_key b.2) ∙ copy_key b.0 in
    ap side_of (sym a.2) ∙ copy_side a.0 ∙ s a.0 b.0 a.1 b.1 (sym (copy_half a.0) ∙ ap is_half a.2 ∙ u) key ∙ sym (copy_side b.0) ∙ ap side_of b.2

zip_first : {A B : Type 0} (P : A → B → Type 0) (xs : List A) (ys : List B) (x : A) → AllZip P xs ys → Member x xs → (y : B) × Member y ys × P x y
zip_first P [] [] x h m = absurd m
zip_first P (z ∷ xs) (y ∷ ys) x h (inl e) = (y, inl refl, subst (λ v. P v y) e h.0)
zip_first P (z ∷ xs) (y ∷ ys) x h (inr m) = let w = zip_first P xs ys x h.1 m in (w.0, inr w.1, w.2)
zip_first P [] (y ∷ ys) x h m = absurd h
zip_first P (z ∷ xs) [] x h m = absurd h

copied_side : (s : Parts) (a : ℕ) (i : RegionInfo) (name : List ℕ) (o : Option Snapshot) → get s.snapshots name ≡ o → IsSome o → HaveSides s.plain.tables s.lists s.captures s.snapshots → Member i (s.plans a).regions
    → ((x : Snapshot) → get s.snapshots name ≡ Some x → AllZip (CopyPlan (s.plans a)) (s.plans a).regions x.regions) → HaveOneSide (λ e. Plans s.plans a (key_of i) e)
copied_side s a i name None e n k m g = absurd (cc)
copied_side s a i name (Some x) e n k m g =
    let w = zip_first (CopyPlan (s.plans a)) (s.plans a).regions x.regions i (g x e) m in
    copies_side w.0.entries (s.plans a) (key_of i) w.2.entries (k.completed name x w.0 e w.1).side

-- ---- all plans

some_regions : (is : List RegionInfo) (i : RegionInfo) → Member i is → is ≢ []
some_regions [] i m e = absurd m
some_regions (j ∷ is) i m e = absurd (cc)

pub planned_side : (s : Parts) → IsSound s → IsFaithful s → HaveSides s.plain.tables s.lists s.captures s.snapshots → (a : ℕ) (i : RegionInfo) → Member i (s.plans a).regions → HaveOneSide (λ e. Plans s.plans a (key_of i) e)
planned_side s h f k a i m = by_job (job_of s.plain.live a) refl (f.exact.at a (some_regions (s.plans a).regions i m))
  where
    by_job : (o : Option Job) → job_of s.plain.live a ≡ o → IsPlan o a (s.plans a) s.plain.live s.plain.tables s.snapshots s.lists → HaveOneSide (λ e. Plans s.plans a (key_of i) e)
    by_job (Some (jobs.Create t fs n ks)) j g x y p q u v = absurd (subst (Member ((key_of i).region, x)) g p)
    by_job (Some (jobs.Split t row)) j g x y p q u v = elim (subst (Member i) g.halves.regions m) [
      | inl d ↦ let c = split_side g.parent.region row false (s.lists g.parent).entries (s.plans a) (key_of i) g.halves.whole (ap (λ (z : RegionInfo). planned_for (s.plans a).entries (key_of z)) (sym d) ∙ g.halves.low_entries) in c x p ∙ sym (c y q)
      | inr n ↦ elim n [
        | inl d ↦ let c = split_side g.parent.region row true (s.lists g.parent).entries (s.plans a) (key_of i) g.halves.whole (ap (λ (z : RegionInfo). planned_for (s.plans a).entries (key_of z)) (sym d) ∙ g.halves.high_entries) in c x p ∙ sym (c y q)
        | inr z ↦ absurd z
      ]
    ]
    by_job (Some (jobs.Clone name t)) j g x y p q u v = copied_side s a i name (get s.snapshots name) refl (used_there s a (jobs.Clone name t) name h j refl) k m g x y p q u v
    by_job (Some (jobs.Restore name)) j g x y p q u v = copied_side s a i name (get s.snapshots name) refl (used_there s a (jobs.Restore name) name h j refl) k m g x y p q u v
    by_job _ j g x y p q u v = absurd (subst (λ o. ComesFrom o a (base_of x) s.plain.live s.plain.tables s.snapshots s.lists) j (h.sources.at a ((key_of i).region, x) p))
