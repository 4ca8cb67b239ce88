-- What holds of each entry of snapshots and lists, and goes over to copies and halves, holds of each planned entry.
use Rattle.std.proofs.Common.{◌≡◌, ℕ, Bool, true, false, List, [], ◌∷◌, Option, Some, None, refl, subst, inl, inr, ap, ◌∙◌}
use Rattle.std.specs.Prelude.{map, zip}
use Rattle.std.specs.List.{flat_map}
use Rattle.std.specs.FinMap.{get}
use Rattle.cell_sight.specs.Member.{Member}
use Rattle.hb_records.specs.declared.region_info.RegionInfo.{RegionInfo}
use Rattle.plain_model.specs.declared.job.Job.{Job}
use Rattle.plain_model.specs.declared.job.Job.TheVariants as jobs
use Rattle.plain_model.specs.declared.region_key.RegionKey.{RegionKey}
use Rattle.plain_model.specs.Found.{region_with}
use Rattle.plain_model.specs.Keys.{key_of, encoded}
use Rattle.core_model.specs.declared.entry.Entry.{Entry}
use Rattle.core_model.specs.declared.snapshot.CopiedRegion.{CopiedRegion}
use Rattle.core_model.specs.declared.snapshot.Snapshot.{Snapshot}
use Rattle.core_model.specs.Actors.{IsRegion}
use Rattle.core_model.specs.PassChanges.{snapshot_entries}
use Rattle.core_model.specs.Plans.{half_of, copy_of, in_region, halves_in, copies_in, split_entries, planned_entries, regions_in}
use Rattle.core_model.specs.State.{Parts}
use Rattle.core_model.specs.TableFacts.{HasOwnRegions}
use Rattle.core_sound.proofs.Lists.{member-append, member-front, member-behind}
use Rattle.core_sound.proofs.Sources.{map-member, row_region}

pub record GoesOver (P : Entry → Type 0) : Type 0 where
  pub copies : (e : Entry) → P e → P (copy_of e)
  pub halves : (parent row : List ℕ) (top : Bool) (e : Entry) → P e → P (half_of parent row top e)

region-each : (P : Entry → Type 0) (f : Entry → Entry) → ((e : Entry) → P e → P (f e)) → (i : RegionInfo) (x : List ℕ × Entry) (es : List Entry) → ((e : Entry) → Member e es → P e) → Member x (in_region i (map f es)) → P x.1
region-each P f g i x es h m =
    let w = map-member (λ (e : Entry). (encoded i, e)) x (map f es) m in
    let v = map-member f w.0 es w.1 in
    subst P (v.2 ∙ ap (λ (y : List ℕ × Entry). y.1) w.2) (g v.0 (h v.0 v.1))

pub halves-each : (P : Entry → Type 0) → GoesOver P → (is : List RegionInfo) (parent row : List ℕ) (x : List ℕ × Entry) (es : List Entry) → ((e : Entry) → Member e es → P e) → Member x (halves_in is parent row es) → P x.1
halves-each P g (low ∷ high ∷ []) parent row x es h m = elim (member-append x (in_region low (map (half_of parent row false) es)) (in_region high (map (half_of parent row true) es)) m) [
  | inl k ↦ region-each P (half_of parent row false) (g.halves parent row false) low x es h k
  | inr k ↦ region-each P (half_of parent row true) (g.halves parent row true) high x es h k
]
halves-each P g [] parent row x es h m = absurd m
halves-each P g (a ∷ []) parent row x es h m = absurd m
halves-each P g (a ∷ b ∷ c ∷ is) parent row x es h m = absurd m

copies-each : (P : Entry → Type 0) → GoesOver P → (is : List RegionInfo) (rs : List CopiedRegion) (x : List ℕ × Entry) → ((e : Entry) → Member e (flat_map (λ (r : CopiedRegion). r.entries) rs) → P e) → Member x (copies_in (zip is rs)) → P x.1
copies-each P g [] rs x h m = absurd m
copies-each P g (i ∷ is) [] x h m = absurd m
copies-each P g (i ∷ is) (r ∷ rs) x h m = elim (member-append x (in_region i (map copy_of r.entries)) (copies_in (zip is rs)) m) [
  | inl k ↦ region-each P copy_of g.copies i x r.entries (λ e n. h e (member-front e r.entries _ n)) k
  | inr k ↦ copies-each P g is rs x (λ e n. h e (member-behind e r.entries _ n)) k
]

snapshot-each : (P : Entry → Type 0) → GoesOver P → (s : Parts) (is : List RegionInfo) (name : List ℕ) (o : Option Snapshot) (x : List ℕ × Entry) → get s.snapshots name ≡ o
    → ((y : Snapshot) (e : Entry) → get s.snapshots name ≡ Some y → Member e (snapshot_entries y) → P e) → Member x (copies_in (zip is (regions_in o))) → P x.1
snapshot-each P g s [] name None x e h m = absurd m
snapshot-each P g s (i ∷ is) name None x e h m = absurd m
snapshot-each P g s is name (Some y) x e h m = copies-each P g is y.regions x (λ v n. h y v e n) m

split-each : (P : Entry → Type 0) → GoesOver P → (s : Parts) (is : List RegionInfo) (t row : List ℕ) (o : Option RegionInfo) (x : List ℕ × Entry) → HasOwnRegions s.plain.tables → region_with s.plain t row ≡ o
    → ((r : RegionKey) (e : Entry) → IsRegion s.plain.tables r → Member e (s.lists r).entries → P e) → Member x (split_entries is row o s.lists) → P x.1
split-each P g s is t row None x w e h m = absurd m
split-each P g s is t row (Some r) x w e h m = halves-each P g is (encoded r) row x (s.lists (key_of r)).entries (λ v n. h (key_of r) v (row_region s.plain t row r w e) n) m

pub plan-each : (P : Entry → Type 0) → GoesOver P → (s : Parts) (job : Job) (is : List RegionInfo) (x : List ℕ × Entry) → HasOwnRegions s.plain.tables
    → ((name : List ℕ) (y : Snapshot) (e : Entry) → get s.snapshots name ≡ Some y → Member e (snapshot_entries y) → P e) → ((r : RegionKey) (e : Entry) → IsRegion s.plain.tables r → Member e (s.lists r).entries → P e)
    → Member x (planned_entries job is s.plain s.snapshots s.lists) → P x.1
plan-each P g s (jobs.Split t row) is x w h k m = split-each P g s is t row (region_with s.plain t row) x w refl k m
plan-each P g s (jobs.Clone name t) is x w h k m = snapshot-each P g s is name (get s.snapshots name) x refl (h name) m
plan-each P g s (jobs.Restore name) is x w h k m = snapshot-each P g s is name (get s.snapshots name) x refl (h name) m
plan-each P g s _ is x w h k m = absurd m
