-- Where the entries of lists, plans and pins come from.
use Rattle.std.proofs.Common.{◌≡◌, ◌⊎◌, ℕ, Bool, true, false, not, cond, List, [], ◌∷◌, ◌++◌, Option, Some, None, refl, sym, ap, ◌∙◌, subst, inl, inr}
use Rattle.std.specs.Prelude.{map, filter, zip, Ok}
use Rattle.std.specs.List.{flat_map, AllZip, AllByRecursion}
use Rattle.std.specs.FinMap.{get}
use Rattle.hb_layout.specs.declared.base.Base.{Base}
use Rattle.hb_records.specs.declared.region_info.RegionInfo.{RegionInfo}
use Rattle.plain_model.specs.declared.job.Job.{Job}
use Rattle.plain_model.specs.declared.job.Job.TheVariants as jobs
use Rattle.plain_model.specs.declared.region_key.RegionKey.{RegionKey}
use Rattle.plain_model.specs.Names.{Names}
use Rattle.plain_model.specs.Found.{region_with, key_with, regions_in}
use Rattle.plain_model.specs.Keys.{key_of, encoded}
use Rattle.plain_model.specs.Plain.{Plain}
use Rattle.plain_model.specs.declared.parts.PlainTable.{PlainTable}
use Rattle.plain_model.specs.Rows.{open_of}
use Rattle.core_model.specs.declared.entry.Entry.{Entry}
use Rattle.core_model.specs.declared.entry.Entry.TheVariants.{Own, Link, Half}
use Rattle.core_model.specs.declared.region_files.RegionFiles.{RegionFiles}
use Rattle.core_model.specs.declared.snapshot.CopiedRegion.{CopiedRegion}
use Rattle.core_model.specs.declared.snapshot.Snapshot.{Snapshot}
use Rattle.core_model.specs.declared.targets.PinTarget.{PinTarget}
use Rattle.core_model.specs.declared.targets.PinTarget.TheVariants as targets
use Rattle.core_model.specs.ActorFacts.{IsSourceIn}
use Rattle.core_model.specs.Actors.{IsRegion}
use Rattle.core_model.specs.TableFacts.{HasOwnRegions}
use Rattle.core_model.specs.Entries.{base_of, is_in}
use Rattle.cell_sight.specs.Member.{Member}
use Rattle.core_model.specs.ListGuards.{Merge, replaced, without, merged_entries}
use Rattle.core_model.specs.PassChanges.{snapshot_entries}
use Rattle.core_model.specs.Plans as plans
use Rattle.core_model.specs.StartGuards.{PinsAs}
use Rattle.core_sound.proofs.Lists.{map_some, member-front, member-behind, member-find, member-append}

-- ---- members of what lists are made of

pub map-member : {A B : Type 0} (f : A → B) (y : B) (xs : List A) → Member y (map f xs) → (x : A) × Member x xs × (f x ≡ y)
map-member f y [] i = absurd i
map-member f y (x ∷ xs) (inl e) = (x, inl refl, e)
map-member f y (x ∷ xs) (inr i) = let k = map-member f y xs i in (k.0, inr k.1, k.2)

pub zip-member : {A B : Type 0} (P : A → B → Type 0) (xs : List A) (ys : List B) (y : B) → AllZip P xs ys → Member y ys → (x : A) × P x y
zip-member P [] [] y h i = absurd i
zip-member P (x ∷ xs) (z ∷ zs) y h (inl e) = (x, subst (P x) e h.0)
zip-member P (x ∷ xs) (z ∷ zs) y h (inr i) = zip-member P xs zs y h.1 i
zip-member P [] (z ∷ zs) y h i = absurd h
zip-member P (x ∷ xs) [] y h i = absurd i

pub each-member : {A : Type 0} (P : A → Type 0) (xs : List A) (x : A) → AllByRecursion P xs → Member x xs → P x
each-member P [] x h i = absurd i
each-member P (y ∷ ys) x h (inl e) = subst P e h.0
each-member P (y ∷ ys) x h (inr i) = each-member P ys x h.1 i

without-member : (inputs : List Entry) (e : Entry) (es : List Entry) → Member e (without inputs es) → Member e es
without-member inputs e [] i = i
without-member inputs e (x ∷ xs) i = (elim (is_in inputs x) as (λ b. Member e (cond (not b) (x ∷ without inputs xs) (without inputs xs)) → Member e (x ∷ xs)) [
  | true ↦ λ k. inr (without-member inputs e xs k)
  | false ↦ λ k. elim k [ inl d ↦ inl d | inr d ↦ inr (without-member inputs e xs d) ]
]) i

replaced-member : (inputs output : List Entry) (e : Entry) (es : List Entry) → Member e (replaced inputs output es) → Member e output ⊎ Member e es
replaced-member inputs output e [] i = inr i
replaced-member inputs output e (x ∷ xs) i = (elim (is_in inputs x) as (λ b. Member e (cond b (output ++ without inputs xs) (x ∷ replaced inputs output xs)) → Member e output ⊎ Member e (x ∷ xs)) [
  | true ↦ λ k. elim (member-append e output (without inputs xs) k) [ inl d ↦ inl d | inr d ↦ inr (inr (without-member inputs e xs d)) ]
  | false ↦ λ k. elim k [ inl d ↦ inr (inl d) | inr d ↦ elim (replaced-member inputs output e xs d) [ inl c ↦ inl c | inr c ↦ inr (inr c) ] ]
]) i

-- an entry of a compacted list stood there, or is the output of a merge
pub merged-member : (merges : List Merge) (e : Entry) (es : List Entry) → Member e (merged_entries merges es) → Member e es ⊎ ((m : Merge) × Member m merges × Member e (map Own m.output))
merged-member [] e es i = inl i
merged-member (m ∷ ms) e es i = elim (merged-member ms e (replaced m.inputs (map Own m.output) es) i) [
  | inl k ↦ elim (replaced-member m.inputs (map Own m.output) e es k) [ inl d ↦ inr (m, inl refl, d) | inr d ↦ inl d ]
  | inr k ↦ inr (k.0, inr k.1, k.2)
]

-- ---- regions by their rows

open-cases : (i : RegionInfo) (r : RegionInfo × Bool) (rs : List (RegionInfo × Bool)) (b : Bool) → r.1 ≡ b → (Member i (open_of rs) → Member (i, false) rs)
    → Member i (map (λ (x : RegionInfo × Bool). x.0) (cond (not b) (r ∷ filter (λ (x : RegionInfo × Bool). not x.1) rs) (filter (λ (x : RegionInfo × Bool). not x.1) rs))) → Member (i, false) (r ∷ rs)
open-cases i r rs true e h k = inr (h k)
open-cases i r rs false e h (inl d) = inl (λ j. (d j, e j))
open-cases i r rs false e h (inr k) = inr (h k)

pub open-member : (i : RegionInfo) (rs : List (RegionInfo × Bool)) → Member i (open_of rs) → Member (i, false) rs
open-member i [] m = m
open-member i (r ∷ rs) m = open-cases i r rs r.1 refl (open-member i rs) m

table_has : (o : Option PlainTable) (i : RegionInfo) → Member i (open_of (regions_in o)) → (t : PlainTable) × (o ≡ Some t) × Member (i, false) t.regions
table_has None i m = absurd m
table_has (Some t) i m = (t, refl, open-member i t.regions m)

-- the open region of a row is in the newest set
pub row_region : (p : Plain) (t row : List ℕ) (i : RegionInfo) → HasOwnRegions p.tables → region_with p t row ≡ Some i → IsRegion p.tables (key_of i)
row_region p t row i h e =
    let m = table_has (get p.tables t) i (member-find _ (open_of (regions_in (get p.tables t))) i e) in
    let own = h.at t m.0 i false m.1 m.2 in
    inl (record { table = m.0; stands = ap (get p.tables) own ∙ m.1; info = i; listed = m.2; key = refl })

pub key_region : (p : Plain) (t row : List ℕ) (r : RegionKey) → HasOwnRegions p.tables → key_with p t row ≡ Some r → IsRegion p.tables r
key_region p t row r h e = let w = map_some key_of (region_with p t row) r e in subst (IsRegion p.tables) w.2 (row_region p t row w.0 h w.1)

pub pins_region : (target : PinTarget) (r : RegionKey) (a : ℕ) (p : Plain) → HasOwnRegions p.tables → PinsAs target (Ok r) a p → IsRegion p.tables r
pins_region (targets.Scan row) r a p h z = key_region p z.0 row r h z.3
pins_region (targets.Region q) r a p h z = z.1

-- ---- plans

copy_base : (e : Entry) → base_of (plans.copy_of e) ≡ base_of e
copy_base (Own b) = refl
copy_base (Link b) = refl
copy_base (Half b l p r t) = refl

half_base : (parent row : List ℕ) (top : Bool) (e : Entry) → base_of (plans.half_of parent row top e) ≡ base_of e
half_base parent row top (Own b) = refl
half_base parent row top (Link b) = refl
half_base parent row top (Half b l p r t) = refl

-- an entry put in a region, changed by what keeps its base
region-source : (f : Entry → Entry) → ((e : Entry) → base_of (f e) ≡ base_of e) → (i : RegionInfo) (x : List ℕ × Entry) (es : List Entry) → Member x (plans.in_region i (map f es)) → IsSourceIn es (base_of x.1)
region-source f k i x es m =
    let w = map-member (λ (e : Entry). (encoded i, e)) x (map f es) m in
    let v = map-member f w.0 es w.1 in
    record { entry = v.0; listed = v.1; reads = sym (k v.0) ∙ ap base_of v.2 ∙ ap (λ (y : List ℕ × Entry). base_of y.1) w.2 }

pub halves-source : (is : List RegionInfo) (parent row : List ℕ) (x : List ℕ × Entry) (es : List Entry) → Member x (plans.halves_in is parent row es) → IsSourceIn es (base_of x.1)
halves-source (low ∷ high ∷ []) parent row x es m = elim (member-append x (plans.in_region low (map (plans.half_of parent row false) es)) (plans.in_region high (map (plans.half_of parent row true) es)) m) [
  | inl k ↦ region-source (plans.half_of parent row false) (half_base parent row false) low x es k
  | inr k ↦ region-source (plans.half_of parent row true) (half_base parent row true) high x es k
]
halves-source [] parent row x es m = absurd m
halves-source (a ∷ []) parent row x es m = absurd m
halves-source (a ∷ b ∷ c ∷ is) parent row x es m = absurd m

pub wider : (es fs : List Entry) (b : Base) → ((e : Entry) → Member e es → Member e fs) → IsSourceIn es b → IsSourceIn fs b
wider es fs b k s = record { entry = s.entry; listed = k s.entry s.listed; reads = s.reads }

pub copies-source : (is : List RegionInfo) (rs : List CopiedRegion) (x : List ℕ × Entry) → Member x (plans.copies_in (zip is rs)) → IsSourceIn (flat_map (λ (r : CopiedRegion). r.entries) rs) (base_of x.1)
copies-source [] rs x m = absurd m
copies-source (i ∷ is) [] x m = absurd m
copies-source (i ∷ is) (r ∷ rs) x m = elim (member-append x (plans.in_region i (map plans.copy_of r.entries)) (plans.copies_in (zip is rs)) m) [
  | inl k ↦ wider r.entries _ (base_of x.1) (λ e n. member-front e r.entries _ n) (region-source plans.copy_of copy_base i x r.entries k)
  | inr k ↦ wider _ _ (base_of x.1) (λ e n. member-behind e r.entries _ n) (copies-source is rs x k)
]

-- a planned base is one of a completed snapshot, or of the newest list of a region in a newest set
pub data IsSource (p : Plain) (snapshots : Names Snapshot) (lists : RegionKey → RegionFiles) (b : Base) : Type 0 where
  of_snapshot : (name : List ℕ) (x : Snapshot) → get snapshots name ≡ Some x → IsSourceIn (snapshot_entries x) b → IsSource p snapshots lists b
  of_region : (r : RegionKey) → IsRegion p.tables r → IsSourceIn (lists r).entries b → IsSource p snapshots lists b

snapshot-source : (is : List RegionInfo) (name : List ℕ) (p : Plain) (snapshots : Names Snapshot) (lists : RegionKey → RegionFiles) (o : Option Snapshot) (x : List ℕ × Entry) → get snapshots name ≡ o
    → Member x (plans.copies_in (zip is (plans.regions_in o))) → IsSource p snapshots lists (base_of x.1)
snapshot-source [] name p snapshots lists None x e m = absurd m
snapshot-source (i ∷ is) name p snapshots lists None x e m = absurd m
snapshot-source is name p snapshots lists (Some s) x e m = of_snapshot name s e (copies-source is s.regions x m)

split-source : (is : List RegionInfo) (t row : List ℕ) (p : Plain) (snapshots : Names Snapshot) (lists : RegionKey → RegionFiles) (o : Option RegionInfo) (x : List ℕ × Entry) → HasOwnRegions p.tables
    → region_with p t row ≡ o → Member x (plans.split_entries is row o lists) → IsSource p snapshots lists (base_of x.1)
split-source is t row p snapshots lists None x h e m = absurd m
split-source is t row p snapshots lists (Some r) x h e m = of_region (key_of r) (row_region p t row r h e) (halves-source is (encoded r) row x (lists (key_of r)).entries m)

pub plan-source : (job : Job) (is : List RegionInfo) (p : Plain) (snapshots : Names Snapshot) (lists : RegionKey → RegionFiles) (x : List ℕ × Entry) → HasOwnRegions p.tables
    → Member x (plans.planned_entries job is p snapshots lists) → IsSource p snapshots lists (base_of x.1)
plan-source (jobs.Split t row) is p snapshots lists x h m = split-source is t row p snapshots lists (region_with p t row) x h refl m
plan-source (jobs.Clone name t) is p snapshots lists x h m = snapshot-source is name p snapshots lists (get snapshots name) x refl m
plan-source (jobs.Restore name) is p snapshots lists x h m = snapshot-source is name p snapshots lists (get snapshots name) x refl m
plan-source _ is p snapshots lists x h m = absurd m
