-- A set that is committed is within its limits.
use Rattle.std.proofs.Common.{◌≡◌, ◌≢◌, ◌⊎◌, ◌≤◌, ◌<◌, ℕ, ◌+◌, ◌||◌, Bool, true, false, not, cond, arith, List, [], ◌∷◌, Option, Some, None, refl, sym, ap, ◌∙◌, subst, inl, inr, T}
use Rattle.std.proofs.lemmas.List.{length-map}
use Rattle.std.specs.Prelude.{is_some, length, map, option_map}
use Rattle.std.specs.List.{AllByRecursion}
use Rattle.std.specs.FinMap.{contains_key, empty, entries, entries_sorted, from_entries, get, get-empty, insert, is_sorted, len, len-empty, len-entries, len-insert, remove}
use Rattle.std.specs.FinMap.Entries.{below_all}
use Rattle.std.specs.Ordering.{is_lt}
use Rattle.std.specs.Cmp.Lexicographic.{nat_list_cmp_total}
use Rattle.cell_sight.specs.Member.{Member}
use Rattle.cell_sight.proofs.Members.{of_filter}
use Rattle.cell_sight.proofs.Truths.{left, right}
use Rattle.cell_sight.proofs.Versions.{tied_bytes}
use Rattle.hb_cell.specs.Order.{bytes_cmp, same_bytes}
use Rattle.hb_records.specs.declared.region_info.RegionInfo.{RegionInfo}
use Rattle.hb_records.specs.declared.table_schema.TableSchema.{TableSchema}
use Rattle.region_set.specs.declared.region_set.RegionSet.{RegionSet}
use Rattle.region_set.specs.declared.set_state.SetState.{SetState}
use Rattle.region_set.specs.declared.set_state.SetState.TheVariants as states
use Rattle.plain_model.specs.declared.event.Event.{Event}
use Rattle.plain_model.specs.declared.event.Event.TheVariants as event
use Rattle.plain_model.specs.declared.job.Job.{Job}
use Rattle.plain_model.specs.declared.job.Job.TheVariants as jobs
use Rattle.plain_model.specs.declared.parts.Live.{Live}
use Rattle.plain_model.specs.declared.parts.PlainSnapshot.{PlainSnapshot}
use Rattle.plain_model.specs.declared.parts.PlainTable.{PlainTable}
use Rattle.plain_model.specs.declared.who.Actor.{Actor}
use Rattle.plain_model.specs.Found.{regions_in}
use Rattle.plain_model.specs.LiveEvents.{job_of, live_of}
use Rattle.plain_model.specs.Names.{Names, change, change_found}
use Rattle.plain_model.specs.Rows.{open_of}
use Rattle.plain_model.specs.TableEvents.{is_one_of, schema_for, table_of, tables_on, with_copy, with_region, with_restored, with_split}
use Rattle.core_model.specs.declared.step.Step.TheVariants as step
use Rattle.core_model.specs.Opened as opened
use Rattle.core_model.specs.SetGuards.{CanCommitRegions, IsChange, new_schema}
use Rattle.core_model.specs.StartGuards.{IsWithinLimits}
use Rattle.core_model.specs.State.{Parts}
use Rattle.core_sound.proofs.HoldsFound.{some_is}
use Rattle.core_sound.proofs.Lists.{map_some, member-find}
use Rattle.core_sound.proofs.Sources.{each-member, map-member, open-member}
use Rattle.core_sound.proofs.TablesKept.{put_this, taken_at}
use Rattle.core_opens.specs.Fits.{AreFamilies, EachTwo}
use Rattle.core_beside.proofs.Pairs.{each-from}
use Rattle.core_regions.specs.Cover.{HasLimits, IsCovered, IsSmall}
use Rattle.core_regions.proofs.Counted.{of_put}
use Rattle.core_regions.proofs.Tables.{MakesFamilies}
use Rattle.core_limits.specs.Limits.{IsLimited}
use Rattle.core_limits.proofs.Opens.{in_open}
use Rattle.core_limits.proofs.Sums.{size}

-- ---- families of a table that is made

below_differ : (k : List ℕ) (es : List (List ℕ × ℕ)) → below_all bytes_cmp k es ≡ true → AllByRecursion (λ (g : List ℕ × ℕ). k ≢ g.0) es
below_differ k [] h = tt
below_differ k (e ∷ es) h = (
  λ i. let z : true ≡ false = sym (left (is_lt (bytes_cmp k e.0)) (below_all bytes_cmp k es) h) ∙ ap is_lt (tied_bytes k e.0 i) in absurd (cc),
  below_differ k es (right (is_lt (bytes_cmp k e.0)) (below_all bytes_cmp k es) h),
)

sorted_differ : (es : List (List ℕ × ℕ)) → is_sorted bytes_cmp es ≡ true → EachTwo (λ (f g : List ℕ × ℕ). f.0 ≢ g.0) es
sorted_differ [] h = tt
sorted_differ (e ∷ es) h = (below_differ e.0 es (left (below_all bytes_cmp e.0 es) (is_sorted bytes_cmp es) h), sorted_differ es (right (below_all bytes_cmp e.0 es) (is_sorted bytes_cmp es) h))

true_of : (b : Bool) → T b → b ≡ true
true_of true t = refl
true_of false t = absurd t

put_len : (b : Bool) (n m : ℕ) → m ≡ cond b n (n + 1) → (n ≤ m) × (m ≤ n + 1)
put_len true n m e = (omega (arith, e), omega (arith, e))
put_len false n m e = (omega (arith, e), omega (arith, e))

insert_len : (m : Names ℕ) (k : List ℕ) (v : ℕ) → (len m ≤ len (insert m k v)) × (len (insert m k v) ≤ len m + 1)
insert_len m k v = put_len (contains_key m k) (len m) (len (insert m k v)) (len-insert nat_list_cmp_total m k v)

abbrev map_of : List (List ℕ × ℕ) → Names ℕ
map_of es = from_entries {R = bytes_cmp} es

few_entries : (es : List (List ℕ × ℕ)) → len (map_of es) ≤ length es
few_entries [] = let e = len-empty bytes_cmp ℕ in omega (arith, e)
few_entries (e ∷ es) = let k = few_entries es in let n = (insert_len (map_of es) e.0 e.1).1 in omega (arith, k, n)

some_entries : (es : List (List ℕ × ℕ)) → 1 ≤ length es → 1 ≤ len (map_of es)
some_entries [] h = absurd (omega (arith, h))
some_entries (e ∷ []) h =
    let n = len-insert nat_list_cmp_total (empty {X = ℕ} {R = bytes_cmp}) e.0 e.1 ∙ ap (λ o. cond (is_some o) (len (empty {X = ℕ} {R = bytes_cmp})) (len (empty {X = ℕ} {R = bytes_cmp}) + 1)) (get-empty bytes_cmp e.0) in omega (arith, n)
some_entries (e ∷ f ∷ es) h = let k = some_entries (f ∷ es) (omega arith) in let n = (insert_len (map_of (f ∷ es)) e.0 e.1).0 in omega (arith, k, n)

new_families : (t : List ℕ) (families : List (List ℕ)) (versions : ℕ) → 1 ≤ length families → length families ≤ 16 → AreFamilies (new_schema t families versions).families
new_families t families versions n m =
    let es = map (λ (f : List ℕ). (f, versions)) families in
    let e = length-map {B = List ℕ × ℕ} families (λ (f : List ℕ). (f, versions)) in
    let l = len-entries (map_of es) in
    let few = few_entries es in
    let some = some_entries es (omega (arith, e, n)) in
    record {
      some = omega (arith, l, some);
      few = omega (arith, l, few, e, m);
      differ = sorted_differ (entries (map_of es)) (true_of (is_sorted bytes_cmp (entries (map_of es))) (entries_sorted (map_of es)));
    }

job_within : (s : Parts) (a : ℕ) (job : Job) → job_of s.plain.live a ≡ Some job → IsLimited s → IsWithinLimits job
job_within s a job j k = let w = map_some (λ (l : Live). l.job) (live_of s.plain.live a) job j in subst IsWithinLimits w.2 (k.jobs.at w.0 (member-find _ s.plain.live w.0 w.1))

made_families : (job : Option Job) (change : Event) (table : List ℕ) (a : ℕ) (s : Parts) → job_of s.plain.live a ≡ job → IsChange job change table a s → IsLimited s → MakesFamilies change
made_families (Some (jobs.Create t fs n ks)) (event.Create schema regions) table a s j z k =
    let w = job_within s a (jobs.Create t fs n ks) j k in subst (λ (x : TableSchema). AreFamilies x.families) (sym z.1) (new_families t fs n w.0 w.1)
made_families (Some (jobs.Enable t)) (event.Enable u) table a s j z k = tt
made_families (Some (jobs.Disable t)) (event.Disable u) table a s j z k = tt
made_families (Some (jobs.Drop t)) (event.Drop u) table a s j z k = tt
made_families (Some (jobs.Split t row)) (event.Split u parent low high) table a s j z k = tt
made_families (Some (jobs.Clone name t)) (event.Clone b u regions) table a s j z k = tt
made_families (Some (jobs.Restore name)) (event.Restore b regions) table a s j z k = tt
made_families (Some jobs.Janitor) (event.Remove t regions) table a s j z k = tt
made_families _ _ table a s j z k = absurd z

-- ---- open regions were open, or are planned

abbrev OpenIn : RegionInfo → Option PlainTable → Type 0
OpenIn i o = Member (i, false) (regions_in o)

abbrev WasOpen : Parts → ℕ → List ℕ → RegionInfo → Type 0
WasOpen s a t i = OpenIn i (get s.plain.tables t) ⊎ Member i (s.plans a).regions

was_unsplit : (names : List (List ℕ)) (i : RegionInfo) (y : RegionInfo × Bool) → ◌≡◌ {A = RegionInfo × Bool} (y.0, y.1 || is_one_of names y) (i, false) → y ≡ (i, false)
was_unsplit names i y e = λ j. ((ap (λ (x : RegionInfo × Bool). x.0) e) j, (first_false y.1 (is_one_of names y) (ap (λ (x : RegionInfo × Bool). x.1) e)) j)
  where
    first_false : (a b : Bool) → (a || b) ≡ false → a ≡ false
    first_false true b h = absurd (cc)
    first_false false b h = refl

of_split : (names : List (List ℕ)) (i : RegionInfo) (rs : List (RegionInfo × Bool)) → Member (i, false) (with_split names rs) → Member (i, false) rs
of_split names i rs m = let w = map-member (λ (x : RegionInfo × Bool). (x.0, x.1 || is_one_of names x)) (i, false) rs m in subst (λ y. Member y rs) (was_unsplit names i w.0 w.2) w.1

of_both : (low high i : RegionInfo) (names : List (List ℕ)) (rs : List (RegionInfo × Bool)) → Member (i, false) (with_region low (with_region high (with_split names rs))) → Member (i, false) rs ⊎ Member i (low ∷ high ∷ [])
of_both low high i names rs m = elim (of_put low (i, false) (with_region high (with_split names rs)) m) [
  | inl e ↦ inr (inl (ap (λ (x : RegionInfo × Bool). x.0) e))
  | inr n ↦ elim (of_put high (i, false) (with_split names rs) n) [
    | inl e ↦ inr (inr (inl (ap (λ (x : RegionInfo × Bool). x.0) e)))
    | inr k ↦ inl (of_split names i rs k)
  ]
]

of_changed : (u : List ℕ) (f : PlainTable → PlainTable) (tables : Names PlainTable) (i : RegionInfo) (more : List RegionInfo) → ((x : PlainTable) → Member (i, false) (f x).regions → Member (i, false) x.regions ⊎ Member i more)
    → OpenIn i (get (change u f tables) u) → OpenIn i (get tables u) ⊎ Member i more
of_changed u f tables i more h m = by_found (get tables u) refl m
  where
    by_found : (o : Option PlainTable) → get tables u ≡ o → OpenIn i (get (change_found u f tables o) u) → OpenIn i o ⊎ Member i more
    by_found None e n = inl (subst (OpenIn i) e n)
    by_found (Some x) e n = h x (subst (OpenIn i) (put_this tables u (f x)) n)

of_made : (tables : Names PlainTable) (u : List ℕ) (enabled : Bool) (schema : TableSchema) (regions : List RegionInfo) (i : RegionInfo) → OpenIn i (get (insert tables u (table_of enabled schema regions)) u) → Member i regions
of_made tables u enabled schema regions i m =
    let w = map-member (λ (r : RegionInfo). (r, false)) (i, false) regions (subst (OpenIn i) (put_this tables u (table_of enabled schema regions)) m) in
    subst (λ x. Member x regions) (ap (λ (x : RegionInfo × Bool). x.0) w.2) w.1

of_taken : (tables : Names PlainTable) (u t : List ℕ) (i : RegionInfo) → OpenIn i (get (remove tables u) t) → OpenIn i (get tables t)
of_taken tables u t i m = (elim (same_bytes t u) as (λ b. OpenIn i (cond b None (get tables t)) → OpenIn i (get tables t)) [ true ↦ λ n. absurd n | false ↦ λ n. n ]) (subst (OpenIn i) (taken_at tables u t) m)

-- of a table that is made of a plan
planned_open : (s : Parts) (a : ℕ) (table u : List ℕ) (enabled : Bool) (schema : TableSchema) (regions : List RegionInfo) (i : RegionInfo) → u ≡ table → regions ≡ (s.plans a).regions
    → OpenIn i (get (insert s.plain.tables u (table_of enabled schema regions)) table) → WasOpen s a table i
planned_open s a table u enabled schema regions i e z m =
    inr (subst (Member i) z (of_made s.plain.tables u enabled schema regions i (subst (λ v. OpenIn i (get (insert s.plain.tables u (table_of enabled schema regions)) v)) (sym e) m)))

-- of a table that is changed
changed_open : (s : Parts) (a : ℕ) (table u : List ℕ) (f : PlainTable → PlainTable) (i : RegionInfo) (more : List RegionInfo) → u ≡ table → ((x : PlainTable) → Member (i, false) (f x).regions → Member (i, false) x.regions ⊎ Member i more)
    → ((x : RegionInfo) → Member x more → Member x (s.plans a).regions) → OpenIn i (get (change u f s.plain.tables) table) → WasOpen s a table i
changed_open s a table u f i more e h g m = elim (of_changed u f s.plain.tables i more h (subst (λ v. OpenIn i (get (change u f s.plain.tables) v)) (sym e) m)) [
  | inl n ↦ inl (subst (λ v. OpenIn i (get s.plain.tables v)) e n)
  | inr n ↦ inr (g i n)
]

open_was : (job : Option Job) (change : Event) (table : List ℕ) (a : ℕ) (s : Parts) (i : RegionInfo) → IsChange job change table a s → OpenIn i (get (tables_on change s.plain.snapshots s.plain.tables) table) → WasOpen s a table i
open_was (Some (jobs.Create t fs n ks)) (event.Create schema regions) table a s i z m = planned_open s a table schema.table true schema regions i (ap (λ (x : TableSchema). x.table) z.1 ∙ z.0) z.2 m
open_was (Some (jobs.Enable t)) (event.Enable u) table a s i z m = changed_open s a table u _ i [] z.1 (λ x n. inl n) (λ x n. absurd n) m
open_was (Some (jobs.Disable t)) (event.Disable u) table a s i z m = changed_open s a table u _ i [] z.1 (λ x n. inl n) (λ x n. absurd n) m
open_was (Some (jobs.Drop t)) (event.Drop u) table a s i z m = inl (of_taken s.plain.tables u table i m)
open_was (Some (jobs.Split t row)) (event.Split u parent low high) table a s i z m =
    changed_open s a table u _ i (low ∷ high ∷ []) z.1 (λ x n. of_both low high i (parent ∷ []) x.regions n) (λ x n. subst (Member x) z.3 n) m
open_was (Some (jobs.Clone name t)) (event.Clone b u regions) table a s i z m = by_copy (get s.plain.snapshots b) m
  where
    by_copy : (o : Option PlainSnapshot) → OpenIn i (get (with_copy u true regions o s.plain.tables) table) → WasOpen s a table i
    by_copy None n = inl n
    by_copy (Some y) n = planned_open s a table u true (schema_for u y.schema) regions i z.1 z.3 n
open_was (Some (jobs.Restore name)) (event.Restore b regions) table a s i z m = by_copy (get s.plain.snapshots b) refl m
  where
    by_copy : (o : Option PlainSnapshot) → get s.plain.snapshots b ≡ o → OpenIn i (get (with_restored regions o s.plain.tables) table) → WasOpen s a table i
    by_copy None e n = inl n
    by_copy (Some y) e n =
        let k : get s.plain.snapshots name ≡ Some y = ap (get s.plain.snapshots) (sym z.0) ∙ e in
        planned_open s a table y.schema.table false y.schema regions i (some_is (sym (ap (option_map (λ (v : PlainSnapshot). v.schema.table)) k) ∙ z.3)) z.1 n
open_was (Some jobs.Janitor) (event.Remove t regions) table a s i z m =
    changed_open s a table t _ i [] z.0 (λ x n. inl (of_filter (λ (r : RegionInfo × Bool). not (is_one_of regions r)) (i, false) x.regions n).0) (λ x n. absurd n) m
open_was _ _ table a s i z m = absurd z

-- ---- the set of a table after its change

old_id : (s : Parts) (t : List ℕ) (i : RegionInfo) → IsCovered s → OpenIn i (get s.plain.tables t) → i.id < 9_223_372_036_854_775_808
old_id s t i v m = by_table (get s.plain.tables t) refl m
  where
    by_table : (o : Option PlainTable) → get s.plain.tables t ≡ o → OpenIn i o → i.id < 9_223_372_036_854_775_808
    by_table None e n = absurd n
    by_table (Some x) e n = each-member (λ (r : RegionInfo). r.id < 9_223_372_036_854_775_808) (open_of x.regions) i (v.tables.at t x e).regions.ids (in_open i x.regions n)

open_id : (change : Event) (table : List ℕ) (a : ℕ) (s : Parts) (i : RegionInfo) → IsChange (job_of s.plain.live a) change table a s → IsCovered s → IsLimited s → OpenIn i (get (tables_on change s.plain.snapshots s.plain.tables) table) → i.id < 9_223_372_036_854_775_808
open_id change table a s i z v k m = elim (open_was (job_of s.plain.live a) change table a s i z m) [
  | inl n ↦ old_id s table i v n
  | inr n ↦ each-member (λ (r : RegionInfo). r.id < 9_223_372_036_854_775_808) (s.plans a).regions i (k.plans.at a).ids n
]

set_regions : (state : SetState) (set : RegionSet) → (state ≡ states.Dropped → set.regions ≡ []) → regions_in (opened.table_in state set) ≡ set.regions
set_regions states.Enabled set h = refl
set_regions states.Disabled set h = refl
set_regions states.Dropped set h = sym (h refl)

set_small : (a : ℕ) (table : List ℕ) (n : ℕ) (name : List ℕ) (set : RegionSet) (change : Event) (s : Parts) → CanCommitRegions a table n name set change s → IsCovered s → IsLimited s
    → size (tables_on change s.plain.snapshots s.plain.tables) table ≤ 1000 → IsSmall set
set_small a table n name set change s g v k few =
    let e : regions_in (get (tables_on change s.plain.snapshots s.plain.tables) table) ≡ set.regions = ap regions_in (sym g.shown) ∙ set_regions set.state set g.lawful.no_regions in record {
      few = subst (λ (rs : List (RegionInfo × Bool)). length rs ≤ 1000) e few;
      ids = each-from (λ (i : RegionInfo). i.id < 9_223_372_036_854_775_808) (open_of set.regions) (λ i m. open_id change table a s i g.is_change v k (subst (Member (i, false)) (sym e) (open-member i set.regions m)));
    }

with_families : (actor : Actor) (table : List ℕ) (number : ℕ) (name : List ℕ) (set : RegionSet) (change : Event) → IsSmall set → MakesFamilies change → HasLimits (step.CommitRegions actor table number name set change)
with_families actor table number name set (event.Create schema regions) l f = (l, f)
with_families actor table number name set _ l f = l

pub change_limits : (actor : Actor) (table : List ℕ) (number : ℕ) (name : List ℕ) (set : RegionSet) (change : Event) (s : Parts) → CanCommitRegions actor.0 table number name set change s → IsCovered s → IsLimited s
    → size (tables_on change s.plain.snapshots s.plain.tables) table ≤ 1000 → HasLimits (step.CommitRegions actor table number name set change)
change_limits actor table number name set change s g v k few =
    with_families actor table number name set change (set_small actor.0 table number name set change s g v k few) (made_families (job_of s.plain.live actor.0) change table actor.0 s refl g.is_change k)
