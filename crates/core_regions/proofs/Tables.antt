-- Each change of a table leaves one whose open regions cover all rows, and whose regions differ.
use Rattle.std.proofs.Common.{◌≡◌, ◌≢◌, ◌≤◌, ◌<◌, ◌||◌, ℕ, Bool, true, false, not, cond, arith, List, [], ◌∷◌, Option, Some, None, refl, sym, ap, ◌∙◌, subst, inl, inr}
use Rattle.std.specs.Prelude.{filter, length, map, option_map}
use Rattle.std.specs.List.{AllByRecursion}
use Rattle.std.specs.FinMap.{get, insert}
use Rattle.cell_sight.specs.Member.{Member}
use Rattle.hb_cell.specs.Order.{same_bytes}
use Rattle.hb_records.specs.declared.region_info.RegionInfo.{RegionInfo}
use Rattle.hb_records.specs.declared.table_schema.TableSchema.{TableSchema}
use Rattle.region_set.specs.declared.region_set.RegionSet.{RegionSet}
use Rattle.region_set.specs.declared.set_state.SetState.{SetState}
use Rattle.region_set.specs.declared.set_state.SetState.TheVariants as states
use Rattle.plain_model.specs.declared.event.Event.{Event}
use Rattle.plain_model.specs.declared.event.Event.TheVariants as event
use Rattle.plain_model.specs.declared.job.Job.{Job}
use Rattle.plain_model.specs.declared.job.Job.TheVariants as jobs
use Rattle.plain_model.specs.declared.parts.PlainSnapshot.{PlainSnapshot}
use Rattle.plain_model.specs.declared.parts.PlainTable.{PlainTable}
use Rattle.plain_model.specs.declared.region_key.RegionKey.{RegionKey}
use Rattle.plain_model.specs.Keys.{encoded, key_at, key_of}
use Rattle.plain_model.specs.LiveEvents.{job_of}
use Rattle.plain_model.specs.Rows.{CoverAll, open_of}
use Rattle.plain_model.specs.TableEvents.{is_one_of, schema_for, table_of, tables_on, with_copy, with_region, with_restored, with_split}
use Rattle.core_model.specs.declared.snapshot.Snapshot.{Snapshot}
use Rattle.core_model.specs.Actors.{InSet, IsRegion}
use Rattle.core_model.specs.Entries.{Made}
use Rattle.core_model.specs.Opened as opened
use Rattle.core_model.specs.SetGuards.{CanCommitRegions, IsChange}
use Rattle.core_model.specs.Sound.{IsSound}
use Rattle.core_model.specs.State.{Parts}
use Rattle.core_model.specs.TableFacts.{HasOwnRegions}
use Rattle.core_sound.proofs.HoldsFound.{some_is}
use Rattle.core_sound.proofs.Lists.{get-taken}
use Rattle.core_sound.proofs.Sources.{map-member}
use Rattle.core_sound.proofs.TablesKept.{other_table, put_this}
use Rattle.core_sound.proofs.Tests.{same_bytes-true}
use Rattle.core_contents.specs.ContentFacts.{Copies}
use Rattle.core_contents.specs.Faithful.{IsFaithful}
use Rattle.core_contents.specs.PlanFacts.{IsPlan}
use Rattle.core_opens.specs.Fits.{AreFamilies}
use Rattle.core_regions.specs.Cover.{AreNewRegions, Differ, Divides, IsCovered, IsFitTable, IsSmall, CopiesBounds, table_in_copy}
use Rattle.core_regions.proofs.Counted.{differ_new, differ_put, differ_same, differ_split, differ_without, in_put, of_put, open-all, opens-without, split_covers, still_put}
use Rattle.core_regions.proofs.Held.{changed_from, none_of, removed_held}

-- what a change leaves of its table, but for the limits of its set
record Covers (tb : PlainTable) : Type 0 where
  cover : CoverAll (open_of tb.regions)
  differ : Differ tb.regions
  families : AreFamilies tb.schema.families

covers_old : (tb : PlainTable) → IsFitTable tb → Covers tb
covers_old tb h = record { cover = h.regions.cover; differ = h.differ; families = h.families }

made_covers : (enabled : Bool) (schema : TableSchema) (regions : List RegionInfo) (tb : PlainTable) → table_of enabled schema regions ≡ tb → AreNewRegions regions → AreFamilies schema.families → Covers tb
made_covers enabled schema regions tb e n f = subst Covers e (record { cover = subst CoverAll (sym (open-all regions)) n.cover; differ = differ_new regions n.differ; families = f })

-- ---- a split

-- a region that is added is none of the table
added_new : (s : Parts) (a : ℕ) (i : RegionInfo) (table : List ℕ) (x : PlainTable) → IsSound s → i.table ≡ table → get s.plain.tables table ≡ Some x → Member i (s.plans a).regions → (y : RegionInfo × Bool) → Member y x.regions → encoded y.0 ≢ encoded i
added_new s a i table x h t e p y m k =
    let own : y.0.table ≡ table = h.own_regions.at table x y.0 y.1 e m in
    let key : key_of y.0 ≡ key_of i = λ j. record { table = (own ∙ sym t) j; region = k j } in
    h.once.is_new a i p (region y.1 (record { table = x; stands = ap (get s.plain.tables) t ∙ e; info = y.0; listed = m; key = key }))
  where
    region : (b : Bool) → InSet s.plain.tables (key_of i) b → IsRegion s.plain.tables (key_of i)
    region true z = inr z
    region false z = inl z

split_table : (s : Parts) (a : ℕ) (table : List ℕ) (low high : RegionInfo) (x tb : PlainTable) (d : Divides a low high s.plain.live s.plain.tables) → IsSound s → IsFitTable x → get s.plain.tables table ≡ Some x → d.whole.table ≡ table
    → record x { regions = with_region low (with_region high (with_split (encoded d.whole ∷ []) x.regions)) } ≡ tb → low.table ≡ table → high.table ≡ table → encoded low ≢ encoded high → Member low (s.plans a).regions → Member high (s.plans a).regions → Covers tb
split_table s a table low high x tb d h k e t z u v n p q =
    let m : Member (d.whole, false) x.regions = subst (λ (w : PlainTable). Member (d.whole, false) w.regions) (some_is (sym d.is_open.stands ∙ ap (get s.plain.tables) t ∙ e)) d.is_open.listed in
    subst Covers z (record {
      cover = split_covers d.whole low high x.regions d.halves k.differ m k.regions.cover;
      differ = differ_put low _ (differ_put high _ (differ_split (encoded d.whole ∷ []) x.regions k.differ) (marked_new high v q)) (λ y i. elim (of_put high y _ i) [
        | inl r ↦ λ w. n (sym w ∙ sym (ap (λ (y : RegionInfo × Bool). encoded y.0) r))
        | inr j ↦ marked_new low u p y j
      ]);
      families = k.families;
    })
  where
    marked_new : (i : RegionInfo) → i.table ≡ table → Member i (s.plans a).regions → (y : RegionInfo × Bool) → Member y (with_split (encoded d.whole ∷ []) x.regions) → encoded y.0 ≢ encoded i
    marked_new i w j y m = let v = map-member (λ (r : RegionInfo × Bool). (r.0, r.1 || is_one_of (encoded d.whole ∷ []) r)) y x.regions m in
        λ c. added_new s a i table x h w e j v.0 v.1 (ap (λ (r : RegionInfo × Bool). encoded r.0) v.2 ∙ c)

-- ---- what a snapshot gives

copy_families : (made : Made) (o : Option Snapshot) (c : Option PlainSnapshot) (x : Snapshot) (y : PlainSnapshot) → Copies made o c → o ≡ Some x → c ≡ Some y → x.schema.families ≡ y.schema.families
copy_families made o c x y h e i = (subst (Copies made (Some x)) i (subst (λ z. Copies made z c) e h)).0

copied_covers : (s : Parts) (a : ℕ) (name : List ℕ) (regions : List RegionInfo) (enabled : Bool) (schema : TableSchema) (y : PlainSnapshot) (tb : PlainTable) → IsFaithful s → IsCovered s → CopiesBounds name (s.plans a) s.snapshots → get s.plain.snapshots name ≡ Some y
    → schema.families ≡ y.schema.families → regions ≡ (s.plans a).regions → table_of enabled schema regions ≡ tb → Covers tb
copied_covers s a name regions enabled schema y tb f k c e i z t = made_covers enabled schema regions tb t (subst AreNewRegions (sym z) c.new)
    (subst AreFamilies (copy_families s.made (get s.snapshots name) (get s.plain.snapshots name) c.x y (f.copies.at name) c.stands e ∙ sym i) (k.snapshots.at name c.x c.stands).families)

-- ---- all changes

abbrev pub MakesFamilies : Event → Type 0
MakesFamilies (event.Create schema regions) = AreFamilies schema.families
MakesFamilies _ = Unit {0}

changed_covers : (job : Option Job) (change : Event) (table : List ℕ) (a : ℕ) (s : Parts) (tb : PlainTable) → job_of s.plain.live a ≡ job → IsChange job change table a s → s.changed a table ≡ false → MakesFamilies change → IsSound s → IsFaithful s → IsCovered s
    → HasOwnRegions (tables_on change s.plain.snapshots s.plain.tables) → get (tables_on change s.plain.snapshots s.plain.tables) table ≡ Some tb → Covers tb
changed_covers (Some (jobs.Create t fs n ks)) (event.Create schema regions) table a s tb j z c l h f k own e =
    let w : schema.table ≡ table = ap (λ (x : TableSchema). x.table) z.1 ∙ z.0 in
    made_covers true schema regions tb (some_is (sym (put_this s.plain.tables schema.table (table_of true schema regions)) ∙ ap (get (insert s.plain.tables schema.table (table_of true schema regions))) w ∙ e))
    (subst AreNewRegions (sym z.2) (k.plans.at a _ j (ap (s.changed a) z.0 ∙ c))) l
changed_covers (Some (jobs.Enable t)) (event.Enable u) table a s tb j z c l h f k own e = let w = changed_from u _ s.plain.tables tb (ap (get (tables_on (event.Enable u) s.plain.snapshots s.plain.tables)) z.1 ∙ e) in
    subst Covers w.2 (let g = k.tables.at u w.0 w.1 in record { cover = g.regions.cover; differ = g.differ; families = g.families })
changed_covers (Some (jobs.Disable t)) (event.Disable u) table a s tb j z c l h f k own e = let w = changed_from u _ s.plain.tables tb (ap (get (tables_on (event.Disable u) s.plain.snapshots s.plain.tables)) z.1 ∙ e) in
    subst Covers w.2 (let g = k.tables.at u w.0 w.1 in record { cover = g.regions.cover; differ = g.differ; families = g.families })
changed_covers (Some (jobs.Drop t)) (event.Drop u) table a s tb j z c l h f k own e = get-taken s.plain.tables u table tb e (λ d i. covers_old tb (k.tables.at table tb i))
changed_covers (Some (jobs.Split t row)) (event.Split u parent low high) table a s tb j z c l h f k own e =
    let w = changed_from u _ s.plain.tables tb (ap (get (tables_on (event.Split u parent low high) s.plain.snapshots s.plain.tables)) z.1 ∙ e) in
    let d = k.plans.at a _ j low high (sym z.3) in
    let g = subst (λ o. IsPlan o a (s.plans a) s.plain.live s.plain.tables s.snapshots s.lists) j (f.exact.at a (λ q. let y : low ∷ high ∷ [] ≡ [] = z.3 ∙ q in absurd (cc))) in
    let key : key_of d.whole ≡ key_at table parent = g.alone (key_of d.whole) d.held ∙ sym (g.alone (key_at table parent) z.2) in
    let name : parent ≡ encoded d.whole = sym (ap (λ (r : RegionKey). r.region) key) in
    let q = w.2 in
    let lows : g.halves.low ≡ low = (let y : g.halves.low ∷ g.halves.high ∷ [] ≡ low ∷ high ∷ [] = sym g.halves.regions ∙ sym z.3 in cc) in
    let highs : g.halves.high ≡ high = (let y : g.halves.low ∷ g.halves.high ∷ [] ≡ low ∷ high ∷ [] = sym g.halves.regions ∙ sym z.3 in cc) in
    let there : Member (high, false) tb.regions = subst (λ (v : PlainTable). Member (high, false) v.regions) q (still_put low (high, false) _ (in_put high _)) in
    let here : Member (low, false) tb.regions = subst (λ (v : PlainTable). Member (low, false) v.regions) q (in_put low _) in
    split_table s a table low high w.0 tb d h (k.tables.at u w.0 w.1) (ap (get s.plain.tables) (sym z.1) ∙ w.1) (ap (λ (r : RegionKey). r.table) key)
    (ap (λ n. record w.0 { regions = with_region low (with_region high (with_split (n ∷ []) w.0.regions)) }) (sym name) ∙ q) (own.at table tb low false e here) (own.at table tb high false e there)
    (λ y. g.halves.differ (ap encoded lows ∙ y ∙ sym (ap encoded highs))) (subst (Member low) z.3 (inl refl)) (subst (Member high) z.3 (inr (inl refl)))
changed_covers (Some (jobs.Clone name t)) (event.Clone b u regions) table a s tb j z c l h f k own e = by_copy (get s.plain.snapshots b) refl e
  where
    by_copy : (o : Option PlainSnapshot) → get s.plain.snapshots b ≡ o → get (with_copy u true regions o s.plain.tables) table ≡ Some tb → Covers tb
    by_copy None i q = covers_old tb (k.tables.at table tb q)
    by_copy (Some y) i q = copied_covers s a name regions true (schema_for u y.schema) y tb f k (k.plans.at a _ j (ap (s.changed a) z.0 ∙ c)) (ap (get s.plain.snapshots) (sym z.2) ∙ i) refl z.3
        (some_is (sym (put_this s.plain.tables u (table_of true (schema_for u y.schema) regions)) ∙ ap (get (insert s.plain.tables u (table_of true (schema_for u y.schema) regions))) z.1 ∙ q))
changed_covers (Some (jobs.Restore name)) (event.Restore b regions) table a s tb j z c l h f k own e = by_copy (get s.plain.snapshots b) refl e
  where
    by_copy : (o : Option PlainSnapshot) → get s.plain.snapshots b ≡ o → get (with_restored regions o s.plain.tables) table ≡ Some tb → Covers tb
    by_copy None i q = covers_old tb (k.tables.at table tb q)
    by_copy (Some y) i q =
        let n : get s.plain.snapshots name ≡ Some y = ap (get s.plain.snapshots) (sym z.0) ∙ i in
        let w : y.schema.table ≡ table = some_is (sym (ap (option_map (λ (v : PlainSnapshot). v.schema.table)) n) ∙ z.3) in
        copied_covers s a name regions false y.schema y tb f k (k.plans.at a _ j table (ap table_in_copy n ∙ ap Some w) c) n refl z.1
        (some_is (sym (put_this s.plain.tables y.schema.table (table_of false y.schema regions)) ∙ ap (get (insert s.plain.tables y.schema.table (table_of false y.schema regions))) w ∙ q))
changed_covers (Some jobs.Janitor) (event.Remove t regions) table a s tb j z c l h f k own e =
    let w = changed_from t _ s.plain.tables tb (ap (get (tables_on (event.Remove t regions) s.plain.snapshots s.plain.tables)) z.0 ∙ e) in
    let g = k.tables.at t w.0 w.1 in
    let there : get s.plain.tables table ≡ Some w.0 = ap (get s.plain.tables) (sym z.0) ∙ w.1 in
    subst Covers w.2 (record {
      cover = λ row. opens-without row regions w.0.regions (λ i m. none_of regions i false (λ name n y.
          let v = k.held.at a (key_at table name) j (removed_held s a table name (subst (Member name) z.1 n)) c in
          let x : Member (v.0, true) w.0.regions = subst (λ (r : PlainTable). Member (v.0, true) r.regions) (some_is (sym v.2.stands ∙ ap (get s.plain.tables) (ap (λ (r : RegionKey). r.table) v.1) ∙ there)) v.2.listed in
          let same = differ_same w.0.regions (i, false) (v.0, true) g.differ m x (sym y ∙ sym (ap (λ (r : RegionKey). r.region) v.1)) in
          let b : false ≡ true = ap (λ (r : RegionInfo × Bool). r.1) same in absurd (cc))) ∙ g.regions.cover row;
      differ = differ_without regions w.0.regions g.differ;
      families = g.families;
    })
changed_covers _ _ table a s tb j z c l h f k own e = absurd z

-- ---- with the limits of its set

set_table : (set : RegionSet) (state : SetState) (tb : PlainTable) → opened.table_in state set ≡ Some tb → set.regions ≡ tb.regions
set_table set states.Enabled tb e = (cc)
set_table set states.Disabled tb e = (cc)
set_table set states.Dropped tb e = absurd (cc)

fit_table : (set : RegionSet) (tb : PlainTable) → IsSmall set → set.regions ≡ tb.regions → Covers tb → IsFitTable tb
fit_table set tb l e c = record {
  regions = record {
    cover = c.cover;
    few = fewer tb.regions (subst (λ (rs : List (RegionInfo × Bool)). length rs ≤ 1000) e l.few);
    ids = subst (λ (rs : List (RegionInfo × Bool)). AllByRecursion (λ (i : RegionInfo). i.id < 9_223_372_036_854_775_808) (open_of rs)) e l.ids;
  };
  few = subst (λ (rs : List (RegionInfo × Bool)). length rs ≤ 1000) e l.few;
  families = c.families;
  differ = c.differ;
}
  where
    open-length : (rs : List (RegionInfo × Bool)) → length (open_of rs) ≤ length rs
    open-length [] = omega arith
    open-length (x ∷ rs) = let k = open-length rs in elim x.1 as (λ b. length (map (λ (r : RegionInfo × Bool). r.0) (cond (not b) (x ∷ filter (λ (r : RegionInfo × Bool). not r.1) rs) (filter (λ (r : RegionInfo × Bool). not r.1) rs))) ≤ length (x ∷ rs)) [
      | true ↦ omega (arith, k)
      | false ↦ omega (arith, k)
    ]

    fewer : (rs : List (RegionInfo × Bool)) → length rs ≤ 1000 → length (open_of rs) ≤ 1000
    fewer rs m = let k = open-length rs in omega (arith, k, m)

-- each table after a change fits
pub change_fits : (a : ℕ) (table : List ℕ) (n : ℕ) (name : List ℕ) (set : RegionSet) (change : Event) (s : Parts) → CanCommitRegions a table n name set change s → IsSmall set → MakesFamilies change → IsSound s → IsFaithful s → IsCovered s
    → HasOwnRegions (tables_on change s.plain.snapshots s.plain.tables) → (t : List ℕ) (tb : PlainTable) → get (tables_on change s.plain.snapshots s.plain.tables) t ≡ Some tb → IsFitTable tb
change_fits a table n name set change s g l m h f k own t tb e = (elim (same_bytes t table) as (λ b. same_bytes t table ≡ b → IsFitTable tb) [
  | true ↦ λ d. let i = ap (get (tables_on change s.plain.snapshots s.plain.tables)) (sym (same_bytes-true t table d)) ∙ e in
      fit_table set tb l (set_table set set.state tb (g.shown ∙ i)) (changed_covers (job_of s.plain.live a) change table a s tb refl g.is_change g.once m h f k own i)
  | false ↦ λ d. k.tables.at t tb (sym (other_table (job_of s.plain.live a) change table a s t g.is_change d) ∙ e)
]) refl
