-- A change of a table leaves each region that another actor holds in its set.
use Rattle.std.proofs.Common.{◌≡◌, ℕ, ◌||◌, Bool, true, false, not, cond, List, [], ◌∷◌, Option, Some, None, refl, sym, ap, ◌∙◌, subst, inl, inr}
use Rattle.std.specs.List.{list_any}
use Rattle.std.specs.FinMap.{get}
use Rattle.std.specs.Ordering.{is_gt}
use Rattle.hb_cell.specs.Order.{same_bytes}
use Rattle.hb_records.specs.declared.region_info.RegionInfo.{RegionInfo}
use Rattle.region_set.specs.RegionLine.{region_cmp}
use Rattle.plain_model.specs.declared.event.Event.{Event}
use Rattle.plain_model.specs.declared.event.Event.TheVariants as event
use Rattle.plain_model.specs.declared.hold.Hold.{Hold}
use Rattle.plain_model.specs.declared.hold.Hold.TheVariants as holds
use Rattle.plain_model.specs.declared.job.Job.{Job}
use Rattle.plain_model.specs.declared.job.Job.TheVariants as jobs
use Rattle.plain_model.specs.declared.parts.Live.{Live}
use Rattle.plain_model.specs.declared.parts.PlainTable.{PlainTable}
use Rattle.plain_model.specs.declared.region_key.RegionKey.{RegionKey}
use Rattle.plain_model.specs.Keys.{encoded, key_of, key_at}
use Rattle.plain_model.specs.LiveEvents.{live_of, job_of}
use Rattle.plain_model.specs.Names.{Names, change, change_found}
use Rattle.plain_model.specs.TableEvents.{with_region, is_one_of, with_split, without_regions, tables_on}
use Rattle.cell_sight.specs.Member.{Member}
use Rattle.core_model.specs.ActorFacts.{HasOwnHold}
use Rattle.core_model.specs.Actors.{HasHold, IsRegion}
use Rattle.core_model.specs.SetGuards.{IsChange, held_regions, holds_in}
use Rattle.core_model.specs.Sound.{IsSound}
use Rattle.core_model.specs.State.{Parts}
use Rattle.core_sound.proofs.HoldsFound.{holds_apart}
use Rattle.core_sound.proofs.Lists.{map_some, member-find, member-map}
use Rattle.core_sound.proofs.TablesKept.{other_table, put_this}
use Rattle.core_sound.proofs.Tests.{same_bytes-self, same_bytes-true}
use Rattle.core_sound.proofs.Vacant.{same_key-self}

-- ---- regions of a list

-- a region stands in a set's list, split or not
abbrev Stands : RegionInfo → List (RegionInfo × Bool) → Type 0
Stands i rs = (split : Bool) × Member (i, split) rs

stands_put : (new i : RegionInfo) (rs : List (RegionInfo × Bool)) → Stands i rs → Stands i (with_region new rs)
stands_put new i [] h = absurd h.1
stands_put new i (s ∷ ss) h = (elim (is_gt (region_cmp new s.0)) as (λ b. Stands i (cond b (s ∷ with_region new ss) ((new, false) ∷ s ∷ ss))) [
  | true ↦ elim h.1 [ inl e ↦ (h.0, inl e) | inr m ↦ let k = stands_put new i ss (h.0, m) in (k.0, inr k.1) ]
  | false ↦ (h.0, inr h.1)
])

stands_split : (names : List (List ℕ)) (i : RegionInfo) (rs : List (RegionInfo × Bool)) → Stands i rs → Stands i (with_split names rs)
stands_split names i rs h = (h.0 || is_one_of names (i, h.0), member-map (λ (x : RegionInfo × Bool). (x.0, x.1 || is_one_of names x)) (i, h.0) rs h.1)

stands_without : (names : List (List ℕ)) (i : RegionInfo) (rs : List (RegionInfo × Bool)) → ((split : Bool) → is_one_of names (i, split) ≡ false) → Stands i rs → Stands i (without_regions names rs)
stands_without names i [] n h = absurd h.1
stands_without names i (x ∷ xs) n (split, inl e) = (split, subst (λ b. Member (i, split) (cond (not b) (x ∷ without_regions names xs) (without_regions names xs))) (sym (ap (is_one_of names) e ∙ n split)) (inl e))
stands_without names i (x ∷ xs) n (split, inr m) = let k = stands_without names i xs n (split, m) in
    (k.0, elim (is_one_of names x) as (λ b. Member (i, k.0) (cond (not b) (x ∷ without_regions names xs) (without_regions names xs))) [ true ↦ k.1 | false ↦ inr k.1 ])

-- ---- regions of tables

in_set : (tables : Names PlainTable) (r : RegionKey) (table : PlainTable) (i : RegionInfo) → get tables r.table ≡ Some table → Stands i table.regions → key_of i ≡ r → IsRegion tables r
in_set tables r table i e (true, m) k = inr (record { table = table; stands = e; info = i; listed = m; key = k })
in_set tables r table i e (false, m) k = inl (record { table = table; stands = e; info = i; listed = m; key = k })

abbrev Found : Names PlainTable → RegionKey → Type 0
Found tables r = (table : PlainTable) × (i : RegionInfo) × (get tables r.table ≡ Some table) × Stands i table.regions × (key_of i ≡ r)

found : (tables : Names PlainTable) (r : RegionKey) → IsRegion tables r → Found tables r
found tables r (inl h) = (h.table, h.info, h.stands, (false, h.listed), h.key)
found tables r (inr h) = (h.table, h.info, h.stands, (true, h.listed), h.key)

pub region_moved : (tables others : Names PlainTable) (r : RegionKey) → get tables r.table ≡ get others r.table → IsRegion tables r → IsRegion others r
region_moved tables others r e h = let w = found tables r h in in_set others r w.0 w.1 (sym e ∙ w.2) w.3 w.4

-- a table whose regions stay is changed
changed_stays : (t : List ℕ) (f : PlainTable → PlainTable) (tables : Names PlainTable) (r : RegionKey) → same_bytes r.table t ≡ true
    → ((x : PlainTable) (i : RegionInfo) → key_of i ≡ r → Stands i x.regions → Stands i (f x).regions) → IsRegion tables r → IsRegion (change t f tables) r
changed_stays t f tables r d k h =
    let w = found tables r h in
    let e : r.table ≡ t = same_bytes-true r.table t d in
    let o : get tables t ≡ Some w.0 = ap (get tables) (sym e) ∙ w.2 in
    in_set (change t f tables) r (f w.0) w.1 (ap (get (change t f tables)) e ∙ ap (λ o. get (change_found t f tables o) t) o ∙ put_this tables t (f w.0)) (k w.0 w.1 w.4 w.3) w.4

-- ---- a region that another holds

-- whoever holds a table excludes the region
table_excludes : {P : Type 0} (s : Parts) (a w : ℕ) (t : List ℕ) (r : RegionKey) → IsSound s → (a ≡ w → ⊥) → HasHold s.plain.live a (holds.Table t) → HasHold s.plain.live w (holds.Region r) → same_bytes r.table t ≡ true → P
table_excludes s a w t r h n x y d =
    let z : true ≡ false = sym (same_bytes-self t) ∙ ap (same_bytes t) (sym (same_bytes-true r.table t d)) ∙ holds_apart s.plain.live a w (holds.Table t) (holds.Region r) h.apart x y n in absurd (cc)

pub own_hold : (s : Parts) (a : ℕ) (job : Job) (t : List ℕ) → IsSound s → job_of s.plain.live a ≡ Some job → ((hs : List Hold) → HasOwnHold job hs → Member (holds.Table t) hs) → HasHold s.plain.live a (holds.Table t)
own_hold s a job t h j k =
    let w = map_some (λ (l : Live). l.job) (live_of s.plain.live a) job j in
    record { activity = w.0; at_work = w.1; held = k w.0.holds (subst (λ x. HasOwnHold x w.0.holds) w.2 (h.jobs.at w.0 (member-find _ s.plain.live w.0 w.1))) }

-- the regions that an actor takes out are its own holds
held-hold : (table name : List ℕ) (hs : List Hold) → Member name (held_regions table hs) → Member (holds.Region (key_at table name)) hs
held-hold table name [] m = absurd m
held-hold table name (holds.Region r ∷ hs) m = (elim (same_bytes r.table table) as (λ b. same_bytes r.table table ≡ b → Member name (cond b (r.region ∷ held_regions table hs) (held_regions table hs)) → Member (holds.Region (key_at table name)) (holds.Region r ∷ hs)) [
  | true ↦ λ d k. elim k [ inl e ↦ inl (λ j. holds.Region (record { table = same_bytes-true r.table table d j; region = e j })) | inr n ↦ inr (held-hold table name hs n) ]
  | false ↦ λ d k. inr (held-hold table name hs k)
]) refl m
held-hold table name (holds.Table t ∷ hs) m = inr (held-hold table name hs m)
held-hold table name (holds.Flush r ∷ hs) m = inr (held-hold table name hs m)
held-hold table name (holds.Compact r ∷ hs) m = inr (held-hold table name hs m)
held-hold table name (holds.Load t ∷ hs) m = inr (held-hold table name hs m)
held-hold table name (holds.Take n t ∷ hs) m = inr (held-hold table name hs m)
held-hold table name (holds.Use n ∷ hs) m = inr (held-hold table name hs m)
held-hold table name (holds.Erase n ∷ hs) m = inr (held-hold table name hs m)
held-hold table name (holds.Pass ∷ hs) m = inr (held-hold table name hs m)

actor-hold : (live : List Live) (a : ℕ) (o : Option Live) (h : Hold) → live_of live a ≡ o → Member h (holds_in o) → HasHold live a h
actor-hold live a None h e m = absurd m
actor-hold live a (Some l) h e m = record { activity = l; at_work = e; held = m }

region_excludes : {P : Type 0} (s : Parts) (a w : ℕ) (r : RegionKey) → IsSound s → (a ≡ w → ⊥) → HasHold s.plain.live a (holds.Region r) → HasHold s.plain.live w (holds.Region r) → P
region_excludes s a w r h n x y = let z : true ≡ false = sym (same_key-self r) ∙ holds_apart s.plain.live a w (holds.Region r) (holds.Region r) h.apart x y n in absurd (cc)

none_of : (names : List (List ℕ)) (i : RegionInfo) (split : Bool) → ((name : List ℕ) → Member name names → name ≡ encoded i → ⊥) → is_one_of names (i, split) ≡ false
none_of [] i split n = refl
none_of (x ∷ xs) i split n = (elim (same_bytes x (encoded i)) as (λ b. same_bytes x (encoded i) ≡ b → (b || list_any (λ name. same_bytes name (encoded i)) xs) ≡ false) [
  | true ↦ λ d. absurd (n x (inl refl) (same_bytes-true x (encoded i) d))
  | false ↦ λ d. none_of xs i split (λ y m. n y (inr m))
]) refl

not_removed : (s : Parts) (a : ℕ) (t : List ℕ) (r : RegionKey) (i : RegionInfo) → (HasHold s.plain.live a (holds.Region r) → ⊥) → key_of i ≡ r → same_bytes r.table t ≡ true
    → (split : Bool) → is_one_of (held_regions t (holds_in (live_of s.plain.live a))) (i, split) ≡ false
not_removed s a t r i y k d split = none_of _ i split (λ name m e.
    let x = actor-hold s.plain.live a (live_of s.plain.live a) (holds.Region (key_at t name)) refl (held-hold t name _ m) in
    y (subst (λ (q : RegionKey). HasHold s.plain.live a (holds.Region q)) (same_place name e) x))
  where
    same_place : (name : List ℕ) → name ≡ encoded i → key_at t name ≡ r
    same_place name e = λ j. record { table = sym (same_bytes-true r.table t d) j; region = (e ∙ ap (λ (q : RegionKey). q.region) k) j }

-- ---- all changes

-- the actor of the change holds neither the table nor the region
abbrev HasNone : Parts → ℕ → RegionKey → Type 0
HasNone s a r = ((t : List ℕ) → HasHold s.plain.live a (holds.Table t) → same_bytes r.table t ≡ true → ⊥) × (HasHold s.plain.live a (holds.Region r) → ⊥)

stays_here : (job : Option Job) (change : Event) (table : List ℕ) (a : ℕ) (s : Parts) (r : RegionKey) → job_of s.plain.live a ≡ job → IsChange job change table a s → IsSound s → HasNone s a r
    → same_bytes r.table table ≡ true → IsRegion s.plain.tables r → IsRegion (tables_on change s.plain.snapshots s.plain.tables) r
stays_here (Some (jobs.Create t fs n ks)) (event.Create schema regions) table a s r j z h y d i = absurd (y.0 table (own_hold s a _ table h j (λ hs k. subst (λ x. Member (holds.Table x) hs) z.0 k)) d)
stays_here (Some (jobs.Enable t)) (event.Enable u) table a s r j z h y d i = absurd (y.0 table (own_hold s a _ table h j (λ hs k. subst (λ x. Member (holds.Table x) hs) z.0 k)) d)
stays_here (Some (jobs.Disable t)) (event.Disable u) table a s r j z h y d i = absurd (y.0 table (own_hold s a _ table h j (λ hs k. subst (λ x. Member (holds.Table x) hs) z.0 k)) d)
stays_here (Some (jobs.Drop t)) (event.Drop u) table a s r j z h y d i = absurd (y.0 table (own_hold s a _ table h j (λ hs k. subst (λ x. Member (holds.Table x) hs) z.0 k)) d)
stays_here (Some (jobs.Clone name t)) (event.Clone c u regions) table a s r j z h y d i = absurd (y.0 table (own_hold s a _ table h j (λ hs k. subst (λ x. Member (holds.Table x) hs) z.0 k)) d)
stays_here (Some (jobs.Restore name)) (event.Restore c regions) table a s r j z h y d i = absurd (y.0 table z.2 d)
stays_here (Some (jobs.Split t row)) (event.Split u parent low high) table a s r j z h y d i =
    changed_stays u _ s.plain.tables r (subst (λ x. same_bytes r.table x ≡ true) (sym z.1) d)
    (λ x k e m. stands_put low k _ (stands_put high k _ (stands_split (parent ∷ []) k x.regions m))) i
stays_here (Some jobs.Janitor) (event.Remove t regions) table a s r j z h y d i =
    let q : same_bytes r.table t ≡ true = subst (λ x. same_bytes r.table x ≡ true) (sym z.0) d in
    changed_stays t _ s.plain.tables r q
    (λ x k e m. stands_without regions k x.regions (λ split. ap (λ names. is_one_of names (k, split)) z.1 ∙ not_removed s a table r k y.1 e d split) m) i
stays_here _ _ table a s r j z h y d i = absurd z

-- a region is in the set after the change of an actor that holds neither it nor its table
pub free_stays : (change : Event) (table : List ℕ) (a : ℕ) (s : Parts) (r : RegionKey) → IsChange (job_of s.plain.live a) change table a s → IsSound s
    → ((t : List ℕ) → HasHold s.plain.live a (holds.Table t) → same_bytes r.table t ≡ true → ⊥) → (HasHold s.plain.live a (holds.Region r) → ⊥)
    → IsRegion s.plain.tables r → IsRegion (tables_on change s.plain.snapshots s.plain.tables) r
free_stays change table a s r z h x y i = (elim (same_bytes r.table table) as (λ b. same_bytes r.table table ≡ b → IsRegion (tables_on change s.plain.snapshots s.plain.tables) r) [
  | true ↦ λ d. stays_here (job_of s.plain.live a) change table a s r refl z h (x, y) d i
  | false ↦ λ d. region_moved s.plain.tables _ r (sym (other_table (job_of s.plain.live a) change table a s r.table z d)) i
]) refl

-- so it is after another's change
pub region_stays : (change : Event) (table : List ℕ) (a w : ℕ) (s : Parts) (r : RegionKey) → IsChange (job_of s.plain.live a) change table a s → IsSound s → (a ≡ w → ⊥) → HasHold s.plain.live w (holds.Region r)
    → IsRegion s.plain.tables r → IsRegion (tables_on change s.plain.snapshots s.plain.tables) r
region_stays change table a w s r z h n y i = free_stays change table a s r z h (λ t x d. table_excludes s a w t r h n x y d) (λ x. region_excludes s a w r h n x y) i
