-- A change of a table leaves a region that another actor holds as it stands in its set, split or open.
use Rattle.std.proofs.Common.{◌≡◌, ℕ, ◌||◌, ◌==◌, arith, Bool, true, false, not, cond, List, [], ◌∷◌, Option, Some, None, refl, sym, ap, ◌∙◌, subst, inl, inr}
use Rattle.std.specs.List.{list_any}
use Rattle.std.specs.FinMap.{get}
use Rattle.std.proofs.lemmas.Bool.Decides.{nat_tests}
use Rattle.cell_sight.specs.Member.{Member}
use Rattle.cell_sight.proofs.Members.{in_filter}
use Rattle.hb_cell.specs.Order.{same_bytes}
use Rattle.hb_records.specs.declared.region_info.RegionInfo.{RegionInfo}
use Rattle.plain_model.specs.declared.event.Event.{Event}
use Rattle.plain_model.specs.declared.event.Event.TheVariants as event
use Rattle.plain_model.specs.declared.hold.Hold.{Hold}
use Rattle.plain_model.specs.declared.hold.Hold.TheVariants as holds
use Rattle.plain_model.specs.declared.job.Job.{Job}
use Rattle.plain_model.specs.declared.job.Job.TheVariants as jobs
use Rattle.plain_model.specs.declared.parts.Live.{Live}
use Rattle.plain_model.specs.declared.parts.PlainTable.{PlainTable}
use Rattle.plain_model.specs.declared.region_key.RegionKey.{RegionKey}
use Rattle.plain_model.specs.Conflicts.{excludes}
use Rattle.plain_model.specs.Keys.{encoded, key_at, key_of}
use Rattle.plain_model.specs.LiveEvents.{job_of, live_of}
use Rattle.plain_model.specs.Names.{Names, change, change_found}
use Rattle.plain_model.specs.TableEvents.{is_one_of, tables_on, with_split, without_regions}
use Rattle.core_model.specs.ActorFacts.{FitsJob, HasOwnHold}
use Rattle.core_model.specs.Actors.{HasHold}
use Rattle.core_model.specs.SetGuards.{IsChange, held_regions, holds_in}
use Rattle.core_model.specs.Sound.{IsSound}
use Rattle.core_model.specs.State.{Parts}
use Rattle.core_sound.proofs.HoldsFound.{hold_fits, hold_job, holds_apart, some_is}
use Rattle.core_sound.proofs.Lists.{member-map}
use Rattle.core_sound.proofs.RegionsStay.{own_hold}
use Rattle.core_sound.proofs.TablesKept.{other_table, put_this}
use Rattle.core_sound.proofs.Tests.{same_bytes-self, same_bytes-true, same_number}
use Rattle.core_sound.proofs.Vacant.{same_key-self}
use Rattle.core_regions.specs.Cover.{IsListed}
use Rattle.core_regions.proofs.Counted.{still_put}

-- ---- a table that is changed

-- a changed table was there
pub changed_from : (u : List ℕ) (f : PlainTable → PlainTable) (tables : Names PlainTable) (tb : PlainTable) → get (change u f tables) u ≡ Some tb → (x : PlainTable) × (get tables u ≡ Some x) × (f x ≡ tb)
changed_from u f tables tb e = by_found (get tables u) refl e
  where
    by_found : (o : Option PlainTable) → get tables u ≡ o → get (change_found u f tables o) u ≡ Some tb → (x : PlainTable) × (get tables u ≡ Some x) × (f x ≡ tb)
    by_found None i k = let z : None ≡ Some tb = sym i ∙ k in absurd (cc)
    by_found (Some x) i k = (x, i, some_is (sym (put_this tables u (f x)) ∙ k))
      where
        some_is : {a b : PlainTable} → Some a ≡ Some b → a ≡ b
        some_is z = (cc)

listed_changed : (u : List ℕ) (f : PlainTable → PlainTable) (tables : Names PlainTable) (i : RegionInfo) (split : Bool) → i.table ≡ u → ((x : PlainTable) → Member (i, split) x.regions → Member (i, split) (f x).regions) → IsListed tables i split → IsListed (change u f tables) i split
listed_changed u f tables i split e k h = record {
  table = f h.table;
  stands = ap (get (change u f tables)) e ∙ ap (λ o. get (change_found u f tables o) u) (ap (get tables) (sym e) ∙ h.stands) ∙ put_this tables u (f h.table);
  listed = k h.table h.listed;
}

-- ---- holds

-- whoever holds a table excludes a region of it
pub no_table : {P : Type 0} (s : Parts) (a w : ℕ) (i : RegionInfo) → IsSound s → (a ≡ w → ⊥) → HasHold s.plain.live a (holds.Table i.table) → HasHold s.plain.live w (holds.Region (key_of i)) → P
no_table s a w i h n x y = let z : true ≡ false = sym (same_bytes-self i.table) ∙ holds_apart s.plain.live a w (holds.Table i.table) (holds.Region (key_of i)) h.apart x y n in absurd (cc)

no_region : {P : Type 0} (s : Parts) (a w : ℕ) (r : RegionKey) → IsSound s → (a ≡ w → ⊥) → HasHold s.plain.live a (holds.Region r) → HasHold s.plain.live w (holds.Region r) → P
no_region s a w r h n x y = let z : true ≡ false = sym (same_key-self r) ∙ holds_apart s.plain.live a w (holds.Region r) (holds.Region r) h.apart x y n in absurd (cc)

-- the regions that an actor takes out are its own holds
held_name : (table name : List ℕ) (hs : List Hold) → Member name (held_regions table hs) → Member (holds.Region (key_at table name)) hs
held_name table name [] m = absurd m
held_name table name (holds.Region r ∷ hs) m = (elim (same_bytes r.table table) as (λ b. same_bytes r.table table ≡ b → Member name (cond b (r.region ∷ held_regions table hs) (held_regions table hs)) → Member (holds.Region (key_at table name)) (holds.Region r ∷ hs)) [
  | true ↦ λ d k. elim k [ inl e ↦ inl (λ j. holds.Region (record { table = same_bytes-true r.table table d j; region = e j })) | inr n ↦ inr (held_name table name hs n) ]
  | false ↦ λ d k. inr (held_name table name hs k)
]) refl m
held_name table name (holds.Table t ∷ hs) m = inr (held_name table name hs m)
held_name table name (holds.Flush r ∷ hs) m = inr (held_name table name hs m)
held_name table name (holds.Compact r ∷ hs) m = inr (held_name table name hs m)
held_name table name (holds.Load t ∷ hs) m = inr (held_name table name hs m)
held_name table name (holds.Take n t ∷ hs) m = inr (held_name table name hs m)
held_name table name (holds.Use n ∷ hs) m = inr (held_name table name hs m)
held_name table name (holds.Erase n ∷ hs) m = inr (held_name table name hs m)
held_name table name (holds.Pass ∷ hs) m = inr (held_name table name hs m)

has_hold : (live : List Live) (a : ℕ) (o : Option Live) (h : Hold) → live_of live a ≡ o → Member h (holds_in o) → HasHold live a h
has_hold live a None h e m = absurd m
has_hold live a (Some l) h e m = record { activity = l; at_work = e; held = m }

pub removed_held : (s : Parts) (a : ℕ) (table name : List ℕ) → Member name (held_regions table (holds_in (live_of s.plain.live a))) → HasHold s.plain.live a (holds.Region (key_at table name))
removed_held s a table name m = has_hold s.plain.live a (live_of s.plain.live a) (holds.Region (key_at table name)) refl (held_name table name (holds_in (live_of s.plain.live a)) m)

pub none_of : (names : List (List ℕ)) (i : RegionInfo) (split : Bool) → ((name : List ℕ) → Member name names → name ≡ encoded i → ⊥) → is_one_of names (i, split) ≡ false
none_of [] i split n = refl
none_of (x ∷ xs) i split n = (elim (same_bytes x (encoded i)) as (λ b. same_bytes x (encoded i) ≡ b → (b || list_any (λ name. same_bytes name (encoded i)) xs) ≡ false) [
  | true ↦ λ d. absurd (n x (inl refl) (same_bytes-true x (encoded i) d))
  | false ↦ λ d. none_of xs i split (λ y m. n y (inr m))
]) refl

-- ---- members of what a change makes

or_none : (a b : Bool) → b ≡ false → (a || b) ≡ a
or_none true b e = refl
or_none false b e = e

still_split : (names : List (List ℕ)) (i : RegionInfo) (split : Bool) (rs : List (RegionInfo × Bool)) → is_one_of names (i, split) ≡ false → Member (i, split) rs → Member (i, split) (with_split names rs)
still_split names i split rs n m = subst (λ b. Member (i, b) (with_split names rs)) (or_none split (is_one_of names (i, split)) n) (member-map (λ (x : RegionInfo × Bool). (x.0, x.1 || is_one_of names x)) (i, split) rs m)

still_there : (names : List (List ℕ)) (i : RegionInfo) (split : Bool) (rs : List (RegionInfo × Bool)) → is_one_of names (i, split) ≡ false → Member (i, split) rs → Member (i, split) (without_regions names rs)
still_there names i split rs n m = in_filter (λ (x : RegionInfo × Bool). not (is_one_of names x)) (i, split) rs m (ap not n)

-- ---- all changes

table_own : (s : Parts) (a w : ℕ) (job : Job) (t : List ℕ) (i : RegionInfo) {P : Type 0} → IsSound s → (a ≡ w → ⊥) → job_of s.plain.live a ≡ Some job → ((hs : List Hold) → HasOwnHold job hs → Member (holds.Table t) hs) → i.table ≡ t → HasHold s.plain.live w (holds.Region (key_of i)) → P
table_own s a w job t i h n j k e y = no_table s a w i h n (subst (λ x. HasHold s.plain.live a (holds.Table x)) (sym e) (own_hold s a job t h j k)) y

stays_here : (job : Option Job) (change : Event) (table : List ℕ) (a w : ℕ) (s : Parts) (i : RegionInfo) (split : Bool) → job_of s.plain.live a ≡ job → IsChange job change table a s → IsSound s → (a ≡ w → ⊥) → HasHold s.plain.live w (holds.Region (key_of i))
    → i.table ≡ table → IsListed s.plain.tables i split → IsListed (tables_on change s.plain.snapshots s.plain.tables) i split
stays_here (Some (jobs.Create t fs n ks)) (event.Create schema regions) table a w s i split j z h d y e l = table_own s a w _ table i h d j (λ hs k. subst (λ x. Member (holds.Table x) hs) z.0 k) e y
stays_here (Some (jobs.Enable t)) (event.Enable u) table a w s i split j z h d y e l = table_own s a w _ table i h d j (λ hs k. subst (λ x. Member (holds.Table x) hs) z.0 k) e y
stays_here (Some (jobs.Disable t)) (event.Disable u) table a w s i split j z h d y e l = table_own s a w _ table i h d j (λ hs k. subst (λ x. Member (holds.Table x) hs) z.0 k) e y
stays_here (Some (jobs.Drop t)) (event.Drop u) table a w s i split j z h d y e l = table_own s a w _ table i h d j (λ hs k. subst (λ x. Member (holds.Table x) hs) z.0 k) e y
stays_here (Some (jobs.Clone name t)) (event.Clone c u regions) table a w s i split j z h d y e l = table_own s a w _ table i h d j (λ hs k. subst (λ x. Member (holds.Table x) hs) z.0 k) e y
stays_here (Some (jobs.Restore name)) (event.Restore c regions) table a w s i split j z h d y e l = no_table s a w i h d (subst (λ x. HasHold s.plain.live a (holds.Table x)) (sym e) z.2) y
stays_here (Some (jobs.Split t row)) (event.Split u parent low high) table a w s i split j z h d y e l =
    listed_changed u _ s.plain.tables i split (e ∙ sym z.1) (λ x m. still_put low (i, split) _ (still_put high (i, split) _ (still_split (parent ∷ []) i split x.regions (none_of (parent ∷ []) i split (λ name n k. elim n [
      | inl q ↦ no_region s a w (key_of i) h d (subst (λ r. HasHold s.plain.live a (holds.Region r)) (λ p. record { table = sym e p; region = (q ∙ k) p }) z.2) y
      | inr q ↦ q
    ])) m))) l
stays_here (Some jobs.Janitor) (event.Remove t regions) table a w s i split j z h d y e l =
    listed_changed t _ s.plain.tables i split (e ∙ sym z.0) (λ x m. still_there regions i split x.regions (none_of regions i split (λ name n k.
    no_region s a w (key_of i) h d (subst (λ r. HasHold s.plain.live a (holds.Region r)) (λ p. record { table = sym e p; region = k p }) (removed_held s a table name (subst (Member name) z.1 n))) y)) m) l
stays_here _ _ table a w s i split j z h d y e l = absurd z

pub listed_stays : (change : Event) (table : List ℕ) (a w : ℕ) (s : Parts) (i : RegionInfo) (split : Bool) → IsChange (job_of s.plain.live a) change table a s → IsSound s → (a ≡ w → ⊥) → HasHold s.plain.live w (holds.Region (key_of i))
    → IsListed s.plain.tables i split → IsListed (tables_on change s.plain.snapshots s.plain.tables) i split
listed_stays change table a w s i split z h d y l = (elim (same_bytes i.table table) as (λ b. same_bytes i.table table ≡ b → IsListed (tables_on change s.plain.snapshots s.plain.tables) i split) [
  | true ↦ λ k. stays_here (job_of s.plain.live a) change table a w s i split refl z h d y (same_bytes-true i.table table k) l
  | false ↦ λ k. record { table = l.table; stands = other_table (job_of s.plain.live a) change table a s i.table z k ∙ l.stands; listed = l.listed }
]) refl

-- ---- what an actor holds that changes a table

-- the table, or a region of it; and it neither loads nor takes a snapshot
pub record Changer (s : Parts) (a : ℕ) (table : List ℕ) : Type 0 where
  pub hold : Hold
  pub held : HasHold s.plain.live a hold
  pub not_load : excludes hold (holds.Load table) ≡ true
  pub not_take : (name : List ℕ) → excludes hold (holds.Take name table) ≡ true
  pub job : Job
  pub is_job : job_of s.plain.live a ≡ Some job
  pub no_load : (t : List ℕ) → FitsJob (holds.Load t) job → ⊥
  pub no_take : (name t : List ℕ) → FitsJob (holds.Take name t) job → ⊥

by_table : (s : Parts) (a : ℕ) (table : List ℕ) (job : Job) → job_of s.plain.live a ≡ Some job → HasHold s.plain.live a (holds.Table table) → ((t : List ℕ) → FitsJob (holds.Load t) job → ⊥) → ((name t : List ℕ) → FitsJob (holds.Take name t) job → ⊥) → Changer s a table
by_table s a table job j x u v = record { hold = holds.Table table; held = x; not_load = same_bytes-self table; not_take = λ name. same_bytes-self table; job = job; is_job = j; no_load = u; no_take = v }

by_region : (s : Parts) (a : ℕ) (table name : List ℕ) (job : Job) → job_of s.plain.live a ≡ Some job → HasHold s.plain.live a (holds.Region (key_at table name)) → ((t : List ℕ) → FitsJob (holds.Load t) job → ⊥) → ((name t : List ℕ) → FitsJob (holds.Take name t) job → ⊥) → Changer s a table
by_region s a table name job j x u v = record { hold = holds.Region (key_at table name); held = x; not_load = same_bytes-self table; not_take = λ n. same_bytes-self table; job = job; is_job = j; no_load = u; no_take = v }

pub own_table : (s : Parts) (a : ℕ) (table t : List ℕ) (job : Job) → IsSound s → job_of s.plain.live a ≡ Some job → t ≡ table → ((hs : List Hold) → HasOwnHold job hs → Member (holds.Table t) hs) → HasHold s.plain.live a (holds.Table table)
own_table s a table t job h j e k = subst (λ x. HasHold s.plain.live a (holds.Table x)) e (own_hold s a job t h j k)

pub changer : (job : Option Job) (change : Event) (table : List ℕ) (a : ℕ) (s : Parts) → job_of s.plain.live a ≡ job → IsChange job change table a s → IsSound s → Changer s a table
changer (Some (jobs.Create t fs n ks)) (event.Create schema regions) table a s j z h = by_table s a table _ j (own_table s a table t _ h j z.0 (λ hs k. k)) (λ u f. f) (λ m u f. f)
changer (Some (jobs.Enable t)) (event.Enable u) table a s j z h = by_table s a table _ j (own_table s a table t _ h j z.0 (λ hs k. k)) (λ v f. f) (λ m v f. f)
changer (Some (jobs.Disable t)) (event.Disable u) table a s j z h = by_table s a table _ j (own_table s a table t _ h j z.0 (λ hs k. k)) (λ v f. f) (λ m v f. f)
changer (Some (jobs.Drop t)) (event.Drop u) table a s j z h = by_table s a table _ j (own_table s a table t _ h j z.0 (λ hs k. k)) (λ v f. f) (λ m v f. f)
changer (Some (jobs.Clone name t)) (event.Clone c u regions) table a s j z h = by_table s a table _ j (own_table s a table t _ h j z.0 (λ hs k. k)) (λ v f. f) (λ m v f. f)
changer (Some (jobs.Restore name)) (event.Restore c regions) table a s j z h = by_table s a table _ j z.2 (λ v f. f) (λ m v f. f)
changer (Some (jobs.Split t row)) (event.Split u parent low high) table a s j z h = by_region s a table parent _ j z.2 (λ v f. f) (λ m v f. f)
changer (Some jobs.Janitor) (event.Remove t []) table a s j z h = absurd (z.2 refl)
changer (Some jobs.Janitor) (event.Remove t (name ∷ names)) table a s j z h = by_region s a table name _ j (removed_held s a table name (subst (Member name) z.1 (inl refl))) (λ v f. f) (λ m v f. f)
changer _ _ table a s j z h = absurd z

-- another's hold that this one excludes is of another table
pub other_held : {P : Type 0} (s : Parts) (a w : ℕ) (table : List ℕ) (h : Hold) → IsSound s → (c : Changer s a table) → HasHold s.plain.live w h → (FitsJob h c.job → ⊥) → excludes c.hold h ≡ true → P
other_held {P} s a w table x h c y n e = (elim (a == w) as (λ b. a == w ≡ b → P) [
  | true ↦ λ d. absurd (n (subst (FitsJob x) (job_is d) (hold_fits s.plain.live w x h.fits y)))
  | false ↦ λ d. let q : true ≡ false = sym e ∙ holds_apart s.plain.live a w c.hold x h.apart c.held y (apart d) in absurd (cc)
]) refl
  where
    apart : (a == w) ≡ false → a ≡ w → ⊥
    apart d i = grind (arith, nat_tests)

    job_is : (a == w) ≡ true → y.activity.job ≡ c.job
    job_is d = some_is (sym (hold_job s.plain.live w x y) ∙ ap (job_of s.plain.live) (sym (same_number a w d)) ∙ c.is_job)
