-- Each step keeps that a table's regions are its own.
use Rattle.std.proofs.Common.{◌≡◌, ℕ, Bool, true, false, cond, List, [], ◌∷◌, Option, Some, None, refl, sym, ap, ◌∙◌, subst, inl, inr}
use Rattle.std.specs.Prelude.{option_map}
use Rattle.std.specs.FinMap.{get, insert, remove, get-insert, get-remove}
use Rattle.std.specs.Cmp.Lexicographic.{texts_ties, nat_list_cmp_total}
use Rattle.hb_grammar.specs.Rows.{RowsFrom}
use Rattle.hb_records.specs.declared.region_info.RegionInfo.{RegionInfo}
use Rattle.hb_records.specs.declared.table_schema.TableSchema.{TableSchema}
use Rattle.region_set.specs.RegionLine.{IsRegionBehind}
use Rattle.region_set.specs.declared.region_set.RegionSet as set
use Rattle.region_set.specs.declared.set_state.SetState.{SetState}
use Rattle.region_set.specs.declared.set_state.SetState.TheVariants as states
use Rattle.plain_model.specs.declared.event.Event.{Event}
use Rattle.plain_model.specs.declared.event.Event.TheVariants as event
use Rattle.plain_model.specs.declared.job.Job.{Job}
use Rattle.plain_model.specs.declared.job.Job.TheVariants as jobs
use Rattle.hb_cell.specs.Order.{same_bytes}
use Rattle.plain_model.specs.Names.{Names, change, change_found}
use Rattle.plain_model.specs.LiveEvents.{job_of}
use Rattle.plain_model.specs.declared.parts.PlainSnapshot.{PlainSnapshot}
use Rattle.plain_model.specs.declared.parts.PlainTable.{PlainTable}
use Rattle.plain_model.specs.TableEvents.{tables_on, with_copy, with_restored}
use Rattle.core_model.specs.declared.step.Step.{Step}
use Rattle.core_model.specs.declared.step.Step.TheVariants as step
use Rattle.core_model.specs.Allows.{Allows}
use Rattle.cell_sight.specs.Member.{Member}
use Rattle.core_model.specs.Opened.{table_of, table_in}
use Rattle.core_model.specs.Replay.{after}
use Rattle.core_model.specs.SetGuards.{CanCommitRegions, IsChange}
use Rattle.core_model.specs.TableFacts.{HasOwnRegions}
use Rattle.region_set.specs.RegionSet.{IsRegionSet}
use Rattle.core_model.specs.Sound.{IsSound}
use Rattle.core_model.specs.State.{Parts}
use Rattle.core_model.specs.TableChanges.{tables_by}
use Rattle.core_sound.proofs.NeverAgain.{tables_after}
use Rattle.core_sound.proofs.Tests.{same_bytes-self, same_bytes-true}

-- ---- names in maps

pub put_at : {X : Type 0} (m : Names X) (k : List ℕ) (v : X) (q : List ℕ) → get (insert m k v) q ≡ cond (same_bytes q k) (Some v) (get m q)
put_at m k v q = get-insert nat_list_cmp_total m k v q ∙ ap (λ b. cond b (Some v) (get m q)) (sym (texts_ties q k))

pub taken_at : {X : Type 0} (m : Names X) (k q : List ℕ) → get (remove m k) q ≡ cond (same_bytes q k) None (get m q)
taken_at m k q = get-remove nat_list_cmp_total m k q ∙ ap (λ b. cond b None (get m q)) (sym (texts_ties q k))

pub put_this : {X : Type 0} (m : Names X) (k : List ℕ) (v : X) → get (insert m k v) k ≡ Some v
put_this m k v = put_at m k v k ∙ ap (λ b. cond b (Some v) (get m k)) (same_bytes-self k)

pub put_other : {X : Type 0} (m : Names X) (k : List ℕ) (v : X) (q : List ℕ) → same_bytes q k ≡ false → get (insert m k v) q ≡ get m q
put_other m k v q e = put_at m k v q ∙ ap (λ b. cond b (Some v) (get m q)) e

pub taken_other : {X : Type 0} (m : Names X) (k q : List ℕ) → same_bytes q k ≡ false → get (remove m k) q ≡ get m q
taken_other m k q e = taken_at m k q ∙ ap (λ b. cond b None (get m q)) e

pub change_other : {X : Type 0} (k : List ℕ) (f : X → X) (m : Names X) (q : List ℕ) → same_bytes q k ≡ false → get (change k f m) q ≡ get m q
change_other k f m q e = elim (get m k) as (λ o. get (change_found k f m o) q ≡ get m q) [ None ↦ refl | Some x ↦ put_other m k (f x) q e ]

-- ---- the plain tables

copy_other : (table : List ℕ) (enabled : Bool) (is : List RegionInfo) (o : Option PlainSnapshot) (tables : Names PlainTable) (t : List ℕ) → same_bytes t table ≡ false → get (with_copy table enabled is o tables) t ≡ get tables t
copy_other table enabled is None tables t e = refl
copy_other table enabled is (Some x) tables t e = put_other tables table _ t e

restored_other : (is : List RegionInfo) (o : Option PlainSnapshot) (tables : Names PlainTable) (table t : List ℕ) → option_map (λ (x : PlainSnapshot). x.schema.table) o ≡ Some table → same_bytes t table ≡ false
    → get (with_restored is o tables) t ≡ get tables t
restored_other is None tables table t k e = refl
restored_other is (Some x) tables table t k e = put_other tables x.schema.table _ t (ap (same_bytes t) (some_is k) ∙ e)
  where
    some_is : {a b : List ℕ} → Some a ≡ Some b → a ≡ b
    some_is e = (cc)

-- the change of a table changes no other
pub other_table : (job : Option Job) (e : Event) (table : List ℕ) (a : ℕ) (s : Parts) (t : List ℕ) → IsChange job e table a s → same_bytes t table ≡ false → get (tables_on e s.plain.snapshots s.plain.tables) t ≡ get s.plain.tables t
other_table (Some (jobs.Create u fs n ks)) (event.Create schema regions) table a s t z d = put_other s.plain.tables schema.table _ t (ap (same_bytes t) (ap (λ (x : TableSchema). x.table) z.1 ∙ z.0) ∙ d)
other_table (Some (jobs.Enable u)) (event.Enable v) table a s t z d = change_other v _ s.plain.tables t (ap (same_bytes t) z.1 ∙ d)
other_table (Some (jobs.Disable u)) (event.Disable v) table a s t z d = change_other v _ s.plain.tables t (ap (same_bytes t) z.1 ∙ d)
other_table (Some (jobs.Drop u)) (event.Drop v) table a s t z d = taken_other s.plain.tables v t (ap (same_bytes t) z.1 ∙ d)
other_table (Some (jobs.Split u row)) (event.Split v parent low high) table a s t z d = change_other v _ s.plain.tables t (ap (same_bytes t) z.1 ∙ d)
other_table (Some (jobs.Clone name u)) (event.Clone c v regions) table a s t z d = copy_other v true regions (get s.plain.snapshots c) s.plain.tables t (ap (same_bytes t) z.1 ∙ d)
other_table (Some (jobs.Restore name)) (event.Restore c regions) table a s t z d = restored_other regions (get s.plain.snapshots c) s.plain.tables table t (ap (λ x. option_map (λ (y : PlainSnapshot). y.schema.table) (get s.plain.snapshots x)) z.0 ∙ z.3) d
other_table (Some jobs.Janitor) (event.Remove v rs) table a s t z d = change_other v _ s.plain.tables t (ap (same_bytes t) z.0 ∙ d)
other_table _ _ table a s t z d = absurd z

-- ---- the regions of a table

own_row : (t : List ℕ) (last : Option (RegionInfo × Bool)) (x : RegionInfo × Bool) → IsRegionBehind t last x → x.0.table ≡ t
own_row t None x h = h.of_table
own_row t (Some y) x h = h.0.of_table

own_rows : (t : List ℕ) (last : Option (RegionInfo × Bool)) (rs : List (RegionInfo × Bool)) (x : RegionInfo × Bool) → RowsFrom (IsRegionBehind t) last rs → Member x rs → x.0.table ≡ t
own_rows t last [] x h m = absurd m
own_rows t last (r ∷ rs) x h (inl e) = ap (λ (y : RegionInfo × Bool). y.0.table) (sym e) ∙ own_row t last r h.0
own_rows t last (r ∷ rs) x h (inr m) = own_rows t (Some r) rs x h.1 m

set_regions : (x : set.RegionSet) (y : SetState) (table : PlainTable) → table_in y x ≡ Some table → x.regions ≡ table.regions
set_regions x states.Enabled table e = (cc)
set_regions x states.Disabled table e = (cc)
set_regions x states.Dropped table e = absurd (cc)

set_own : (t : List ℕ) (x : set.RegionSet) (table : PlainTable) (i : RegionInfo) (split : Bool) → IsRegionSet t x → table_of x ≡ Some table → Member (i, split) table.regions → i.table ≡ t
set_own t x table i split h e m = own_rows t None x.regions (i, split) h.regions (subst (Member (i, split)) (sym (set_regions x x.state table e)) m)

committed_own : (a : ℕ) (table : List ℕ) (n : ℕ) (name : List ℕ) (new : set.RegionSet) (e : Event) (s : Parts) → CanCommitRegions a table n name new e s → IsSound s → HasOwnRegions (tables_on e s.plain.snapshots s.plain.tables)
committed_own a table n name new e s g h = record {
  at = λ t x i split k m. (elim (same_bytes t table) as (λ b. same_bytes t table ≡ b → i.table ≡ t) [
    | true ↦ λ d. set_own table new x i split g.lawful (g.shown ∙ ap (get (tables_on e s.plain.snapshots s.plain.tables)) (sym (same_bytes-true t table d)) ∙ k) m ∙ sym (same_bytes-true t table d)
    | false ↦ λ d. h.own_regions.at t x i split (sym (other_table (job_of s.plain.live a) e table a s t g.is_change d) ∙ k) m
  ]) refl;
}

own_by_step : (p : Step) (s : Parts) → Allows p s → IsSound s → HasOwnRegions (tables_by p s.plain.snapshots s.plain.tables)
own_by_step (step.CommitRegions actor table number name new change) s a h = committed_own actor.0 table number name new change s a h
own_by_step _ s a h = h.own_regions

pub own_kept : (p : Step) (s : Parts) → Allows p s → IsSound s → HasOwnRegions (after p s).plain.tables
own_kept p s a h = subst HasOwnRegions (sym (tables_after p s)) (own_by_step p s a h)
