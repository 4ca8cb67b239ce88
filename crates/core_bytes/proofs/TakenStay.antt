-- A step leaves the table of a snapshot that is taken as it is.
use Rattle.std.proofs.Common.{◌≡◌, ℕ, ◌==◌, true, false, cond, List, [], ◌∷◌, Option, Some, None, refl, sym, ap, ◌∙◌, subst, inl, inr, arith}
use Rattle.std.specs.FinMap.{get}
use Rattle.std.proofs.lemmas.Bool.Decides.{nat_tests}
use Rattle.hb_cell.specs.Order.{same_bytes}
use Rattle.cell_sight.specs.Member.{Member}
use Rattle.plain_model.specs.declared.event.Event.{Event}
use Rattle.plain_model.specs.declared.event.Event.TheVariants as event
use Rattle.plain_model.specs.declared.hold.Hold.{Hold}
use Rattle.plain_model.specs.declared.hold.Hold.TheVariants as holds
use Rattle.plain_model.specs.declared.job.Job.{Job}
use Rattle.plain_model.specs.declared.job.Job.TheVariants as jobs
use Rattle.plain_model.specs.declared.region_key.RegionKey.{RegionKey}
use Rattle.plain_model.specs.After.{after_all}
use Rattle.plain_model.specs.Keys.{key_at}
use Rattle.plain_model.specs.LiveEvents.{live_of, job_of}
use Rattle.plain_model.specs.declared.parts.Live.{Live}
use Rattle.plain_model.specs.TableEvents.{tables_on}
use Rattle.core_model.specs.declared.step.Step.{Step}
use Rattle.core_model.specs.declared.step.Step.TheVariants as step
use Rattle.core_model.specs.ActorFacts.{FitsJob}
use Rattle.core_model.specs.Actors.{HasHold}
use Rattle.core_model.specs.Allows.{Allows}
use Rattle.core_model.specs.Events.{events_of}
use Rattle.core_model.specs.SetGuards.{IsChange, held_regions, holds_in}
use Rattle.core_model.specs.Sound.{IsSound}
use Rattle.core_model.specs.State.{Parts}
use Rattle.core_model.specs.TableChanges.{tables_by}
use Rattle.core_sound.proofs.HoldsFound.{holds_apart}
use Rattle.core_sound.proofs.NeverAgain.{tables_after}
use Rattle.core_sound.proofs.RegionsStay.{own_hold}
use Rattle.core_sound.proofs.SnapshotsKept.{both_fit}
use Rattle.core_sound.proofs.TablesKept.{other_table}
use Rattle.core_sound.proofs.Tests.{same_bytes-self, same_bytes-true, same_number}

-- ---- holds that a snapshot of the table keeps away

table_or_take : (job : Job) (t name u : List ℕ) → FitsJob (holds.Table t) job → FitsJob (holds.Take name u) job → ⊥
table_or_take (jobs.Snapshot u n) t name v f g = f
table_or_take _ t name v f g = g

region_or_take : (job : Job) (r : RegionKey) (name u : List ℕ) → FitsJob (holds.Region r) job → FitsJob (holds.Take name u) job → ⊥
region_or_take (jobs.Snapshot u n) r name v f g = f
region_or_take _ r name v f g = g

differ : (w a : ℕ) → w == a ≡ false → a ≡ w → ⊥
differ w a d e = grind (arith, nat_tests)

no_table : {P : Type 0} (s : Parts) (a w : ℕ) (name t : List ℕ) → IsSound s → HasHold s.plain.live a (holds.Table t) → HasHold s.plain.live w (holds.Take name t) → P
no_table {P} s a w name t h x y = (elim (w == a) as (λ b. w == a ≡ b → P) [
  | true ↦ λ d. let f = both_fit s.plain.live h.fits a (holds.Table t) (holds.Take name t) x (subst (λ v. HasHold s.plain.live v (holds.Take name t)) (same_number w a d) y) in
      absurd (table_or_take f.0 t name t f.1 f.2)
  | false ↦ λ d. let z : true ≡ false = sym (same_bytes-self t) ∙ holds_apart s.plain.live a w (holds.Table t) (holds.Take name t) h.apart x y (differ w a d) in absurd (cc)
]) refl

no_region : {P : Type 0} (s : Parts) (a w : ℕ) (r : RegionKey) (name : List ℕ) → IsSound s → HasHold s.plain.live a (holds.Region r) → HasHold s.plain.live w (holds.Take name r.table) → P
no_region {P} s a w r name h x y = (elim (w == a) as (λ b. w == a ≡ b → P) [
  | true ↦ λ d. let f = both_fit s.plain.live h.fits a (holds.Region r) (holds.Take name r.table) x (subst (λ v. HasHold s.plain.live v (holds.Take name r.table)) (same_number w a d) y) in
      absurd (region_or_take f.0 r name r.table f.1 f.2)
  | false ↦ λ d. let z : true ≡ false = sym (same_bytes-self r.table) ∙ holds_apart s.plain.live a w (holds.Region r) (holds.Take name r.table) h.apart x y (differ w a d) in absurd (cc)
]) refl

-- ---- the regions that a janitor removes

held_one : (table : List ℕ) (hs : List Hold) → (held_regions table hs ≡ [] → ⊥) → (r : RegionKey) × Member (holds.Region r) hs × (r.table ≡ table)
held_one table [] n = absurd (n refl)
held_one table (holds.Region r ∷ hs) n = (elim (same_bytes r.table table) as (λ b. same_bytes r.table table ≡ b → (cond b (r.region ∷ held_regions table hs) (held_regions table hs) ≡ [] → ⊥) → (q : RegionKey) × Member (holds.Region q) (holds.Region r ∷ hs) × (q.table ≡ table)) [
  | true ↦ λ d k. (r, inl refl, same_bytes-true r.table table d)
  | false ↦ λ d k. let w = held_one table hs k in (w.0, inr w.1, w.2)
]) refl n
held_one table (holds.Table t ∷ hs) n = let w = held_one table hs n in (w.0, inr w.1, w.2)
held_one table (holds.Flush r ∷ hs) n = let w = held_one table hs n in (w.0, inr w.1, w.2)
held_one table (holds.Compact r ∷ hs) n = let w = held_one table hs n in (w.0, inr w.1, w.2)
held_one table (holds.Load t ∷ hs) n = let w = held_one table hs n in (w.0, inr w.1, w.2)
held_one table (holds.Take x t ∷ hs) n = let w = held_one table hs n in (w.0, inr w.1, w.2)
held_one table (holds.Use x ∷ hs) n = let w = held_one table hs n in (w.0, inr w.1, w.2)
held_one table (holds.Erase x ∷ hs) n = let w = held_one table hs n in (w.0, inr w.1, w.2)
held_one table (holds.Pass ∷ hs) n = let w = held_one table hs n in (w.0, inr w.1, w.2)

actor_hold : (live : List Live) (a : ℕ) (o : Option Live) (h : Hold) → live_of live a ≡ o → Member h (holds_in o) → HasHold live a h
actor_hold live a None h e m = absurd m
actor_hold live a (Some l) h e m = record { activity = l; at_work = e; held = m }

-- ---- a change of the table

no_change : {P : Type 0} (job : Option Job) (change : Event) (table : List ℕ) (a w : ℕ) (name : List ℕ) (s : Parts) → job_of s.plain.live a ≡ job → IsChange job change table a s → IsSound s → HasHold s.plain.live w (holds.Take name table) → P
no_change (Some (jobs.Create t fs n ks)) (event.Create schema regions) table a w name s j z h y = no_table s a w name table h (own_hold s a _ table h j (λ hs k. subst (λ x. Member (holds.Table x) hs) z.0 k)) y
no_change (Some (jobs.Enable t)) (event.Enable u) table a w name s j z h y = no_table s a w name table h (own_hold s a _ table h j (λ hs k. subst (λ x. Member (holds.Table x) hs) z.0 k)) y
no_change (Some (jobs.Disable t)) (event.Disable u) table a w name s j z h y = no_table s a w name table h (own_hold s a _ table h j (λ hs k. subst (λ x. Member (holds.Table x) hs) z.0 k)) y
no_change (Some (jobs.Drop t)) (event.Drop u) table a w name s j z h y = no_table s a w name table h (own_hold s a _ table h j (λ hs k. subst (λ x. Member (holds.Table x) hs) z.0 k)) y
no_change (Some (jobs.Clone n t)) (event.Clone c u regions) table a w name s j z h y = no_table s a w name table h (own_hold s a _ table h j (λ hs k. subst (λ x. Member (holds.Table x) hs) z.0 k)) y
no_change (Some (jobs.Restore n)) (event.Restore c regions) table a w name s j z h y = no_table s a w name table h z.2 y
no_change (Some (jobs.Split t row)) (event.Split u parent low high) table a w name s j z h y = no_region s a w (key_at table parent) name h z.2 y
no_change (Some jobs.Janitor) (event.Remove t regions) table a w name s j z h y =
    let k = held_one table (holds_in (live_of s.plain.live a)) (λ e. z.2 (z.1 ∙ e)) in
    no_region s a w k.0 name h (actor_hold s.plain.live a (live_of s.plain.live a) (holds.Region k.0) refl k.1) (subst (λ t. HasHold s.plain.live w (holds.Take name t)) (sym k.2) y)
no_change _ _ table a w name s j z h y = absurd z

stays : (p : Step) (s : Parts) → Allows p s → IsSound s → (w : ℕ) (name t : List ℕ) → HasHold s.plain.live w (holds.Take name t) → get (tables_by p s.plain.snapshots s.plain.tables) t ≡ get s.plain.tables t
stays (step.CommitRegions actor table number x set change) s a h w name t y = (elim (same_bytes t table) as (λ b. same_bytes t table ≡ b → get (tables_on change s.plain.snapshots s.plain.tables) t ≡ get s.plain.tables t) [
  | true ↦ λ d. no_change (job_of s.plain.live actor.0) change table actor.0 w name s refl a.is_change h (subst (λ u. HasHold s.plain.live w (holds.Take name u)) (same_bytes-true t table d) y)
  | false ↦ λ d. other_table (job_of s.plain.live actor.0) change table actor.0 s t a.is_change d
]) refl
stays _ s a h w name t y = refl

pub taken_stays : (p : Step) (s : Parts) → Allows p s → IsSound s → (w : ℕ) (name t : List ℕ) → HasHold s.plain.live w (holds.Take name t) → get (after_all s.plain (events_of p)).tables t ≡ get s.plain.tables t
taken_stays p s a h w name t y = ap (λ m. get m t) (tables_after p s) ∙ stays p s a h w name t y
