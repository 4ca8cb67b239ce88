-- What is known in a world where a job is to start.
use Rattle.std.proofs.Common.{◌≡◌, ◌↔◌, ℕ, ◌+◌, Bool, true, false, List, [], ◌∷◌, Option, Result, Ok, Err, IfOk, sym, ap, subst, ◌∙◌, inl, inr}
use Rattle.std.specs.Prelude.{is_some}
use Rattle.std.specs.FinMap.{get}
use Rattle.std.proofs.lemmas.Bool.{iff_false}
use Rattle.cell_sight.specs.Member.{Member}
use Rattle.ns_tree.specs.Tree.{Tree}
use Rattle.hb_records.specs.declared.region_info.RegionInfo.{RegionInfo}
use Rattle.region_set.specs.declared.region_set.RegionSet.{RegionSet}
use Rattle.plain_model.specs.declared.hold.Hold.{Hold}
use Rattle.plain_model.specs.declared.job.Job.{Job}
use Rattle.plain_model.specs.declared.job.Job.TheVariants as jobs
use Rattle.plain_model.specs.declared.parts.Live.{Live}
use Rattle.plain_model.specs.declared.region_key.RegionKey.{RegionKey}
use Rattle.plain_model.specs.declared.who.Actor.{Actor}
use Rattle.plain_model.specs.Found.{is_table}
use Rattle.plain_model.specs.Held.{held_by}
use Rattle.plain_model.specs.Holds.{holds_of}
use Rattle.core_bytes.specs.Stored.{table_in_set}
use Rattle.core_model.specs.Plans.{split_regions}
use Rattle.core_model.specs.StartGuards.{StandsBelow, regions_for}
use Rattle.core_model.specs.State.{Parts, State}
use Rattle.world_state.specs.Held.{Held, parts_of}
use Rattle.world_steps.specs.Starts.{AreOf, IsKeyTaken, keys_in}
use Rattle.world_steps.specs.World.{IsWorld, Journaled, state_at}
use Rattle.world_steps.proofs.Facts.{state_in}
use Rattle.world_steps.proofs.Tables.{tables_in}

-- what an answer has goes over to what follows from it
pub ok_by : {A E : Type 0} (P Q : A → Type 0) (r : Result A E) → ((x : A) → P x → Q x) → IfOk r P → IfOk r Q
ok_by P Q (Ok x) f h = f x h
ok_by P Q (Err e) f h = h

-- ---- who is in the way

pub held_here : {N C : Type 0} (h : Held) (w : Journaled N C) (job : Job) (live : List Live) (asked holds : List Hold) (x : Option (Actor × Hold)) → h.opening ≡ w.opening → h.entries ≡ w.entries
    → live ≡ (parts_of h).plain.live → asked ≡ holds → holds ≡ holds_of [] (parts_of h).plain job → x ≡ held_by live asked
    → held_by (state_at w).now.plain.live (holds_of [] (state_at w).now.plain job) ≡ x
held_here h w job live asked holds x o e l a k i =
    sym (i ∙ ap (λ (y : List Live). held_by y asked) l ∙ ap (held_by (parts_of h).plain.live) (a ∙ k)
    ∙ ap (λ (s : State). held_by s.now.plain.live (holds_of [] s.now.plain job)) (state_in h w o e))

-- ---- the newest set of a table

pub table_here : {N C : Type 0} {told : Option Tree} (h : Held) (w : Journaled N C) (t : List ℕ) (b : Bool) (o : Option RegionSet) → h.opening ≡ w.opening → h.entries ≡ w.entries → IsWorld told w.opening w.entries
    → o ≡ get (parts_of h).sets t → b ≡ is_some (table_in_set o) → b ≡ is_table (state_at w).now.plain t
table_here h w t b o p e i k n =
    n ∙ ap (λ x. is_some (table_in_set x)) (k ∙ ap (λ (s : State). get s.now.sets t) (state_in h w p e)) ∙ ap is_some (sym ((tables_in w.opening w.entries i).at t))

pub keys_here : {N C : Type 0} {told : Option Tree} (h : Held) (w : Journaled N C) (t : List ℕ) (keys : List RegionKey) (o : Option RegionSet) → h.opening ≡ w.opening → h.entries ≡ w.entries → IsWorld told w.opening w.entries
    → o ≡ get (parts_of h).sets t → keys ≡ keys_in (table_in_set o) → keys ≡ keys_in (get (state_at w).now.plain.tables t)
keys_here h w t keys o p e i k n =
    n ∙ ap (λ x. keys_in (table_in_set x)) (k ∙ ap (λ (s : State). get s.now.sets t) (state_in h w p e)) ∙ ap keys_in (sym ((tables_in w.opening w.entries i).at t))

-- ---- a key

pub key_here : {N C : Type 0} (h k : Held) (w : Journaled N C) (listed : List RegionKey) (key : RegionKey) (drawn has stands : Bool) → h.opening ≡ w.opening → h.entries ≡ w.entries → k.opening ≡ w.opening → k.entries ≡ w.entries
    → ((drawn ≡ true) ↔ Member key (parts_of h).drawn) → drawn ≡ false → ((has ≡ true) ↔ Member key listed) → has ≡ false → ((stands ≡ true) ↔ StandsBelow (parts_of k).disk key)
    → (stands ≡ true) ↔ IsKeyTaken listed (state_at w).now key
key_here h k w listed key drawn has stands ho he ko ke d df l lf s = (
  λ e. IsKeyTaken.has_files (subst (λ (x : State). StandsBelow x.now.disk key) (state_in k w ko ke) (s.0 e)),
  λ t. by t,
)
  where
    by : IsKeyTaken listed (state_at w).now key → stands ≡ true
    by (IsKeyTaken.was_drawn m) = absurd (iff_false d df (subst (λ (x : State). Member key x.now.drawn) (sym (state_in h w ho he)) m))
    by (IsKeyTaken.is_listed m) = absurd (iff_false l lf m)
    by (IsKeyTaken.has_files m) = s.1 (subst (λ (x : State). StandsBelow x.now.disk key) (sym (state_in k w ko ke)) m)

pub drawn_here : {N C : Type 0} (h : Held) (w : Journaled N C) (listed : List RegionKey) (key : RegionKey) → h.opening ≡ w.opening → h.entries ≡ w.entries → Member key (parts_of h).drawn → IsKeyTaken listed (state_at w).now key
drawn_here h w listed key o e m = IsKeyTaken.was_drawn (subst (λ (x : State). Member key x.now.drawn) (state_in h w o e) m)

-- ---- new regions are of their table

regions_of : (t : List ℕ) (id : ℕ) (start : List ℕ) (rows : List (List ℕ)) → AreOf t (split_regions t id start rows)
regions_of t id start [] r (inl e) = sym (ap (λ (x : RegionInfo). x.table) e)
regions_of t id start [] r (inr m) = absurd m
regions_of t id start (row ∷ rows) r (inl e) = sym (ap (λ (x : RegionInfo). x.table) e)
regions_of t id start (row ∷ rows) r (inr m) = regions_of t (id + 1) row rows r m

pub made_of : (t : List ℕ) (families : List (List ℕ)) (versions : ℕ) (splits : List (List ℕ)) (job : Job) (regions : List RegionInfo) (s : Parts) → job ≡ jobs.Create t families versions splits → regions ≡ regions_for job s → AreOf t regions
made_of t families versions splits job regions s j r =
    subst (AreOf t) (sym (r ∙ ap (λ (x : Job). regions_for x s) j)) (regions_of t _ [] splits)
