-- What a start plans covers all rows.
use Rattle.std.proofs.Common.{◌≡◌, ◌≢◌, ℕ, ◌+◌, Bool, true, false, not, cond, List, [], ◌∷◌, ◌++◌, Option, Some, None, refl, sym, ap, ◌∙◌, subst, inl, inr, T}
use Rattle.std.specs.Prelude.{IsSome, filter, map, option_map, option_to_list}
use Rattle.std.specs.List.{AllZip, find, flat_map}
use Rattle.std.specs.FinMap.{entries, entries_sorted, get, get-entries, is_sorted}
use Rattle.std.specs.FinMap as finite
use Rattle.std.specs.FinMap.Entries.{below_all}
use Rattle.std.specs.Ordering.{eq_by_cmp, is_eq, is_lt, ordering_reverse}
use Rattle.std.specs.declared.cmp.Ordering.TheVariants.{Less, Equal, Greater}
use Rattle.std.specs.Cmp.Lexicographic.{nat_list_cmp_total, texts_ties}
use Rattle.cell_sight.specs.Member.{Member}
use Rattle.cell_sight.proofs.Members.{of_filter}
use Rattle.cell_sight.proofs.Truths.{left, right, turn, turned}
use Rattle.cell_sight.proofs.Versions.{tied_bytes}
use Rattle.hb_cell.specs.Order.{bytes_cmp, is_below, same_bytes}
use Rattle.hb_records.specs.declared.region_info.RegionInfo.{RegionInfo}
use Rattle.plain_model.specs.declared.hold.Hold.{Hold}
use Rattle.plain_model.specs.declared.hold.Hold.TheVariants as holds
use Rattle.plain_model.specs.declared.job.Job.{Job}
use Rattle.plain_model.specs.declared.job.Job.TheVariants as jobs
use Rattle.plain_model.specs.declared.parts.Live.{Live}
use Rattle.plain_model.specs.declared.parts.PlainTable.{PlainTable}
use Rattle.plain_model.specs.declared.region_key.RegionKey.{RegionKey}
use Rattle.plain_model.specs.declared.reply.Reply.TheVariants as replies
use Rattle.plain_model.specs.declared.who.Actor.{Actor}
use Rattle.plain_model.specs.CanHappen.{AreHalves}
use Rattle.plain_model.specs.Found.{open_in, region_with, regions_in}
use Rattle.plain_model.specs.Keys.{encoded, key_of}
use Rattle.plain_model.specs.Names.{Names}
use Rattle.plain_model.specs.Plain.{Plain}
use Rattle.plain_model.specs.Replies.{are_splits, is_start_of, refusals}
use Rattle.plain_model.specs.Rows.{CoverAll, holds_row, is_before_end, open_of}
use Rattle.core_model.specs.declared.plan.Plan.{Plan}
use Rattle.core_model.specs.declared.snapshot.CopiedRegion.{CopiedRegion}
use Rattle.core_model.specs.declared.snapshot.Snapshot.{Snapshot}
use Rattle.core_model.specs.declared.step.Drawn.{Drawn}
use Rattle.core_model.specs.declared.step.Started.TheVariants as started
use Rattle.core_model.specs.Actors.{HasHold}
use Rattle.core_model.specs.Plans.{copied_regions, daughters, new_regions, region_id, region_of, split_regions, table_in}
use Rattle.core_model.specs.Plans as plans
use Rattle.core_model.specs.Sound.{IsSound}
use Rattle.core_model.specs.StartGuards.{CanStart, IsTaken, all_split_keys, by_new, regions_for, split_keys}
use Rattle.core_model.specs.State.{Parts}
use Rattle.core_model.specs.TableFacts.{HasOwnRegions}
use Rattle.core_sound.proofs.HoldsFound.{some_is}
use Rattle.core_sound.proofs.Lists.{eq_name, member-append, member-behind, member-find}
use Rattle.core_sound.proofs.NumbersKept.{new_found}
use Rattle.core_sound.proofs.Sources.{map-member, open-member}
use Rattle.core_sound.proofs.Tests.{cond_cases, same_bytes-self}
use Rattle.core_sound.proofs.Vacant.{create_refuse, holds_not, not_taken, split_refuse}
use Rattle.core_contents.proofs.PlannedFor.{AreDistinct, copied_table, distinct}
use Rattle.core_opens.specs.Fits.{EachTwo}
use Rattle.core_beside.proofs.Pairs.{each-from}
use Rattle.core_regions.specs.Cover.{AreNewRegions, CopiesBounds, Divides, HasBounds, IsCovered, IsListed, PlanCovers}
use Rattle.core_regions.proofs.Counted.{copies_cover, splits_cover}

-- ---- new names differ

distinct_differ : (is : List RegionInfo) → AreDistinct is → EachTwo (λ (i j : RegionInfo). encoded i ≢ encoded j) is
distinct_differ [] h = tt
distinct_differ (i ∷ is) h = (each-from (λ (j : RegionInfo). encoded i ≢ encoded j) is (λ j m. h.0 j m), distinct_differ is h.1)

-- no name was taken
untaken : (job : Job) (actor : Actor) (drawn : Drawn) (s : Parts) → CanStart job (started.Live actor) drawn s → (i : RegionInfo) → Member i (regions_for job s) → IsTaken s.disk s.drawn s.plain (regions_for job s) → ⊥
untaken job actor drawn s a i m t = let z : true ≡ false = sym (a.are_files.name_taken.1 t) ∙ not_taken job a.files s.plain (region_id s.epoch (s.ids + 1)) s.snapshots a.answered.0 i m in absurd (cc)

new_differ : (job : Job) (actor : Actor) (drawn : Drawn) (s : Parts) (t : List ℕ) → CanStart job (started.Live actor) drawn s → ((i : RegionInfo) → Member i (regions_for job s) → i.table ≡ t)
    → EachTwo (λ (i j : RegionInfo). encoded i ≢ encoded j) (regions_for job s)
new_differ job actor drawn s t a own = distinct_differ (regions_for job s) (distinct t (regions_for job s) own (λ before between behind r q e k.
    untaken job actor drawn s a r (subst (Member r) (sym e) (member-behind r before (r ∷ between ++ (q ∷ behind)) (inl refl))) (by_new before between behind r q e k)))

split_tables : (t : List ℕ) (id : ℕ) (start : List ℕ) (splits : List (List ℕ)) (i : RegionInfo) → Member i (split_regions t id start splits) → i.table ≡ t
split_tables t id start [] i (inl e) = ap (λ (x : RegionInfo). x.table) (sym e)
split_tables t id start [] i (inr m) = absurd m
split_tables t id start (r ∷ rs) i (inl e) = ap (λ (x : RegionInfo). x.table) (sym e)
split_tables t id start (r ∷ rs) i (inr m) = split_tables t (id + 1) r rs i m

planned_regions : (job : Job) (actor : Actor) (drawn : Drawn) (s : Parts) → CanStart job (started.Live actor) drawn s → drawn.plan.regions ≡ regions_for job s
planned_regions job actor drawn s a = ap (λ (p : Plan). p.regions) a.answered.1.plan

-- ---- a table that is made

create_covers : (t : List ℕ) (fs : List (List ℕ)) (n : ℕ) (ks : List (List ℕ)) (actor : Actor) (drawn : Drawn) (s : Parts) → CanStart (jobs.Create t fs n ks) (started.Live actor) drawn s → AreNewRegions drawn.plan.regions
create_covers t fs n ks actor drawn s a = subst AreNewRegions (sym (planned_regions (jobs.Create t fs n ks) actor drawn s a)) (record {
  cover = splits_cover t (region_id s.epoch (s.ids + 1)) ks (turned (are_splits ks) (holds_not (not (are_splits ks)) replies.BadSplitKey (refusals a.files s.plain (jobs.Create t fs n ks)) (create_refuse a.files s.plain t fs n ks) a.answered.0 (inr (inr (inl refl)))));
  differ = new_differ (jobs.Create t fs n ks) actor drawn s t a (split_tables t (region_id s.epoch (s.ids + 1)) [] ks);
})

-- ---- copies

copied_bounds : (t : List ℕ) (id : ℕ) (rs : List CopiedRegion) → AllZip HasBounds (copied_regions t id rs) rs
copied_bounds t id [] = tt
copied_bounds t id (r ∷ rs) = (record { start = refl; end = refl }, copied_bounds t (id + 1) rs)

copies_new : (job : Job) (t name : List ℕ) (x : Snapshot) (actor : Actor) (drawn : Drawn) (s : Parts) → CanStart job (started.Live actor) drawn s → IsCovered s → get s.snapshots name ≡ Some x
    → regions_for job s ≡ copied_regions t (region_id s.epoch (s.ids + 1)) x.regions → CopiesBounds name drawn.plan s.snapshots
copies_new job t name x actor drawn s a k e z =
    let is = planned_regions job actor drawn s a ∙ z in record {
      new = record {
        cover = subst CoverAll (sym is) (λ row. copies_cover t (region_id s.epoch (s.ids + 1)) x.regions row ∙ (k.snapshots.at name x e).regions.cover row);
        differ = subst (EachTwo (λ (i j : RegionInfo). encoded i ≢ encoded j)) (sym (planned_regions job actor drawn s a)) (new_differ job actor drawn s t a (λ i m. copied_table t (region_id s.epoch (s.ids + 1)) x.regions i (subst (Member i) z m)));
      };
      x = x;
      stands = e;
      bounds = subst (λ v. AllZip HasBounds v x.regions) (sym is) (copied_bounds t (region_id s.epoch (s.ids + 1)) x.regions);
    }

abbrev pub with_new : Job → Actor → Drawn → Parts → List Live
with_new job actor drawn s = s.plain.live ++ record { actor = actor; job = job; holds = drawn.holds } ∷ []

pub new_hold : (job : Job) (actor : Actor) (drawn : Drawn) (s : Parts) → CanStart job (started.Live actor) drawn s → IsSound s → (x : Hold) → Member x drawn.holds → HasHold (with_new job actor drawn s) actor.0 x
new_hold job actor drawn s a h x m = record { activity = record { actor = actor; job = job; holds = drawn.holds }; at_work = new_found s (record { actor = actor; job = job; holds = drawn.holds }) a.answered.1.number h; held = m }

-- ---- a split

pub find-holds : (p : RegionInfo → Bool) (is : List RegionInfo) (i : RegionInfo) → find p is ≡ Some i → p i ≡ true
find-holds p [] i e = absurd (cc)
find-holds p (x ∷ is) i e = cond_cases (p x) (Some x) (find p is) (Some i) e (λ d z. ap p (sym (some_is z)) ∙ d) (λ d z. find-holds p is i z)

open_listed : (p : Plain) (t row : List ℕ) (i : RegionInfo) → HasOwnRegions p.tables → region_with p t row ≡ Some i → IsListed p.tables i false
open_listed p t row i own e = by_table (get p.tables t) refl (member-find (λ r. holds_row r row) (open_in p t) i e)
  where
    by_table : (o : Option PlainTable) → get p.tables t ≡ o → Member i (open_of (regions_in o)) → IsListed p.tables i false
    by_table None z m = absurd m
    by_table (Some x) z m = let y = open-member i x.regions m in record { table = x; stands = ap (get p.tables) (own.at t x i false z y) ∙ z; listed = y }

-- a row that a region holds, and at which it does not begin, is above its start
above_start : (start row : List ℕ) → is_below row start ≡ false → same_bytes start row ≡ false → is_below start row ≡ true
above_start start row h n = elim (bytes_cmp start row) as (λ o. bytes_cmp start row ≡ o → is_lt o ≡ true) [
  | Less ↦ λ e. refl
  | Equal ↦ λ e. absurd (let z : same_bytes start row ≡ true = texts_ties start row ∙ ap is_eq e in let y : true ≡ false = sym z ∙ n in cc)
  | Greater ↦ λ e. absurd (let z : is_below row start ≡ true = ap is_lt (nat_list_cmp_total.antisymm row start ∙ ap ordering_reverse e) in let y : true ≡ false = sym z ∙ h in cc)
] refl

starts_apart : (o : Option RegionInfo) (i : RegionInfo) (row : List ℕ) → o ≡ Some i → is_start_of row o ≡ false → same_bytes i.start row ≡ false
starts_apart o i row e n = ap (is_start_of row) (sym e) ∙ n

split_covers : (t row : List ℕ) (actor : Actor) (drawn : Drawn) (s : Parts) → CanStart (jobs.Split t row) (started.Live actor) drawn s → IsSound s → (low high : RegionInfo) → drawn.plan.regions ≡ low ∷ high ∷ []
    → Divides actor.0 low high (with_new (jobs.Split t row) actor drawn s) s.plain.tables
split_covers t row actor drawn s a h low high e = by_region (region_with s.plain t row) refl (sym (planned_regions (jobs.Split t row) actor drawn s a) ∙ e)
  where
    by_region : (o : Option RegionInfo) → region_with s.plain t row ≡ o → daughters t (region_id s.epoch (s.ids + 1)) row o ≡ low ∷ high ∷ [] → Divides actor.0 low high (with_new (jobs.Split t row) actor drawn s) s.plain.tables
    by_region None z d = absurd (cc)
    by_region (Some whole) z d =
        let lows : region_of t (region_id s.epoch (s.ids + 1)) whole.start (Some row) ≡ low = (cc) in
        let highs : region_of t (region_id s.epoch (s.ids + 1) + 1) row whole.end ≡ high = (cc) in
        let holds_it = find-holds (λ r. holds_row r row) (open_in s.plain t) whole z in
        let apart = starts_apart (region_with s.plain t row) whole row z (holds_not (is_start_of row (region_with s.plain t row)) replies.BadSplitKey (refusals a.files s.plain (jobs.Split t row)) (split_refuse a.files s.plain t row) a.answered.0 (inr (inr (inl refl)))) in
        let halves : AreHalves whole (region_of t (region_id s.epoch (s.ids + 1)) whole.start (Some row)) (region_of t (region_id s.epoch (s.ids + 1) + 1) row whole.end) = record {
          start = refl;
          end = refl;
          border = refl;
          above = above_start whole.start row (turn (is_below row whole.start) (left (not (is_below row whole.start)) (is_before_end row whole.end) holds_it)) apart;
          within = holds_it;
        } in
        record {
          whole = whole;
          held = new_hold (jobs.Split t row) actor drawn s a h (holds.Region (key_of whole)) (subst (Member (holds.Region (key_of whole))) (sym (a.holds ∙ ap (λ (o : Option RegionInfo). map holds.Region (option_to_list (option_map key_of o))) z)) (inl refl));
          is_open = open_listed s.plain t row whole h.own_regions z;
          halves = subst (λ x. AreHalves whole x high) lows (subst (λ x. AreHalves whole (region_of t (region_id s.epoch (s.ids + 1)) whole.start (Some row)) x) highs halves);
        }

-- ---- all starts

used_found : (o : Option Snapshot) → IsSome o → (x : Snapshot) × (o ≡ Some x)
used_found (Some x) e = (x, refl)
used_found None e = absurd (cc)

pub start_covers : (job : Job) (actor : Actor) (drawn : Drawn) (s : Parts) → CanStart job (started.Live actor) drawn s → IsSound s → IsCovered s → ((name : List ℕ) → HasHold (with_new job actor drawn s) actor.0 (holds.Use name) → IsSome (get s.snapshots name)) → (changed : List ℕ → Bool)
    → PlanCovers job actor.0 drawn.plan changed (with_new job actor drawn s) s.plain.tables s.snapshots s.plain.snapshots
start_covers (jobs.Create t fs n ks) actor drawn s a h k u changed = λ c. create_covers t fs n ks actor drawn s a
start_covers (jobs.Split t row) actor drawn s a h k u changed = split_covers t row actor drawn s a h
start_covers (jobs.Clone name t) actor drawn s a h k u changed = λ c.
    let x = used_found (get s.snapshots name) (u name (new_hold (jobs.Clone name t) actor drawn s a h (holds.Use name) (subst (Member (holds.Use name)) (sym a.holds) (inr (inl refl))))) in
    copies_new (jobs.Clone name t) t name x.0 actor drawn s a k x.1 (ap (λ (o : Option Snapshot). copied_regions t (region_id s.epoch (s.ids + 1)) (plans.regions_in o)) x.1)
start_covers (jobs.Restore name) actor drawn s a h k u changed = λ t e c.
    let x = used_found (get s.snapshots name) (u name (new_hold (jobs.Restore name) actor drawn s a h (holds.Use name) (subst (Member (holds.Use name)) (sym a.holds) (member-behind (holds.Use name) (map holds.Table (option_to_list _)) (holds.Use name ∷ []) (inl refl))))) in
    copies_new (jobs.Restore name) x.0.schema.table name x.0 actor drawn s a k x.1 (ap (λ (o : Option Snapshot). copied_regions (table_in o) (region_id s.epoch (s.ids + 1)) (plans.regions_in o)) x.1)
start_covers _ actor drawn s a h k u changed = tt

-- ---- the regions that a janitor holds

abbrev T_sorted : {X : Type 0} → List (List ℕ × X) → Type 0
T_sorted es = T (is_sorted bytes_cmp es)

below_apart : {X : Type 0} (q : List ℕ) (x : X) (k : List ℕ) (es : List (List ℕ × X)) → below_all bytes_cmp k es ≡ true → Member (q, x) es → eq_by_cmp bytes_cmp q k ≡ false
below_apart q x k [] h m = absurd m
below_apart q x k (e ∷ es) h (inl i) = (elim (eq_by_cmp bytes_cmp q k) as (λ b. eq_by_cmp bytes_cmp q k ≡ b → b ≡ false) [
  | true ↦ λ d.
      let z = eq_name q k d in
      let y : is_lt (bytes_cmp k q) ≡ true = ap (λ (v : List ℕ × _). is_lt (bytes_cmp k v.0)) (sym i) ∙ left (is_lt (bytes_cmp k e.0)) _ h in
      let w : true ≡ false = sym y ∙ ap is_lt (tied_bytes k q (sym z)) in absurd (cc)
  | false ↦ λ d. refl
]) refl
below_apart q x k (e ∷ es) h (inr m) = below_apart q x k es (right (is_lt (bytes_cmp k e.0)) _ h) m

true_of : (b : Bool) → T b → b ≡ true
true_of true t = refl
true_of false t = absurd t

find-entry : {X : Type 0} (q : List ℕ) (x : X) (es : List (List ℕ × X)) → is_sorted bytes_cmp es ≡ true → Member (q, x) es → finite.find bytes_cmp q es ≡ Some x
find-entry q x [] s m = absurd m
find-entry q x (e ∷ es) s (inl i) = ap (λ b. cond b (Some e.1) (finite.find bytes_cmp q es)) (ap (λ (v : List ℕ × _). eq_by_cmp bytes_cmp q v.0) i ∙ sym (texts_ties q q) ∙ same_bytes-self q) ∙ ap (λ (v : List ℕ × _). Some v.1) i
find-entry q x (e ∷ es) s (inr m) = ap (λ b. cond b (Some e.1) (finite.find bytes_cmp q es)) (below_apart q x e.0 es (left (below_all bytes_cmp e.0 es) _ s) m) ∙ find-entry q x es (right (below_all bytes_cmp e.0 es) _ s) m

entry_is : {X : Type 0} (m : Names X) (q : List ℕ) (x : X) → Member (q, x) (entries m) → get m q ≡ Some x
entry_is m q x i = get-entries m q ∙ find-entry q x (entries m) (true_of (is_sorted bytes_cmp (entries m)) (entries_sorted m)) i

split_in : (own : List (List ℕ × PlainTable)) (r : RegionKey) → Member r (flat_map (λ (x : List ℕ × PlainTable). split_keys x.1) own) → (x : List ℕ × PlainTable) × Member x own × Member r (split_keys x.1)
split_in [] r m = absurd m
split_in (x ∷ xs) r m = elim (member-append r (split_keys x.1) (flat_map (λ (y : List ℕ × PlainTable). split_keys y.1) xs) m) [ inl k ↦ (x, inl refl, k) | inr k ↦ (let w = split_in xs r k in (w.0, inr w.1, w.2)) ]

pub janitor_holds : (actor : Actor) (drawn : Drawn) (s : Parts) → CanStart jobs.Janitor (started.Live actor) drawn s → IsSound s → (r : RegionKey) → Member (holds.Region r) drawn.holds → (i : RegionInfo) × (key_of i ≡ r) × IsListed s.plain.tables i true
janitor_holds actor drawn s a h r m =
    let w = map-member holds.Region (holds.Region r) a.unreferenced (subst (Member (holds.Region r)) a.holds m) in
    let q : w.0 ≡ r = region_is w.0 r w.2 in
    let v = of_filter a.are_unreferenced.is_old w.0 (all_split_keys s.plain) (subst (Member w.0) a.are_unreferenced.filtered w.1) in
    let x = split_in (entries s.plain.tables) w.0 v.0 in
    let y = map-member (λ (z : RegionInfo × Bool). key_of z.0) w.0 (filter (λ (z : RegionInfo × Bool). z.1) x.0.1.regions) x.2 in
    let z = of_filter (λ (z : RegionInfo × Bool). z.1) y.0 x.0.1.regions y.1 in
    let n : Member (y.0.0, true) x.0.1.regions = subst (λ b. Member (y.0.0, b) x.0.1.regions) z.1 z.0 in
    let g = entry_is s.plain.tables x.0.0 x.0.1 x.1 in
    (y.0.0, y.2 ∙ q, record { table = x.0.1; stands = ap (get s.plain.tables) (h.own_regions.at x.0.0 x.0.1 y.0.0 true g n) ∙ g; listed = n })
  where
    region_is : (p q : RegionKey) → holds.Region p ≡ holds.Region q → p ≡ q
    region_is p q e = (cc)
