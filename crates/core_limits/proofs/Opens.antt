-- The region of each split that is on its way stays open.
use Rattle.std.proofs.Common.{◌≡◌, ℕ, ◌==◌, ◌&&◌, Bool, true, false, not, cond, List, [], ◌∷◌, Option, Some, None, refl, sym, ap, ◌∙◌, subst, inl, inr}
use Rattle.std.specs.Prelude.{filter, map, is_some, option_map, option_to_list}
use Rattle.std.specs.List.{list_all}
use Rattle.std.specs.FinMap.{get}
use Rattle.cell_sight.specs.Member.{Member}
use Rattle.cell_sight.proofs.Members.{in_filter, of_filter}
use Rattle.cell_sight.proofs.Truths.{both, left, right, some_any, turn, turned}
use Rattle.hb_cell.specs.Order.{same_bytes}
use Rattle.hb_records.specs.declared.region_info.RegionInfo.{RegionInfo}
use Rattle.plain_model.specs.declared.event.Event.{Event}
use Rattle.plain_model.specs.declared.event.Event.TheVariants as event
use Rattle.plain_model.specs.declared.hold.Hold.{Hold}
use Rattle.plain_model.specs.declared.hold.Hold.TheVariants as holds
use Rattle.plain_model.specs.declared.job.Job.{Job}
use Rattle.plain_model.specs.declared.job.Job.TheVariants as jobs
use Rattle.plain_model.specs.declared.parts.Live.{Live}
use Rattle.plain_model.specs.declared.parts.PlainTable.{PlainTable}
use Rattle.plain_model.specs.declared.reply.Reply.TheVariants as replies
use Rattle.plain_model.specs.declared.who.Actor.{Actor}
use Rattle.plain_model.specs.Found.{is_dividing, is_open, is_open_hold, is_table, open_in, region_with, regions_in}
use Rattle.plain_model.specs.Keys.{encoded, key_of}
use Rattle.plain_model.specs.LiveEvents.{job_of, live_of, without}
use Rattle.plain_model.specs.Names.{Names}
use Rattle.plain_model.specs.Plain.{Plain}
use Rattle.plain_model.specs.Replies.{refusals}
use Rattle.plain_model.specs.Rows.{holds_row, open_of, region_of}
use Rattle.plain_model.specs.TableEvents.{tables_on}
use Rattle.plain_model.proofs.PlainLaws.{has_one_region}
use Rattle.core_model.specs.declared.step.Drawn.{Drawn}
use Rattle.core_model.specs.declared.step.Started.TheVariants as started
use Rattle.core_model.specs.declared.step.Step.{Step}
use Rattle.core_model.specs.declared.step.Step.TheVariants as step
use Rattle.core_model.specs.ActorChanges.{changed_by}
use Rattle.core_model.specs.ActorFacts.{AreNumbered}
use Rattle.core_model.specs.Actors.{HasHold}
use Rattle.core_model.specs.Allows.{Allows}
use Rattle.core_model.specs.Keys.{set_actor, set_name}
use Rattle.core_model.specs.LiveChanges.{live_by}
use Rattle.core_model.specs.SetGuards.{IsChange}
use Rattle.core_model.specs.Sound.{IsSound}
use Rattle.core_model.specs.StartGuards.{CanStart}
use Rattle.core_model.specs.State.{Parts}
use Rattle.core_model.specs.TableChanges.{tables_by}
use Rattle.core_sound.proofs.Lists.{member-append, member-find, member-map}
use Rattle.core_sound.proofs.NumbersKept.{same_self}
use Rattle.core_sound.proofs.Sources.{open-member}
use Rattle.core_sound.proofs.Tests.{same_bytes-self, same_bytes-true, same_number}
use Rattle.core_sound.proofs.Vacant.{holds_not, split_refuse}
use Rattle.core_contents.proofs.ExactKept.{not_actor}
use Rattle.core_regions.specs.Cover.{IsCovered, IsListed}
use Rattle.core_regions.proofs.Held.{listed_stays}
use Rattle.core_regions.proofs.Starts.{with_new}
use Rattle.core_limits.specs.Limits.{HoldsOpen, IsLimited, SplitsOpen, is_pending}

-- ---- activities by their numbers

pub found_member : (live : List Live) (l : Live) → ((m : Live) → Member m live → m.actor.0 ≡ l.actor.0 → m ≡ l) → Member l live → live_of live l.actor.0 ≡ Some l
found_member [] l d m = absurd m
found_member (x ∷ xs) l d m = (elim (x.actor.0 == l.actor.0) as (λ b. x.actor.0 == l.actor.0 ≡ b → cond b (Some x) (live_of xs l.actor.0) ≡ Some l) [
  | true ↦ λ e. ap Some (d x (inl refl) (same_number x.actor.0 l.actor.0 e))
  | false ↦ λ e. elim m [
    | inl i ↦ (let z : true ≡ false = sym (same_self l.actor.0) ∙ ap (λ (y : Live). y.actor.0 == l.actor.0) (sym i) ∙ e in absurd (cc))
    | inr n ↦ found_member xs l (λ y k. d y (inr k)) n
  ]
]) refl

pub live_member : (live : List Live) (begun : ℕ) (l : Live) → AreNumbered live begun → Member l live → live_of live l.actor.0 ≡ Some l
live_member live begun l h m = found_member live l (λ y k. h.differ y l k m) m

pub member_hold : (s : Parts) (l : Live) (h : Hold) → IsSound s → Member l s.plain.live → Member h l.holds → HasHold s.plain.live l.actor.0 h
member_hold s l h n m k = record { activity = l; at_work = live_member s.plain.live s.begun l n.numbered m; held = k }

-- ---- a split that starts

table_there : (o : Option PlainTable) → is_some o ≡ true → (x : PlainTable) × (o ≡ Some x)
table_there (Some x) e = (x, refl)
table_there None e = absurd (cc)

-- it holds the open region of its row
split_opens : (t row : List ℕ) (actor : Actor) (drawn : Drawn) (s : Parts) → CanStart (jobs.Split t row) (started.Live actor) drawn s → IsSound s → IsCovered s → HoldsOpen t drawn.holds s.plain.tables
split_opens t row actor drawn s a h k =
    let fine = holds_not (not (is_table s.plain t)) replies.TableNotFound (refusals a.files s.plain (jobs.Split t row)) (split_refuse a.files s.plain t row) a.answered.0 (inl refl) in
    let x = table_there (get s.plain.tables t) (turned (is_table s.plain t) fine) in
    let w = has_one_region x.0.regions row (k.tables.at t x.0 x.1).regions.cover in
    let found : region_with s.plain t row ≡ Some w.0 = ap (λ o. region_of (regions_in o) row) x.1 ∙ w.1 in
    let listed : Member (w.0, false) x.0.regions = open-member w.0 x.0.regions (member-find (λ r. holds_row r row) (open_of x.0.regions) w.0 w.1) in
    let own = h.own_regions.at t x.0 w.0 false x.1 listed in
    record {
      whole = w.0;
      table = own;
      alone = a.holds ∙ ap (λ (o : Option RegionInfo). map holds.Region (option_to_list (option_map key_of o))) found;
      is_open = record { table = x.0; stands = ap (get s.plain.tables) own ∙ x.1; listed = listed };
    }

start_opens : (job : Job) (actor : Actor) (drawn : Drawn) (s : Parts) → CanStart job (started.Live actor) drawn s → IsSound s → IsCovered s → IsLimited s → SplitsOpen s.changed (with_new job actor drawn s) s.plain.tables
start_opens job actor drawn s a h v k = record {
  at = λ l t row m j c. elim (member-append l s.plain.live (record { actor = actor; job = job; holds = drawn.holds } ∷ []) m) [
    | inl i ↦ k.splits.at l t row i j c
    | inr i ↦ elim i [
      | inl e ↦ subst (λ (y : Live). HoldsOpen t y.holds s.plain.tables) e (new_opens job t row (ap (λ (y : Live). y.job) e ∙ j) a)
      | inr e ↦ absurd e
    ]
  ];
}
  where
    new_opens : (g : Job) (t row : List ℕ) → g ≡ jobs.Split t row → CanStart g (started.Live actor) drawn s → HoldsOpen t drawn.holds s.plain.tables
    new_opens g t row e b = split_opens t row actor drawn s (subst (λ q. CanStart q (started.Live actor) drawn s) e b) h v

-- ---- an activity that ends

pub left_other : (a : ℕ) (live : List Live) (l : Live) → Member l (without a live) → Member l live × ((l.actor.0 == a) ≡ false)
left_other a live l m = let w = of_filter (λ (x : Live). not (x.actor.0 == a)) l live m in (w.0, turn (l.actor.0 == a) w.1)

end_opens : (a : ℕ) (s : Parts) → IsLimited s → SplitsOpen (set_actor a (λ t. false) s.changed) (without a s.plain.live) s.plain.tables
end_opens a s k = record {
  at = λ l t row m j c. let w = left_other a s.plain.live l m in k.splits.at l t row w.0 j (subst (λ b. cond b (λ (u : List ℕ). false) (s.changed l.actor.0) t ≡ false) w.1 c);
}

-- ---- a change of a table

-- a split's own change is that of its table
own_change : (t row : List ℕ) (change : Event) (table : List ℕ) (a : ℕ) (s : Parts) → IsChange (Some (jobs.Split t row)) change table a s → t ≡ table
own_change t row (event.Split u parent low high) table a s z = z.0
own_change t row _ table a s z = absurd z

opens_on : (t : List ℕ) (hs : List Hold) (tables others : Names PlainTable) (k : HoldsOpen t hs tables) → IsListed others k.whole false → HoldsOpen t hs others
opens_on t hs tables others k l = record { whole = k.whole; table = k.table; alone = k.alone; is_open = l }

change_opens : (change : Event) (table : List ℕ) (a : ℕ) (s : Parts) → IsChange (job_of s.plain.live a) change table a s → IsSound s → IsLimited s
    → SplitsOpen (set_actor a (set_name table true (s.changed a)) s.changed) s.plain.live (tables_on change s.plain.snapshots s.plain.tables)
change_opens change table a s z h k = record {
  at = λ l t row m j c. (elim (l.actor.0 == a) as (λ b. l.actor.0 == a ≡ b → cond b (set_name table true (s.changed a)) (s.changed l.actor.0) t ≡ false → HoldsOpen t l.holds (tables_on change s.plain.snapshots s.plain.tables)) [
    | true ↦ λ d q.
        let job : job_of s.plain.live a ≡ Some (jobs.Split t row) = ap (job_of s.plain.live) (sym (same_number l.actor.0 a d)) ∙ ap (option_map (λ (y : Live). y.job)) (live_member s.plain.live s.begun l h.numbered m) ∙ ap Some j in
        let own = own_change t row change table a s (subst (λ o. IsChange o change table a s) job z) in
        let y : true ≡ false = sym (ap (λ b. cond b true (s.changed a t)) (ap (λ v. same_bytes v table) own ∙ same_bytes-self table)) ∙ q in absurd (cc)
    | false ↦ λ d q.
        let w = k.splits.at l t row m j q in
        opens_on t l.holds s.plain.tables (tables_on change s.plain.snapshots s.plain.tables) w (listed_stays change table a l.actor.0 s w.whole false z h (not_actor l.actor.0 a d)
        (member_hold s l (holds.Region (key_of w.whole)) h m (subst (Member (holds.Region (key_of w.whole))) (sym w.alone) (inl refl))) w.is_open)
  ]) refl c;
}

-- ---- all steps

pub opens_kept : (p : Step) (s : Parts) → Allows p s → IsSound s → IsCovered s → IsLimited s → SplitsOpen (changed_by p s.changed) (live_by p s.plain.live) (tables_by p s.plain.snapshots s.plain.tables)
opens_kept (step.Start who job (started.Live actor) drawn) s a h v k = start_opens job actor drawn s a h v k
opens_kept (step.End actor refusal) s a h v k = end_opens actor.0 s k
opens_kept (step.Abandon actor) s a h v k = end_opens actor.0 s k
opens_kept (step.CommitRegions actor table number name set change) s a h v k = change_opens change table actor.0 s a.is_change h k
opens_kept _ s a h v k = k.splits

-- ---- what is pending

dividing : (t : List ℕ) (job : Job) → is_dividing t job ≡ true → (row : List ℕ) × (job ≡ jobs.Split t row)
dividing t (jobs.Split u row) e = (row, ap (λ v. jobs.Split v row) (same_bytes-true u t e))
dividing t _ e = absurd (cc)

pub pending_opens : (s : Parts) (t : List ℕ) (l : Live) → IsLimited s → Member l s.plain.live → is_pending s.changed t l ≡ true → HoldsOpen t l.holds s.plain.tables
pending_opens s t l k m e =
    let w = dividing t l.job (left (is_dividing t l.job) (not (s.changed l.actor.0 t)) e) in
    k.splits.at l t w.0 m w.1 (turn (s.changed l.actor.0 t) (right (is_dividing t l.job) (not (s.changed l.actor.0 t)) e))

pub dividing_job : (t : List ℕ) (changed : Bool) (job : Job) → (is_dividing t job && not changed) ≡ true → (row : List ℕ) × (job ≡ jobs.Split t row)
dividing_job t changed job e = dividing t job (left (is_dividing t job) (not changed) e)

pub in_open : (i : RegionInfo) (rs : List (RegionInfo × Bool)) → Member (i, false) rs → Member i (open_of rs)
in_open i rs m = member-map (λ (r : RegionInfo × Bool). r.0) (i, false) (filter (λ (r : RegionInfo × Bool). not r.1) rs) (in_filter (λ (r : RegionInfo × Bool). not r.1) (i, false) rs m refl)

-- a listed open region passes the test of the replies
listed_open : (p : Plain) (i : RegionInfo) → IsListed p.tables i false → is_open p (key_of i) ≡ true
listed_open p i l = some_any (λ r. same_bytes (encoded r) (encoded i)) (open_in p i.table) i (subst (λ o. Member i (open_of (regions_in o))) (sym l.stands) (in_open i l.table.regions l.listed)) (same_bytes-self (encoded i))

pub opens_pass : (p : Plain) (t : List ℕ) (hs : List Hold) → HoldsOpen t hs p.tables → list_all (is_open_hold p) hs ≡ true
opens_pass p t hs k = ap (list_all (is_open_hold p)) k.alone ∙ both (is_open p (key_of k.whole)) true (listed_open p k.whole k.is_open) refl
