-- A base that a step newly names is live: so an archived base that is not named is never named again.
use Rattle.std.proofs.Common.{◌≡◌, ◌⊎◌, ℕ, ◌&&◌, ◌||◌, ◌==◌, Bool, true, false, not, cond, List, [], ◌∷◌, ◌++◌, Option, Some, None, refl, sym, ap, ◌∙◌, subst, inl, inr}
use Rattle.std.specs.Prelude.{map, option_map, Ok}
use Rattle.std.specs.List.{AllZip, list_any}
use Rattle.std.specs.FinMap.{get}
use Rattle.hb_cell.specs.declared.cell.Cell.{Cell}
use Rattle.hb_layout.specs.declared.base.Base.{Base}
use Rattle.core_model.specs.Site.{Archived}
use Rattle.hb_records.specs.declared.region_info.RegionInfo.{RegionInfo}
use Rattle.ns_tree.specs.declared.file.FileState.{FileState}
use Rattle.ns_tree.specs.Step.{with_moment}
use Rattle.plain_model.specs.declared.event.Event.{Event}
use Rattle.plain_model.specs.declared.event.Event.TheVariants as event
use Rattle.plain_model.specs.declared.job.Job.{Job}
use Rattle.plain_model.specs.declared.job.Job.TheVariants as jobs
use Rattle.plain_model.specs.declared.region_key.RegionKey.{RegionKey}
use Rattle.plain_model.specs.After.{after_all}
use Rattle.plain_model.specs.Keys.{same_key, key_of}
use Rattle.core_model.specs.declared.entry.Entry.{Entry}
use Rattle.core_model.specs.declared.entry.Entry.TheVariants as entries
use Rattle.core_model.specs.declared.plan.Plan.{Plan}
use Rattle.core_model.specs.declared.region_files.RegionFiles.{RegionFiles}
use Rattle.core_model.specs.declared.snapshot.Snapshot.{Snapshot}
use Rattle.core_model.specs.declared.targets.ManifestPart.TheVariants as parts
use Rattle.core_model.specs.declared.targets.MoveFrom.TheVariants as moves
use Rattle.core_model.specs.declared.targets.OldFile.TheVariants as old
use Rattle.core_model.specs.declared.targets.Why.{Why}
use Rattle.core_model.specs.declared.targets.Why.TheVariants as why
use Rattle.core_model.specs.declared.step.Started.TheVariants as started
use Rattle.core_model.specs.declared.step.Step.{Step}
use Rattle.core_model.specs.declared.step.Step.TheVariants as step
use Rattle.core_model.specs.ActorChanges.{captures_by, plans_by, pins_by, stale_at}
use Rattle.core_model.specs.Actors.{IsRegion}
use Rattle.core_model.specs.Allows.{Allows}
use Rattle.core_model.specs.Events.{events_of}
use Rattle.core_model.specs.Replay.{after}
use Rattle.core_model.specs.Disk.{disk_after, live_of}
use Rattle.core_model.specs.Entries.{base_of, file_of, entry_name, halved_name, is_own, is_half, IsKey, IsBase, IsEntryIn}
use Rattle.core_model.specs.FileChanges.{lists_by, snapshots_by}
use Rattle.core_model.specs.Site.{is_store_name}
use Rattle.cell_sight.specs.Member.{Member}
use Rattle.core_model.specs.Keys.{same_base}
use Rattle.core_model.specs.ListGuards.{AllowsList, Waits, IsFlushed, Flushes, IsOutput}
use Rattle.core_model.specs.Plans.{more_entries}
use Rattle.core_model.specs.Named.{Named, IsNamed, listed, in_snapshot, captured, planned, pinned, linked}
use Rattle.core_model.specs.Ops.{op_of}
use Rattle.core_model.specs.PassChanges.{snapshot_entries}
use Rattle.core_model.specs.SetGuards.{IsChange}
use Rattle.core_model.specs.Sound.{IsSound}
use Rattle.core_model.specs.State.{Parts, Pinned, no_plan}
use Rattle.core_model.specs.TableChanges.{tables_by, added_by}
use Rattle.core_sound.proofs.NameFacts.{store_name, apart_bases}
use Rattle.core_sound.proofs.RegionFacts.{region_was}
use Rattle.core_sound.proofs.Copied.{copied-member}
use Rattle.core_sound.proofs.Lists.{map_some, get-put, get-taken, member-append}
use Rattle.core_sound.proofs.Sources.{map-member, zip-member, each-member, merged-member, pins_region, halves-source, IsSource, of_snapshot, of_region, plan-source}
use Rattle.core_sound.proofs.Vacant.{vacant-member}
use Rattle.core_sound.proofs.Tests.{cond_cases, same_key-true, same_base-true}

-- the base was named, or its file is live and lawful
abbrev pub Was : Parts → Base → Type 0
Was s b = IsNamed s b ⊎ ((f : FileState) × (live_of s.disk b ≡ Some f) × IsBase b)

-- a file that is waiting is live
waits_was : (a : ℕ) (r : RegionKey) (family : List ℕ) (b : Base) (s : Parts) → Waits a r family b s → IsSound s → Was s b
waits_was a r family b s w h = inr (h.waiting.at b a w.waiting)

own_was : (s : Parts) (bs : List Base) (e : Entry) → ((b : Base) → Member b bs → Was s b) → Member e (map entries.Own bs) → Was s (base_of e)
own_was s bs e k m = let w = map-member entries.Own e bs m in subst (λ x. Was s (base_of x)) w.2 (k w.0 w.1)

flushed_was : (a : ℕ) (r : RegionKey) (s : Parts) (fs : List (List ℕ)) (bs : List Base) → AllZip (IsFlushed a r s) fs bs → IsSound s → (b : Base) → Member b bs → Was s b
flushed_was a r s fs bs z h b m = let w = zip-member (IsFlushed a r s) fs bs b z m in waits_was a r w.0 b s w.1.waits h

-- ---- the newest lists

flush_was : (a : ℕ) (r : RegionKey) (l : RegionFiles) (cells : List Cell) (more : List (List ℕ × Entry)) (s : Parts) → Flushes a r l cells more s → IsSound s → IsRegion s.plain.tables r → (e : Entry) → Member e l.entries → Was s (base_of e)
flush_was a r l cells more s g h i e m = elim (member-append e (s.lists r).entries (map entries.Own g.added) (subst (Member e) g.entries m)) [
  | inl k ↦ inl (listed r e i k refl)
  | inr k ↦ own_was s g.added e (flushed_was a r s _ g.added g.files h) k
]

output_was : (a : ℕ) (r : RegionKey) (family : List ℕ) (cells : List Cell) (s : Parts) (bs : List Base) → IsOutput bs a r family cells s → IsSound s → (b : Base) → Member b bs → Was s b
output_was a r family cells s [] o h b m = absurd m
output_was a r family cells s (c ∷ []) o h b (inl e) = subst (Was s) e (waits_was a r family c s o.1 h)
output_was a r family cells s (c ∷ []) o h b (inr m) = absurd m
output_was a r family cells s (c ∷ d ∷ bs) o h b m = absurd o

list_was : (reason : Why) (a : ℕ) (r : RegionKey) (l : RegionFiles) (cells : List Cell) (more : List (List ℕ × Entry)) (s : Parts) → AllowsList reason a r l cells more s → IsSound s → IsRegion s.plain.tables r
    → (e : Entry) → Member e l.entries → Was s (base_of e)
list_was why.Flush a r l cells more s g h i e m = flush_was a r l cells more s g.1 h i e m
list_was why.Capture a r l cells more s g h i e m = flush_was a r l cells more s g.flushes h i e m
list_was (why.Compact major) a r l cells more s g h i e m = elim (merged-member g.merges e (s.lists r).entries (subst (Member e) g.entries m)) [
  | inl k ↦ inl (listed r e i k refl)
  | inr k ↦ own_was s k.0.output e (output_was a r k.0.family _ s k.0.output (each-member _ g.merges k.0 g.each k.1).output h) k.2
]
list_was why.Bulk a r l cells more s g h i e m = elim (member-append e (s.lists r).entries (map entries.Own g.added) (subst (Member e) g.entries m)) [
  | inl k ↦ inl (listed r e i k refl)
  | inr k ↦ own_was s g.added e (λ b n. let w = zip-member _ _ g.added b g.files n in inr (h.waiting.at b a w.1.1)) k
]
list_was why.Build a r l cells more s g h i e m = absurd (g.out i)

pub added-planned : (job : Option Job) (change : Event) (table : List ℕ) (a : ℕ) (s : Parts) (i : RegionInfo) → IsChange job change table a s → Member i (added_by change) → Member i (s.plans a).regions
added-planned (Some (jobs.Create t fs n ks)) (event.Create schema regions) table a s i z m = subst (Member i) z.2 m
added-planned (Some (jobs.Split t row)) (event.Split u parent low high) table a s i z m = subst (Member i) z.3 m
added-planned (Some (jobs.Clone name t)) (event.Clone c u regions) table a s i z m = subst (Member i) z.3 m
added-planned (Some (jobs.Restore name)) (event.Restore c regions) table a s i z m = subst (Member i) z.1 m
added-planned (Some (jobs.Enable t)) (event.Enable u) table a s i z m = absurd m
added-planned (Some (jobs.Disable t)) (event.Disable u) table a s i z m = absurd m
added-planned (Some (jobs.Drop t)) (event.Drop u) table a s i z m = absurd m
added-planned (Some jobs.Janitor) (event.Remove t rs) table a s i z m = absurd m
added-planned _ _ table a s i z m = absurd z

listed_was : (p : Step) (s : Parts) → Allows p s → IsSound s → (r : RegionKey) (e : Entry) → IsRegion (tables_by p s.plain.snapshots s.plain.tables) r → Member e (lists_by p s.lists r).entries → Was s (base_of e)
listed_was (step.CommitList actor region number name reason list cells more) s a h r e i m = (elim (same_key r region) as (λ b. same_key r region ≡ b → Member e (cond b list (s.lists r)).entries → Was s (base_of e)) [
  | true ↦ λ d k. list_was reason actor.0 region list cells more s a.allowed h (subst (IsRegion s.plain.tables) (same_key-true r region d) i) e k
  | false ↦ λ d k. inl (listed r e i k refl)
]) refl m
listed_was (step.CommitRegions actor table number name set change) s a h r e i m = elim (region_was change s.plain.snapshots s.plain.tables r i) [
  | inl k ↦ inl (listed r e k m refl)
  | inr k ↦ let w = h.built.at actor.0 k.0 e (added-planned _ change table actor.0 s k.0 a.is_change k.1) (subst (λ q. Member e (s.lists q).entries) (sym k.2) m) in
      inl (planned actor.0 ((key_of k.0).region, e) w.1 refl)
]
listed_was (step.Start who job (started.Live actor) drawn) s a h r e i m = inl (listed r e i (vacant-member drawn.regions s.lists r e m) refl)
listed_was _ s a h r e i m = inl (listed r e i m refl)

-- ---- snapshots and captures

copied_was : (p : Step) (s : Parts) → Allows p s → IsSound s → (name : List ℕ) (x : Snapshot) (e : Entry) → get (snapshots_by p s.snapshots) name ≡ Some x → Member e (snapshot_entries x) → Was s (base_of e)
copied_was (step.Complete actor name copied) s a h n x e i m = get-put s.snapshots name copied n x i
    (λ d k. let w = copied-member (s.captures actor.0) a.table s.plain e (subst (λ y. Member e (snapshot_entries y)) (sym k ∙ a.copied) m) in inl (captured actor.0 w.0 w.1 e w.2 w.3 refl))
    (λ k. inl (in_snapshot n x e k m refl))
copied_was (step.Uncomplete actor name) s a h n x e i m = get-taken s.snapshots name n x i (λ d k. inl (in_snapshot n x e k m refl))
copied_was _ s a h n x e i m = inl (in_snapshot n x e i m refl)

capture_was : (a : ℕ) (r : RegionKey) (l : RegionFiles) (s : Parts) → ((e : Entry) → Member e l.entries → Was s (base_of e)) → (w : ℕ) (q : RegionKey) (k : RegionFiles) (e : Entry)
    → cond ((w == a) && same_key q r) (Some l) (s.captures w q) ≡ Some k → Member e k.entries → Was s (base_of e)
capture_was a r l s f w q k e i m = cond_cases ((w == a) && same_key q r) (Some l) (s.captures w q) (Some k) i
    (λ d j. let z : l ≡ k = (cc) in f e (subst (λ (x : RegionFiles). Member e x.entries) (sym z) m))
    (λ d j. inl (captured w q k e j m refl))

ended_was : (a : ℕ) (s : Parts) (w : ℕ) (q : RegionKey) (k : RegionFiles) (e : Entry) → cond (w == a) None (s.captures w q) ≡ Some k → Member e k.entries → Was s (base_of e)
ended_was a s w q k e i m = cond_cases (w == a) None (s.captures w q) (Some k) i (λ d j. absurd (cc)) (λ d j. inl (captured w q k e j m refl))

captured_was : (p : Step) (s : Parts) → Allows p s → IsSound s → (w : ℕ) (q : RegionKey) (k : RegionFiles) (e : Entry) → captures_by p s.lists s.captures w q ≡ Some k → Member e k.entries → Was s (base_of e)
captured_was (step.Capture actor region) s a h w q k e i m = capture_was actor.0 region (s.lists region) s (λ x n. inl (listed region x (inl a.is_open) n refl)) w q k e i m
captured_was (step.CommitList actor region number name why.Capture list cells more) s a h w q k e i m = capture_was actor.0 region list s (λ x n. list_was why.Capture actor.0 region list cells more s a.allowed h (inl a.allowed.is_open) x n) w q k e i m
captured_was (step.End actor refusal) s a h w q k e i m = ended_was actor.0 s w q k e i m
captured_was (step.Abandon actor) s a h w q k e i m = ended_was actor.0 s w q k e i m
captured_was _ s a h w q k e i m = inl (captured w q k e i m refl)

-- ---- plans

source_was : (s : Parts) (b : Base) → IsSource s.plain s.snapshots s.lists b → Was s b
source_was s b (of_snapshot name x e i) = inl (in_snapshot name x i.entry e i.listed i.reads)
source_was s b (of_region r k i) = inl (listed r i.entry k i.listed i.reads)

more_was : (job : Option Job) (is : List RegionInfo) (r : RegionKey) (s : Parts) (bs : List Base) (x : List ℕ × Entry) → ((b : Base) → Member b bs → Was s b) → Member x (more_entries job is r (map entries.Own bs)) → Was s (base_of x.1)
more_was (Some (jobs.Split t row)) is r s bs x f m = let w = halves-source is r.region row x (map entries.Own bs) m in subst (Was s) w.reads (own_was s bs w.entry f w.listed)
more_was _ is r s bs x f m = absurd m

none_planned : {P : Type 0} (more : List (List ℕ × Entry)) (x : List ℕ × Entry) → more ≡ [] → Member x more → P
none_planned more x e m = absurd (subst (Member x) e m)

more_list : (reason : Why) (a : ℕ) (r : RegionKey) (l : RegionFiles) (cells : List Cell) (more : List (List ℕ × Entry)) (s : Parts) → AllowsList reason a r l cells more s → IsSound s → (x : List ℕ × Entry) → Member x more → Was s (base_of x.1)
more_list why.Flush a r l cells more s g h x m = more_was _ _ r s g.1.added x (flushed_was a r s _ g.1.added g.1.files h) (subst (Member x) g.1.halves m)
more_list why.Capture a r l cells more s g h x m = more_was _ _ r s g.flushes.added x (flushed_was a r s _ g.flushes.added g.flushes.files h) (subst (Member x) g.flushes.halves m)
more_list (why.Compact major) a r l cells more s g h x m = none_planned more x g.unplanned m
more_list why.Bulk a r l cells more s g h x m = none_planned more x g.unplanned m
more_list why.Build a r l cells more s g h x m = none_planned more x g.unplanned m

plan_was : (s : Parts) (a : ℕ) (plan : Plan) → ((x : List ℕ × Entry) → Member x plan.entries → Was s (base_of x.1)) → (w : ℕ) (x : List ℕ × Entry) → Member x (cond (w == a) plan (s.plans w)).entries → Was s (base_of x.1)
plan_was s a plan f w x m = (elim (w == a) as (λ b. Member x (cond b plan (s.plans w)).entries → Was s (base_of x.1)) [ true ↦ λ k. f x k | false ↦ λ k. inl (planned w x k refl) ]) m

planned_was : (p : Step) (s : Parts) → Allows p s → IsSound s → (w : ℕ) (x : List ℕ × Entry) → Member x (plans_by p s.plans w).entries → Was s (base_of x.1)
planned_was (step.Start who job (started.Live actor) drawn) s a h w x m =
    plan_was s actor.0 drawn.plan (λ y k. source_was s (base_of y.1) (plan-source job _ s.plain s.snapshots s.lists y h.own_regions (subst (λ (v : Plan). Member y v.entries) a.answered.1.plan k))) w x m
planned_was (step.CommitList actor region number name reason list cells more) s a h w x m =
    plan_was s actor.0 _ (λ y k. elim (member-append y (s.plans actor.0).entries more k) [
      | inl n ↦ inl (planned actor.0 y n refl)
      | inr n ↦ more_list reason actor.0 region list cells more s a.allowed h y n
    ]) w x m
planned_was (step.CommitRegions actor table number name set change) s a h w x m = plan_was s actor.0 no_plan (λ y k. absurd k) w x m
planned_was (step.End actor refusal) s a h w x m = plan_was s actor.0 no_plan (λ y k. absurd k) w x m
planned_was (step.Abandon actor) s a h w x m = plan_was s actor.0 no_plan (λ y k. absurd k) w x m
planned_was _ s a h w x m = inl (planned w x m refl)

-- ---- pins

pins_was : (s : Parts) (a : ℕ) (ps : List Pinned) → ((p : Pinned) (e : Entry) → Member p ps → Member e p.entries → Was s (base_of e)) → (w : ℕ) (p : Pinned) (e : Entry) → Member p (cond (w == a) ps (s.pins w)) → Member e p.entries → Was s (base_of e)
pins_was s a ps f w p e m n = (elim (w == a) as (λ b. Member p (cond b ps (s.pins w)) → Was s (base_of e)) [ true ↦ λ k. f p e k n | false ↦ λ k. inl (pinned w e (record { pin = p; stands = k; entry = n }) refl) ]) m

pinned_was : (q : Step) (s : Parts) → Allows q s → IsSound s → (w : ℕ) (p : Pinned) (e : Entry) → Member p (pins_by q s.lists s.pins w) → Member e p.entries → Was s (base_of e)
pinned_was (step.Pin actor target (Ok region) major) s a h w p e m n = pins_was s actor.0 _ (λ y x k i. elim k [
  | inl d ↦ inl (listed region x (pins_region target region actor.0 s.plain h.own_regions a.answered) (subst (λ (v : Pinned). Member x v.entries) (sym d) i) refl)
  | inr d ↦ inl (pinned actor.0 x (record { pin = y; stands = d; entry = i }) refl)
]) w p e m n
pinned_was (step.CommitList actor region number name reason list cells more) s a h w p e m n = pins_was s actor.0 _ (λ y x k i.
    let v = map-member (stale_at region) y (s.pins actor.0) k in inl (pinned actor.0 x (record { pin = v.0; stands = v.1; entry = subst (λ (u : Pinned). Member x u.entries) (sym v.2) i }) refl)) w p e m n
pinned_was (step.Unpin actor) s a h w p e m n = pins_was s actor.0 [] (λ y x k i. absurd k) w p e m n
pinned_was (step.End actor refusal) s a h w p e m n = pins_was s actor.0 [] (λ y x k i. absurd k) w p e m n
pinned_was (step.Abandon actor) s a h w p e m n = pins_was s actor.0 [] (λ y x k i. absurd k) w p e m n
pinned_was _ s a h w p e m n = inl (pinned w e (record { pin = p; stands = m; entry = n }) refl)

-- ---- links and halves

marked : (p : ℕ → Bool) (xs : List ℕ) (y : ℕ) (ys : List ℕ) → p y ≡ true → list_any p (xs ++ y ∷ ys) ≡ true
marked p [] y ys e = ap (λ b. b || list_any p ys) e
marked p (x ∷ xs) y ys e = (elim (p x) as (λ b. (b || list_any p (xs ++ y ∷ ys)) ≡ true) [ true ↦ refl | false ↦ marked p xs y ys e ])

-- the name of a link or half is no store file's
pub not_store : (e : Entry) → is_own e ≡ false → is_store_name (entry_name e) ≡ false
not_store (entries.Own b) o = absurd (cc)
not_store (entries.Link b) o = ap not (marked _ b.table 61 (b.region ++ 45 ∷ b.name) refl)
not_store (entries.Half b l parent row top) o = ap not (marked _ (halved_name l b) 46 parent refl)

link_was : (s : Parts) (r : RegionKey) (e : Entry) (f : FileState) → IsKey r → IsEntryIn r e → is_own e ≡ false → live_of s.disk (file_of r e) ≡ Some f → Was s (base_of e)
link_was s r e f y v o k = inl (linked r e f y v o k refl)

-- a file that is placed is no link or half
placed_was : (s : Parts) (b : Base) (o : Option FileState) (r : RegionKey) (e : Entry) (f : FileState) → IsBase b → IsKey r → IsEntryIn r e → is_own e ≡ false
    → cond (same_base (file_of r e) b) o (live_of s.disk (file_of r e)) ≡ Some f → Was s (base_of e)
placed_was s b o r e f n y v w k = cond_cases (same_base (file_of r e) b) o (live_of s.disk (file_of r e)) (Some f) k
    (λ d i. let z : true ≡ false = sym (store_name b.name n.file) ∙ ap (λ (x : Base). is_store_name x.name) (sym (same_base-true (file_of r e) b d)) ∙ not_store e w in absurd (cc))
    (λ d i. link_was s r e f y v w i)

taken_was : (s : Parts) (b : Base) (r : RegionKey) (e : Entry) (f : FileState) → IsKey r → IsEntryIn r e → is_own e ≡ false → cond (same_base (file_of r e) b) None (live_of s.disk (file_of r e)) ≡ Some f → Was s (base_of e)
taken_was s b r e f y v w k = cond_cases (same_base (file_of r e) b) None (live_of s.disk (file_of r e)) (Some f) k (λ d i. absurd (cc)) (λ d i. link_was s r e f y v w i)

-- a link or half that is made is of a planned base
made_was : (s : Parts) (a : ℕ) (q : RegionKey) (x : Entry) (o : Option FileState) (r : RegionKey) (e : Entry) (f : FileState) → Member (q.region, x) (s.plans a).entries → IsEntryIn q x → is_own x ≡ false → IsKey r → IsEntryIn r e → is_own e ≡ false
    → cond (same_base (file_of r e) (file_of q x)) o (live_of s.disk (file_of r e)) ≡ Some f → Was s (base_of e)
made_was s a q x o r e f m n u y v w k = cond_cases (same_base (file_of r e) (file_of q x)) o (live_of s.disk (file_of r e)) (Some f) k
    (λ d i. inl (planned a (q.region, x) m (sym (apart_bases r q e x v n w u (same_base-true (file_of r e) (file_of q x) d)))))
    (λ d i. link_was s r e f y v w i)

pub half_not_own : (e : Entry) → is_half e ≡ true → is_own e ≡ false
half_not_own (entries.Own b) h = absurd (cc)
half_not_own (entries.Link b) h = refl
half_not_own (entries.Half b l p r t) h = refl

touched_was : (s : Parts) (b : Base) (moment : ℕ) (r : RegionKey) (e : Entry) (f : FileState) → IsKey r → IsEntryIn r e → is_own e ≡ false
    → cond (same_base (file_of r e) b) (option_map (with_moment moment) (live_of s.disk b)) (live_of s.disk (file_of r e)) ≡ Some f → Was s (base_of e)
touched_was s b moment r e f y v w k = cond_cases (same_base (file_of r e) b) (option_map (with_moment moment) (live_of s.disk b)) (live_of s.disk (file_of r e)) (Some f) k
    (λ d i. let z = map_some (with_moment moment) (live_of s.disk b) f i in link_was s r e z.0 y v w (ap (live_of s.disk) (same_base-true (file_of r e) b d) ∙ z.1))
    (λ d i. link_was s r e f y v w i)

linked_was : (p : Step) (s : Parts) → Allows p s → (r : RegionKey) (e : Entry) (f : FileState) → IsKey r → IsEntryIn r e → is_own e ≡ false → live_of (disk_after (op_of p) s.disk) (file_of r e) ≡ Some f → Was s (base_of e)
linked_was (step.Place actor (moves.Written name) base cells) s a r e f y v w k = placed_was s base _ r e f a.names y v w k
linked_was (step.Place actor (moves.WrittenBulk name) base cells) s a r e f y v w k = placed_was s base _ r e f a.names y v w k
linked_was (step.Place actor (moves.StagedBulk folder name) base cells) s a r e f y v w k = placed_was s base _ r e f a.names y v w k
linked_was (step.Stamp actor base moment) s a r e f y v w k = touched_was s base moment r e f y v w k
linked_was (step.Archive actor base) s a r e f y v w k = taken_was s base r e f y v w k
linked_was (step.Unlink actor entry region) s a r e f y v w k = taken_was s (file_of region entry) r e f y v w k
linked_was (step.Link actor base region) s a r e f y v w k = made_was s actor.0 region (entries.Link base) _ r e f a.planned a.names refl y v w k
linked_was (step.Half actor entry region bytes) s a r e f y v w k = made_was s actor.0 region entry _ r e f a.refer.planned a.refer.names (half_not_own entry a.half) y v w k
linked_was (step.DropOld actor (old.Work snapshot parts.Info)) s a r e f y v w k = link_was s r e f y v w k
linked_was (step.Manifest actor parts.Info snapshot moment bytes) s a r e f y v w k = link_was s r e f y v w k
linked_was _ s a r e f y v w k = link_was s r e f y v w k

-- ---- all of them

pub named_was : (p : Step) (s : Parts) → Allows p s → IsSound s → (b : Base)
    → Named (tables_by p s.plain.snapshots s.plain.tables) (lists_by p s.lists) (snapshots_by p s.snapshots) (captures_by p s.lists s.captures) (plans_by p s.plans) (pins_by p s.lists s.pins) (live_of (disk_after (op_of p) s.disk)) b
    → Was s b
named_was p s a h b (listed r e i m k) = subst (Was s) k (listed_was p s a h r e i m)
named_was p s a h b (in_snapshot name x e i m k) = subst (Was s) k (copied_was p s a h name x e i m)
named_was p s a h b (captured w r l e i m k) = subst (Was s) k (captured_was p s a h w r l e i m)
named_was p s a h b (planned w x m k) = subst (Was s) k (planned_was p s a h w x m)
named_was p s a h b (pinned w e i k) = subst (Was s) k (pinned_was p s a h w i.pin e i.stands i.entry)
named_was p s a h b (linked r e f y v o i k) = subst (Was s) k (linked_was p s a r e f y v o i)

-- ---- the state after a step

pub tables_after : (p : Step) (s : Parts) → (after_all s.plain (events_of p)).tables ≡ tables_by p s.plain.snapshots s.plain.tables
tables_after (step.PutCell who table put moment (Some joined)) s = refl
tables_after (step.Start who job (started.Live actor) drawn) s = refl
tables_after (step.CommitList actor region number name why.Flush list cells more) s = refl
tables_after (step.CommitList actor region number name (why.Compact true) list cells more) s = refl
tables_after (step.Place actor (moves.Written name) base cells) s = refl
tables_after (step.Pin actor target (Ok region) true) s = refl
tables_after _ s = refl

pub named_before : (p : Step) (s : Parts) → Allows p s → IsSound s → (b : Base) → IsNamed (after p s) b → Was s b
named_before p s a h b i = named_was p s a h b
    (subst (λ t. Named t (lists_by p s.lists) (snapshots_by p s.snapshots) (captures_by p s.lists s.captures) (plans_by p s.plans) (pins_by p s.lists s.pins) (live_of (disk_after (op_of p) s.disk)) b) (tables_after p s) i)

-- an archived base that is not named is not named after the step
pub never_again : (p : Step) (s : Parts) → Allows p s → IsSound s → (b : Base) (f : FileState) → s.disk (Archived b) ≡ Some f → (IsNamed s b → ⊥) → IsNamed (after p s) b → ⊥
never_again p s a h b f k n i = elim (named_before p s a h b i) [ inl j ↦ n j | inr j ↦ h.one_place.at b j.0 f j.1 k ]
