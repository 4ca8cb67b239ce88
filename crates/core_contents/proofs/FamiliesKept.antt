-- Each step keeps that the cells of entries are of their families.
use Rattle.std.proofs.Common.{◌≡◌, ◌≤◌, ℕ, ◌++◌, ◌&&◌, ◌==◌, Bool, true, false, cond, List, [], ◌∷◌, Option, Some, None, refl, sym, ◌∙◌, subst, inl, inr}
use Rattle.std.specs.Prelude.{filter, map, unwrap_or, Ok}
use Rattle.std.specs.List.{AllZip}
use Rattle.hb_cell.specs.declared.cell.Cell.{Cell}
use Rattle.hb_cell.specs.Order.{same_bytes}
use Rattle.hb_layout.specs.declared.base.Base.{Base}
use Rattle.hb_records.specs.declared.region_info.RegionInfo.{RegionInfo}
use Rattle.plain_model.specs.declared.job.Job.{Job}
use Rattle.plain_model.specs.declared.job.Job.TheVariants as jobs
use Rattle.plain_model.specs.declared.region_key.RegionKey.{RegionKey}
use Rattle.plain_model.specs.Found.{families_of}
use Rattle.plain_model.specs.Keys.{same_key, key_of}
use Rattle.cell_sight.specs.Member.{Member}
use Rattle.core_model.specs.declared.entry.Entry.{Entry}
use Rattle.core_model.specs.declared.entry.Entry.TheVariants.{Own}
use Rattle.core_model.specs.declared.plan.Plan.{Plan}
use Rattle.core_model.specs.declared.region_files.RegionFiles.{RegionFiles}
use Rattle.core_model.specs.declared.targets.MoveFrom.TheVariants as moves
use Rattle.core_model.specs.declared.targets.Why.{Why}
use Rattle.core_model.specs.declared.targets.Why.TheVariants as why
use Rattle.core_model.specs.declared.step.Started.TheVariants as started
use Rattle.core_model.specs.declared.step.Step.{Step}
use Rattle.core_model.specs.declared.step.Step.TheVariants as step
use Rattle.core_model.specs.ActorChanges.{captures_by, plans_by, pins_by, stale_at}
use Rattle.core_model.specs.Actors.{IsRegion}
use Rattle.core_model.specs.Allows.{Allows}
use Rattle.core_model.specs.Entries.{base_of, cells_in, is_in, seq_of, serves, with_seq}
use Rattle.core_model.specs.FileChanges.{made_by, lists_by, snapshots_by}
use Rattle.core_model.specs.ListGuards.{AllowsList, Flushes, IsFlushed, IsOutput, IsMerge, Merge, FitsFamily}
use Rattle.core_model.specs.Named.{listed, in_snapshot, captured, planned, pinned}
use Rattle.core_model.specs.PassChanges.{snapshot_entries}
use Rattle.core_model.specs.Plans.{more_entries}
use Rattle.core_model.specs.Recipes.{frozen_cells, merged}
use Rattle.core_model.specs.Replay.{after}
use Rattle.core_model.specs.Sound.{IsSound}
use Rattle.core_model.specs.State.{Parts, Pinned, no_plan}
use Rattle.core_model.specs.TableChanges.{tables_by}
use Rattle.cell_sight.proofs.Members.{of_filter, of_sorted}
use Rattle.core_sound.proofs.Copied.{copied-member}
use Rattle.core_sound.proofs.Lists.{get-put, get-taken, member-append}
use Rattle.core_sound.proofs.NeverAgain.{added-planned, tables_after}
use Rattle.core_sound.proofs.RegionFacts.{region_was}
use Rattle.core_sound.proofs.Sources.{map-member, zip-member, each-member, merged-member, pins_region}
use Rattle.core_sound.proofs.Tests.{cond_cases, same_bytes-true, same_key-true}
use Rattle.core_sound.proofs.Vacant.{vacant-member}
use Rattle.core_contents.specs.ContentFacts.{FitsEntry, HasFamilies}
use Rattle.core_contents.specs.Faithful.{IsFaithful}
use Rattle.core_contents.proofs.Compacted.{inputs-family, member-in}
use Rattle.core_contents.proofs.EntryFamilies.{entry_fits, fits_over}
use Rattle.core_contents.proofs.MadeStays.{made_stays}
use Rattle.core_contents.proofs.Majored.{cell-entry}
use Rattle.core_contents.proofs.PlannedEach.{halves-each, plan-each}
use Rattle.core_contents.proofs.SeenFacts.{seen_laws}

-- the cells of a base, and those of an entry, are of its family
abbrev Fits : Parts → Base → Type 0
Fits s b = FitsFamily s.made b

abbrev FitsIn : Parts → Entry → Type 0
FitsIn s e = FitsEntry s.made e

moved : (s : Parts) (b c : Base) → b ≡ c → Fits s b → Fits s c
moved s b c e f = subst (Fits s) e f

-- ---- the files of a commit

made_fits : (s : Parts) (b : Base) (cells : List Cell) → s.made b ≡ Some cells → ((c : Cell) → Member c cells → c.family ≡ b.family) → Fits s b
made_fits s b cells e k = λ c m. k c (subst (λ (o : Option (List Cell)). Member c (unwrap_or o [])) e m)

flushed_fits : (a : ℕ) (r : RegionKey) (s : Parts) (family : List ℕ) (b : Base) → IsFlushed a r s family b → Fits s b
flushed_fits a r s family b w = made_fits s b _ w.made (λ c m. same_bytes-true c.family family (of_filter (λ (x : Cell). same_bytes x.family family) c (frozen_cells s.plain r) (of_sorted c _ m)).1 ∙ sym w.waits.same_family)

own_fits : (s : Parts) (bs : List Base) (e : Entry) → ((b : Base) → Member b bs → Fits s b) → Member e (map Own bs) → FitsIn s e
own_fits s bs e k m = let w = map-member Own e bs m in subst (FitsIn s) w.2 (entry_fits s.made (Own w.0) (k w.0 w.1))

added_fits : (a : ℕ) (r : RegionKey) (s : Parts) (fs : List (List ℕ)) (bs : List Base) → AllZip (IsFlushed a r s) fs bs → (b : Base) → Member b bs → Fits s b
added_fits a r s fs bs z b m = let w = zip-member (IsFlushed a r s) fs bs b z m in flushed_fits a r s w.0 b w.1

merged_in : (major : Bool) (families : List (List ℕ × ℕ)) (cells : List Cell) (c : Cell) → Member c (merged major families cells) → Member c cells
merged_in true families cells c m = (seen_laws families).shown cells c m
merged_in false families cells c m = of_sorted c cells m

-- the cells of a merge are of its family
merge_fits : (a : ℕ) (r : RegionKey) (major : Bool) (front : List Entry) (s : Parts) (m : Merge) → IsMerge a r major front s m → ((e : Entry) → Member e (s.lists r).entries → FitsIn s e)
    → (c : Cell) → Member c (merged major (families_of s.plain r.table) (cells_in s.made m.inputs)) → c.family ≡ m.family
merge_fits a r major front s m g k c i =
    let w = cell-entry s.made m.inputs c (merged_in major (families_of s.plain r.table) (cells_in s.made m.inputs) c i) in
    let l = (of_filter (is_in m.inputs) w.0 (s.lists r).entries (subst (Member w.0) (sym g.stand) w.1)).0 in
    k w.0 l c w.2 ∙ member-in m.family m.inputs w.0 (inputs-family major m front s g.takes) w.1

output_fits : (a : ℕ) (r : RegionKey) (family : List ℕ) (cells : List Cell) (s : Parts) (bs : List Base) → IsOutput bs a r family cells s → ((c : Cell) → Member c cells → c.family ≡ family) → (b : Base) → Member b bs → Fits s b
output_fits a r family cells s [] o k b m = absurd m
output_fits a r family cells s (d ∷ []) o k b (inl e) = moved s d b e (made_fits s d cells o.3 (λ c m. k c m ∙ sym o.1.same_family))
output_fits a r family cells s (d ∷ []) o k b (inr m) = absurd m
output_fits a r family cells s (d ∷ q ∷ bs) o k b m = absurd o

-- ---- a list that is committed

flush_fits : (a : ℕ) (r : RegionKey) (l : RegionFiles) (cells : List Cell) (more : List (List ℕ × Entry)) (s : Parts) → Flushes a r l cells more s → IsFaithful s → IsRegion s.plain.tables r → (e : Entry) → Member e l.entries → FitsIn s e
flush_fits a r l cells more s g f i e m = elim (member-append e (s.lists r).entries (map Own g.added) (subst (Member e) g.entries m)) [
  | inl k ↦ f.families.listed r e i k
  | inr k ↦ own_fits s g.added e (added_fits a r s _ g.added g.files) k
]

list_fits : (reason : Why) (a : ℕ) (r : RegionKey) (l : RegionFiles) (cells : List Cell) (more : List (List ℕ × Entry)) (s : Parts) → AllowsList reason a r l cells more s → IsFaithful s → IsRegion s.plain.tables r
    → (e : Entry) → Member e l.entries → FitsIn s e
list_fits why.Flush a r l cells more s g f i e m = flush_fits a r l cells more s g.1 f i e m
list_fits why.Capture a r l cells more s g f i e m = flush_fits a r l cells more s g.flushes f i e m
list_fits (why.Compact major) a r l cells more s g f i e m = elim (merged-member g.merges e (s.lists r).entries (subst (Member e) g.entries m)) [
  | inl k ↦ f.families.listed r e i k
  | inr k ↦ let n = each-member (IsMerge a r major g.pinned.entries s) g.merges k.0 g.each k.1 in
      own_fits s k.0.output e (output_fits a r k.0.family _ s k.0.output n.output (merge_fits a r major g.pinned.entries s k.0 n (λ x j. f.families.listed r x i j))) k.2
]
list_fits why.Bulk a r l cells more s g f i e m = elim (member-append e (s.lists r).entries (map Own g.added) (subst (Member e) g.entries m)) [
  | inl k ↦ f.families.listed r e i k
  | inr k ↦ own_fits s g.added e (λ b n. each-member (FitsFamily s.made) g.added b g.fits n) k
]
list_fits why.Build a r l cells more s g f i e m = absurd (g.out i)

-- ---- plans

more_fits : (job : Option Job) (is : List RegionInfo) (r : RegionKey) (s : Parts) (bs : List Base) (x : List ℕ × Entry) → ((b : Base) → Member b bs → Fits s b) → Member x (more_entries job is r (map Own bs)) → FitsIn s x.1
more_fits (Some (jobs.Split t row)) is r s bs x f m = halves-each (FitsIn s) (fits_over s.made) is r.region row x (map Own bs) (λ e n. own_fits s bs e f n) m
more_fits _ is r s bs x f m = absurd m

none_planned : {P : Type 0} (more : List (List ℕ × Entry)) (x : List ℕ × Entry) → more ≡ [] → Member x more → P
none_planned more x e m = absurd (subst (Member x) e m)

gained_fits : (reason : Why) (a : ℕ) (r : RegionKey) (l : RegionFiles) (cells : List Cell) (more : List (List ℕ × Entry)) (s : Parts) → AllowsList reason a r l cells more s → (x : List ℕ × Entry) → Member x more → FitsIn s x.1
gained_fits why.Flush a r l cells more s g x m = more_fits _ _ r s g.1.added x (added_fits a r s _ g.1.added g.1.files) (subst (Member x) g.1.halves m)
gained_fits why.Capture a r l cells more s g x m = more_fits _ _ r s g.flushes.added x (added_fits a r s _ g.flushes.added g.flushes.files) (subst (Member x) g.flushes.halves m)
gained_fits (why.Compact major) a r l cells more s g x m = none_planned more x g.unplanned m
gained_fits why.Bulk a r l cells more s g x m = none_planned more x g.unplanned m
gained_fits why.Build a r l cells more s g x m = none_planned more x g.unplanned m

plan_fits : (s : Parts) (a : ℕ) (plan : Plan) → IsFaithful s → ((x : List ℕ × Entry) → Member x plan.entries → FitsIn s x.1) → (w : ℕ) (x : List ℕ × Entry) → Member x (cond (w == a) plan (s.plans w)).entries → FitsIn s x.1
plan_fits s a plan f k w x m = (elim (w == a) as (λ b. Member x (cond b plan (s.plans w)).entries → FitsIn s x.1) [ true ↦ λ n. k x n | false ↦ λ n. f.families.planned w x n ]) m

-- ---- pins and captures

pins_fit : (s : Parts) (a : ℕ) (ps : List Pinned) → IsFaithful s → ((p : Pinned) (e : Entry) → Member p ps → Member e p.entries → FitsIn s e) → (w : ℕ) (p : Pinned) (e : Entry) → Member p (cond (w == a) ps (s.pins w)) → Member e p.entries → FitsIn s e
pins_fit s a ps f k w p e m n = (elim (w == a) as (λ b. Member p (cond b ps (s.pins w)) → FitsIn s e) [ true ↦ λ i. k p e i n | false ↦ λ i. f.families.pinned w p e i n ]) m

stale_fit : (s : Parts) (a : ℕ) (r : RegionKey) → IsFaithful s → (p : Pinned) (e : Entry) → Member p (map (stale_at r) (s.pins a)) → Member e p.entries → FitsIn s e
stale_fit s a r f p e m n = let v = map-member (stale_at r) p (s.pins a) m in f.families.pinned a v.0 e v.1 (subst (λ (u : Pinned). Member e u.entries) (sym v.2) n)

capture_fits : (s : Parts) (a : ℕ) (r : RegionKey) (l : RegionFiles) → IsFaithful s → ((e : Entry) → Member e l.entries → FitsIn s e) → (w : ℕ) (q : RegionKey) (k : RegionFiles) (e : Entry)
    → cond ((w == a) && same_key q r) (Some l) (s.captures w q) ≡ Some k → Member e k.entries → FitsIn s e
capture_fits s a r l f g w q k e i m = cond_cases ((w == a) && same_key q r) (Some l) (s.captures w q) (Some k) i
    (λ d j. let z : l ≡ k = (cc) in g e (subst (λ (x : RegionFiles). Member e x.entries) (sym z) m))
    (λ d j. f.families.captured w q k e j m)

ended_fits : (s : Parts) (a w : ℕ) (q : RegionKey) (k : RegionFiles) (e : Entry) → IsFaithful s → cond (w == a) None (s.captures w q) ≡ Some k → Member e k.entries → FitsIn s e
ended_fits s a w q k e f i m = cond_cases (w == a) None (s.captures w q) (Some k) i (λ d j. absurd (cc)) (λ d j. f.families.captured w q k e j m)

-- ---- all steps

grown : (p : Step) (s : Parts) → s.files ≤ 4_194_304 → Allows p s → IsSound s → IsFaithful s → HasFamilies (made_by p s.made) s.plain.tables s.lists s.snapshots s.captures s.plans s.pins
grown p s few a h f = record {
  listed = λ r e i m. on e (made_stays p s few a h (base_of e) (listed r e i m refl)) (f.families.listed r e i m);
  completed = λ name x e i m. on e (made_stays p s few a h (base_of e) (in_snapshot name x e i m refl)) (f.families.completed name x e i m);
  captured = λ w r l e i m. on e (made_stays p s few a h (base_of e) (captured w r l e i m refl)) (f.families.captured w r l e i m);
  planned = λ w x m. on x.1 (made_stays p s few a h (base_of x.1) (planned w x m refl)) (f.families.planned w x m);
  pinned = λ w q e m n. on e (made_stays p s few a h (base_of e) (pinned w e (record { pin = q; stands = m; entry = n }) refl)) (f.families.pinned w q e m n);
}
  where
    on : (e : Entry) → made_by p s.made (base_of e) ≡ s.made (base_of e) → FitsIn s e → FitsEntry (made_by p s.made) e
    on e i k = λ c m. k c (subst (λ (o : Option (List Cell)). Member c (filter (serves e) (map (with_seq (seq_of (base_of e).name)) (unwrap_or o [])))) i m)

commit_fits : (reason : Why) (a : ℕ) (r : RegionKey) (l : RegionFiles) (s : Parts) → IsFaithful s → (IsRegion s.plain.tables r → (e : Entry) → Member e l.entries → FitsIn s e)
    → (q : RegionKey) (e : Entry) → IsRegion s.plain.tables q → Member e (cond (same_key q r) l (s.lists q)).entries → FitsIn s e
commit_fits reason a r l s f k q e i m = (elim (same_key q r) as (λ b. same_key q r ≡ b → Member e (cond b l (s.lists q)).entries → FitsIn s e) [
  | true ↦ λ d n. k (subst (IsRegion s.plain.tables) (same_key-true q r d) i) e n
  | false ↦ λ d n. f.families.listed q e i n
]) refl m

gain_fits : (reason : Why) (a : ℕ) (r : RegionKey) (l : RegionFiles) (cells : List Cell) (more : List (List ℕ × Entry)) (s : Parts) → AllowsList reason a r l cells more s → IsFaithful s → (x : List ℕ × Entry) → Member x ((s.plans a).entries ++ more) → FitsIn s x.1
gain_fits reason a r l cells more s g f x m = elim (member-append x (s.plans a).entries more m) [ inl n ↦ f.families.planned a x n | inr n ↦ gained_fits reason a r l cells more s g x n ]

families_after : (p : Step) (s : Parts) → s.files ≤ 4_194_304 → Allows p s → IsSound s → IsFaithful s
    → HasFamilies (made_by p s.made) (tables_by p s.plain.snapshots s.plain.tables) (lists_by p s.lists) (snapshots_by p s.snapshots) (captures_by p s.lists s.captures) (plans_by p s.plans) (pins_by p s.lists s.pins)
families_after (step.WriteTmp actor recipe name cells bytes) s few a h f = grown (step.WriteTmp actor recipe name cells bytes) s few a h f
families_after (step.Place actor (moves.StagedBulk folder name) base cells) s few a h f = grown (step.Place actor (moves.StagedBulk folder name) base cells) s few a h f
families_after (step.CommitList actor region number name why.Capture list cells more) s few a h f = record {
  listed = commit_fits why.Capture actor.0 region list s f (λ i e m. list_fits why.Capture actor.0 region list cells more s a.allowed f i e m);
  completed = f.families.completed;
  captured = capture_fits s actor.0 region list f (λ e m. list_fits why.Capture actor.0 region list cells more s a.allowed f (inl a.allowed.is_open) e m);
  planned = plan_fits s actor.0 _ f (gain_fits why.Capture actor.0 region list cells more s a.allowed f);
  pinned = pins_fit s actor.0 _ f (stale_fit s actor.0 region f);
}
families_after (step.CommitList actor region number name reason list cells more) s few a h f = record {
  listed = commit_fits reason actor.0 region list s f (λ i e m. list_fits reason actor.0 region list cells more s a.allowed f i e m);
  completed = f.families.completed;
  captured = f.families.captured;
  planned = plan_fits s actor.0 _ f (gain_fits reason actor.0 region list cells more s a.allowed f);
  pinned = pins_fit s actor.0 _ f (stale_fit s actor.0 region f);
}
families_after (step.CommitRegions actor table number name set change) s few a h f = record {
  listed = λ r e i m. elim (region_was change s.plain.snapshots s.plain.tables r i) [
    | inl k ↦ f.families.listed r e k m
    | inr k ↦ let w = h.built.at actor.0 k.0 e (added-planned _ change table actor.0 s k.0 a.is_change k.1) (subst (λ q. Member e (s.lists q).entries) (sym k.2) m) in f.families.planned actor.0 ((key_of k.0).region, e) w.1
  ];
  completed = f.families.completed;
  captured = f.families.captured;
  planned = plan_fits s actor.0 no_plan f (λ x m. absurd m);
  pinned = f.families.pinned;
}
families_after (step.Start who job (started.Live actor) drawn) s few a h f = record {
  listed = λ r e i m. f.families.listed r e i (vacant-member drawn.regions s.lists r e m);
  completed = f.families.completed;
  captured = f.families.captured;
  planned = plan_fits s actor.0 drawn.plan f (λ y k. plan-each (FitsIn s) (fits_over s.made) s job _ y h.own_regions f.families.completed f.families.listed (subst (λ (v : Plan). Member y v.entries) a.answered.1.plan k));
  pinned = f.families.pinned;
}
families_after (step.Capture actor region) s few a h f = record {
  listed = f.families.listed;
  completed = f.families.completed;
  captured = capture_fits s actor.0 region (s.lists region) f (λ e m. f.families.listed region e (inl a.is_open) m);
  planned = f.families.planned;
  pinned = f.families.pinned;
}
families_after (step.Complete actor name copied) s few a h f = record {
  listed = f.families.listed;
  completed = λ n x e i m. get-put s.snapshots name copied n x i
      (λ d k. let w = copied-member (s.captures actor.0) a.table s.plain e (subst (λ y. Member e (snapshot_entries y)) (sym k ∙ a.copied) m) in f.families.captured actor.0 w.0 w.1 e w.2 w.3)
      (λ k. f.families.completed n x e k m);
  captured = f.families.captured;
  planned = f.families.planned;
  pinned = f.families.pinned;
}
families_after (step.Uncomplete actor name) s few a h f = record {
  listed = f.families.listed;
  completed = λ n x e i m. get-taken s.snapshots name n x i (λ d k. f.families.completed n x e k m);
  captured = f.families.captured;
  planned = f.families.planned;
  pinned = f.families.pinned;
}
families_after (step.Pin actor target (Ok region) major) s few a h f = record {
  listed = f.families.listed;
  completed = f.families.completed;
  captured = f.families.captured;
  planned = f.families.planned;
  pinned = pins_fit s actor.0 _ f (λ y x k i. elim k [
    | inl d ↦ f.families.listed region x (pins_region target region actor.0 s.plain h.own_regions a.answered) (subst (λ (v : Pinned). Member x v.entries) (sym d) i)
    | inr d ↦ f.families.pinned actor.0 y x d i
  ]);
}
families_after (step.Unpin actor) s few a h f = record {
  listed = f.families.listed;
  completed = f.families.completed;
  captured = f.families.captured;
  planned = f.families.planned;
  pinned = pins_fit s actor.0 [] f (λ y x k i. absurd k);
}
families_after (step.End actor refusal) s few a h f = record {
  listed = f.families.listed;
  completed = f.families.completed;
  captured = λ w q k e i m. ended_fits s actor.0 w q k e f i m;
  planned = plan_fits s actor.0 no_plan f (λ x m. absurd m);
  pinned = pins_fit s actor.0 [] f (λ y x k i. absurd k);
}
families_after (step.Abandon actor) s few a h f = record {
  listed = f.families.listed;
  completed = f.families.completed;
  captured = λ w q k e i m. ended_fits s actor.0 w q k e f i m;
  planned = plan_fits s actor.0 no_plan f (λ x m. absurd m);
  pinned = pins_fit s actor.0 [] f (λ y x k i. absurd k);
}
families_after _ s few a h f = f.families

pub families_kept : (p : Step) (s : Parts) → s.files ≤ 4_194_304 → Allows p s → IsSound s → IsFaithful s
    → HasFamilies (after p s).made (after p s).plain.tables (after p s).lists (after p s).snapshots (after p s).captures (after p s).plans (after p s).pins
families_kept p s few a h f = subst (λ t. HasFamilies (made_by p s.made) t (lists_by p s.lists) (snapshots_by p s.snapshots) (captures_by p s.lists s.captures) (plans_by p s.plans) (pins_by p s.lists s.pins)) (sym (tables_after p s)) (families_after p s few a h f)
