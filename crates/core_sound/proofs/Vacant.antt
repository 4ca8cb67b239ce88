-- A region whose name is drawn is new: it is in no set, nothing is known of it, and it has no list.
use Rattle.std.proofs.Common.{◌≡◌, ℕ, ◌+◌, ◌&&◌, Bool, true, false, not, cond, List, [], ◌∷◌, Option, Some, None, refl, sym, ap, ◌∙◌, subst, inl, inr}
use Rattle.std.specs.Prelude.{unwrap_or, option_map, nat_lt}
use Rattle.std.specs.FinMap.{get}
use Rattle.hb_records.specs.declared.region_info.RegionInfo.{RegionInfo}
use Rattle.plain_model.specs.declared.job.Job.{Job}
use Rattle.plain_model.specs.declared.job.Job.TheVariants as jobs
use Rattle.plain_model.specs.declared.reply.Reply.{Reply}
use Rattle.plain_model.specs.declared.reply.Reply.TheVariants as replies
use Rattle.plain_model.specs.declared.region_key.RegionKey.{RegionKey}
use Rattle.plain_model.specs.declared.who.Actor.{Actor}
use Rattle.plain_model.specs.Names.{Names}
use Rattle.plain_model.specs.CellEvents.{each_with}
use Rattle.plain_model.specs.Found.{is_table, is_enabled, is_snapshot, region_count, region_with}
use Rattle.plain_model.specs.Keys.{key_of, same_key, set_each}
use Rattle.plain_model.specs.Plain.{Plain}
use Rattle.plain_model.specs.declared.parts.PlainSnapshot.{PlainSnapshot}
use Rattle.plain_model.specs.Replies.{Files, reply_with, refusals, first, when, repeated, are_splits, is_start_of, own_table}
use Rattle.core_model.specs.declared.entry.Entry.{Entry}
use Rattle.core_model.specs.declared.region_files.RegionFiles.{RegionFiles}
use Rattle.core_model.specs.declared.snapshot.Snapshot.{Snapshot}
use Rattle.core_model.specs.declared.step.Drawn.{Drawn}
use Rattle.core_model.specs.declared.step.Started.TheVariants as started
use Rattle.core_model.specs.Actors.{IsRegion}
use Rattle.core_model.specs.Entries.{no_list}
use Rattle.cell_sight.specs.Member.{Member}
use Rattle.core_model.specs.Plans.{new_regions}
use Rattle.core_model.specs.StartGuards.{CanStart, IsTaken, by_set}
use Rattle.core_model.specs.State.{Parts}
use Rattle.core_sound.proofs.Tests.{same_key-true, same_bytes-self}

-- ---- a value for each of some regions

pub each-cases : {A : Type 0} (P : A → Type 0) (v : A) (is : List RegionInfo) (f : RegionKey → A) (r : RegionKey) → ((i : RegionInfo) → Member i is → key_of i ≡ r → P v) → P (f r) → P (set_each (each_with v is) f r)
each-cases P v [] f r g h = h
each-cases P v (i ∷ is) f r g h = elim (same_key r (key_of i)) as (λ b. same_key r (key_of i) ≡ b → P (cond b v (set_each (each_with v is) f r))) [
  | true ↦ λ d. g i (inl refl) (sym (same_key-true r (key_of i) d))
  | false ↦ λ d. each-cases P v is f r (λ j m. g j (inr m)) h
] refl

pub same_key-self : (r : RegionKey) → same_key r r ≡ true
same_key-self r = (λ i. (same_bytes-self r.table i) && (same_bytes-self r.region i))

pub each-new : {A : Type 0} (v : A) (is : List RegionInfo) (f : RegionKey → A) (i : RegionInfo) → Member i is → set_each (each_with v is) f (key_of i) ≡ v
each-new v [] f i m = absurd m
each-new v (j ∷ is) f i (inl e) = ap (λ b. cond b v (set_each (each_with v is) f (key_of i))) (ap (λ (x : RegionInfo). same_key (key_of i) (key_of x)) e ∙ same_key-self (key_of i))
each-new v (j ∷ is) f i (inr m) = elim (same_key (key_of i) (key_of j)) as (λ b. cond b v (set_each (each_with v is) f (key_of i)) ≡ v) [ true ↦ refl | false ↦ each-new v is f i m ]

-- what a vacant list has, the list had
pub vacant-member : (is : List RegionInfo) (lists : RegionKey → RegionFiles) (r : RegionKey) (e : Entry) → Member e (set_each (each_with no_list is) lists r).entries → Member e (lists r).entries
vacant-member is lists r e = each-cases (λ (l : RegionFiles). Member e l.entries → Member e (lists r).entries) no_list is lists r (λ i m k n. absurd n) (λ n. n)

-- ---- a start that is not refused

-- none of some refusals is Fine
abbrev pub Refuse : List (Option Reply) → Type 0
Refuse [] = Unit {0}
Refuse (o ∷ rs) = (o ≡ Some replies.Fine → ⊥) × Refuse rs

pub none-holds : (rs : List (Option Reply)) → Refuse rs → unwrap_or (first rs) replies.Fine ≡ replies.Fine → (o : Option Reply) → Member o rs → o ≡ None
none-holds [] n e o m = absurd m
none-holds (None ∷ rs) n e o (inl d) = sym d
none-holds (None ∷ rs) n e o (inr m) = none-holds rs n.1 e o m
none-holds (Some x ∷ rs) n e o m = absurd (n.0 (ap Some e))

some_fine : (x : Reply) → Some x ≡ Some replies.Fine → x ≡ replies.Fine
some_fine x e = (cc)

pub not_when : (b : Bool) (x : Reply) → (x ≡ replies.Fine → ⊥) → when b x ≡ Some replies.Fine → ⊥
not_when true x n e = n (some_fine x e)
not_when false x n e = absurd (cc)

when_none : (b : Bool) (x : Reply) → when b x ≡ None → b ≡ false
when_none true x e = absurd (cc)
when_none false x e = refl

not_repeated : (o : Option (List ℕ)) → option_map replies.DuplicateFamily o ≡ Some replies.Fine → ⊥
not_repeated None e = absurd (cc)
not_repeated (Some x) e = absurd (cc)

not_own : (s : Plain) (o : Option PlainSnapshot) → first (own_table s o) ≡ Some replies.Fine → ⊥
not_own s None e = absurd (cc)
not_own s (Some x) e = two (not (is_table s x.schema.table)) (is_enabled s x.schema.table) e
  where
    two : (a b : Bool) → first (when a replies.TableNotFound ∷ when b replies.TableNotDisabled ∷ []) ≡ Some replies.Fine → ⊥
    two true b e = absurd (cc)
    two false true e = absurd (cc)
    two false false e = absurd (cc)

pub holds_not : (b : Bool) (x : Reply) (rs : List (Option Reply)) → Refuse rs → unwrap_or (first rs) replies.Fine ≡ replies.Fine → Member (when b x) rs → b ≡ false
holds_not b x rs n e m = when_none b x (none-holds rs n e (when b x) m)

-- no refusal of these jobs is Fine
pub create_refuse : (files : Files) (p : Plain) (t : List ℕ) (fs : List (List ℕ)) (n : ℕ) (ks : List (List ℕ)) → Refuse (refusals files p (jobs.Create t fs n ks))
create_refuse files p t fs n ks = (not_when (is_table p t) replies.TableExists (λ z. absurd (cc)), (not_repeated (repeated fs), (not_when (not (are_splits ks)) replies.BadSplitKey (λ z. absurd (cc)), (not_when files.name_taken replies.NameTaken (λ z. absurd (cc)), tt))))

pub split_refuse : (files : Files) (p : Plain) (t row : List ℕ) → Refuse (refusals files p (jobs.Split t row))
split_refuse files p t row = (not_when (not (is_table p t)) replies.TableNotFound (λ z. absurd (cc)), (not_when (not (is_enabled p t)) replies.TableNotEnabled (λ z. absurd (cc)), (not_when (is_start_of row (region_with p t row)) replies.BadSplitKey (λ z. absurd (cc)), (not_when files.has_references replies.HasReferences (λ z. absurd (cc)), (not_when (nat_lt 1000 (region_count p t + 2)) replies.TooManyRegions (λ z. absurd (cc)), (not_when files.name_taken replies.NameTaken (λ z. absurd (cc)), tt))))))

pub clone_refuse : (files : Files) (p : Plain) (name t : List ℕ) → Refuse (refusals files p (jobs.Clone name t))
clone_refuse files p name t = (not_when (not (is_snapshot p name)) replies.SnapshotNotFound (λ z. absurd (cc)), (not_when (is_table p t) replies.TableExists (λ z. absurd (cc)), (not_when files.name_taken replies.NameTaken (λ z. absurd (cc)), tt)))

pub restore_refuse : (files : Files) (p : Plain) (name : List ℕ) → Refuse (refusals files p (jobs.Restore name))
restore_refuse files p name = (not_when (not (is_snapshot p name)) replies.SnapshotNotFound (λ z. absurd (cc)), (not_own p (get p.snapshots name), (not_when files.name_taken replies.NameTaken (λ z. absurd (cc)), tt)))

-- no name was taken where a job that draws names is not refused
pub not_taken : (job : Job) (files : Files) (p : Plain) (id : ℕ) (snapshots : Names Snapshot) → reply_with files p job ≡ replies.Fine → (i : RegionInfo) → Member i (new_regions job id p snapshots) → files.name_taken ≡ false
not_taken (jobs.Create t fs n ks) files p id snapshots e i m = holds_not files.name_taken replies.NameTaken (refusals files p (jobs.Create t fs n ks)) (create_refuse files p t fs n ks) e (inr (inr (inr (inl refl))))
not_taken (jobs.Split t row) files p id snapshots e i m = holds_not files.name_taken replies.NameTaken (refusals files p (jobs.Split t row)) (split_refuse files p t row) e (inr (inr (inr (inr (inr (inl refl))))))
not_taken (jobs.Clone name t) files p id snapshots e i m = holds_not files.name_taken replies.NameTaken (refusals files p (jobs.Clone name t)) (clone_refuse files p name t) e (inr (inr (inl refl)))
not_taken (jobs.Restore name) files p id snapshots e i m = holds_not files.name_taken replies.NameTaken (refusals files p (jobs.Restore name)) (restore_refuse files p name) e (inr (inr (inl refl)))
not_taken _ files p id snapshots e i m = absurd m

-- the regions that a start draws are not taken
pub drawn_free : (job : Job) (actor : Actor) (drawn : Drawn) (s : Parts) → CanStart job (started.Live actor) drawn s → (i : RegionInfo) → Member i drawn.regions
    → (new : List RegionInfo) × Member i new × (IsTaken s.disk s.drawn s.plain new → ⊥)
drawn_free job actor drawn s a i m =
    let k = subst (Member i) a.answered.1.regions m in
    (_, k, λ t. let z : true ≡ false = sym (a.are_files.name_taken.1 t) ∙ not_taken job a.files s.plain _ s.snapshots a.answered.0 i k in absurd (cc))

pub drawn_out : (job : Job) (actor : Actor) (drawn : Drawn) (s : Parts) → CanStart job (started.Live actor) drawn s → (i : RegionInfo) → Member i drawn.regions → IsRegion s.plain.tables (key_of i) → ⊥
drawn_out job actor drawn s a i m r = let k = drawn_free job actor drawn s a i m in k.2 (by_set i k.1 r)
