-- No base that is deleted is named.
use Rattle.std.proofs.Common.{◌≡◌, ℕ, true, false, List, Option, Some, None, refl, sym, ap, ◌∙◌, subst, inl, inr}
use Rattle.std.specs.FinMap.{get}
use Rattle.hb_layout.specs.declared.base.Base.{Base}
use Rattle.ns_tree.specs.declared.file.FileState.{FileState}
use Rattle.plain_model.specs.declared.job.Job.{Job}
use Rattle.plain_model.specs.declared.job.Job.TheVariants as jobs
use Rattle.plain_model.specs.declared.region_key.RegionKey.{RegionKey}
use Rattle.core_model.specs.declared.entry.Entry.{Entry}
use Rattle.core_model.specs.declared.entry.Entry.TheVariants.{Own, Link, Half}
use Rattle.core_model.specs.declared.snapshot.Snapshot.{Snapshot}
use Rattle.core_model.specs.ActorFacts.{ComesFrom}
use Rattle.core_model.specs.Disk.{live_of, archived_of, backs_of, Bases, Backs}
use Rattle.core_model.specs.Entries.{base_of, file_of}
use Rattle.core_model.specs.FileFacts.{HasOnePlace, HasBackRefs, Stands}
use Rattle.cell_sight.specs.Member.{Member}
use Rattle.core_model.specs.Keys.{home}
use Rattle.core_model.specs.Named.{IsNamed, listed, in_snapshot, captured, planned, pinned, linked}
use Rattle.core_model.specs.PassChanges.{snapshot_entries}
use Rattle.core_model.specs.PassGuards.{CanDeleteArchived}
use Rattle.core_model.specs.Sound.{IsSound}
use Rattle.core_model.specs.State.{Parts}

clash : {P : Type 0} → true ≡ false → P
clash e = absurd (cc)

gone : {A P : Type 0} {x : A} → None ≡ Some x → P
gone e = absurd (cc)

-- an own entry's file is its base's
own_file : (r : RegionKey) (b : Base) → home b ≡ r → file_of r (Own b) ≡ b
own_file r b e = ap (λ (q : RegionKey). file_of q (Own b)) (sym e)

-- an entry whose file stands in its region is not of a base that is archived and has no back reference
not_stands : (live archived : Bases) (backs : Backs) (b : Base) (f : FileState) → HasOnePlace live archived → HasBackRefs live backs → archived b ≡ Some f → ((r : RegionKey) → backs b r ≡ None)
    → (r : RegionKey) (e : Entry) → Stands live r e → base_of e ≡ b → ⊥
not_stands live archived backs b f one h k n r (Own c) s e = one.at b s.file f (sym (ap live (own_file r c s.names.1 ∙ e)) ∙ s.at) k
not_stands live archived backs b f one h k n r (Link c) s e = let g = h.at r (Link c) s.file s.key s.names refl s.at in gone (sym (n r) ∙ ap (λ (x : Base). backs x r) (sym e) ∙ g.1)
not_stands live archived backs b f one h k n r (Half c l p w t) s e = let g = h.at r (Half c l p w t) s.file s.key s.names refl s.at in gone (sym (n r) ∙ ap (λ (x : Base). backs x r) (sym e) ∙ g.1)

-- nor is it of a snapshot that a pass knows, once all are read
not_copied : (s : Parts) (a : ℕ) (b : Base) (g : CanDeleteArchived a b s) → IsSound s → (name : List ℕ) (x : Snapshot) (e : Entry) → get s.snapshots name ≡ Some x → Member e (snapshot_entries x) → base_of e ≡ b → ⊥
not_copied s a b g h name x e i m k = elim (h.pass.completed g.pass.is name x e g.pass.stands i m) [
  | inl u ↦ subst (Member name) g.all_read u
  | inr v ↦ elim v [
    | inl r ↦ clash (sym r ∙ ap g.pass.is.read k ∙ g.unread)
    | inr t ↦ clash (sym t ∙ ap g.pass.is.touched k ∙ g.untouched)
  ]
]

not_planned : (s : Parts) (a : ℕ) (b : Base) (g : CanDeleteArchived a b s) → IsSound s → (by : ℕ) (job : Option Job) (c : Base) → ComesFrom job by c s.plain.live s.plain.tables s.snapshots s.lists → c ≡ b → ⊥
not_planned s a b g h by (Some (jobs.Clone name t)) c z k = not_copied s a b g h name z.1.0 z.1.2.entry z.1.1 z.1.2.listed (z.1.2.reads ∙ k)
not_planned s a b g h by (Some (jobs.Restore name)) c z k = not_copied s a b g h name z.1.0 z.1.2.entry z.1.1 z.1.2.listed (z.1.2.reads ∙ k)
not_planned s a b g h by (Some (jobs.Split t row)) c z k =
    not_stands (live_of s.disk) (archived_of s.disk) (backs_of s.disk) b g.file h.one_place h.back_refs g.archived g.no_back z.0 z.3.entry (h.listed.at z.0 z.3.entry (inl z.2) z.3.listed) (z.3.reads ∙ k)
not_planned s a b g h by _ c z k = absurd z

pub deleted_unnamed : (s : Parts) (a : ℕ) (b : Base) → CanDeleteArchived a b s → IsSound s → IsNamed s b → ⊥
deleted_unnamed s a b g h (listed r e i m k) = not_stands (live_of s.disk) (archived_of s.disk) (backs_of s.disk) b g.file h.one_place h.back_refs g.archived g.no_back r e (h.listed.at r e (inl i) m) k
deleted_unnamed s a b g h (in_snapshot name x e i m k) = not_copied s a b g h name x e i m k
deleted_unnamed s a b g h (captured w r l e i m k) = clash (sym (h.pass.captured g.pass.is w r l e g.pass.stands i m) ∙ ap g.pass.is.touched k ∙ g.untouched)
deleted_unnamed s a b g h (planned w x m k) = not_planned s a b g h w _ (base_of x.1) (h.sources.at w x m) k
deleted_unnamed s a b g h (pinned w e i k) = not_stands (live_of s.disk) (archived_of s.disk) (backs_of s.disk) b g.file h.one_place h.back_refs g.archived g.no_back i.pin.region e (h.pinned.at w i.pin e i.stands i.entry) k
deleted_unnamed s a b g h (linked r e f q v o i k) = let d = h.back_refs.at r e f q v o i in gone (sym (g.no_back r) ∙ ap (λ (x : Base). backs_of s.disk x r) (sym k) ∙ d.1)
