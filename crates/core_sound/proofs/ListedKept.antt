-- Each step keeps that the files of listed entries stand, of regions in sets and of those that are being built.
use Rattle.std.proofs.Common.{◌≡◌, ℕ, true, false, cond, List, [], ◌∷◌, Some, refl, sym, ap, ◌∙◌, subst, inl, inr}
use Rattle.std.specs.Prelude.{map}
use Rattle.hb_cell.specs.declared.cell.Cell.{Cell}
use Rattle.hb_layout.specs.declared.base.Base.{Base}
use Rattle.plain_model.specs.declared.region_key.RegionKey.{RegionKey}
use Rattle.plain_model.specs.Keys.{same_key}
use Rattle.core_model.specs.declared.entry.Entry.{Entry}
use Rattle.core_model.specs.declared.entry.Entry.TheVariants as entries
use Rattle.core_model.specs.declared.region_files.RegionFiles.{RegionFiles}
use Rattle.core_model.specs.declared.targets.Why.{Why}
use Rattle.core_model.specs.declared.targets.Why.TheVariants as why
use Rattle.core_model.specs.declared.step.Started.TheVariants as started
use Rattle.core_model.specs.declared.step.Step.{Step}
use Rattle.core_model.specs.declared.step.Step.TheVariants as step
use Rattle.core_model.specs.ActorChanges.{plans_by}
use Rattle.core_model.specs.Actors.{Counts, IsRegion, Plans}
use Rattle.core_model.specs.Allows.{Allows}
use Rattle.core_model.specs.Disk.{disk_after, live_of}
use Rattle.core_model.specs.Entries.{file_of, is_own, no_list, IsKey}
use Rattle.core_model.specs.FileChanges.{lists_by}
use Rattle.core_model.specs.FileFacts.{Stands, ListedStand}
use Rattle.cell_sight.specs.Member.{Member}
use Rattle.core_model.specs.Keys.{home}
use Rattle.core_model.specs.ListGuards.{AllowsList, Flushes, IsFlushed, IsOutput, HasFile}
use Rattle.core_model.specs.Ops.{op_of}
use Rattle.core_model.specs.Replay.{after}
use Rattle.core_model.specs.Sound.{IsSound}
use Rattle.core_model.specs.State.{Parts}
use Rattle.core_model.specs.TableChanges.{tables_by}
use Rattle.core_sound.proofs.BuiltKept.{counts_before}
use Rattle.core_sound.proofs.Lists.{member-append}
use Rattle.core_sound.proofs.LawfulKept.{NotTaken}
use Rattle.core_sound.proofs.NeverAgain.{tables_after}
use Rattle.core_sound.proofs.PlacesKept.{key_of_file}
use Rattle.core_sound.proofs.Sources.{map-member, zip-member, each-member, merged-member}
use Rattle.core_sound.proofs.StandKept.{stand_after, archived_own, own_file}
use Rattle.core_sound.proofs.Tests.{same_key-true}
use Rattle.core_sound.proofs.Vacant.{each-new, vacant-member}

-- ---- an entry that was listed

listed_free : (p : Step) (s : Parts) → Allows p s → IsSound s → (r : RegionKey) (e : Entry) → Counts s.plain.tables s.plans r → Member e (s.lists r).entries → NotTaken p (file_of r e)
listed_free (step.Archive actor base) s g h r e (inl i) m = λ d.
    let k = archived_own (live_of s.disk) r e base (h.listed.at r e (inl i) m) g.names d in
    g.free.unlisted (record { region = r; listed = i; entry = subst (λ x. Member x (s.lists r).entries) k m })
listed_free (step.Archive actor base) s g h r e (inr i) m = λ d.
    let k = archived_own (live_of s.disk) r e base (h.listed.at r e (inr i) m) g.names d in
    let n = h.built.at i.actor i.info e i.region (subst (λ (q : RegionKey). Member e (s.lists q).entries) (sym i.key) m) in
    let z : true ≡ false = sym (ap is_own k) ∙ n.0 in absurd (cc)
listed_free (step.Unlink actor entry region) s g h r e (inl i) m = λ d.
    let k : r ≡ region = key_of_file r region e entry d in
    g.unlisted (subst (IsRegion s.plain.tables) k i) e (subst (λ (q : RegionKey). Member e (s.lists q).entries) k m) (ap (λ (q : RegionKey). file_of q e) (sym k) ∙ d)
listed_free (step.Unlink actor entry region) s g h r e (inr i) m = λ d.
    let k : r ≡ region = key_of_file r region e entry d in
    let n = h.built.at i.actor i.info e i.region (subst (λ (q : RegionKey). Member e (s.lists q).entries) (sym i.key) m) in
    g.unplanned i.actor e (subst (λ (q : RegionKey). Plans s.plans i.actor q e) (i.key ∙ k) n.1) (ap (λ (q : RegionKey). file_of q e) (sym k) ∙ d)
listed_free _ s g h r e c m = tt

listed_stays : (p : Step) (s : Parts) → Allows p s → IsSound s → (r : RegionKey) (e : Entry) → Counts s.plain.tables s.plans r → Member e (s.lists r).entries → Stands (live_of (disk_after (op_of p) s.disk)) r e
listed_stays p s a h r e c m = stand_after p s a r e (h.listed.at r e c m) (listed_free p s a h r e c m)

-- ---- an entry that is new

-- a file that waits stands
waits_stand : (s : Parts) (a : ℕ) (r : RegionKey) (b : Base) → home b ≡ r → s.waiting b ≡ Some a → IsSound s → Stands (live_of s.disk) r (entries.Own b)
waits_stand s a r b k w h = let v = h.waiting.at b a w in record {
  file = v.0;
  at = ap (live_of s.disk) (own_file r b k) ∙ v.1;
  key = subst (λ (q : RegionKey). IsKey q) k (record { table = v.2.names.table; region = v.2.names.region });
  names = (v.2, k);
}

own_stands : (s : Parts) (r : RegionKey) (bs : List Base) (e : Entry) → ((b : Base) → Member b bs → Stands (live_of s.disk) r (entries.Own b)) → Member e (map entries.Own bs) → Stands (live_of s.disk) r e
own_stands s r bs e f m = let w = map-member entries.Own e bs m in subst (Stands (live_of s.disk) r) w.2 (f w.0 w.1)

flush_stands : (a : ℕ) (r : RegionKey) (l : RegionFiles) (cells : List Cell) (more : List (List ℕ × Entry)) (s : Parts) → Flushes a r l cells more s → IsSound s → (e : Entry) → Member e l.entries → Stands (live_of s.disk) r e
flush_stands a r l cells more s g h e m = elim (member-append e (s.lists r).entries (map entries.Own g.added) (subst (Member e) g.entries m)) [
  | inl k ↦ h.listed.at r e (inl g.region) k
  | inr k ↦ own_stands s r g.added e (λ b n. let w = zip-member (IsFlushed a r s) _ g.added b g.files n in waits_stand s a r b w.1.waits.region w.1.waits.waiting h) k
]

output_stands : (a : ℕ) (r : RegionKey) (family : List ℕ) (cells : List Cell) (s : Parts) (bs : List Base) → IsOutput bs a r family cells s → IsSound s → (b : Base) → Member b bs → Stands (live_of s.disk) r (entries.Own b)
output_stands a r family cells s [] o h b m = absurd m
output_stands a r family cells s (c ∷ []) o h b (inl e) = subst (λ x. Stands (live_of s.disk) r (entries.Own x)) e (waits_stand s a r c o.1.region o.1.waiting h)
output_stands a r family cells s (c ∷ []) o h b (inr m) = absurd m
output_stands a r family cells s (c ∷ d ∷ bs) o h b m = absurd o

list_stands : (reason : Why) (a : ℕ) (r : RegionKey) (l : RegionFiles) (cells : List Cell) (more : List (List ℕ × Entry)) (s : Parts) → AllowsList reason a r l cells more s → IsSound s
    → (e : Entry) → Member e l.entries → Stands (live_of s.disk) r e
list_stands why.Flush a r l cells more s g h e m = flush_stands a r l cells more s g.1 h e m
list_stands why.Capture a r l cells more s g h e m = flush_stands a r l cells more s g.flushes h e m
list_stands (why.Compact major) a r l cells more s g h e m = elim (merged-member g.merges e (s.lists r).entries (subst (Member e) g.entries m)) [
  | inl k ↦ h.listed.at r e (inl g.region) k
  | inr k ↦ own_stands s r k.0.output e (output_stands a r k.0.family _ s k.0.output (each-member _ g.merges k.0 g.each k.1).output h) k.2
]
list_stands why.Bulk a r l cells more s g h e m = elim (member-append e (s.lists r).entries (map entries.Own g.added) (subst (Member e) g.entries m)) [
  | inl k ↦ h.listed.at r e (inl (inl g.is_open)) k
  | inr k ↦ own_stands s r g.added e (λ b n. let w = zip-member _ _ g.added b g.files n in waits_stand s a r b (w.1.0.region ∙ g.is_open.key) w.1.1 h) k
]
list_stands why.Build a r l cells more s g h e m = let f = each-member (HasFile r s) l.entries e g.files m in record {
  file = f.file;
  at = f.stands;
  key = g.names;
  names = f.names;
}

-- ---- all steps

listed_by : (p : Step) (s : Parts) → Allows p s → IsSound s → (r : RegionKey) (e : Entry) → Counts (tables_by p s.plain.snapshots s.plain.tables) (plans_by p s.plans) r → Member e (lists_by p s.lists r).entries
    → Stands (live_of (disk_after (op_of p) s.disk)) r e
listed_by (step.Start who job (started.Live actor) drawn) s a h r e c m = elim (counts_before (step.Start who job (started.Live actor) drawn) s a r c) [
  | inl k ↦ h.listed.at r e k (vacant-member drawn.regions s.lists r e m)
  | inr k ↦ absurd (subst (λ (l : RegionFiles). Member e l.entries) (ap (lists_by (step.Start who job (started.Live actor) drawn) s.lists) (sym k.2) ∙ each-new no_list drawn.regions s.lists k.0 k.1) m)
]
listed_by (step.CommitList actor region number name reason list cells more) s a h r e c m = (elim (same_key r region) as (λ b. same_key r region ≡ b → Member e (cond b list (s.lists r)).entries → Stands (live_of s.disk) r e) [
  | true ↦ λ d k. subst (λ (q : RegionKey). Stands (live_of s.disk) q e) (sym (same_key-true r region d)) (list_stands reason actor.0 region list cells more s a.allowed h e k)
  | false ↦ λ d k. elim (counts_before (step.CommitList actor region number name reason list cells more) s a r c) [ inl j ↦ h.listed.at r e j k | inr j ↦ absurd (j.1) ]
]) refl m
listed_by p s a h r e c m = elim (counts_before p s a r c) [ inl k ↦ listed_stays p s a h r e k m | inr k ↦ absurd (k.1) ]

pub listed_kept : (p : Step) (s : Parts) → Allows p s → IsSound s → ListedStand (after p s).plain.tables (after p s).plans (after p s).lists (live_of (after p s).disk)
listed_kept p s a h = record { at = λ r e c m. listed_by p s a h r e (subst (λ t. Counts t (plans_by p s.plans) r) (tables_after p s) c) m }
