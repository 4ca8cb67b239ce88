-- Each step keeps that the files of listed halves say their rows and sides.
use Rattle.std.proofs.Common.{◌≡◌, ℕ, true, false, cond, List, ◌++◌, Some, None, refl, sym, ap, ◌∙◌, subst, inl, inr}
use Rattle.std.specs.Prelude.{map}
use Rattle.cell_sight.specs.Member.{Member}
use Rattle.hb_cell.specs.declared.cell.Cell.{Cell}
use Rattle.hb_layout.specs.declared.base.Base.{Base}
use Rattle.hb_records.specs.declared.region_info.RegionInfo.{RegionInfo}
use Rattle.ns_tree.specs.declared.file.FileState.{FileState}
use Rattle.plain_model.specs.declared.region_key.RegionKey.{RegionKey}
use Rattle.plain_model.specs.Keys.{key_of, same_key}
use Rattle.core_model.specs.declared.entry.Entry.{Entry}
use Rattle.core_model.specs.declared.entry.Entry.TheVariants as entries
use Rattle.core_model.specs.declared.region_files.RegionFiles.{RegionFiles}
use Rattle.core_model.specs.declared.step.Started.TheVariants as started
use Rattle.core_model.specs.declared.step.Step.{Step}
use Rattle.core_model.specs.declared.step.Step.TheVariants as step
use Rattle.core_model.specs.declared.targets.Why.{Why}
use Rattle.core_model.specs.declared.targets.Why.TheVariants as why
use Rattle.core_model.specs.Actors.{Counts, IsRegion}
use Rattle.core_model.specs.Allows.{Allows}
use Rattle.core_model.specs.Disk.{disk_after, live_of}
use Rattle.core_model.specs.Entries.{file_of, is_half}
use Rattle.core_model.specs.FileChanges.{lists_by}
use Rattle.core_model.specs.ListGuards.{AllowsList}
use Rattle.core_model.specs.Ops.{op_of}
use Rattle.core_model.specs.Sound.{IsSound}
use Rattle.core_model.specs.State.{Parts}
use Rattle.core_model.specs.TableChanges.{tables_by}
use Rattle.core_sound.proofs.Lists.{member-append}
use Rattle.core_sound.proofs.NeverAgain.{added-planned}
use Rattle.core_sound.proofs.RegionFacts.{region_was}
use Rattle.core_sound.proofs.Sources.{map-member, merged-member}
use Rattle.core_sound.proofs.Tests.{same_key-true}
use Rattle.core_sound.proofs.Vacant.{vacant-member}
use Rattle.core_bytes.specs.FileOf.{IsPointer}
use Rattle.core_bytes.proofs.WrittenNames.{link_no_half}
use Rattle.core_contents.specs.Faithful.{IsFaithful}
use Rattle.core_points.specs.Points.{IsPointed}
use Rattle.core_points.proofs.LiveFiles.{MakesAt, live_was}
use Rattle.core_points.proofs.PlannedSides.{planned_side}
use Rattle.core_points.proofs.Pointers.{own_no_half, pointer_as}

-- ---- a half that is listed after a step was listed

none_own : {X : Type 0} (e : Entry) (bs : List Base) → is_half e ≡ true → Member e (map entries.Own bs) → X
none_own e bs h m = let w = map-member entries.Own e bs m in let z : false ≡ true = ap is_half w.2 ∙ h in absurd (cc)

half_of_two : (e : Entry) (es : List Entry) (bs : List Base) (new : List Entry) → new ≡ es ++ map entries.Own bs → is_half e ≡ true → Member e new → Member e es
half_of_two e es bs new k h m = elim (member-append e es (map entries.Own bs) (subst (Member e) k m)) [ inl n ↦ n | inr n ↦ none_own e bs h n ]

half_was : (reason : Why) (a : ℕ) (r : RegionKey) (l : RegionFiles) (cells : List Cell) (more : List (List ℕ × Entry)) (s : Parts) → AllowsList reason a r l cells more s → IsRegion s.plain.tables r → (e : Entry) → is_half e ≡ true → Member e l.entries → Member e (s.lists r).entries
half_was why.Flush a r l cells more s g i e h m = half_of_two e (s.lists r).entries g.1.added l.entries g.1.entries h m
half_was why.Capture a r l cells more s g i e h m = half_of_two e (s.lists r).entries g.flushes.added l.entries g.flushes.entries h m
half_was (why.Compact major) a r l cells more s g i e h m = elim (merged-member g.merges e (s.lists r).entries (subst (Member e) g.entries m)) [ inl n ↦ n | inr n ↦ none_own e n.0.output h n.2 ]
half_was why.Bulk a r l cells more s g i e h m = half_of_two e (s.lists r).entries g.added l.entries g.entries h m
half_was why.Build a r l cells more s g i e h m = absurd (g.out i)

pub listed_was : (p : Step) (s : Parts) → Allows p s → (r : RegionKey) (e : Entry) → is_half e ≡ true → IsRegion (tables_by p s.plain.snapshots s.plain.tables) r → Member e (lists_by p s.lists r).entries → Counts s.plain.tables s.plans r × Member e (s.lists r).entries
listed_was (step.CommitList actor region number name reason list cells more) s a r e h i m = (
  inl i,
  (elim (same_key r region) as (λ b. same_key r region ≡ b → Member e (cond b list (s.lists r)).entries → Member e (s.lists r).entries) [
    | true ↦ λ d n. let k = same_key-true r region d in subst (λ (q : RegionKey). Member e (s.lists q).entries) (sym k) (half_was reason actor.0 region list cells more s a.allowed (subst (IsRegion s.plain.tables) k i) e h n)
    | false ↦ λ d n. n
  ]) refl m,
)
listed_was (step.CommitRegions actor table number name set change) s a r e h i m = elim (region_was change s.plain.snapshots s.plain.tables r i) [
  | inl k ↦ (inl k, m)
  | inr k ↦ (inr (record { actor = actor.0; info = k.0; region = added-planned _ change table actor.0 s k.0 a.is_change k.1; key = k.2 }), m)
]
listed_was (step.Start who job (started.Live actor) drawn) s a r e h i m = (inl i, vacant-member drawn.regions s.lists r e m)
listed_was _ s a r e h i m = (inl i, m)

-- ---- before a step

built_points : (s : Parts) → IsSound s → IsFaithful s → IsPointed s → (a : ℕ) (i : RegionInfo) (e : Entry) (f : FileState) → Member i (s.plans a).regions → Member e (s.lists (key_of i)).entries → live_of s.disk (file_of (key_of i) e) ≡ Some f
    → IsPointer e f.bytes
built_points s h g k a i e f m n j =
    let w = k.built.at a i (file_of (key_of i) e) f m refl j in
    let p = (h.built.at a i e m n).1 in
    pointer_as (key_of i) w.entry e f.bytes w.names (h.listed.at (key_of i) e (inr (record { actor = a; info = i; region = m; key = refl })) n).names w.file (planned_side s h g k.sides a i m w.entry e w.planned p) w.points

pub listed_points : (s : Parts) → IsSound s → IsFaithful s → IsPointed s → (r : RegionKey) (e : Entry) (f : FileState) → Counts s.plain.tables s.plans r → Member e (s.lists r).entries → live_of s.disk (file_of r e) ≡ Some f → IsPointer e f.bytes
listed_points s h g k r e f (inl i) m j = k.listed.at r e f i m j
listed_points s h g k r e f (inr i) m j = built_points s h g k i.actor i.info e f i.region (subst (λ (q : RegionKey). Member e (s.lists q).entries) (sym i.key) m) (ap (λ (q : RegionKey). live_of s.disk (file_of q e)) i.key ∙ j)

-- ---- all steps

-- no step makes the file of a listed half
none_made : {X : Type 0} (p : Step) (s : Parts) → Allows p s → IsSound s → (r : RegionKey) (e : Entry) (bytes : List ℕ) → is_half e ≡ true → Counts s.plain.tables s.plans r → Member e (s.lists r).entries → MakesAt p (file_of r e) bytes → X
none_made (step.Place actor from base cells) s a h r e bytes u c m k = own_no_half r base base e a.names refl u k
none_made (step.Link actor base region) s a h r e bytes u c m k = link_no_half region r base e a.names (h.listed.at r e c m).names u (sym k)
none_made (step.Half actor entry region written) s a h r e bytes u c m k =
    let w = h.listed.at r e c m in
    let z : Some w.file ≡ None = sym w.at ∙ ap (live_of s.disk) k.0 ∙ a.refer.new in absurd (cc)
none_made _ s a h r e bytes u c m k = absurd k

points_after : (p : Step) (s : Parts) → Allows p s → IsSound s → IsFaithful s → IsPointed s → (r : RegionKey) (e : Entry) (f : FileState) → is_half e ≡ true → IsRegion (tables_by p s.plain.snapshots s.plain.tables) r → Member e (lists_by p s.lists r).entries
    → live_of (disk_after (op_of p) s.disk) (file_of r e) ≡ Some f → IsPointer e f.bytes
points_after p s a h g k r e f u i m j =
    let w = listed_was p s a r e u i m in
    live_was (IsPointer e) p s (file_of r e) f j (λ x y. listed_points s h g k r e x w.0 w.1 y) (λ z. none_made p s a h r e f.bytes u w.0 w.1 z)

any_entry : (e : Entry) (bytes : List ℕ) → (is_half e ≡ true → IsPointer e bytes) → IsPointer e bytes
any_entry (entries.Own b) bytes k = tt
any_entry (entries.Link b) bytes k = tt
any_entry (entries.Half b l p w t) bytes k = k refl

pub points_listed : (p : Step) (s : Parts) → Allows p s → IsSound s → IsFaithful s → IsPointed s → (r : RegionKey) (e : Entry) (f : FileState) → IsRegion (tables_by p s.plain.snapshots s.plain.tables) r → Member e (lists_by p s.lists r).entries
    → live_of (disk_after (op_of p) s.disk) (file_of r e) ≡ Some f → IsPointer e f.bytes
points_listed p s a h g k r e f i m j = any_entry e f.bytes (λ u. points_after p s a h g k r e f u i m j)
