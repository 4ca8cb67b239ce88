-- What the laws say of journals over an empty store, of snapshots and of commits.
use Rattle.std.proofs.Common.{◌≡◌, ◌≤◌, ℕ, ◌++◌, true, false, List, [], ◌∷◌, take, drop, Option, Some, None, refl, sym, ap, ◌∙◌, subst, inl, inr}
use Rattle.std.specs.Prelude.{map, unwrap_or}
use Rattle.std.specs.List.{AllZip, flat_map}
use Rattle.std.specs.FinMap.{get}
use Rattle.std.proofs.lemmas.List.{take-append-drop}
use Rattle.hb_cell.specs.declared.cell.Cell.{Cell}
use Rattle.hb_cell.specs.Order.{same_bytes}
use Rattle.cell_sight.specs.Member.{Member}
use Rattle.cell_sight.specs.Same.{Same}
use Rattle.cell_sight.specs.Visible.{visible}
use Rattle.plain_model.specs.declared.parts.PlainTable.{PlainTable}
use Rattle.plain_model.specs.declared.region_key.RegionKey.{RegionKey}
use Rattle.plain_model.specs.declared.who.Actor.{Actor}
use Rattle.plain_model.specs.CellEvents.{families_in, compacted}
use Rattle.plain_model.specs.Found.{families_of, families_of_table, open_in}
use Rattle.plain_model.specs.SnapshotEvents.{captured}
use Rattle.core_model.specs.declared.entry.Entry.{Entry}
use Rattle.core_model.specs.declared.entry.Entry.TheVariants.{Own}
use Rattle.core_model.specs.declared.journal.JournalEntry.{JournalEntry}
use Rattle.core_model.specs.declared.region_files.RegionFiles.{RegionFiles}
use Rattle.core_model.specs.declared.snapshot.CopiedRegion.{CopiedRegion}
use Rattle.core_model.specs.declared.snapshot.Snapshot.{Snapshot}
use Rattle.core_model.specs.declared.step.Step.{Step}
use Rattle.core_model.specs.declared.step.Step.TheVariants as step
use Rattle.core_model.specs.declared.targets.Why.TheVariants as why
use Rattle.core_model.specs.Actors.{IsRegion}
use Rattle.core_model.specs.Allows.{Allows}
use Rattle.core_model.specs.Entries.{cells_in}
use Rattle.core_model.specs.FileChanges.{snapshots_by}
use Rattle.core_model.specs.ListGuards.{Compacts, Loads}
use Rattle.core_model.specs.Named.{in_snapshot}
use Rattle.core_model.specs.Replay.{after}
use Rattle.core_model.specs.SnapshotGuards.{CanComplete}
use Rattle.core_model.specs.Sound.{IsSound}
use Rattle.core_model.specs.StartGuards.{is_major}
use Rattle.core_model.specs.State.{Parts}
use Rattle.cell_sight.proofs.Counts.{same-trans, same-sym, same-append, same-equal, same-rest}
use Rattle.core_sound.specs.Laws.{bare_opening}
use Rattle.core_sound.proofs.Bare.{bare_sound}
use Rattle.core_sound.proofs.Lists.{member-front, member-behind}
use Rattle.core_sound.proofs.TablesKept.{put_this, put_other, taken_other}
use Rattle.core_sound.proofs.Tests.{same_bytes-true}
use Rattle.core_contents.specs.ContentFacts.{IsCopy}
use Rattle.core_contents.specs.Faithful.{IsFaithful}
use Rattle.core_contents.specs.Laws.{HasCellsAfter, HasCaptured, Deletes, StaysAs, file_cells, IsQuietStep, LeavesVisible}
use Rattle.core_contents.proofs.Bare.{bare_faithful}
use Rattle.core_contents.proofs.ContentsKept.{contents_kept}
use Rattle.core_contents.proofs.CopiesKept.{zip_captured}
use Rattle.core_contents.proofs.Counts.{cells_in-append}
use Rattle.core_contents.proofs.Journals.{faithful_replay}
use Rattle.core_contents.proofs.MadeStays.{cells_stay}
use Rattle.core_contents.proofs.SeenFacts.{seen_laws}
use Rattle.core_contents.proofs.Tools.{set_here}

pub cells_after : (epoch ttl : ℕ) (es : List JournalEntry) (k : ℕ) (r : RegionKey) → HasCellsAfter epoch ttl es k r
cells_after epoch ttl es k r a = let f = faithful_replay (bare_opening epoch ttl) es (bare_sound epoch ttl) (bare_faithful epoch ttl) a k in
    (record { same = λ i. f.now.contents.at r i }, record { same = λ i. f.other.contents.at r i })

-- ---- snapshots

pub completed_reads : (actor : Actor) (name : List ℕ) (x : Snapshot) (s : Parts) (g : CanComplete actor.0 name x s) → IsFaithful s → HasCaptured actor.0 name x g.table s (after (step.Complete actor name x) s)
completed_reads actor name x s g f = record {
  complete = put_this s.snapshots name x;
  regions = subst (λ (v : Snapshot). AllZip (IsCopy s.made) v.regions (captured (s.plain.captures actor.0) (open_in s.plain g.table))) (sym g.copied) (zip_captured s.made (s.captures actor.0) (s.plain.captures actor.0) (open_in s.plain g.table) (λ r. f.copied.at actor.0 r));
}

region_entries : (rs : List CopiedRegion) (r : CopiedRegion) (e : Entry) → Member r rs → Member e r.entries → Member e (flat_map (λ (q : CopiedRegion). q.entries) rs)
region_entries [] r e m n = absurd m
region_entries (q ∷ qs) r e (inl d) n = member-front e q.entries _ (subst (λ (v : CopiedRegion). Member e v.entries) (sym d) n)
region_entries (q ∷ qs) r e (inr m) n = member-behind e q.entries _ (region_entries qs r e m n)

other_name : (name other : List ℕ) → (other ≡ name → ⊥) → same_bytes name other ≡ false
other_name name other n = (elim (same_bytes name other) as (λ b. same_bytes name other ≡ b → b ≡ false) [
  | true ↦ λ d. absurd (n (sym (same_bytes-true name other d)))
  | false ↦ λ d. refl
]) refl

still_there : (p : Step) (s : Parts) (name : List ℕ) (x : Snapshot) → Allows p s → get s.snapshots name ≡ Some x → (Deletes p name → ⊥) → get (snapshots_by p s.snapshots) name ≡ Some x
still_there (step.Complete actor snapshot copied) s name x a e n = put_other s.snapshots snapshot copied name (other_name name snapshot (λ d. let z : None ≡ Some x = sym a.missing ∙ ap (get s.snapshots) d ∙ e in absurd (cc))) ∙ e
still_there (step.Uncomplete actor snapshot) s name x a e n = taken_other s.snapshots snapshot name (other_name name snapshot n) ∙ e
still_there _ s name x a e n = e

pub stays_complete : (p : Step) (s : Parts) (name : List ℕ) (x : Snapshot) → s.files ≤ 4_194_304 → Allows p s → IsSound s → get s.snapshots name ≡ Some x → (Deletes p name → ⊥) → StaysAs name x s (after p s)
stays_complete p s name x few a h e n = record {
  complete = still_there p s name x a e n;
  cells = λ r m. cells_stay p s few a h r.entries (λ y k. in_snapshot name x y e (region_entries x.regions r y m k) refl);
}

-- ---- commits

pub joins : (actor : Actor) (r : RegionKey) (n : ℕ) (name : List ℕ) (l : RegionFiles) (cells : List Cell) (more : List (List ℕ × Entry)) (s : Parts) (g : Loads actor.0 r l cells more s)
    → Same (file_cells (after (step.CommitList actor r n name why.Bulk l cells more) s) r) (file_cells s r ++ cells_in s.made (map Own g.added))
joins actor r n name l cells more s g = same-equal (ap (λ (v : RegionFiles). cells_in s.made v.entries) (set_here r l s.lists) ∙ ap (cells_in s.made) g.entries ∙ cells_in-append s.made (s.lists r).entries (map Own g.added))

pub quiet : (p : Step) (s : Parts) (r : RegionKey) → IsQuietStep p → s.files ≤ 4_194_304 → Allows p s → IsSound s → IsFaithful s → IsRegion s.plain.tables r → Same (file_cells (after p s) r) (file_cells s r)
quiet (step.CommitList actor region number name (why.Compact false) list cells more) s r q few a h f i =
    same-trans ((contents_kept (step.CommitList actor region number name (why.Compact false) list cells more) s few a h f).at r i) (same-sym (f.contents.at r i))
quiet (step.Stamp actor base moment) s r q few a h f i = same-equal refl
quiet (step.Archive actor base) s r q few a h f i = same-equal refl
quiet (step.Unlink actor entry region) s r q few a h f i = same-equal refl
quiet (step.PassRead actor snapshot) s r q few a h f i = same-equal refl
quiet (step.CleanBackRef actor base region) s r q few a h f i = same-equal refl
quiet (step.DeleteArchived actor base) s r q few a h f i = same-equal refl
quiet _ s r q few a h f i = absurd q

same_families : (o : Option PlainTable) → families_in o ≡ families_of_table o
same_families None = refl
same_families (Some t) = refl

pub leaves_visible : (actor : Actor) (r : RegionKey) (n : ℕ) (name : List ℕ) (l : RegionFiles) (cells : List Cell) (more : List (List ℕ × Entry)) (s : Parts) → s.files ≤ 4_194_304
    → Allows (step.CommitList actor r n name (why.Compact true) l cells more) s → IsSound s → IsFaithful s → (g : Compacts actor.0 r true l cells more s)
    → LeavesVisible g.pinned.entries r s (after (step.CommitList actor r n name (why.Compact true) l cells more) s)
leaves_visible actor r n name l cells more s few a h f g =
    let w = (f.fronts.at actor.0 r g.pinned g.pin (g.fresh refl) (ap is_major g.job.1) g.held).1 in
    let k = unwrap_or (s.plain.noted actor.0 r) 0 in
    let xs = s.plain.stable r in
    let whole : Same (cells_in s.made g.pinned.entries ++ cells_in s.made w.later) (take k xs ++ drop k xs) =
    same-trans (same-equal (sym (ap (cells_in s.made) w.is ∙ cells_in-append s.made g.pinned.entries w.later))) (same-trans (f.contents.at r g.region) (same-equal (sym (take-append-drop k xs)))) in
    let seen = (seen_laws (families_of s.plain r.table)).same _ _ w.same in
    record {
      later = w.later;
      front = w.is;
      cells = same-trans ((contents_kept (step.CommitList actor r n name (why.Compact true) l cells more) s few a h f).at r g.region)
          (same-trans (same-equal (set_here r (compacted (families_in (get s.plain.tables r.table)) k xs) s.plain.stable ∙ ap (λ fs. visible fs (take k xs) ++ drop k xs) (same_families (get s.plain.tables r.table))))
          (same-append (same-equal (sym seen)) (same-sym (same-rest whole w.same))));
    }
