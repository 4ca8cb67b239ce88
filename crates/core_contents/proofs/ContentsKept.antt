-- Each step keeps that the files of each region have its cells.
use Rattle.std.proofs.Common.{◌≤◌, ℕ, ◌++◌, true, false, List, Some, refl, sym, ap, ◌∙◌, subst}
use Rattle.std.specs.Prelude.{map, Ok}
use Rattle.hb_cell.specs.declared.cell.Cell.{Cell}
use Rattle.plain_model.specs.declared.region_key.RegionKey.{RegionKey}
use Rattle.plain_model.specs.After.{after_all}
use Rattle.plain_model.specs.Found.{families_of}
use Rattle.plain_model.specs.Keys.{set_at}
use Rattle.plain_model.specs.LiveEvents.{job_of}
use Rattle.cell_sight.specs.Same.{Same}
use Rattle.core_model.specs.declared.entry.Entry.{Entry}
use Rattle.core_model.specs.declared.entry.Entry.TheVariants.{Own}
use Rattle.core_model.specs.declared.region_files.RegionFiles.{RegionFiles}
use Rattle.core_model.specs.declared.targets.MoveFrom.TheVariants as moves
use Rattle.core_model.specs.declared.targets.Why.TheVariants as why
use Rattle.core_model.specs.declared.step.Started.TheVariants as started
use Rattle.core_model.specs.declared.step.Step.{Step}
use Rattle.core_model.specs.declared.step.Step.TheVariants as step
use Rattle.core_model.specs.Actors.{IsRegion}
use Rattle.core_model.specs.Allows.{Allows}
use Rattle.core_model.specs.Entries.{cells_in, no_list}
use Rattle.core_model.specs.Events.{events_of}
use Rattle.core_model.specs.FileChanges.{made_by, lists_by}
use Rattle.core_model.specs.ListGuards.{Loads}
use Rattle.core_model.specs.Named.{listed}
use Rattle.core_model.specs.Replay.{after}
use Rattle.core_model.specs.Sound.{IsSound}
use Rattle.core_model.specs.State.{Parts}
use Rattle.core_model.specs.TableChanges.{tables_by}
use Rattle.core_contents.specs.ContentFacts.{HasContents}
use Rattle.core_contents.specs.Faithful.{IsFaithful}
use Rattle.cell_sight.proofs.Counts.{same-trans, same-append, same-equal}
use Rattle.core_sound.proofs.NeverAgain.{tables_after}
use Rattle.core_sound.proofs.Vacant.{each-cases, drawn_out}
use Rattle.core_contents.proofs.Changed.{changed_contents}
use Rattle.core_contents.proofs.Compacted.{minor_contents}
use Rattle.core_contents.proofs.Counts.{cells_in-append}
use Rattle.core_contents.proofs.EntryFamilies.{pinned_families}
use Rattle.core_contents.proofs.Flushed.{flush_contents}
use Rattle.core_contents.proofs.MadeStays.{cells_stay}
use Rattle.core_contents.proofs.Majored.{major_contents}
use Rattle.core_contents.proofs.SeenFacts.{seen_laws}
use Rattle.core_contents.proofs.Tools.{set_at-each, set_at-both}

-- ---- what is made only grows

contents_more : (p : Step) (s : Parts) → s.files ≤ 4_194_304 → Allows p s → IsSound s → IsFaithful s → HasContents (made_by p s.made) s.lists s.plain.tables s.plain.stable
contents_more p s few a h f = record { at = λ r i. same-trans (same-equal (cells_stay p s few a h (s.lists r).entries (λ e m. listed r e i m refl))) (f.contents.at r i) }

-- ---- commits

load_contents : (a : ℕ) (r : RegionKey) (l : RegionFiles) (cells : List Cell) (more : List (List ℕ × Entry)) (s : Parts) → Loads a r l cells more s → IsFaithful s
    → HasContents s.made (set_at r l s.lists) s.plain.tables (set_at r (s.plain.stable r ++ cells) s.plain.stable)
load_contents a r l cells more s g f = record {
  at = set_at-both (λ q (v : RegionFiles) cs. IsRegion s.plain.tables q → Same (cells_in s.made v.entries) cs) s.lists s.plain.stable r l (s.plain.stable r ++ cells) f.contents.at
      (λ i. same-trans (same-equal (ap (cells_in s.made) g.entries ∙ cells_in-append s.made (s.lists r).entries (map Own g.added))) (same-append (f.contents.at r i) (same-equal (sym g.joins))));
}

build_contents : (s : Parts) (r : RegionKey) (l : RegionFiles) → (IsRegion s.plain.tables r → ⊥) → IsFaithful s → HasContents s.made (set_at r l s.lists) s.plain.tables s.plain.stable
build_contents s r l out f = record { at = set_at-each (λ q (v : RegionFiles). IsRegion s.plain.tables q → Same (cells_in s.made v.entries) (s.plain.stable q)) s.lists r l f.contents.at (λ i. absurd (out i)) }

-- ---- all steps

contents_after : (p : Step) (s : Parts) → s.files ≤ 4_194_304 → Allows p s → IsSound s → IsFaithful s
    → HasContents (made_by p s.made) (lists_by p s.lists) (tables_by p s.plain.snapshots s.plain.tables) (after_all s.plain (events_of p)).stable
contents_after (step.WriteTmp actor recipe name cells bytes) s few a h f = contents_more (step.WriteTmp actor recipe name cells bytes) s few a h f
contents_after (step.Place actor (moves.StagedBulk folder name) base cells) s few a h f = contents_more (step.Place actor (moves.StagedBulk folder name) base cells) s few a h f
contents_after (step.CommitList actor region number name why.Flush list cells more) s few a h f = flush_contents actor.0 region list cells more s a.allowed.1 f
contents_after (step.CommitList actor region number name why.Capture list cells more) s few a h f = flush_contents actor.0 region list cells more s a.allowed.flushes f
contents_after (step.CommitList actor region number name (why.Compact true) list cells more) s few a h f =
    major_contents actor.0 region list cells more s a.allowed f (seen_laws (families_of s.plain region.table)) (pinned_families actor.0 region list cells more s a.allowed f)
contents_after (step.CommitList actor region number name (why.Compact false) list cells more) s few a h f = minor_contents actor.0 region list cells more s a.allowed f
contents_after (step.CommitList actor region number name why.Bulk list cells more) s few a h f = load_contents actor.0 region list cells more s a.allowed f
contents_after (step.CommitList actor region number name why.Build list cells more) s few a h f = build_contents s region list a.allowed.out f
contents_after (step.CommitRegions actor table number name set change) s few a h f = changed_contents (job_of s.plain.live actor.0) change table actor.0 s refl a.is_change a.built h f
contents_after (step.Start who job (started.Live actor) drawn) s few a h f = record {
  at = λ r i. each-cases (λ (l : RegionFiles). Same (cells_in s.made l.entries) (s.plain.stable r)) no_list drawn.regions s.lists r (λ j m k. absurd (drawn_out job actor drawn s a j m (subst (IsRegion s.plain.tables) (sym k) i))) (f.contents.at r i);
}
contents_after (step.PutCell who table put moment (Some joined)) s few a h f = f.contents
contents_after (step.Place actor (moves.Written name) base cells) s few a h f = f.contents
contents_after (step.Pin actor target (Ok region) true) s few a h f = f.contents
contents_after _ s few a h f = f.contents

pub contents_kept : (p : Step) (s : Parts) → s.files ≤ 4_194_304 → Allows p s → IsSound s → IsFaithful s → HasContents (after p s).made (after p s).lists (after p s).plain.tables (after p s).plain.stable
contents_kept p s few a h f = subst (λ t. HasContents (made_by p s.made) (lists_by p s.lists) t (after_all s.plain (events_of p)).stable) (sym (tables_after p s)) (contents_after p s few a h f)
