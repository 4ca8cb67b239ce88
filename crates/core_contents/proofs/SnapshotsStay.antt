-- What a flush captures; and a complete snapshot stays, with the cells of its regions, as long as no entry of a journal deletes it.
use Rattle.std.proofs.Common.{◌≡◌, ℕ, ◌+◌, ◌≤◌, ◌&&◌, Bool, true, false, cond, List, [], ◌∷◌, Some, refl, sym, ap, ◌∙◌, subst}
use Rattle.std.specs.FinMap.{get}
use Rattle.std.specs.Prelude.{map}
use Rattle.hb_cell.specs.declared.cell.Cell.{Cell}
use Rattle.plain_model.specs.declared.region_key.RegionKey.{RegionKey}
use Rattle.plain_model.specs.declared.who.Actor.{Actor}
use Rattle.plain_model.specs.Keys.{same_key}
use Rattle.core_model.specs.declared.entry.Entry.{Entry}
use Rattle.core_model.specs.declared.entry.Entry.TheVariants.{Own}
use Rattle.core_model.specs.declared.region_files.RegionFiles.{RegionFiles}
use Rattle.core_model.specs.declared.step.Step.TheVariants as step
use Rattle.core_model.specs.declared.targets.Why.TheVariants as why
use Rattle.core_model.specs.Entries.{cells_in}
use Rattle.core_model.specs.ListGuards.{Captures, families_in}
use Rattle.core_model.specs.Recipes.{frozen_cells}
use Rattle.cell_sight.proofs.Counts.{same-append, same-equal, same-trans}
use Rattle.core_sound.proofs.NumbersKept.{same_self}
use Rattle.core_sound.proofs.Vacant.{same_key-self}
use Rattle.core_contents.proofs.Counts.{cells_in-append, families-same}
use Rattle.core_contents.proofs.Flushed.{flushed_cells}
use Rattle.core_model.specs.declared.journal.JournalEntry.{JournalEntry}
use Rattle.core_model.specs.declared.opening.Opening.{Opening}
use Rattle.core_model.specs.declared.snapshot.Snapshot.{Snapshot}
use Rattle.core_model.specs.declared.step.Step.{Step}
use Rattle.core_model.specs.Allows.{Allows, AllowsFrom}
use Rattle.core_model.specs.Replay.{after, unless, replay_from, begun, replay}
use Rattle.core_model.specs.Replay as replay
use Rattle.core_model.specs.Sound.{IsSound, IsSoundState}
use Rattle.core_model.specs.State.{Parts, State}
use Rattle.core_sound.proofs.Journals.{HasFew, few_after, few-begun, entry_kept, sound-begun, sound_from}
use Rattle.core_sound.proofs.Unnamed.{index, from_append, allows_before, allows_behind, few_from}
use Rattle.core_contents.specs.Laws.{HasCapturedNow, StaysAs, StaysCompleteIn, Deletes, NoneDeletes}
use Rattle.core_contents.proofs.LawFacts.{stays_complete}

stays_entry : (b : Bool) (p : Step) (s : Parts) (name : List ℕ) (x : Snapshot) → s.files ≤ 4_194_304 → Allows p s → IsSound s → get s.snapshots name ≡ Some x → (Deletes p name → ⊥) → StaysAs name x s (unless b (after p) s)
stays_entry true p s name x few a h e n = record { complete = e; cells = λ r m. refl }
stays_entry false p s name x few a h e n = stays_complete p s name x few a h e n

stays_from : (n : ℕ) (es : List JournalEntry) (s : State) (name : List ℕ) (x : Snapshot) → HasFew n s → AllowsFrom n s es → IsSoundState s → get s.now.snapshots name ≡ Some x → NoneDeletes es name → StaysAs name x s.now (replay_from n s es).now
stays_from n [] s name x w a h e k = record { complete = e; cells = λ r m. refl }
stays_from n (y ∷ es) s name x w a h e k =
    let one = stays_entry y.failed y.step s.now name x w.now_limit a.0.0.1 h.now e k.0 in
    let rest = stays_from (n + 1) es (replay.step n s y) name x (few_after n y s a.0 w) a.1 (entry_kept n y s w a.0 h) one.complete k.1 in
    record { complete = rest.complete; cells = λ r m. rest.cells r m ∙ one.cells r m }

pub stays_complete_in : (o : Opening) (es more : List JournalEntry) (name : List ℕ) (x : Snapshot) → StaysCompleteIn o es more name x
unfolding replay
stays_complete_in o es more name x h a e k =
    let before = allows_before 0 es more (begun o) a in
    subst (λ (s : State). StaysAs name x (replay_from 0 (begun o) es).now s.now) (sym (from_append 0 es more (begun o)))
    (stays_from (index 0 es) more (replay_from 0 (begun o) es) name x (few_from 0 es (begun o) before (few-begun o)) (allows_behind 0 es more (begun o) a) (sound_from 0 es (begun o) (few-begun o) before (sound-begun o h)) e k)

-- ---- a capture

-- what a flush captures
pub captures_flush : (actor : Actor) (r : RegionKey) (n : ℕ) (name : List ℕ) (l : RegionFiles) (cells : List Cell) (more : List (List ℕ × Entry)) (s : Parts) → Captures actor.0 r l cells more s
    → HasCapturedNow actor.0 r l s (after (step.CommitList actor r n name why.Capture l cells more) s)
captures_flush actor r n name l cells more s g = record {
  capture = ap (λ b. cond (b && same_key r r) (Some l) (s.captures actor.0 r)) (same_self actor.0) ∙ ap (λ b. cond b (Some l) (s.captures actor.0 r)) (same_key-self r);
  whole = same-trans (same-equal (ap (cells_in s.made) g.flushes.entries ∙ cells_in-append s.made (s.lists r).entries (map Own g.flushes.added)))
      (same-append (same-equal refl) (same-trans (flushed_cells actor.0 r s (families_in (frozen_cells s.plain r)) g.flushes.added g.flushes.files) (families-same (frozen_cells s.plain r))));
}
