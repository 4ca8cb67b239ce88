-- What is kept at run time, after one entry more.
use Rattle.std.proofs.Common.{◌≡◌, ℕ, ◌+◌, Bool, true, false, map, sym, ap, subst, ◌∙◌}
use Rattle.std.specs.Prelude.{length}
use Rattle.std.specs.List.{AllByRecursion}
use Rattle.hb_cell.specs.Order.{bytes_cmp}
use Rattle.reserved_map.specs.Filled.{filled}
use Rattle.reserved_map.specs.Keys.{region_cmp}
use Rattle.core_model.specs.declared.journal.JournalEntry.{JournalEntry}
use Rattle.core_model.specs.declared.step.Step.{Step}
use Rattle.core_model.specs.declared.step.Step.TheVariants as step
use Rattle.core_model.specs.declared.step.Started.TheVariants as started
use Rattle.core_model.specs.ActorChanges.{begun_by}
use Rattle.core_model.specs.Allows.{Allows}
use Rattle.core_model.specs.FileChanges.{files_by, ids_by}
use Rattle.core_model.specs.Ops.{op_of}
use Rattle.core_model.specs.Replay.{after, closed_by, unless}
use Rattle.core_model.specs.Replay as replay
use Rattle.core_model.specs.State.{State}
use Rattle.core_sites.specs.Shows.{MakesSpelled}
use Rattle.core_places.specs.Places.{ArePlaces}
use Rattle.core_places.specs.Served.{IsServed}
use Rattle.core_places.proofs.Kept.{places_kept}
use Rattle.world_state.specs.declared.counts.Counts.{Counts}
use Rattle.world_state.specs.declared.state.CoreState.{CoreState}
use Rattle.world_state.specs.Changes.{change_made, count_change}
use Rattle.world_state.specs.Parts.{AreDrawn, AreRecorded, IsAfter, IsReplay, IsSame, counts_with}
use Rattle.world_state.specs.Works.{IsWork, live_in}
use Rattle.world_state.proofs.Files.{of_files, recorded_step, sets_step, snapshots_step, works_on}
use Rattle.world_state.proofs.Journaled.{entry_of}
use Rattle.world_state.proofs.Live.{live_after}
use Rattle.world_state.proofs.Regions.{drawn_step}
use Rattle.world_state.proofs.Works.{live_step, works_step}

files_step : (p : Step) (c : Counts) (n : ℕ) → IsServed p → c.files ≡ n → (counts_with (count_change p) c).files ≡ files_by p n
files_step (step.WriteTmp actor recipe name cells bytes) c n k e = ap (λ m. m + 1) e
files_step (step.Start who job (started.Live actor) drawn) c n k e = e
files_step (step.Start who job (started.Refused reply) drawn) c n k e = e
files_step (step.Place actor from base cells) c n k e = absurd k
files_step _ c n k e = e

ids_step : (p : Step) (c : Counts) (n : ℕ) → c.ids ≡ n → (counts_with (count_change p) c).ids ≡ ids_by p n
ids_step (step.Start who job (started.Live actor) drawn) c n e = ap (λ m. m + length drawn.regions) e
ids_step (step.Start who job (started.Refused reply) drawn) c n e = e
ids_step _ c n e = e

begun_step : (p : Step) (c : Counts) (n : ℕ) → c.begun ≡ n → (counts_with (count_change p) c).begun ≡ begun_by p n
begun_step (step.Start who job (started.Live actor) drawn) c n e = ap (λ m. m + 1) e
begun_step (step.Start who job (started.Refused reply) drawn) c n e = e
begun_step _ c n e = e

-- what is seen alike is a replay alike
pub same_replay : (a b : CoreState) (s : State) → IsSame a b → IsReplay a s → IsReplay b s
same_replay a b s i h = record {
  files = ap (λ (c : Counts). c.files) i.counts ∙ h.files;
  ids = ap (λ (c : Counts). c.ids) i.counts ∙ h.ids;
  begun = ap (λ (c : Counts). c.begun) i.counts ∙ h.begun;
  drawn = subst (λ m. AreDrawn m s.now.drawn) (sym i.drawn) h.drawn;
  places = subst (λ m. ArePlaces m s.now.disk) (sym i.places) h.places;
  written = subst (λ m. AreRecorded m s.now.disk s.now.written) (sym i.written) h.written;
  sets = i.sets ∙ h.sets;
  snapshots = i.snapshots ∙ h.snapshots;
  live = ap (map live_in) i.works ∙ h.live;
  works = subst (AllByRecursion (IsWork s.now.begun s.now.owners s.now.plans)) (sym i.works) h.works;
  closed = i.closed ∙ h.closed;
}

with_entry : (n worker : ℕ) (b : Bool) (p : Step) (s : State) (a new : CoreState) → IsServed p → MakesSpelled (op_of p) → Allows p s.now → IsReplay a s → IsAfter (change_made b p) n b a new
    → IsReplay new (replay.step n s (entry_of worker p b))
with_entry n worker true p s a new k l g h i = record {
  files = ap (λ (c : Counts). c.files) i.counts ∙ h.files;
  ids = ap (λ (c : Counts). c.ids) i.counts ∙ h.ids;
  begun = ap (λ (c : Counts). c.begun) i.counts ∙ h.begun;
  drawn = subst (λ m. AreDrawn m s.now.drawn) (sym i.drawn) h.drawn;
  places = subst (λ m. ArePlaces m s.now.disk) (sym i.places) h.places;
  written = subst (λ m. AreRecorded m s.now.disk s.now.written) (sym i.written) h.written;
  sets = i.sets ∙ h.sets;
  snapshots = i.snapshots ∙ h.snapshots;
  live = ap (map live_in) i.works ∙ h.live;
  works = subst (AllByRecursion (IsWork s.now.begun s.now.owners s.now.plans)) (sym i.works) h.works;
  closed = i.closed;
}
with_entry n worker false p s a new k l g h i = record {
  files = ap (λ (c : Counts). c.files) i.counts ∙ files_step p a.counts s.now.files k h.files;
  ids = ap (λ (c : Counts). c.ids) i.counts ∙ ids_step p a.counts s.now.ids h.ids;
  begun = ap (λ (c : Counts). c.begun) i.counts ∙ begun_step p a.counts s.now.begun h.begun;
  drawn = subst (λ m. AreDrawn m (after p s.now).drawn) (sym i.drawn) (drawn_step p (filled region_cmp a.drawn) s.now.drawn h.drawn);
  places = subst (λ m. ArePlaces m (after p s.now).disk) (sym i.places) (places_kept (op_of p) s.now.disk (filled bytes_cmp a.places) (of_files p k) l (works_on p s.now k g) h.places);
  written = subst (λ m. AreRecorded m (after p s.now).disk (after p s.now).written) (sym i.written) (recorded_step p (filled bytes_cmp a.written) s.now.disk s.now.written k h.written);
  sets = i.sets ∙ sets_step p s.now (filled bytes_cmp a.written) (filled bytes_cmp a.sets) k g h.written h.sets;
  snapshots = i.snapshots ∙ h.snapshots ∙ snapshots_step p s.now.snapshots k;
  live = ap (map live_in) i.works ∙ live_step p a.works.items s.now.plain.live h.live ∙ sym (live_after p s.now k g);
  works = subst (AllByRecursion (IsWork (after p s.now).begun (after p s.now).owners (after p s.now).plans)) (sym i.works) (works_step p s.now a.works.items k g h.works);
  closed = i.closed ∙ h.closed;
}

pub entered : (n : ℕ) (e : JournalEntry) (s : State) (a new : CoreState) → IsServed e.step → MakesSpelled (op_of e.step) → Allows e.step s.now → IsReplay a s → IsAfter (change_made e.failed e.step) n e.failed a new → IsReplay new (replay.step n s e)
entered n e s a new k l g h i = with_entry n e.worker e.failed e.step s a new k l g h i
