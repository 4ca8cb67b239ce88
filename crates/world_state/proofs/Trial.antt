-- A core over nothing, and its first entry.
use Rattle.std.proofs.Common.{◌≡◌, ℕ, false, List, [], length, Option, None, refl, sym, ap, subst, ◌∙◌, inl, arith}
use Rattle.std.specs.Prelude.{unwrap_or}
use Rattle.std.specs.FinMap.{contains_key}
use Rattle.cell_sight.specs.Member.{Member}
use Rattle.ns_tree.specs.declared.file.FileState.{FileState}
use Rattle.ns_tree.specs.Tree.{Tree}
use Rattle.plain_model.specs.declared.who.Who.{Who}
use Rattle.core_model.specs.declared.found.Found.{Found}
use Rattle.core_model.specs.declared.journal.JournalEntry.{JournalEntry}
use Rattle.core_model.specs.declared.opening.Opening.{Opening}
use Rattle.core_model.specs.declared.step.Step.TheVariants as step
use Rattle.core_model.specs.Allows.{AllowsEntry}
use Rattle.core_model.specs.Opened.{blank}
use Rattle.core_model.specs.Replay.{begun, replay}
use Rattle.core_sites.specs.Shows.{HasSite}
use Rattle.world_state.specs.Held.{Held, state_of}
use Rattle.world_state.specs.Opened.{HasFound, tree_of}
use Rattle.world_state.proofs.Journaled.{entry_of}
use Rattle.world_state.proofs.Opened.{placed}
use Rattle.world_state.proofs.Replay.{replayed-none}

-- what an opening found at places of sites, where the store tells nothing
pub all_found : (o : Opening) (f : Found) → o.found ≡ f → o.tree ≡ None → ((place : List ℕ) → Member place f.places → HasSite place) → HasFound o f
all_found o f same untold sites =
    let tree : tree_of o ≡ blank f.places = ap (λ (t : Option Tree). unwrap_or t (blank o.found.places)) untold ∙ ap (λ (x : Found). blank x.places) same in
    let file : FileState = record { bytes = []; moment = 0 } in
    record {
      same = same;
      places = λ place. (
        λ e. (placed file place f.places).0 (ap (λ (t : Tree). contains_key t place) (sym tree) ∙ e),
        λ m. ap (λ (t : Tree). contains_key t place) tree ∙ (placed file place f.places).1 m,
      );
      sites = sites;
    }

listed : (o : Opening) (who : Who) → AllowsEntry 0 (entry_of who.worker (step.ListSnapshots who) false) (begun o)
listed o who = ((refl, tt), inl (refl, omega arith, λ e. absurd (cc)))

-- a first listing is allowed
pub first_listed : (h : Held) (who : Who) → h.entries ≡ [] → AllowsEntry (length h.entries) (entry_of who.worker (step.ListSnapshots who) false) (state_of h)
first_listed h who e =
    let at_none = subst (AllowsEntry 0 (entry_of who.worker (step.ListSnapshots who) false)) (sym (replayed-none h.opening [] refl)) (listed h.opening who) in
    subst (λ (es : List JournalEntry). AllowsEntry (length es) (entry_of who.worker (step.ListSnapshots who) false) (replay h.opening es)) (sym e) at_none
