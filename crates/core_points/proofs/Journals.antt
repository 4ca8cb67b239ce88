-- In each state of a journal of allowed entries the files of halves say their rows and sides.
use Rattle.std.proofs.Common.{◌≡◌, ℕ, ◌+◌, true, false, List, [], ◌∷◌, take, Some, None, sym, ◌∙◌, subst}
use Rattle.std.specs.FinMap.{empty, get, get-empty}
use Rattle.hb_cell.specs.Order.{bytes_cmp}
use Rattle.core_model.specs.declared.journal.JournalEntry.{JournalEntry}
use Rattle.core_model.specs.declared.opening.Opening.{Opening}
use Rattle.core_model.specs.declared.step.Step.{Step}
use Rattle.core_model.specs.Actors.{IsRegion}
use Rattle.core_model.specs.Allows.{AllowsEntry, AllowsFrom}
use Rattle.core_model.specs.Replay.{after, unless, replay_from, begun, replay}
use Rattle.core_model.specs.Replay as replay
use Rattle.core_model.specs.Sound.{IsSoundState}
use Rattle.core_model.specs.State.{Parts, State}
use Rattle.core_sound.proofs.Journals.{HasFew, few_after, few-begun, allowed_other, entry_kept, sound-begun, allows_front}
use Rattle.core_sound.proofs.Kept.{sound_kept}
use Rattle.core_sound.proofs.NeverAgain.{tables_after}
use Rattle.core_bytes.specs.Laws.{WriteFrom}
use Rattle.core_bytes.specs.Written.{Writes}
use Rattle.core_bytes.proofs.Journals.{writes_other, writes_front}
use Rattle.core_contents.specs.Faithful.{IsFaithfulState}
use Rattle.core_contents.proofs.Journals.{entry_faithful}
use Rattle.core_points.specs.Laws.{KeepsPointed, LeadsToPointed, BeginsPointed}
use Rattle.core_points.specs.Points.{IsPointed, IsPointedState}
use Rattle.core_points.proofs.BuiltPoints.{points_built}
use Rattle.core_points.proofs.ListedPoints.{points_listed}
use Rattle.core_points.proofs.SidesKept.{sides_kept}

pub pointed_kept : (p : Step) (s : Parts) → KeepsPointed p s
pointed_kept p s few a v h f k = record {
  sides = sides_kept p s a h f (sound_kept p s few a h) k.sides;
  built = points_built p s a v.file h k.built;
  listed = record { at = λ r e x i m j. points_listed p s a h f k r e x (subst (λ t. IsRegion t r) (tables_after p s) i) m j };
}

-- ---- journals

pointed_entry : (n : ℕ) (e : JournalEntry) (s : State) → HasFew n s → AllowsEntry n e s → Writes e.step s.now → IsSoundState s → IsFaithfulState s → IsPointedState s → IsPointedState (replay.step n s e)
pointed_entry n e s w a m h f k = record {
  now = elim e.failed as (λ b. IsPointed (unless b (after e.step) s.now)) [ true ↦ k.now | false ↦ pointed_kept e.step s.now w.now_limit a.0.1 m h.now f.now k.now ];
  other = pointed_kept e.step s.other w.other_limit (allowed_other n e s a h) (writes_other n e s a h m) h.other f.other k.other;
}

pointed_from : (n : ℕ) (es : List JournalEntry) (s : State) → HasFew n s → AllowsFrom n s es → WriteFrom n s es → IsSoundState s → IsFaithfulState s → IsPointedState s → IsPointedState (replay_from n s es)
pointed_from n [] s w a m h f k = k
pointed_from n (e ∷ es) s w a m h f k =
    pointed_from (n + 1) es (replay.step n s e) (few_after n e s a.0 w) a.1 m.1 (entry_kept n e s w a.0 h) (entry_faithful n e s w a.0 h f) (pointed_entry n e s w a.0 m.0 h f k)

pub pointed_replay : (o : Opening) (es : List JournalEntry) (k : ℕ) → LeadsToPointed o es k
unfolding replay
pointed_replay o es k h f g a m =
    pointed_from 0 (take k es) (begun o) (few-begun o) (allows_front k 0 es (begun o) a) (writes_front k 0 es (begun o) m) (sound-begun o h) (record { now = f; other = f }) (record { now = g; other = g })

-- ---- a store without files

pub bare_begins : (epoch ttl : ℕ) → BeginsPointed epoch ttl
bare_begins epoch ttl = record {
  sides = record { listed = λ r i. record { names = λ e m. absurd m; side = λ x y m n u v. absurd m }; captured = λ a r l e. absurd (cc); completed = λ name x c e m. no_value name x e };
  built = record { at = λ a i b f m d e. absurd m };
  listed = record { at = λ r e f i m j. absurd m };
}
  where
    no_value : {X P : Type 0} (name : List ℕ) (x : X) → get (empty {R = bytes_cmp}) name ≡ Some x → P
    no_value name x e = let z : None ≡ Some x = sym (get-empty bytes_cmp name) ∙ e in absurd (cc)
