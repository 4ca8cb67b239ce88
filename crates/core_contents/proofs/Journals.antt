-- What each step keeps, each entry of a journal keeps, done or failed.
use Rattle.std.proofs.Common.{ℕ, ◌+◌, true, false, List, [], ◌∷◌, take}
use Rattle.core_model.specs.declared.journal.JournalEntry.{JournalEntry}
use Rattle.core_model.specs.declared.opening.Opening.{Opening}
use Rattle.core_model.specs.Allows.{AllowsEntry, AllowsFrom, AllowsAll}
use Rattle.core_model.specs.Opened.{opened}
use Rattle.core_model.specs.Replay.{after, unless, replay_from, begun, replay}
use Rattle.core_model.specs.Replay as replay
use Rattle.core_model.specs.Sound.{IsSound, IsSoundState}
use Rattle.core_model.specs.State.{State}
use Rattle.core_sound.proofs.Journals.{HasFew, few_after, allowed_other, entry_kept, few-begun, allows_front, sound-begun}
use Rattle.core_contents.specs.Faithful.{IsFaithful, IsFaithfulState}
use Rattle.core_contents.proofs.Kept.{faithful_kept}

pub entry_faithful : (n : ℕ) (e : JournalEntry) (s : State) → HasFew n s → AllowsEntry n e s → IsSoundState s → IsFaithfulState s → IsFaithfulState (replay.step n s e)
entry_faithful n e s w a h f = record {
  now = elim e.failed as (λ b. IsFaithful (unless b (after e.step) s.now)) [ true ↦ f.now | false ↦ faithful_kept e.step s.now w.now_limit a.0.1 h.now f.now ];
  other = faithful_kept e.step s.other w.other_limit (allowed_other n e s a h) h.other f.other;
}

faithful_from : (n : ℕ) (es : List JournalEntry) (s : State) → HasFew n s → AllowsFrom n s es → IsSoundState s → IsFaithfulState s → IsFaithfulState (replay_from n s es)
faithful_from n [] s w a h f = f
faithful_from n (e ∷ es) s w a h f = faithful_from (n + 1) es (replay.step n s e) (few_after n e s a.0 w) a.1 (entry_kept n e s w a.0 h) (entry_faithful n e s w a.0 h f)

-- every front of a journal of allowed entries leads to a faithful state
pub faithful_replay : (o : Opening) (es : List JournalEntry) → IsSound (opened o) → IsFaithful (opened o) → AllowsAll o es → (k : ℕ) → IsFaithfulState (replay o (take k es))
unfolding replay
faithful_replay o es h f a k = faithful_from 0 (take k es) (begun o) (few-begun o) (allows_front k 0 es (begun o) a) (sound-begun o h) (record { now = f; other = f })
