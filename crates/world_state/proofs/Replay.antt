-- What a replay is at no entries, and at one more.
use Rattle.std.proofs.Common.{◌≡◌, ℕ, ◌+◌, List, [], ◌∷◌, ◌++◌, length, refl, ap, ◌∙◌, arith}
use Rattle.core_model.specs.declared.journal.JournalEntry.{JournalEntry}
use Rattle.core_model.specs.declared.opening.Opening.{Opening}
use Rattle.core_model.specs.Replay.{begun, replay, replay_from}
use Rattle.core_model.specs.Replay as replay
use Rattle.core_model.specs.State.{State}

replay-none : (o : Opening) → replay o [] ≡ begun o
unfolding replay
replay-none o = refl

from-push : (n : ℕ) (s : State) (es : List JournalEntry) (e : JournalEntry) → replay_from n s (es ++ e ∷ []) ≡ replay.step (n + length es) (replay_from n s es) e
from-push n s [] e = let k : n ≡ n + 0 = omega arith in ap (λ m. replay.step m s e) k
from-push n s (x ∷ es) e =
    let k : n + 1 + length es ≡ n + length (x ∷ es) = omega arith in
    from-push (n + 1) (replay.step n s x) es e ∙ ap (λ m. replay.step m (replay_from (n + 1) (replay.step n s x) es) e) k

replay-push : (o : Opening) (es : List JournalEntry) (e : JournalEntry) → replay o (es ++ e ∷ []) ≡ replay.step (length es) (replay o es) e
unfolding replay
replay-push o es e = let k : 0 + length es ≡ length es = omega arith in from-push 0 (begun o) es e ∙ ap (λ m. replay.step m (replay_from 0 (begun o) es) e) k

pub replayed-none : (o : Opening) (es : List JournalEntry) → es ≡ [] → replay o es ≡ begun o
replayed-none o es e = ap (replay o) e ∙ replay-none o

pub replayed-push : (o : Opening) (es fs : List JournalEntry) (e : JournalEntry) → fs ≡ es ++ e ∷ [] → replay o fs ≡ replay.step (length es) (replay o es) e
replayed-push o es fs e h = ap (replay o) h ∙ replay-push o es e
