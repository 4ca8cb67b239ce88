-- What a journal keeps at one entry more.
use Rattle.std.proofs.Common.{◌≡◌, ℕ, ◌+◌, List, [], ◌∷◌, ◌++◌, length, refl, subst, arith}
use Rattle.core_model.specs.declared.journal.JournalEntry.{JournalEntry}
use Rattle.core_model.specs.declared.opening.Opening.{Opening}
use Rattle.core_model.specs.Allows.{AllowsAll, AllowsEntry, AllowsFrom}
use Rattle.core_model.specs.Replay.{begun, replay, replay_from}
use Rattle.core_model.specs.Replay as replay
use Rattle.core_model.specs.State.{State}
use Rattle.core_bytes.specs.Laws.{WriteFrom}
use Rattle.core_bytes.specs.Written.{Writes}
use Rattle.core_trees.specs.Trees.{HasNames, HaveNames, Trees, trees_by, trees_from}
use Rattle.world_steps.specs.World.{IsLawful}

allowed_from : (n : ℕ) (s : State) (es : List JournalEntry) (e : JournalEntry) → AllowsFrom n s es → AllowsEntry (n + length es) e (replay_from n s es) → AllowsFrom n s (es ++ e ∷ [])
allowed_from n s [] e a h = let k : n + length {A = JournalEntry} [] ≡ n = omega arith in (subst (λ m. AllowsEntry m e s) k h, tt)
allowed_from n s (x ∷ es) e a h =
    let k : n + length (x ∷ es) ≡ n + 1 + length es = omega arith in
    (a.0, allowed_from (n + 1) (replay.step n s x) es e a.1 (subst (λ m. AllowsEntry m e (replay_from (n + 1) (replay.step n s x) es)) k h))

allowed-push : (o : Opening) (es : List JournalEntry) (e : JournalEntry) → AllowsAll o es → AllowsEntry (length es) e (replay o es) → AllowsAll o (es ++ e ∷ [])
unfolding replay
allowed-push o es e a h = let k : length es ≡ 0 + length es = omega arith in allowed_from 0 (begun o) es e a (subst (λ m. AllowsEntry m e (replay_from 0 (begun o) es)) k h)

writes_from : (n : ℕ) (s : State) (es : List JournalEntry) (e : JournalEntry) → WriteFrom n s es → Writes e.step (replay_from n s es).now → WriteFrom n s (es ++ e ∷ [])
writes_from n s [] e w h = (h, tt)
writes_from n s (x ∷ es) e w h = (w.0, writes_from (n + 1) (replay.step n s x) es e w.1 h)

writes-push : (o : Opening) (es : List JournalEntry) (e : JournalEntry) → WriteFrom 0 (begun o) es → Writes e.step (replay o es).now → WriteFrom 0 (begun o) (es ++ e ∷ [])
unfolding replay
writes-push o es e w h = writes_from 0 (begun o) es e w h

names-push : (es : List JournalEntry) (e : JournalEntry) → HaveNames es → HasNames e.step → HaveNames (es ++ e ∷ [])
names-push [] e h k = (k, tt)
names-push (x ∷ es) e h k = (h.0, names-push es e h.1 k)

pub trees-push : (t : Trees) (es : List JournalEntry) (e : JournalEntry) → trees_from t (es ++ e ∷ []) ≡ trees_by e (trees_from t es)
trees-push t [] e = refl
trees-push t (x ∷ es) e = trees-push (trees_by x t) es e

pub lawful-push : (o : Opening) (es : List JournalEntry) (e : JournalEntry) → IsLawful o es → AllowsEntry (length es) e (replay o es) → HasNames e.step → Writes e.step (replay o es).now → IsLawful o (es ++ e ∷ [])
lawful-push o es e l a h w = record { allowed = allowed-push o es e l.allowed a; names = names-push es e l.names h; writes = writes-push o es e l.writes w }
