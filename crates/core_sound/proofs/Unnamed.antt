-- A base that stays archived and is not named goes on unnamed in a journal of allowed entries.
use Rattle.std.proofs.Common.{◌≡◌, ℕ, zero, suc, ◌+◌, true, false, List, [], ◌∷◌, ◌++◌, take, Some, refl, subst}
use Rattle.hb_layout.specs.declared.base.Base.{Base}
use Rattle.ns_tree.specs.declared.file.FileState.{FileState}
use Rattle.core_model.specs.declared.journal.JournalEntry.{JournalEntry}
use Rattle.core_model.specs.declared.opening.Opening.{Opening}
use Rattle.core_model.specs.Allows.{AllowsEntry, AllowsFrom}
use Rattle.core_model.specs.Named.{IsNamed}
use Rattle.core_model.specs.Replay.{after, unless, replay_from, begun, replay}
use Rattle.core_model.specs.Replay as replay
use Rattle.core_model.specs.Site.{Archived}
use Rattle.core_model.specs.Sound.{IsSoundState}
use Rattle.core_model.specs.State.{State}
use Rattle.core_sound.specs.Laws.{StaysUnnamedIn}
use Rattle.core_sound.proofs.Journals.{HasFew, few_after, few-begun, entry_kept, sound-begun, sound_from}
use Rattle.core_sound.proofs.NeverAgain.{never_again}

abbrev IsArchived : State → Base → Type 0
IsArchived s b = (f : FileState) × (s.now.disk (Archived b) ≡ Some f)

unnamed_after : (n : ℕ) (e : JournalEntry) (s : State) (b : Base) → AllowsEntry n e s → IsSoundState s → IsArchived s b → (IsNamed s.now b → ⊥) → IsNamed (replay.step n s e).now b → ⊥
unnamed_after n e s b a h f k = elim e.failed as (λ v. IsNamed (unless v (after e.step) s.now) b → ⊥) [ true ↦ k | false ↦ never_again e.step s.now a.0.1 h.now b f.0 f.1 k ]

unnamed_from : (n : ℕ) (es : List JournalEntry) (s : State) (b : Base) → HasFew n s → AllowsFrom n s es → IsSoundState s → ((j : ℕ) → IsArchived (replay_from n s (take j es)) b) → (IsNamed s.now b → ⊥)
    → IsNamed (replay_from n s es).now b → ⊥
unnamed_from n [] s b w a h f k = k
unnamed_from n (e ∷ es) s b w a h f k =
    unnamed_from (n + 1) es (replay.step n s e) b (few_after n e s a.0 w) a.1 (entry_kept n e s w a.0 h) (λ j. f (suc j)) (unnamed_after n e s b a.0 h (f zero) k)

-- ---- entries behind entries

-- the number of the entry behind these
abbrev pub index : ℕ → List JournalEntry → ℕ
index n [] = n
index n (e ∷ es) = index (n + 1) es

pub from_append : (n : ℕ) (es more : List JournalEntry) (s : State) → replay_from n s (es ++ more) ≡ replay_from (index n es) (replay_from n s es) more
from_append n [] more s = refl
from_append n (e ∷ es) more s = from_append (n + 1) es more (replay.step n s e)

pub allows_before : (n : ℕ) (es more : List JournalEntry) (s : State) → AllowsFrom n s (es ++ more) → AllowsFrom n s es
allows_before n [] more s a = tt
allows_before n (e ∷ es) more s a = (a.0, allows_before (n + 1) es more (replay.step n s e) a.1)

pub allows_behind : (n : ℕ) (es more : List JournalEntry) (s : State) → AllowsFrom n s (es ++ more) → AllowsFrom (index n es) (replay_from n s es) more
allows_behind n [] more s a = a
allows_behind n (e ∷ es) more s a = allows_behind (n + 1) es more (replay.step n s e) a.1

pub few_from : (n : ℕ) (es : List JournalEntry) (s : State) → AllowsFrom n s es → HasFew n s → HasFew (index n es) (replay_from n s es)
few_from n [] s a w = w
few_from n (e ∷ es) s a w = few_from (n + 1) es (replay.step n s e) a.1 (few_after n e s a.0 w)

pub stays_unnamed_in : (o : Opening) (es more : List JournalEntry) (b : Base) → StaysUnnamedIn o es more b
unfolding replay
stays_unnamed_in o es more b h a f k i =
    let before = allows_before 0 es more (begun o) a in
    unnamed_from (index 0 es) more (replay_from 0 (begun o) es) b (few_from 0 es (begun o) before (few-begun o)) (allows_behind 0 es more (begun o) a)
    (sound_from 0 es (begun o) (few-begun o) before (sound-begun o h)) (λ j. subst (λ (s : State). IsArchived s b) (from_append 0 es (take j more) (begun o)) (f j))
    k (subst (λ (s : State). IsNamed s.now b) (from_append 0 es more (begun o)) i)
