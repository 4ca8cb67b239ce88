-- In an open world both trees of the journal are one, which the store tells.
use Rattle.std.proofs.Common.{◌≡◌, ℕ, ◌+◌, Bool, true, false, List, [], ◌∷◌, Option, Some, None, refl, sym, ap, ◌∙◌, inl, inr}
use Rattle.std.specs.Prelude.{option_map}
use Rattle.ns_tree.specs.Tree.{Tree}
use Rattle.core_model.specs.declared.journal.JournalEntry.{JournalEntry}
use Rattle.core_model.specs.declared.opening.Opening.{Opening}
use Rattle.core_model.specs.Replay.{begun, closed_by, replay, replay_from}
use Rattle.core_model.specs.Replay as replay
use Rattle.core_model.specs.State.{State}
use Rattle.core_trees.specs.Trees.{Trees, tree_by, tree_unless, trees_after, trees_by, trees_from}
use Rattle.world_steps.specs.World.{Tells, tree_now, tree_other}

open_before : (n : ℕ) (b : Bool) (c : Option ℕ) → closed_by n b c ≡ None → c ≡ None
open_before n true c e = absurd (cc)
open_before n false c e = e

not_failed : (n : ℕ) (b : Bool) (c : Option ℕ) → closed_by n b c ≡ None → b ≡ false
not_failed n true c e = absurd (cc)
not_failed n false c e = refl

open_from : (n : ℕ) (es : List JournalEntry) (s : State) → (replay_from n s es).closed ≡ None → s.closed ≡ None
open_from n [] s e = e
open_from n (x ∷ es) s e = open_before n x.failed s.closed (open_from (n + 1) es (replay.step n s x) e)

alike : (x : JournalEntry) (t : Trees) → t.now ≡ t.other → x.failed ≡ false → (trees_by x t).now ≡ (trees_by x t).other
alike x t h f = ap (λ b. tree_unless b x.step t.now) f ∙ ap (tree_by x.step) h

agree_from : (n : ℕ) (es : List JournalEntry) (t : Trees) (s : State) → t.now ≡ t.other → (replay_from n s es).closed ≡ None → (trees_from t es).now ≡ (trees_from t es).other
agree_from n [] t s h e = h
agree_from n (x ∷ es) t s h e = agree_from (n + 1) es (trees_by x t) (replay.step n s x) (alike x t h (not_failed n x.failed s.closed (open_from (n + 1) es (replay.step n s x) e))) e

trees_agree : (o : Opening) (es : List JournalEntry) (tree : Tree) → (replay o es).closed ≡ None → (trees_after tree es).now ≡ (trees_after tree es).other
unfolding replay
trees_agree o es tree e = agree_from 0 es (record { now = tree; other = tree }) (begun o) refl e

pub mapped : {A B : Type 0} (f g : A → B) (x : Option A) → ((a : A) → f a ≡ g a) → option_map f x ≡ option_map g x
mapped f g None h = refl
mapped f g (Some a) h = ap Some (h a)

pub told_other : (o : Opening) (es : List JournalEntry) → (replay o es).closed ≡ None → tree_now o es ≡ tree_other o es
told_other o es e = mapped (λ (tree : Tree). (trees_after tree es).now) (λ (tree : Tree). (trees_after tree es).other) o.tree (λ tree. trees_agree o es tree e)

pub told_now : (told : Option Tree) (o : Opening) (es : List JournalEntry) → Tells told o es → (replay o es).closed ≡ None → told ≡ tree_now o es
told_now told o es t e = elim t [ inl h ↦ h | inr h ↦ h ∙ sym (told_other o es e) ]
