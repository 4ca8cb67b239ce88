-- Why a writing call is stopped where its store answered against what it was told.
use Rattle.std.proofs.Common.{◌≡◌, ℕ, Option, None, sym, ap, ◌∙◌, inl, inr}
use Rattle.ns_tree.specs.Tree.{Tree}
use Rattle.core_model.specs.declared.step.Step.{Step}
use Rattle.core_model.specs.Ops.{op_of}
use Rattle.core_places.specs.Places.{gone_at, made_at, place_at}
use Rattle.core_places.specs.declared.change.PlaceChange.{PlaceChange}
use Rattle.world_steps.specs.declared.refusal.Cause.{Cause}
use Rattle.world_steps.specs.declared.refusal.Cause.TheVariants as cause
use Rattle.world_steps.specs.Causes.{Keeps, StopsWrite, TakesEntry}
use Rattle.world_steps.specs.World.{Journaled, Seen, seen}
use Rattle.world_steps.specs.Writing.{IsAnswerAt}

wrong_stops : (worker : ℕ) (p : Step) (change : PlaceChange) (c : Cause) (a b : Seen) → IsAnswerAt change c → change.gone ≡ place_at (gone_at (op_of p)) → change.made ≡ place_at (made_at (op_of p)) → Keeps a b → a.told ≡ None → TakesEntry 0 a
    → StopsWrite worker p a b c
wrong_stops worker p change (cause.Damaged place damage) a b h g m k n t = record { keeps = k; at = elim h [ inl e ↦ inl (sym g ∙ e) | inr e ↦ inr (sym m ∙ e) ]; untold = n; takes = t }
wrong_stops worker p change cause.NoMemory a b h g m k n t = absurd h
wrong_stops worker p change (cause.Closed i) a b h g m k n t = absurd h
wrong_stops worker p change cause.JournalFull a b h g m k n t = absurd h
wrong_stops worker p change (cause.Spent i) a b h g m k n t = absurd h
wrong_stops worker p change cause.NsFault a b h g m k n t = absurd h

pub wrong_in : {N C : Type 0} (told : N → Option Tree) (faults : N → ℕ) (v w u : Journaled N C) (worker : ℕ) (p : Step) (change : PlaceChange) (c : Cause) → v ≡ w → u.opening ≡ v.opening → u.entries ≡ v.entries → told u.ns ≡ told v.ns
    → told v.ns ≡ None → TakesEntry 0 (seen told faults w) → IsAnswerAt change c → change.gone ≡ place_at (gone_at (op_of p)) → change.made ≡ place_at (made_at (op_of p)) → StopsWrite worker p (seen told faults w) (seen told faults u) c
wrong_in {N} {C} told faults v w u worker p change c e o h t n k x g m =
    wrong_stops worker p change c (seen told faults w) (seen told faults u) x g m
    (record { opening = o ∙ ap (λ (y : Journaled N C). y.opening) e; entries = h ∙ ap (λ (y : Journaled N C). y.entries) e; told = t ∙ ap (λ (y : Journaled N C). told y.ns) e })
    (sym (ap (λ (y : Journaled N C). told y.ns) e) ∙ n) k
