-- The calls of a store that the served steps make.
use Rattle.std.proofs.Common.{◌≡◌, ℕ, List, Some, None, refl, sym, ap, ◌∙◌}
use Rattle.ns_tree.specs.Step.{Create}
use Rattle.core_model.specs.declared.step.Step.{Step}
use Rattle.core_model.specs.declared.step.Step.TheVariants as step
use Rattle.core_model.specs.declared.targets.OldFile.TheVariants as old
use Rattle.core_model.specs.Allows.{IsWriting}
use Rattle.core_model.specs.Ops.{op_of}
use Rattle.core_model.specs.Site.{Tmp, site_text}
use Rattle.core_places.specs.Places.{gone_at, made_at, place_at}
use Rattle.core_places.specs.Served.{IsServed}
use Rattle.core_places.specs.declared.change.PlaceChange.{PlaceChange}
use Rattle.core_sites.specs.Calls.{call_of}
use Rattle.world_steps.specs.Writing.{HasBytes, call_between, write_of}

call_is : (p : Step) (bytes : List ℕ) → IsServed p → HasBytes (op_of p) bytes → call_between (place_at (gone_at (op_of p))) (place_at (made_at (op_of p))) bytes ≡ call_of (op_of p)
call_is (step.ListSnapshots who) bytes k h = refl
call_is (step.Start who job started drawn) bytes k h = refl
call_is (step.End actor refusal) bytes k h = refl
call_is (step.Abandon actor) bytes k h = refl
call_is (step.WriteTmp actor recipe name cells written) bytes k h = ap (λ xs. Some (Create (site_text (Tmp name)) xs)) (sym h)
call_is (step.CommitRegions actor table number name set change) bytes k h = refl
call_is (step.DropOld actor (old.Set table number)) bytes k h = refl
call_is (step.DropOld actor (old.Tmp name)) bytes k h = refl
call_is (step.DropOld actor file) bytes k h = absurd k
call_is _ bytes k h = absurd k

pub call_made : (p : Step) (change : PlaceChange) (bytes : List ℕ) → IsServed p → HasBytes (op_of p) bytes → change.gone ≡ place_at (gone_at (op_of p)) → change.made ≡ place_at (made_at (op_of p))
    → write_of change bytes ≡ call_of (op_of p)
call_made p change bytes k h g m = ap (λ x. call_between x change.made bytes) g ∙ ap (λ x. call_between (place_at (gone_at (op_of p))) x bytes) m ∙ call_is p bytes k h

-- those that write move a file
moves_file : (p : Step) → IsServed p → IsWriting p → place_at (gone_at (op_of p)) ≡ None → place_at (made_at (op_of p)) ≡ None → ⊥
moves_file (step.WriteTmp actor recipe name cells written) k w g m = cc
moves_file (step.CommitRegions actor table number name set change) k w g m = cc
moves_file (step.DropOld actor (old.Set table number)) k w g m = cc
moves_file (step.DropOld actor (old.Tmp name)) k w g m = cc
moves_file (step.DropOld actor file) k w g m = absurd k
moves_file (step.ListSnapshots who) k w g m = absurd w
moves_file (step.Start who job started drawn) k w g m = absurd w
moves_file (step.End actor refusal) k w g m = absurd w
moves_file (step.Abandon actor) k w g m = absurd w
moves_file _ k w g m = absurd k

pub change_moves : (p : Step) (change : PlaceChange) → IsServed p → IsWriting p → change.gone ≡ place_at (gone_at (op_of p)) → change.made ≡ place_at (made_at (op_of p)) → (change.gone ≡ None) × (change.made ≡ None) → ⊥
change_moves p change k w g m z = moves_file p k w (sym g ∙ z.0) (sym m ∙ z.1)
