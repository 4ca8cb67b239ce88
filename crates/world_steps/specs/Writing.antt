-- The calls of a store that change files, by the places between which a file is moved.
use Rattle.std.specs.Prelude.{◌≡◌, ◌⊎◌, ℕ, List, Option, Some, None}
use Rattle.ns_tree.specs.Namespace.{IsDone, IsRefused}
use Rattle.ns_tree.specs.Step.{Write, Create, Rename, Delete}
use Rattle.ns_tree.specs.Tree.{Tree}
use Rattle.ns_tree.specs.declared.namespace.NsError.{NsError}
use Rattle.ns_tree.specs.declared.namespace.NsError.TheVariants as errors
use Rattle.core_model.specs.Disk.{Op}
use Rattle.core_model.specs.Disk as op
use Rattle.core_places.specs.declared.change.PlaceChange.{PlaceChange}
use Rattle.world_steps.specs.declared.refusal.Cause.{Cause}
use Rattle.world_steps.specs.declared.refusal.Cause.TheVariants.{Damaged}
use Rattle.world_steps.specs.declared.writing.Unmade.{Unmade}
use Rattle.world_steps.specs.declared.writing.Unmade.TheVariants as unmade

-- from one place to another; a file that is made has these bytes
abbrev pub call_between : Option (List ℕ) → Option (List ℕ) → List ℕ → Option Write
call_between None None bytes = None
call_between None (Some place) bytes = Some (Create place bytes)
call_between (Some place) None bytes = Some (Delete place)
call_between (Some from) (Some to) bytes = Some (Rename from to)

abbrev pub write_of : PlaceChange → List ℕ → Option Write
write_of change bytes = call_between change.gone change.made bytes

-- the call is done, or not
abbrev pub IsMade : Option Write → Option Tree → Option Tree → Type 0
IsMade None old new = new ≡ old
IsMade (Some call) old new = IsDone call old new

abbrev pub IsUnmade : Option Write → NsError → Option Tree → Option Tree → Type 0
IsUnmade None error old new = ⊥
IsUnmade (Some call) error old new = IsRefused call error old new

-- what an operation writes are these bytes
abbrev pub HasBytes : Op → List ℕ → Type 0
HasBytes (op.Create p written) bytes = written ≡ bytes
HasBytes _ bytes = Unit {0}

-- damage at one of its places
abbrev pub IsAnswerAt : PlaceChange → Cause → Type 0
IsAnswerAt change (Damaged place damage) = (change.gone ≡ Some place) ⊎ (change.made ≡ Some place)
IsAnswerAt change _ = ⊥

-- why it was not made
abbrev pub unmade_by : NsError → Unmade
unmade_by errors.Failed = unmade.Failed
unmade_by errors.NoMemory = unmade.NoMemory
unmade_by _ = unmade.Wrong
