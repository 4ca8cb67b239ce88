use Rattle.std.specs.Prelude.{ℕ, List, codes}
use Rattle.region_set.specs.declared.set_state.SetState.{SetState}
use Rattle.region_set.specs.declared.set_state.SetState.TheVariants.{Enabled, Disabled, Dropped}

-- the word of a set's state
abbrev pub state_word : SetState → List ℕ
state_word Enabled = codes "enabled"
state_word Disabled = codes "disabled"
state_word Dropped = codes "dropped"

-- any state
abbrev pub IsState : SetState → Type 0
IsState state = Unit {0}
