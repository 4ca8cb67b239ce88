-- The plain state that the machine stands for.
use Rattle.plain_model.specs.Plain as model
use Rattle.plain_machine.specs.declared.plain.Plain.{Plain}
use Rattle.plain_events.specs.State.{state_with}

-- the state of a machine
abbrev pub state_of : Plain → model.Plain
state_of machine = state_with machine.state machine.snapshots.entries
