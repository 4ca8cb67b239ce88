-- When what is kept at run time is the replay of a journal, and there is room for what may come.
use Rattle.std.specs.Prelude.{◌≡◌, ◌+◌, ◌≤◌, IfSome, vec_len, vec_capacity}
use Rattle.core_model.specs.declared.journal.TheConstants.{JOURNAL_LIMIT}
use Rattle.core_model.specs.declared.step.Step.{Step}
use Rattle.core_model.specs.Ops.{op_of}
use Rattle.core_sites.specs.Shows.{MakesSpelled}
use Rattle.world_state.specs.declared.kept.Core.TheInside.{Inside}
use Rattle.world_state.specs.Changes.{change_by}
use Rattle.world_state.specs.Held.{Held, state_of}
use Rattle.world_state.specs.Parts.{IsReplay}
use Rattle.world_state.specs.Rooms.{HasPlaces}

abbrev pub held : Inside → Held
held a = record { opening = a.opening; entries = a.entries.items; prepared = a.prepared }

-- all that the step needs when it is made
pub record IsReady (a : Inside) (p : Step) : Type 0 where
  pub spelled : MakesSpelled (op_of p)
  pub change : a.ready ≡ change_by p
  pub places : HasPlaces a.state a.ready
  pub entry : vec_len a.entries + vec_len a.state.works + 2 ≤ vec_capacity a.entries

pub record HasRoom (a : Inside) : Type 0 where
  -- for the ends of the activities at work
  pub ends : vec_len a.entries + vec_len a.state.works ≤ vec_capacity a.entries
  pub few : vec_len a.entries + vec_len a.state.works ≤ JOURNAL_LIMIT
  pub prepared : IfSome a.prepared (IsReady a)

pub record Represents (a : Inside) : Type 0 where
  pub replay : IsReplay a.state (state_of (held a))
  pub room : HasRoom a
