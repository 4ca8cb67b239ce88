-- What an entry needs when it is made.
use Rattle.std.specs.Prelude.{◌≡◌, ℕ, ◌+◌, ◌<◌, ◌^◌, true, List, Option, Some, None, IfSome, vec_len, vec_capacity}
use Rattle.std.specs.List.{All}
use Rattle.hb_cell.specs.Order.{bytes_cmp}
use Rattle.reserved_map.specs.Filled.{is_reserved}
use Rattle.reserved_map.specs.Keys.{region_cmp}
use Rattle.core_model.specs.declared.step.Drawn.{Drawn}
use Rattle.core_model.specs.declared.step.Started.{Started}
use Rattle.core_model.specs.declared.step.Started.TheVariants.{Live, Refused}
use Rattle.core_model.specs.declared.step.Step.{Step}
use Rattle.core_model.specs.declared.step.Step.TheVariants as step
use Rattle.world_state.specs.declared.at_work.Begun.{Begun}
use Rattle.world_state.specs.declared.at_work.WorkChange.{WorkChange}
use Rattle.world_state.specs.declared.at_work.WorkChange.TheVariants as work
use Rattle.world_state.specs.declared.change.Change.{Change}
use Rattle.world_state.specs.declared.counts.CountChange.{CountChange}
use Rattle.world_state.specs.declared.counts.CountChange.TheVariants as count
use Rattle.world_state.specs.declared.counts.Counts.{Counts}
use Rattle.world_state.specs.declared.sets.SetChange.{SetChange}
use Rattle.world_state.specs.declared.sets.SetChange.TheVariants as sets
use Rattle.world_state.specs.declared.state.CoreState.{CoreState}
use Rattle.world_state.specs.declared.written.WrittenChange.{WrittenChange}
use Rattle.world_state.specs.declared.written.WrittenChange.TheVariants as written
use Rattle.world_state.specs.Changes.{ending}

-- what is counted fits
abbrev pub CountsFit : CountChange → Counts → Type 0
CountsFit count.Nothing c = Unit {0}
CountsFit count.File c = c.files + 1 < 2 ^ 64
CountsFit (count.Actor ids) c = (c.ids + ids < 2 ^ 64) × (c.begun + 1 < 2 ^ 32)

-- a fact of a file that is added, of a table whose set is committed, and of an activity that begins
abbrev pub OnAdd : WrittenChange → (List ℕ → Type 0) → Type 0
OnAdd (written.Adds name file) P = P name
OnAdd _ P = Unit {0}

abbrev pub OnCommit : SetChange → (List ℕ → Type 0) → Type 0
OnCommit (sets.Commits table) P = P table
OnCommit _ P = Unit {0}

abbrev pub OnBegin : WorkChange → Type 0 → Type 0
OnBegin (work.Begins activity) P = P
OnBegin _ P = Unit {0}

-- there is memory for a change
pub record HasPlaces (s : CoreState) (change : Change) : Type 0 where
  pub counts : CountsFit change.counts s.counts
  pub drawn : All (λ key. is_reserved region_cmp s.drawn key ≡ true) change.drawn
  pub places : IfSome change.places.made (λ place. is_reserved bytes_cmp s.places place ≡ true)
  pub written : OnAdd change.written (λ name. is_reserved bytes_cmp s.written name ≡ true)
  pub sets : OnCommit change.sets (λ table. is_reserved bytes_cmp s.sets table ≡ true)
  pub works : OnBegin change.works (vec_len s.works < vec_capacity s.works)

-- a fact of each step but the ends of activities, which need not be prepared
abbrev pub NeedsReady : Step → Type 0 → Type 0
NeedsReady p P = ending p ≡ None → P

-- what a start hands over is what its step has
abbrev pub GivesLive : Started → Drawn → Option Begun → Type 0
GivesLive (Live actor) drawn begun = begun ≡ Some (record { holds = drawn.holds; plan = drawn.plan })
GivesLive (Refused reply) drawn begun = Unit {0}

abbrev pub GivesBegun : Step → Option Begun → Type 0
GivesBegun (step.Start who job started drawn) begun = GivesLive started drawn begun
GivesBegun _ begun = Unit {0}
