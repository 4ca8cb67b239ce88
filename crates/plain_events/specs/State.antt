-- The plain state that the machine's lists stand for.
use Rattle.std.specs.Prelude.{◌≡◌, ℕ, ◌+◌, ◌≤◌, List, [], None}
use Rattle.std.specs.FinMap.{empty}
use Rattle.plain_model.specs.declared.event.Event.{Event}
use Rattle.plain_model.specs.declared.event.Event.TheVariants.{Put, Draw}
use Rattle.plain_model.specs.declared.parts.PlainSnapshot.{PlainSnapshot}
use Rattle.plain_model.specs.After.{after}
use Rattle.plain_model.specs.declared.put_cell.TheConstants.{MAX_NUMBER}
use Rattle.plain_model.specs.Plain.{Plain}
use Rattle.plain_events.specs.declared.state.State.{State}
use Rattle.plain_events.specs.Parts.{by_region, by_actor}
use Rattle.plain_tables.specs.ByName.{by_name, by_entry}

-- the state of the parts, with these snapshots
abbrev pub state_with : State → List (List ℕ × PlainSnapshot) → Plain
state_with parts snapshots = record {
  tables = by_name parts.tables;
  stable = by_region [] parts.stable;
  mem = by_region [] parts.mem;
  frozen = by_region 0 parts.frozen;
  seq = by_region 0 parts.seq;
  kept = by_region 0 parts.kept;
  snapshots = by_entry snapshots;
  live = parts.live;
  captures = by_actor parts.captures;
  noted = by_actor parts.noted;
}

-- no table, no snapshot, no activity
abbrev pub nothing : Plain
nothing = record {
  tables = empty;
  stable = λ k. [];
  mem = λ k. [];
  frozen = λ k. 0;
  seq = λ k. 0;
  kept = λ k. 0;
  snapshots = empty;
  live = [];
  captures = λ a k. None;
  noted = λ a k. None;
}

-- the number that an event raises stays within its limit
abbrev pub HasNumber : Event → Plain → Type 0
HasNumber (Put k c) s = s.seq k + 1 ≤ MAX_NUMBER
HasNumber (Draw k) s = s.seq k + 1 ≤ MAX_NUMBER
HasNumber _ s = Unit {0}

-- a state is that after an event, once the snapshots are those after it
abbrev pub IsAfter : Event → State → List (List ℕ × PlainSnapshot) → State → Type 0
IsAfter e old snapshots new = (entries : List (List ℕ × PlainSnapshot)) → by_entry entries ≡ (after e (state_with old snapshots)).snapshots → state_with new entries ≡ after e (state_with old snapshots)
