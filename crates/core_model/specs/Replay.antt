-- The state after the entries of a journal.
use Rattle.std.specs.Prelude.{ℕ, ◌+◌, Bool, true, false, List, [], ◌∷◌, take, Option, Some, None}
use Rattle.plain_model.specs.After.{after_all}
use Rattle.core_model.specs.declared.journal.JournalEntry.{JournalEntry}
use Rattle.core_model.specs.declared.journal.Journal.{Journal}
use Rattle.core_model.specs.declared.opening.Opening.{Opening}
use Rattle.core_model.specs.declared.step.Step.{Step}
use Rattle.core_model.specs.Disk.{disk_after}
use Rattle.core_model.specs.Ops.{op_of}
use Rattle.core_model.specs.Events.{events_of}
use Rattle.core_model.specs.State.{Parts, State}
use Rattle.core_model.specs.FileChanges.{files_by, ids_by, drawn_by, made_by, sizes_by, written_by, lists_by, compacted_by, sets_by, snapshots_by}
use Rattle.core_model.specs.ActorChanges.{begun_by, owners_by, plans_by, pins_by, stamps_by, loads_by, placed_by, waiting_by, captures_by, changed_by, parted_by}
use Rattle.core_model.specs.PassChanges.{pass_by}
use Rattle.core_model.specs.Opened.{opened}

-- what a step makes of each part
abbrev pub after : Step → Parts → Parts
after p s = record {
  told = s.told;
  disk = disk_after (op_of p) s.disk;
  opened = s.opened;
  staged = s.staged;
  epoch = s.epoch;
  ttl = s.ttl;
  files = files_by p s.files;
  ids = ids_by p s.ids;
  begun = begun_by p s.begun;
  drawn = drawn_by p s.drawn;
  made = made_by p s.made;
  sizes = sizes_by p s.opened s.sizes;
  written = written_by p s.written;
  lists = lists_by p s.lists;
  compacted = compacted_by p s.lists s.compacted;
  sets = sets_by p s.sets;
  snapshots = snapshots_by p s.snapshots;
  owners = owners_by p s.owners;
  plans = plans_by p s.plans;
  pins = pins_by p s.lists s.pins;
  stamps = stamps_by p s.stamps;
  loads = loads_by p s.loads;
  placed = placed_by p s.placed;
  captures = captures_by p s.lists s.captures;
  changed = changed_by p s.changed;
  parted = parted_by p s.parted;
  waiting = waiting_by p s.waiting;
  pass = pass_by p s.lists s.snapshots s.pass;
  plain = after_all s.plain (events_of p);
}

-- a failed entry changes nothing but that the world is closed
abbrev pub unless : Bool → (Parts → Parts) → Parts → Parts
unless true f s = s
unless false f s = f s

abbrev pub closed_by : ℕ → Bool → Option ℕ → Option ℕ
closed_by n true closed = Some n
closed_by n false closed = closed

-- the state after an entry, which is the n-th
abbrev pub step : ℕ → State → JournalEntry → State
step n s e = record { now = unless e.failed (after e.step) s.now; other = after e.step s.other; closed = closed_by n e.failed s.closed }

-- the state after some entries, of which the first is the n-th
abbrev pub replay_from : ℕ → State → List JournalEntry → State
replay_from n s [] = s
replay_from n s (e ∷ es) = replay_from (n + 1) (step n s e) es

abbrev pub begun : Opening → State
begun o = record { now = opened o; other = opened o; closed = None }

unfoldable pub replay : Opening → List JournalEntry → State
replay o es = replay_from 0 (begun o) es

-- the state after the first n entries of a journal
abbrev pub state_at : Journal → ℕ → State
state_at j n = replay j.opening (take n j.entries)
