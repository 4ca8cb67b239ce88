-- A pass that deletes the archived file.
use Rattle.std.proofs.Common.{◌≡◌, ℕ, ◌+◌, false, List, [], ◌∷◌, Some, None, refl, ap, arith}
use Rattle.std.specs.Prelude.{map}
use Rattle.std.specs.FinMap.{empty, keys}
use Rattle.plain_model.specs.declared.hold.Hold.TheVariants as holds
use Rattle.plain_model.specs.declared.job.Job.TheVariants as jobs
use Rattle.plain_model.specs.declared.who.Actor.{Actor}
use Rattle.plain_model.specs.Names.{Names}
use Rattle.plain_model.specs.Replies.{no_files}
use Rattle.core_model.specs.declared.snapshot.Snapshot.{Snapshot}
use Rattle.core_model.specs.declared.step.Started.TheVariants as started
use Rattle.core_model.specs.declared.step.Step.{Step}
use Rattle.core_model.specs.declared.step.Step.TheVariants as step
use Rattle.core_model.specs.Allows.{Allows}
use Rattle.core_model.specs.Replay.{after}
use Rattle.core_model.specs.State.{Parts, no_plan}
use Rattle.core_met.proofs.Begin.{who, no_entries}
use Rattle.core_met.proofs.Flush.{base}
use Rattle.core_met.proofs.Starts.{no_new_files}
use Rattle.core_met_cleaning.proofs.Compacting.{c10}

abbrev pub cleaner : Actor
cleaner = record { 0 = 3 }

-- the pass begins one moment after the file's time to live
abbrev pub clean : ℕ → Step
clean ttl = step.Start who jobs.Clean (started.Live cleaner) (record { regions = []; moment = Some (ttl + 10); holds = holds.Pass ∷ []; plan = no_plan; staged = [] })

abbrev pub delete : Step
delete = step.DeleteArchived cleaner base

abbrev pub cleaned : Step
cleaned = step.End cleaner None

abbrev pub d1 : ℕ → Parts
d1 ttl = after (clean ttl) (c10 ttl)

abbrev pub d2 : ℕ → Parts
d2 ttl = after delete (d1 ttl)

abbrev pub d3 : ℕ → Parts
d3 ttl = after cleaned (d2 ttl)

pub clean_allowed : (ttl : ℕ) → Allows (clean ttl) (c10 ttl)
clean_allowed ttl = record {
  activity = tt;
  limits = tt;
  unreferenced = [];
  are_unreferenced = tt;
  holds = refl;
  free = refl;
  files = no_files;
  are_files = no_new_files jobs.Clean (c10 ttl) refl;
  answered = (refl, record { number = refl; regions = refl; moment = refl; plan = refl; staged = refl });
}

abbrev no_snapshots : Names Snapshot
no_snapshots = empty

-- no snapshot is to be read
none_to_read : keys no_snapshots ≡ []
none_to_read = ap (λ (es : List (List ℕ × Snapshot)). map (λ (e : List ℕ × Snapshot). e.0) es) no_entries

pub delete_allowed : (ttl : ℕ) → Allows delete (d1 ttl)
delete_allowed ttl = record {
  live = refl;
  pass = record { is = record { actor = 3; moment = ttl + 10; unread = keys no_snapshots; read = λ b. false; touched = λ b. false }; stands = refl; own = refl };
  file = record { bytes = []; moment = 9 };
  archived = refl;
  expired = λ told. record { old = (omega arith) };
  all_read = none_to_read;
  unread = refl;
  no_back = λ r. refl;
  untouched = refl;
}
