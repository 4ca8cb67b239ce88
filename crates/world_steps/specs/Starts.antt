-- What a start draws, and what it answers.
use Rattle.std.specs.Prelude.{◌≡◌, ℕ, Bool, not, List, [], ◌∷◌, ◌++◌, map, Option, Some, None, option_map}
use Rattle.cell_sight.specs.Member.{Member}
use Rattle.hb_records.specs.declared.region_info.RegionInfo.{RegionInfo}
use Rattle.plain_model.specs.declared.hold.Hold.{Hold}
use Rattle.plain_model.specs.declared.job.Job.{Job}
use Rattle.plain_model.specs.declared.job.Job.TheVariants as jobs
use Rattle.plain_model.specs.declared.parts.Live.{Live}
use Rattle.plain_model.specs.declared.parts.PlainTable.{PlainTable}
use Rattle.plain_model.specs.declared.region_key.RegionKey.{RegionKey}
use Rattle.plain_model.specs.declared.who.Actor.{Actor}
use Rattle.plain_model.specs.declared.who.Who.{Who}
use Rattle.plain_model.specs.Held.{held_by, lesser}
use Rattle.plain_model.specs.Holds.{holds_of}
use Rattle.plain_model.specs.Keys.{key_of}
use Rattle.plain_model.specs.Replies.{Files, are_splits, first, refusals, repeated, when}
use Rattle.plain_model.specs.declared.reply.Reply.{Reply}
use Rattle.plain_model.specs.declared.reply.Reply.TheVariants.{TableExists, DuplicateFamily, BadSplitKey, NameTaken}
use Rattle.core_model.specs.declared.plan.Plan.{Plan}
use Rattle.core_model.specs.declared.step.Drawn.{Drawn}
use Rattle.core_model.specs.declared.step.Started.{Started}
use Rattle.core_model.specs.declared.step.Started.TheVariants as started
use Rattle.core_model.specs.declared.step.Step.{Step}
use Rattle.core_model.specs.declared.step.Step.TheVariants as step
use Rattle.core_model.specs.Plans.{planned_entries}
use Rattle.core_model.specs.StartGuards.{AreFiles, StandsBelow, regions_for}
use Rattle.core_model.specs.State.{Parts, no_plan}
use Rattle.world_steps.specs.declared.refusal.Cause.TheVariants as cause
use Rattle.world_steps.specs.declared.refusal.Refusal.{Refusal}
use Rattle.world_steps.specs.declared.refusal.Refusal.TheVariants as refusal
use Rattle.world_steps.specs.Causes.{IsShut, Keeps, TakesEntry}
use Rattle.world_steps.specs.World.{Seen, state_of}

-- the jobs whose starts are served
abbrev pub IsServedJob : Job → Type 0
IsServedJob (jobs.Create t families versions splits) = Unit {0}
IsServedJob _ = ⊥

-- ---- what is drawn

-- what a job builds of these regions
abbrev pub plan_of : Job → List RegionInfo → Parts → Plan
plan_of job regions s = record { regions = regions; entries = planned_entries job regions s.plain s.snapshots s.lists }

-- a start that is answered Live draws the job's regions, one that is refused nothing
abbrev pub drawn_by : Job → Started → Parts → Drawn
drawn_by job (started.Live actor) s = record { regions = regions_for job s; moment = None; holds = holds_of [] s.plain job; plan = plan_of job (regions_for job s) s; staged = [] }
drawn_by job (started.Refused reply) s = record { regions = []; moment = None; holds = holds_of [] s.plain job; plan = no_plan; staged = [] }

abbrev pub start_step : Who → Job → Started → Parts → Step
start_step who job answer s = step.Start who job answer (drawn_by job answer s)

-- ---- why nothing is started

-- the least live actor with a hold in the way, and its first such hold
abbrev pub IsHeld : Job → Actor → Hold → Seen → Type 0
IsHeld job by hold a = held_by (state_of a).now.plain.live (holds_of [] (state_of a).now.plain job) ≡ Some (by, hold)

abbrev pub RefusesStart : Job → Seen → Seen → Refusal → Type 0
RefusesStart job a b (refusal.Stop c) = Keeps a b × IsShut 1 a c
RefusesStart job a b (refusal.Held by hold) = Keeps a b × TakesEntry 1 a × IsHeld job by hold a
RefusesStart job a b _ = ⊥

abbrev pub IsInTheWay : Job → Seen → Refusal → Type 0
IsInTheWay job a (refusal.Stop cause.NoMemory) = Unit {0}
IsInTheWay job a (refusal.Held by hold) = IsHeld job by hold a
IsInTheWay job a _ = ⊥

-- ---- what is answered

-- the next actor
abbrev pub next_actor : Parts → Started
next_actor s = started.Live (record { 0 = s.begun })

-- the refusals of a Create in order, by whether the table exists and whether a name is taken
abbrev pub refusals_of_create : Bool → List (List ℕ) → List (List ℕ) → Bool → List (Option Reply)
refusals_of_create exists families splits taken =
    when exists TableExists ∷ option_map DuplicateFamily (repeated families) ∷ when (not (are_splits splits)) BadSplitKey ∷ when taken NameTaken ∷ []

-- a job is refused so, or not, by what its refusals ask of files
pub record IsJudged (job : Job) (refusal : Option Reply) (s : Parts) : Type 0 where
  pub files : Files
  pub are_files : AreFiles files job (regions_for job s) s
  pub is_first : first (refusals files s.plain job) ≡ refusal

-- ---- names that are taken

-- regions of a table
abbrev pub AreOf : List ℕ → List RegionInfo → Type 0
AreOf table regions = (r : RegionInfo) → Member r regions → r.table ≡ table

-- the keys of a table's regions, split ones too
abbrev pub keys_in : Option PlainTable → List RegionKey
keys_in None = []
keys_in (Some t) = map (λ (x : RegionInfo × Bool). key_of x.0) t.regions

-- a key stands twice
pub record Repeats (keys : List RegionKey) : Type 0 where
  pub before : List RegionKey
  pub between : List RegionKey
  pub behind : List RegionKey
  pub key : RegionKey
  pub are : keys ≡ before ++ (key ∷ between ++ (key ∷ behind))

-- a key was drawn before, is that of a region of its table, or has a directory with a file
pub data IsKeyTaken (listed : List RegionKey) (s : Parts) (key : RegionKey) : Type 0 where
  was_drawn : Member key s.drawn → IsKeyTaken listed s key
  is_listed : Member key listed → IsKeyTaken listed s key
  has_files : StandsBelow s.disk key → IsKeyTaken listed s key

-- one of some keys is taken
pub record HasTaken (listed : List RegionKey) (s : Parts) (keys : List RegionKey) : Type 0 where
  pub key : RegionKey
  pub stands : Member key keys
  pub taken : IsKeyTaken listed s key

-- ---- the lesser of two actors

abbrev pub lesser_of : Option Live → Option Live → Option Live
lesser_of None b = b
lesser_of (Some a) b = lesser a b
