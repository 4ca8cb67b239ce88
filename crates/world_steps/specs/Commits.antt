-- What files are written of, and what a commit of a written region set changes.
use Rattle.std.specs.Prelude.{◌≡◌, ℕ, ◌<◌, List, [], Option, Some, None}
use Rattle.std.specs.FinMap.{get}
use Rattle.region_set.specs.declared.region_set.RegionSet.{RegionSet}
use Rattle.region_set.specs.declared.set_state.SetState.TheVariants.{Dropped}
use Rattle.plain_model.specs.declared.event.Event.{Event}
use Rattle.plain_model.specs.declared.event.Event.TheVariants as event
use Rattle.plain_model.specs.declared.job.Job.{Job}
use Rattle.plain_model.specs.declared.job.Job.TheVariants as jobs
use Rattle.plain_model.specs.declared.put_cell.TheConstants.{MAX_NUMBER}
use Rattle.plain_model.specs.declared.who.Actor.{Actor}
use Rattle.plain_model.specs.LiveEvents.{job_of}
use Rattle.core_bytes.specs.FileOf.{IsSetFileOf}
use Rattle.core_model.specs.declared.plan.Plan.{Plan}
use Rattle.core_model.specs.declared.recipe.Recipe.{Recipe}
use Rattle.core_model.specs.declared.recipe.Recipe.TheVariants as recipes
use Rattle.core_model.specs.declared.step.Step.{Step}
use Rattle.core_model.specs.declared.step.Step.TheVariants as step
use Rattle.core_model.specs.FileChanges.{set_number}
use Rattle.core_model.specs.FileGuards.{next_name}
use Rattle.core_model.specs.SetGuards.{CanCommitRegions, new_schema}
use Rattle.core_model.specs.State.{Parts, Written}

-- ---- writing

-- the bytes are a file of the recipe, which is that of a region set
abbrev pub WritesSet : Recipe → List ℕ → Type 0
WritesSet (recipes.Set table set) bytes = IsSetFileOf table bytes set
WritesSet _ bytes = ⊥

-- a file is written under the next name
abbrev pub tmp_step : Actor → Recipe → List ℕ → Parts → Step
tmp_step actor recipe bytes s = step.WriteTmp actor recipe (next_name s.epoch s.files None) [] bytes

-- ---- committing

abbrev pub no_set : RegionSet
no_set = record { number = 0; state = Dropped; schema = record { table = []; families = [] }; regions = [] }

-- the set that a file was written of
abbrev pub set_in : Recipe → RegionSet
set_in (recipes.Set table set) = set
set_in _ = no_set

abbrev pub set_at : Option Written → RegionSet
set_at None = no_set
set_at (Some w) = set_in w.recipe

-- the change of a table that a job makes, of those that are served
abbrev pub change_by : Job → Plan → Event
change_by (jobs.Create t families versions splits) plan = event.Create (new_schema t families versions) plan.regions
change_by _ plan = event.Stop

abbrev pub change_at : Option Job → Plan → Event
change_at None plan = event.Stop
change_at (Some job) plan = change_by job plan

abbrev pub commit_step : Actor → List ℕ → ℕ → List ℕ → Parts → Step
commit_step actor table n name s = step.CommitRegions actor table n name (set_at (s.written name)) (change_at (job_of s.plain.live actor.0) (s.plans actor.0))

-- where the newest set has this number and another can follow, the written one may
abbrev pub MayCommit : ℕ → List ℕ → ℕ → List ℕ → Parts → Type 0
MayCommit a table n name s =
    set_number (get s.sets table) ≡ n → n < MAX_NUMBER
    → CanCommitRegions a table n name (set_at (s.written name)) (change_at (job_of s.plain.live a) (s.plans a)) s
