-- What a step, and an entry, change of each part of the state that is kept at run time.
use Rattle.std.specs.Prelude.{ℕ, Bool, true, false, List, [], length, map, Option, Some, None}
use Rattle.plain_model.specs.declared.job.Job.{Job}
use Rattle.plain_model.specs.declared.region_key.RegionKey.{RegionKey}
use Rattle.plain_model.specs.declared.who.Actor.{Actor}
use Rattle.plain_model.specs.declared.who.Who.{Who}
use Rattle.plain_model.specs.Keys.{key_of}
use Rattle.core_model.specs.declared.recipe.Recipe.{Recipe}
use Rattle.core_model.specs.declared.recipe.Recipe.TheVariants as recipes
use Rattle.core_model.specs.declared.step.Drawn.{Drawn}
use Rattle.core_model.specs.declared.step.Started.{Started}
use Rattle.core_model.specs.declared.step.Started.TheVariants.{Live, Refused}
use Rattle.core_model.specs.declared.step.Step.{Step}
use Rattle.core_model.specs.declared.step.Step.TheVariants as step
use Rattle.core_model.specs.declared.targets.OldFile.{OldFile}
use Rattle.core_model.specs.declared.targets.OldFile.TheVariants as old
use Rattle.core_model.specs.Ops.{op_of}
use Rattle.core_places.specs.declared.change.PlaceChange.{PlaceChange}
use Rattle.core_places.specs.Places.{gone_at, made_at, place_at}
use Rattle.world_state.specs.declared.at_work.WorkChange.{WorkChange}
use Rattle.world_state.specs.declared.at_work.WorkChange.TheVariants as work
use Rattle.world_state.specs.declared.change.Change.{Change}
use Rattle.world_state.specs.declared.counts.CountChange.{CountChange}
use Rattle.world_state.specs.declared.counts.CountChange.TheVariants as count
use Rattle.world_state.specs.declared.sets.SetChange.{SetChange}
use Rattle.world_state.specs.declared.sets.SetChange.TheVariants as sets
use Rattle.world_state.specs.declared.written.WrittenChange.{WrittenChange}
use Rattle.world_state.specs.declared.written.WrittenChange.TheVariants as written

-- a file that is written draws a name; an activity that begins, its number and those of its regions
abbrev pub start_counts : Started → Drawn → CountChange
start_counts (Live actor) drawn = count.Actor (length drawn.regions)
start_counts (Refused reply) drawn = count.Nothing

abbrev pub count_change : Step → CountChange
count_change (step.WriteTmp actor recipe name cells bytes) = count.File
count_change (step.Start who job started drawn) = start_counts started drawn
count_change _ = count.Nothing

-- the keys of the regions that a step draws
abbrev pub start_keys : Started → Drawn → List RegionKey
start_keys (Live actor) drawn = map key_of drawn.regions
start_keys (Refused reply) drawn = []

abbrev pub keys_drawn : Step → List RegionKey
keys_drawn (step.Start who job started drawn) = start_keys started drawn
keys_drawn _ = []

abbrev pub place_change : Step → PlaceChange
place_change p = record { gone = place_at (gone_at (op_of p)); made = place_at (made_at (op_of p)) }

-- the file of a region set is written; a commit moves it, and it may be dropped
abbrev pub adds : Actor → Recipe → List ℕ → WrittenChange
adds actor (recipes.Set table set) name = written.Adds name (record { actor = actor.0; recipe = recipes.Set table set })
adds actor _ name = written.Same

abbrev pub drops_tmp : OldFile → WrittenChange
drops_tmp (old.Tmp name) = written.Takes name
drops_tmp _ = written.Same

abbrev pub written_change : Step → WrittenChange
written_change (step.WriteTmp actor recipe name cells bytes) = adds actor recipe name
written_change (step.CommitRegions actor table number name set change) = written.Takes name
written_change (step.DropOld actor file) = drops_tmp file
written_change _ = written.Same

abbrev pub drops_set : OldFile → SetChange
drops_set (old.Set table number) = sets.Drops table number
drops_set _ = sets.Same

abbrev pub set_change : Step → SetChange
set_change (step.CommitRegions actor table number name set change) = sets.Commits table
set_change (step.DropOld actor file) = drops_set file
set_change _ = sets.Same

-- an activity begins, has built what it planned, or ends
abbrev pub begins : Who → Job → Started → Drawn → WorkChange
begins who job (Live actor) drawn = work.Begins (record { live = record { actor = actor; job = job; holds = drawn.holds }; worker = who.worker; plan = drawn.plan })
begins who job (Refused reply) drawn = work.Same

abbrev pub work_change : Step → WorkChange
work_change (step.Start who job started drawn) = begins who job started drawn
work_change (step.CommitRegions actor table number name set change) = work.Frees actor
work_change (step.End actor refusal) = work.Ends actor
work_change (step.Abandon actor) = work.Ends actor
work_change _ = work.Same

-- the activity that a step ends
abbrev pub ending : Step → Option Actor
ending (step.End actor refusal) = Some actor
ending (step.Abandon actor) = Some actor
ending _ = None

-- ---- all parts

abbrev pub change_by : Step → Change
change_by p = record { counts = count_change p; drawn = keys_drawn p; places = place_change p; written = written_change p; sets = set_change p; works = work_change p }

abbrev pub nothing : Change
nothing = record { counts = count.Nothing; drawn = []; places = record { gone = None; made = None }; written = written.Same; sets = sets.Same; works = work.Same }

abbrev pub ended : Actor → Change
ended actor = record { counts = count.Nothing; drawn = []; places = record { gone = None; made = None }; written = written.Same; sets = sets.Same; works = work.Ends actor }

-- a failed entry changes nothing
abbrev pub change_made : Bool → Step → Change
change_made true p = nothing
change_made false p = change_by p
