-- The steps of which the places are known: those that write, commit or drop region sets, and those that move no file.
use Rattle.std.specs.Prelude.{◌≡◌, ◌+◌, ◌<◌}
use Rattle.hb_layout.specs.Lawful.{IsListNumber}
use Rattle.plain_model.specs.declared.put_cell.TheConstants.{MAX_NUMBER}
use Rattle.core_model.specs.declared.recipe.Recipe.TheVariants as recipes
use Rattle.core_model.specs.declared.step.Step.{Step}
use Rattle.core_model.specs.declared.step.Step.TheVariants as step
use Rattle.core_model.specs.declared.targets.OldFile.{OldFile}
use Rattle.core_model.specs.declared.targets.OldFile.TheVariants as old

abbrev pub IsServedFile : OldFile → Type 0
IsServedFile (old.Set table number) = IsListNumber number
IsServedFile (old.Tmp name) = Unit {0}
IsServedFile _ = ⊥

abbrev pub IsServed : Step → Type 0
IsServed (step.ListSnapshots who) = Unit {0}
IsServed (step.Start who job started drawn) = Unit {0}
IsServed (step.End actor refusal) = Unit {0}
IsServed (step.Abandon actor) = Unit {0}
IsServed (step.WriteTmp actor (recipes.Set table set) name cells bytes) = Unit {0}
IsServed (step.CommitRegions actor table number name set change) = (set.number ≡ number + 1) × (number < MAX_NUMBER)
IsServed (step.DropOld actor file) = IsServedFile file
IsServed _ = ⊥
