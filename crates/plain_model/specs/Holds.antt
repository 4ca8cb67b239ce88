-- What each job holds from its start on.
use Rattle.std.specs.Prelude.{ℕ, List, [], ◌∷◌, ◌++◌, map, option_to_list}
use Rattle.plain_model.specs.declared.hold.Hold.{Hold}
use Rattle.plain_model.specs.declared.hold.Hold.TheVariants.{Table, Region, Flush, Compact, Load, Take, Use, Erase, Pass}
use Rattle.plain_model.specs.declared.job.Job.{Job}
use Rattle.plain_model.specs.declared.job.Job.TheVariants as jobs
use Rattle.plain_model.specs.declared.region_key.RegionKey.{RegionKey}
use Rattle.plain_model.specs.Plain.{Plain}
use Rattle.plain_model.specs.Found.{open_keys, key_with, table_of_snapshot}

-- the region of the row, where there is one
abbrev pub row_region : Plain → List ℕ → List ℕ → List RegionKey
row_region s t row = option_to_list (key_with s t row)

-- the holds of a job. The split regions that no half file refers to are given, for the janitor
abbrev pub holds_of : List RegionKey → Plain → Job → List Hold
holds_of unreferenced s jobs.ListSnapshots = []
holds_of unreferenced s (jobs.Put t cell) = []
holds_of unreferenced s (jobs.Scan t) = []
holds_of unreferenced s (jobs.Create t families versions splits) = Table t ∷ []
holds_of unreferenced s (jobs.Flush t) = map Flush (open_keys s t)
holds_of unreferenced s (jobs.Compact t major) = map Compact (open_keys s t)
holds_of unreferenced s (jobs.Discharge t) = map Compact (open_keys s t)
holds_of unreferenced s (jobs.Split t row) = map Region (row_region s t row)
holds_of unreferenced s (jobs.Disable t) = Table t ∷ []
holds_of unreferenced s (jobs.Enable t) = Table t ∷ []
holds_of unreferenced s (jobs.Drop t) = Table t ∷ []
holds_of unreferenced s (jobs.Snapshot t name) = Take name t ∷ []
holds_of unreferenced s (jobs.DeleteSnapshot name) = Erase name ∷ []
holds_of unreferenced s (jobs.Clone name t) = Table t ∷ Use name ∷ []
holds_of unreferenced s (jobs.Restore name) = map Table (option_to_list (table_of_snapshot s name)) ++ Use name ∷ []
holds_of unreferenced s (jobs.Bulk t folder) = Load t ∷ []
holds_of unreferenced s jobs.Janitor = map Region unreferenced
holds_of unreferenced s jobs.Clean = Pass ∷ []
