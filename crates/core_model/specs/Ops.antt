-- What a step does with the files.
use Rattle.std.specs.Prelude.{[]}
use Rattle.core_model.specs.Site.{Site, Tmp, RegionSet, StoreList, Live, Archived, WorkInfo, WorkManifest, Staged}
use Rattle.core_model.specs.declared.entry.Entry.TheVariants as entries
use Rattle.core_model.specs.declared.targets.ManifestPart.TheVariants as parts
use Rattle.core_model.specs.declared.targets.MoveFrom.TheVariants.{Written, WrittenBulk, StagedBulk}
use Rattle.core_model.specs.declared.targets.OldFile.{OldFile}
use Rattle.core_model.specs.declared.targets.OldFile.TheVariants as old
use Rattle.core_model.specs.declared.step.Step.{Step}
use Rattle.core_model.specs.declared.step.Step.TheVariants as step
use Rattle.core_model.specs.Disk.{Op, Nothing, Create, Rename, Remove, Touch, Publish, Withdraw, back_site}
use Rattle.core_model.specs.Entries.{file_of}

-- where an old file stands
abbrev pub old_site : OldFile → Site
old_site (old.List region number) = StoreList region.table region.region number
old_site (old.Set table number) = RegionSet table number
old_site (old.Tmp name) = Tmp name
old_site (old.Work snapshot parts.Info) = WorkInfo snapshot
old_site (old.Work snapshot parts.Data) = WorkManifest snapshot
old_site (old.Staged folder family name) = Staged folder family name

abbrev pub op_of : Step → Op
op_of (step.WriteTmp actor recipe name cells bytes) = Create (Tmp name) bytes
op_of (step.Place actor (Written name) base cells) = Rename (Tmp name) (Live base)
op_of (step.Place actor (WrittenBulk name) base cells) = Rename (Tmp name) (Live base)
op_of (step.Place actor (StagedBulk folder name) base cells) = Rename (Staged folder base.family name) (Live base)
op_of (step.CommitList actor region number name why list cells planned) = Rename (Tmp name) (StoreList region.table region.region list.number)
op_of (step.CommitRegions actor table number name set change) = Rename (Tmp name) (RegionSet table set.number)
op_of (step.DropOld actor (old.List region number)) = Remove (StoreList region.table region.region number)
op_of (step.DropOld actor (old.Set table number)) = Remove (RegionSet table number)
op_of (step.DropOld actor (old.Tmp name)) = Remove (Tmp name)
op_of (step.DropOld actor (old.Work snapshot parts.Info)) = Remove (WorkInfo snapshot)
op_of (step.DropOld actor (old.Work snapshot parts.Data)) = Remove (WorkManifest snapshot)
op_of (step.DropOld actor (old.Staged folder family name)) = Remove (Staged folder family name)
op_of (step.Stamp actor base moment) = Touch (Live base) moment
op_of (step.Archive actor base) = Rename (Live base) (Archived base)
op_of (step.BackRef actor base region) = Create (back_site base region) []
op_of (step.Link actor base region) = Create (Live (file_of region (entries.Link base))) []
op_of (step.Half actor entry region bytes) = Create (Live (file_of region entry)) bytes
op_of (step.Unlink actor entry region) = Remove (Live (file_of region entry))
op_of (step.Manifest actor parts.Info snapshot moment bytes) = Create (WorkInfo snapshot) bytes
op_of (step.Manifest actor parts.Data snapshot moment bytes) = Create (WorkManifest snapshot) bytes
op_of (step.Complete actor snapshot copied) = Publish snapshot
op_of (step.Uncomplete actor snapshot) = Withdraw snapshot
op_of (step.CleanBackRef actor base region) = Remove (back_site base region)
op_of (step.DeleteArchived actor base) = Remove (Archived base)
op_of _ = Nothing
