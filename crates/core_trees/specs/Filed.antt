-- What stands of lists, sets and snapshots, beside what the core has of them.
use Rattle.std.specs.Prelude.{◌≡◌, ℕ, ◌<◌, List, Option, Some, None}
use Rattle.std.specs.FinMap.{get}
use Rattle.ns_tree.specs.declared.file.FileState.{FileState}
use Rattle.region_set.specs.declared.region_set.RegionSet.{RegionSet}
use Rattle.plain_model.specs.declared.region_key.RegionKey.{RegionKey}
use Rattle.plain_model.specs.declared.parts.PlainTable.{PlainTable}
use Rattle.plain_model.specs.Names.{Names}
use Rattle.core_model.specs.declared.plan.Plan.{Plan}
use Rattle.core_model.specs.declared.region_files.RegionFiles.{RegionFiles}
use Rattle.core_model.specs.declared.snapshot.Snapshot.{Snapshot}
use Rattle.core_model.specs.Actors.{Counts}
use Rattle.core_model.specs.Disk.{lists_of, sets_of, infos_of, manifests_of}
use Rattle.core_model.specs.FileChanges.{set_number}
use Rattle.core_model.specs.State.{Parts, State}

-- none of these files has a greater number
abbrev pub IsAbove : (ℕ → Option FileState) → ℕ → Type 0
IsAbove files n = (m : ℕ) → n < m → files m ≡ None

-- no list of a region that counts is newer than its newest
pub record HasNewestLists (files : RegionKey → ℕ → Option FileState) (lists : RegionKey → RegionFiles) (tables : Names PlainTable) (plans : ℕ → Plan) : Type 0 where
  pub at : (r : RegionKey) → Counts tables plans r → IsAbove (files r) (lists r).number

-- no set of a table is newer than its newest; without one there is none
pub record HasNewestSets (files : List ℕ → ℕ → Option FileState) (sets : Names RegionSet) : Type 0 where
  pub at : (table : List ℕ) → IsAbove (files table) (set_number (get sets table))

-- both files of a complete snapshot stand, and neither of any other name
pub record HasStoredSnapshots (infos manifests : List ℕ → Option FileState) (snapshots : Names Snapshot) : Type 0 where
  pub missing : (name : List ℕ) → get snapshots name ≡ None → (infos name ≡ None) × (manifests name ≡ None)
  pub stored : (name : List ℕ) (x : Snapshot) → get snapshots name ≡ Some x → ((f : FileState) × (infos name ≡ Some f)) × ((f : FileState) × (manifests name ≡ Some f))

pub record IsFiled (s : Parts) : Type 0 where
  pub lists : HasNewestLists (lists_of s.disk) s.lists s.plain.tables s.plans
  pub sets : HasNewestSets (sets_of s.disk) s.sets
  pub snapshots : HasStoredSnapshots (infos_of s.disk) (manifests_of s.disk) s.snapshots

-- so it is in both states after a failed operation
pub record IsFiledState (s : State) : Type 0 where
  pub now : IsFiled s.now
  pub other : IsFiled s.other
