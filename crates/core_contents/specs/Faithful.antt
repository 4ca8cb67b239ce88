-- That the files of the core have what the plain machine has.
use Rattle.core_model.specs.State.{Parts, State}
use Rattle.core_contents.specs.BuiltNumbers.{BuiltNumbers}
use Rattle.core_contents.specs.ContentFacts.{HasContents, HasKept, SnapshotsAgree, CapturesAgree, HasFronts, HasFamilies}
use Rattle.core_contents.specs.PlanFacts.{PlansExact}

pub record IsFaithful (s : Parts) : Type 0 where
  -- the files of each region have its cells, and its list its number
  pub contents : HasContents s.made s.lists s.plain.tables s.plain.stable
  pub kept : HasKept s.lists s.plain.tables s.plain.kept
  -- captures and completed snapshots have those of the plain ones
  pub copied : CapturesAgree s.made s.captures s.plain.captures
  pub copies : SnapshotsAgree s.made s.snapshots s.plain.snapshots
  -- what is planned, and the number of a list that is built, are what the plain machine will make
  pub exact : PlansExact s.plans s.plain.live s.plain.tables s.snapshots s.lists
  pub numbers : BuiltNumbers s
  -- what a major compaction pinned stands in front of its list
  pub fronts : HasFronts s.made s.lists s.pins s.plain
  -- the cells of entries are of their families
  pub families : HasFamilies s.made s.plain.tables s.lists s.snapshots s.captures s.plans s.pins

-- both states after a failed operation are faithful
pub record IsFaithfulState (s : State) : Type 0 where
  pub now : IsFaithful s.now
  pub other : IsFaithful s.other
