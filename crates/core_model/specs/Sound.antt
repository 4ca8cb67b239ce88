-- What holds in every state that allowed entries lead to.
use Rattle.std.specs.Prelude.{◌≡◌, ℕ, [], None}
use Rattle.core_model.specs.ActorFacts.{AreNumbered, HoldsApart, HoldsFit, HasUses, JobsHeld, SnapshotsHeld, SnapshotsAlike, TakenThere, PlansOnce, BuiltLists, PlansSources, CapturesHeld, OwnersLive, PassHeld, PassKnows}
use Rattle.core_model.specs.Disk.{tmps_of, live_of, archived_of, backs_of}
use Rattle.core_model.specs.FileFacts.{NamesAreDrawn, HasOnePlace, HasPlaces, NamesAreLawful, ListedStand, PinnedStand, WaitingStand, HasBackRefs}
use Rattle.core_model.specs.State.{Parts, State}
use Rattle.core_model.specs.TableFacts.{HasOwnRegions}
use Rattle.core_model.specs.TmpFacts.{HasDrawn, TmpsApart, ArchivedAreLawful}

pub record IsSound (s : Parts) : Type 0 where
  -- names
  pub names : NamesAreDrawn s.epoch s.files (tmps_of s.disk) (live_of s.disk) (archived_of s.disk) s.made s.written
  pub known_tmps : HasDrawn s.epoch s.written
  pub tmps_apart : TmpsApart (tmps_of s.disk) (live_of s.disk) (archived_of s.disk)
  pub one_place : HasOnePlace (live_of s.disk) (archived_of s.disk)
  pub archived_lawful : ArchivedAreLawful (archived_of s.disk)
  -- the places of what is named
  pub places : HasPlaces s.plain.tables s.lists s.snapshots s.captures s.plans s.pins (live_of s.disk) (archived_of s.disk)
  pub lawful : NamesAreLawful s.plain.tables s.lists s.snapshots s.captures s.plans s.pins (live_of s.disk)
  pub back_refs : HasBackRefs (live_of s.disk) (backs_of s.disk)
  pub listed : ListedStand s.plain.tables s.plans s.lists (live_of s.disk)
  pub pinned : PinnedStand s.pins (live_of s.disk)
  pub waiting : WaitingStand s.waiting (live_of s.disk)
  -- tables and snapshots
  pub own_regions : HasOwnRegions s.plain.tables
  pub alike : SnapshotsAlike s.snapshots s.plain.snapshots
  -- actors
  pub numbered : AreNumbered s.plain.live s.begun
  pub apart : HoldsApart s.plain.live
  pub fits : HoldsFit s.plain.live
  pub uses : HasUses s.plain.live
  pub jobs : JobsHeld s.plain.live
  pub held : SnapshotsHeld s.plain.live s.snapshots s.parted
  pub taken : TakenThere s.plain.live s.plain.tables
  pub once : PlansOnce s.plans s.plain.live s.drawn s.plain.tables
  pub built : BuiltLists s.plans s.lists
  pub sources : PlansSources s.plans s.plain.live s.plain.tables s.snapshots s.lists
  pub captures : CapturesHeld s.captures s.plain.live
  pub owners : OwnersLive s.plain.live s.pins
  pub pass_held : PassHeld s.pass s.plain.live
  pub pass : PassKnows s.pass s.snapshots s.captures

-- both states after a failed operation are sound, and there is one where none failed; the same actors are at work in both, and
-- who has no pins in the one has none in the other: so what ends in the one can end in the other
pub record IsSoundState (s : State) : Type 0 where
  pub now : IsSound s.now
  pub other : IsSound s.other
  pub one : s.closed ≡ None → s.other ≡ s.now
  pub live : s.other.plain.live ≡ s.now.plain.live
  pub pins : (a : ℕ) → s.other.pins a ≡ [] → s.now.pins a ≡ []
