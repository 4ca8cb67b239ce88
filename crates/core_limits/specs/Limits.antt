-- That tables stay within their limits: what counts against them while splits are on their way. Own.
use Rattle.std.specs.Prelude.{◌≡◌, ℕ, ◌+◌, ◌≤◌, ◌<◌, Bool, false, not, cond, ◌&&◌, List, [], ◌∷◌, length, sum_by}
use Rattle.std.specs.List.{AllByRecursion}
use Rattle.std.specs.FinMap.{get}
use Rattle.cell_sight.specs.Member.{Member}
use Rattle.hb_layout.specs.Lawful.{IsEpoch}
use Rattle.hb_records.specs.declared.region_info.RegionInfo.{RegionInfo}
use Rattle.ns_tree.specs.Tree.{Tree}
use Rattle.plain_model.specs.declared.hold.Hold.{Hold}
use Rattle.plain_model.specs.declared.hold.Hold.TheVariants as holds
use Rattle.plain_model.specs.declared.job.Job.TheVariants as jobs
use Rattle.plain_model.specs.declared.parts.Live.{Live}
use Rattle.plain_model.specs.declared.parts.PlainTable.{PlainTable}
use Rattle.plain_model.specs.Found.{is_dividing, regions_in}
use Rattle.plain_model.specs.Keys.{key_of}
use Rattle.plain_model.specs.Names.{Names}
use Rattle.core_model.specs.declared.journal.JournalEntry.{JournalEntry}
use Rattle.core_model.specs.declared.opening.Opening.{Opening}
use Rattle.core_model.specs.declared.plan.Plan.{Plan}
use Rattle.core_model.specs.declared.step.Step.{Step}
use Rattle.core_model.specs.Allows.{Allows, AllowsAll}
use Rattle.core_model.specs.Replay.{after, begun}
use Rattle.core_model.specs.Sound.{IsSound}
use Rattle.core_model.specs.StartGuards.{IsWithinLimits}
use Rattle.core_model.specs.State.{Parts, State}
use Rattle.core_bytes.specs.Laws.{WriteFrom}
use Rattle.core_opens.specs.Begins.{CanBegin}
use Rattle.core_regions.specs.Cover.{HasLimits, HaveLimits, IsCovered, IsListed}

-- ---- the regions of a table, with those still to come

-- a live split of a region of the table that has not made its change
abbrev pub is_pending : (ℕ → List ℕ → Bool) → List ℕ → Live → Bool
is_pending changed t l = is_dividing t l.job && not (changed l.actor.0 t)

-- the regions that an activity is still to add to the set: two for such a split, whose whole region stays in the set
abbrev pub to_add : (ℕ → List ℕ → Bool) → List ℕ → Live → ℕ
to_add changed t l = cond (is_pending changed t l) 2 0

abbrev pub counted : Names PlainTable → (ℕ → List ℕ → Bool) → List Live → List ℕ → ℕ
counted tables changed live t = length (regions_in (get tables t)) + sum_by (to_add changed t) live

-- no table comes to more than 1,000
pub record CountsFit (changed : ℕ → List ℕ → Bool) (live : List Live) (tables : Names PlainTable) : Type 0 where
  pub at : (t : List ℕ) → counted tables changed live t ≤ 1000

-- the holds are one region, which is an open one of the table
pub record HoldsOpen (t : List ℕ) (hs : List Hold) (tables : Names PlainTable) : Type 0 where
  pub whole : RegionInfo
  pub table : whole.table ≡ t
  pub alone : hs ≡ holds.Region (key_of whole) ∷ []
  pub is_open : IsListed tables whole false

-- so it is with each split until it has made its change: this is how the replies count those that are on their way
pub record SplitsOpen (changed : ℕ → List ℕ → Bool) (live : List Live) (tables : Names PlainTable) : Type 0 where
  pub at : (l : Live) (t row : List ℕ) → Member l live → l.job ≡ jobs.Split t row → changed l.actor.0 t ≡ false → HoldsOpen t l.holds tables

-- ---- what is planned

-- at most 1,000 regions, with ids of epochs up to 2 ^ 31 - 1
pub record AreFew (regions : List RegionInfo) : Type 0 where
  pub few : length regions ≤ 1000
  pub ids : AllByRecursion (λ (i : RegionInfo). i.id < 9_223_372_036_854_775_808) regions

pub record PlansFew (plans : ℕ → Plan) : Type 0 where
  pub at : (a : ℕ) → AreFew (plans a).regions

-- live jobs are within the limits that their starts asked for
pub record JobsWithin (live : List Live) : Type 0 where
  pub at : (l : Live) → Member l live → IsWithinLimits l.job

-- ---- all of it

pub record IsLimited (s : Parts) : Type 0 where
  pub epoch : IsEpoch s.epoch
  pub counts : CountsFit s.changed s.plain.live s.plain.tables
  pub splits : SplitsOpen s.changed s.plain.live s.plain.tables
  pub plans : PlansFew s.plans
  pub jobs : JobsWithin s.plain.live

-- so it is in both states after a failed operation
pub record IsLimitedState (s : State) : Type 0 where
  pub now : IsLimited s.now
  pub other : IsLimited s.other

-- ---- laws

-- the opening has ids for 1,000 more regions
abbrev pub HasIds : Parts → Type 0
HasIds s = s.ids + 1000 < 4_294_967_296

abbrev pub KeepsLimited : Step → Parts → Type 0
KeepsLimited p s = HasIds s → Allows p s → IsSound s → IsCovered s → IsLimited s → HasLimits p × IsLimited (after p s)

-- each entry of a journal of allowed entries, whose opening read a valid tree, is within its limits
abbrev pub LeadsToLimits : Opening → Tree → List JournalEntry → Type 0
LeadsToLimits o tree es = CanBegin o tree → IsEpoch o.epoch → AllowsAll o es → WriteFrom 0 (begun o) es → HaveLimits es
