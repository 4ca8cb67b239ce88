-- What an event makes of the activities at work, of their captures and of what they noted.
use Rattle.std.specs.Prelude.{ℕ, ◌==◌, cond, not, Bool, List, [], ◌∷◌, ◌++◌, length, filter, find, Option, Some, None, option_map}
use Rattle.hb_cell.specs.declared.cell.Cell.{Cell}
use Rattle.hb_records.specs.declared.region_info.RegionInfo.{RegionInfo}
use Rattle.plain_model.specs.declared.event.Event.{Event}
use Rattle.plain_model.specs.declared.event.Event.TheVariants.{At, Stop, MajorStart, Capture}
use Rattle.plain_model.specs.declared.job.Job.{Job}
use Rattle.plain_model.specs.declared.region_key.RegionKey.{RegionKey}
use Rattle.hb_cell.specs.Order.{same_bytes}
use Rattle.plain_model.specs.Names.{Names}
use Rattle.plain_model.specs.Keys.{set_for, encoded}
use Rattle.plain_model.specs.declared.parts.Live.{Live}
use Rattle.plain_model.specs.declared.parts.RegionCopy.{RegionCopy}
use Rattle.plain_model.specs.declared.parts.PlainTable.{PlainTable}
use Rattle.std.specs.FinMap.{get}

-- the activity of this number
abbrev pub live_of : List Live → ℕ → Option Live
live_of live actor = find (λ l. l.actor.0 == actor) live

-- its job
abbrev pub job_of : List Live → ℕ → Option Job
job_of live actor = option_map (λ (l : Live). l.job) (live_of live actor)

-- without the activity of this number
abbrev pub without : ℕ → List Live → List Live
without actor live = filter (λ l. not (l.actor.0 == actor)) live

abbrev pub live_on : Event → List Live → List Live
live_on (At a (Some job) holds) live = live ++ record { actor = a; job = job; holds = holds } ∷ []
live_on (At a None holds) live = without a.0 live
live_on Stop live = []
live_on _ live = live

-- nothing of an actor's
abbrev pub cleared : {A : Type 0} → ℕ → (ℕ → RegionKey → Option A) → ℕ → RegionKey → Option A
cleared actor f = λ a k. cond (a == actor) None (f a k)

-- the region of an encoded name
abbrev pub region_in : List (RegionInfo × Bool) → List ℕ → Option RegionInfo
region_in regions name = option_map (λ (r : RegionInfo × Bool). r.0) (find (λ r. same_bytes (encoded r.0) name) regions)

abbrev pub region_in_table : Option PlainTable → List ℕ → Option RegionInfo
region_in_table None name = None
region_in_table (Some t) name = region_in t.regions name

-- the region of a key in a table's set
abbrev pub region_at : Names PlainTable → RegionKey → Option RegionInfo
region_at tables k = region_in_table (get tables k.table) k.region

-- a region with these cells and this number, as it is copied
abbrev pub copy_of : List Cell → ℕ → Option RegionInfo → Option RegionCopy
copy_of cells number = option_map (λ (r : RegionInfo). record { region = r; cells = cells; number = number })

abbrev pub captures_on : Event → Names PlainTable → (RegionKey → List Cell) → (RegionKey → ℕ) → (ℕ → RegionKey → Option RegionCopy) → ℕ → RegionKey → Option RegionCopy
captures_on (Capture a k) tables stable kept captures = set_for a.0 k (copy_of (stable k) (kept k) (region_at tables k)) captures
captures_on (At a None holds) tables stable kept captures = cleared a.0 captures
captures_on Stop tables stable kept captures = λ a k. None
captures_on _ tables stable kept captures = captures

abbrev pub noted_on : Event → (RegionKey → List Cell) → (ℕ → RegionKey → Option ℕ) → ℕ → RegionKey → Option ℕ
noted_on (MajorStart a k) stable noted = set_for a.0 k (Some (length (stable k))) noted
noted_on (At a None holds) stable noted = cleared a.0 noted
noted_on Stop stable noted = λ a k. None
noted_on _ stable noted = noted
