-- The reply to a job: the first of its refusals that holds, or else that it goes well.
use Rattle.std.specs.Prelude.{ℕ, ◌+◌, nat_lt, Bool, true, false, cond, not, ◌&&◌, List, [], ◌∷◌, ◌++◌, Option, Some, None, option_map, unwrap_or, if◌then◌else◌}
use Rattle.std.specs.List.{list_any}
use Rattle.std.specs.FinMap.{get, keys}
use Rattle.std.specs.Option.{option_or}
use Rattle.plain_model.specs.declared.hold.Hold.{Hold}
use Rattle.plain_model.specs.declared.hold.Hold.TheVariants as holds
use Rattle.plain_model.specs.declared.job.Job.{Job}
use Rattle.plain_model.specs.declared.job.Job.TheVariants as jobs
use Rattle.plain_model.specs.declared.reply.Reply.{Reply}
use Rattle.plain_model.specs.declared.reply.Reply.TheVariants.{Fine, Snapshots, TableExists, TableNotFound, TableNotEnabled, TableNotDisabled, NameTaken, DuplicateFamily, UnknownFamily, BadSplitKey, HasReferences, TooManyRegions, SnapshotExists, SnapshotNotFound, InUse, Taking}
use Rattle.hb_records.specs.declared.region_info.RegionInfo.{RegionInfo}
use Rattle.hb_cell.specs.Order.{same_bytes, is_below}
use Rattle.plain_model.specs.Plain.{Plain}
use Rattle.plain_model.specs.declared.parts.Live.{Live}
use Rattle.plain_model.specs.declared.parts.PlainSnapshot.{PlainSnapshot}
use Rattle.plain_model.specs.Held.{least}
use Rattle.plain_model.specs.Found.{is_table, is_snapshot, is_enabled, has_family, region_with, region_count}

-- what a reply asks of files and names, judged beside the plain state
pub record Files : Type 0 where
  -- an encoded name that was drawn is taken
  pub name_taken : Bool
  -- the list of a region that is to be split has a half
  pub has_references : Bool

-- nothing stands in the way
abbrev pub no_files : Files
no_files = record { name_taken = false; has_references = false }

-- a refusal where a test holds
abbrev pub when : Bool → Reply → Option Reply
when test refusal = cond test (Some refusal) None

-- the first refusal of some
abbrev pub first : List (Option Reply) → Option Reply
first [] = None
first (r ∷ rs) = option_or r (first rs)

-- the first name of a list that stands before it too
abbrev pub repeated_behind : List (List ℕ) → List (List ℕ) → Option (List ℕ)
repeated_behind seen [] = None
repeated_behind seen (f ∷ fs) = cond (list_any (λ g. same_bytes g f) seen) (Some f) (repeated_behind (seen ++ f ∷ []) fs)

abbrev pub repeated : List (List ℕ) → Option (List ℕ)
repeated = repeated_behind []

-- rows that strictly ascend, each of at least a byte
abbrev pub ascend_from : List ℕ → List (List ℕ) → Bool
ascend_from row [] = true
ascend_from row (r ∷ rs) = is_below row r && ascend_from r rs

abbrev pub are_splits : List (List ℕ) → Bool
are_splits = ascend_from []

-- the row is the start of its region
abbrev pub is_start_of : List ℕ → Option RegionInfo → Bool
is_start_of row None = false
is_start_of row (Some r) = same_bytes r.start row

-- a hold by which a snapshot is used
abbrev pub uses : List ℕ → Hold → Bool
uses name (holds.Use n) = same_bytes n name
uses name _ = false

-- the least actor that uses the snapshot
abbrev pub user_of : Plain → List ℕ → Option Reply
user_of s name = option_map (λ (l : Live). InUse l.actor) (least (λ l. list_any (uses name) l.holds) s.live)

-- the names of the snapshots that are being taken
abbrev pub taken_by : List Hold → List (List ℕ)
taken_by [] = []
taken_by (holds.Take name t ∷ hs) = name ∷ taken_by hs
taken_by (_ ∷ hs) = taken_by hs

abbrev pub taken_names : List Live → List (List ℕ)
taken_names [] = []
taken_names (l ∷ ls) = taken_by l.holds ++ taken_names ls

-- the least name of some in byte order
abbrev pub lesser_name : List ℕ → Option (List ℕ) → Option (List ℕ)
lesser_name n None = Some n
lesser_name n (Some m) = if is_below m n then Some m else Some n

abbrev pub least_name : List (List ℕ) → Option (List ℕ)
least_name [] = None
least_name (n ∷ ns) = lesser_name n (least_name ns)

-- ---- what may be missing

abbrev pub not_found : Plain → List ℕ → Option Reply
not_found s t = when (not (is_table s t)) TableNotFound

abbrev pub not_enabled : Plain → List ℕ → Option Reply
not_enabled s t = when (not (is_enabled s t)) TableNotEnabled

abbrev pub not_disabled : Plain → List ℕ → Option Reply
not_disabled s t = when (is_enabled s t) TableNotDisabled

abbrev pub no_snapshot : Plain → List ℕ → Option Reply
no_snapshot s name = when (not (is_snapshot s name)) SnapshotNotFound

-- more than 1,000 regions, with these more
abbrev pub too_many : Plain → List ℕ → ℕ → Option Reply
too_many s t more = when (nat_lt 1000 (region_count s t + more)) TooManyRegions

-- the refusals of a snapshot's own table
abbrev pub own_table : Plain → Option PlainSnapshot → List (Option Reply)
own_table s None = []
own_table s (Some x) = not_found s x.schema.table ∷ not_disabled s x.schema.table ∷ []

-- ---- the refusals of each job, in order

abbrev pub refusals : Files → Plain → Job → List (Option Reply)
refusals files s jobs.ListSnapshots = []
refusals files s (jobs.Create t families versions splits) =
    when (is_table s t) TableExists ∷ option_map DuplicateFamily (repeated families) ∷ when (not (are_splits splits)) BadSplitKey
    ∷ when files.name_taken NameTaken ∷ []
refusals files s (jobs.Put t cell) = not_found s t ∷ not_enabled s t ∷ when (not (has_family s t cell.family)) (UnknownFamily cell.family) ∷ []
refusals files s (jobs.Scan t) = not_found s t ∷ not_enabled s t ∷ []
refusals files s (jobs.Flush t) = not_found s t ∷ not_enabled s t ∷ []
refusals files s (jobs.Compact t major) = not_found s t ∷ not_enabled s t ∷ []
refusals files s (jobs.Discharge t) = not_found s t ∷ not_enabled s t ∷ []
refusals files s (jobs.Split t row) =
    not_found s t ∷ not_enabled s t ∷ when (is_start_of row (region_with s t row)) BadSplitKey ∷ when files.has_references HasReferences
    ∷ too_many s t 2 ∷ when files.name_taken NameTaken ∷ []
refusals files s (jobs.Disable t) = not_found s t ∷ not_enabled s t ∷ []
refusals files s (jobs.Enable t) = not_found s t ∷ not_disabled s t ∷ []
refusals files s (jobs.Drop t) = not_found s t ∷ not_disabled s t ∷ []
refusals files s (jobs.Snapshot t name) = not_found s t ∷ when (is_snapshot s name) SnapshotExists ∷ []
refusals files s (jobs.DeleteSnapshot name) = no_snapshot s name ∷ user_of s name ∷ []
refusals files s (jobs.Clone name t) = no_snapshot s name ∷ when (is_table s t) TableExists ∷ when files.name_taken NameTaken ∷ []
refusals files s (jobs.Restore name) = no_snapshot s name ∷ first (own_table s (get s.snapshots name)) ∷ when files.name_taken NameTaken ∷ []
refusals files s (jobs.Bulk t folder) = not_found s t ∷ not_enabled s t ∷ []
refusals files s jobs.Janitor = []
refusals files s jobs.Clean = option_map Taking (least_name (taken_names s.live)) ∷ []

-- the reply where nothing refuses the job: the names of the snapshots, in byte order, to who asks for them
abbrev pub granted : Plain → Job → Reply
granted s jobs.ListSnapshots = Snapshots (keys s.snapshots)
granted s _ = Fine

-- the reply to a job in a state, with what it asks of files
abbrev pub reply_with : Files → Plain → Job → Reply
reply_with files s job = unwrap_or (first (refusals files s job)) (granted s job)

-- the reply as far as the plain state tells
abbrev pub reply : Plain → Job → Reply
reply = reply_with no_files
