-- When a written list may become a region's newest, by what it is committed for.
use Rattle.std.specs.Prelude.{◌≡◌, ◌≢◌, ℕ, ◌+◌, ◌≤◌, ◌<◌, Bool, true, false, cond, not, List, [], ◌∷◌, ◌++◌, map, count_by, Option, Some, None, unwrap_or}
use Rattle.std.specs.List.{filter, AllZip, AllByRecursion, list_any, fold}
use Rattle.std.specs.FinMap.{get}
use Rattle.std.specs.Ordering.{eq_by_cmp}
use Rattle.hb_cell.specs.declared.cell.Cell.{Cell}
use Rattle.hb_layout.specs.declared.base.Base.{Base}
use Rattle.hb_records.specs.declared.region_info.RegionInfo.{RegionInfo}
use Rattle.ns_tree.specs.declared.file.FileState.{FileState}
use Rattle.plain_model.specs.declared.hold.Hold.TheVariants as holds
use Rattle.plain_model.specs.declared.job.Job.{Job}
use Rattle.plain_model.specs.declared.job.Job.TheVariants as jobs
use Rattle.plain_model.specs.declared.region_key.RegionKey.{RegionKey}
use Rattle.hb_cell.specs.Order.{same_bytes, is_below, key_cmp}
use Rattle.plain_model.specs.CellEvents.{greatest}
use Rattle.plain_model.specs.Found.{families_of}
use Rattle.plain_model.specs.Keys.{key_of, same_key}
use Rattle.plain_model.specs.LiveEvents.{job_of}
use Rattle.plain_model.specs.Plain.{Plain}
use Rattle.plain_model.specs.declared.parts.PlainSnapshot.{PlainSnapshot}
use Rattle.plain_model.specs.declared.parts.RegionCopy.{RegionCopy}
use Rattle.plain_model.specs.declared.put_cell.TheConstants.{MAX_NUMBER}
use Rattle.cell_sight.specs.Same.{sorted}
use Rattle.core_model.specs.declared.entry.Entry.{Entry}
use Rattle.core_model.specs.declared.entry.Entry.TheVariants.{Own}
use Rattle.core_model.specs.declared.recipe.Recipe.TheVariants as recipes
use Rattle.core_model.specs.declared.region_files.RegionFiles.{RegionFiles}
use Rattle.core_model.specs.declared.targets.Why.{Why}
use Rattle.core_model.specs.declared.targets.Why.TheVariants as why
use Rattle.cell_sight.specs.Member.{Member}
use Rattle.core_model.specs.Keys.{home}
use Rattle.core_model.specs.Disk.{live_of}
use Rattle.core_model.specs.Entries.{Made, base_of, is_own, is_in, file_of, cells_of, cells_in, region_list, seq_of, IsKey, IsEntryIn}
use Rattle.core_model.specs.Actors.{HasHold, HasJob, InSet, IsRegion, MayFlush, last_pin}
use Rattle.core_model.specs.BulkParts.{parts_of, IsPartFile}
use Rattle.core_model.specs.FileGuards.{Wrote}
use Rattle.core_model.specs.Plans.{more_entries, planned_for}
use Rattle.core_model.specs.Recipes.{frozen_cells, of_family, merged}
use Rattle.core_model.specs.Selection.{IsSelected}
use Rattle.core_model.specs.State.{Parts, Pinned}

-- the written list is the next one, and was written by the actor
pub record IsNext (a : ℕ) (r : RegionKey) (n : ℕ) (name : List ℕ) (l : RegionFiles) (s : Parts) : Type 0 where
  pub wrote : Wrote a name (recipes.List r (region_list l)) s.disk s.written
  pub replaces : (s.lists r).number ≡ n
  pub number : l.number ≡ n + 1
  pub unspent : n < MAX_NUMBER

-- a file that the actor has placed and not listed yet
pub record Waits (a : ℕ) (r : RegionKey) (family : List ℕ) (b : Base) (s : Parts) : Type 0 where
  pub region : home b ≡ r
  pub same_family : b.family ≡ family
  pub waiting : s.waiting b ≡ Some a

-- ---- a flush

-- a name put at its place in byte order, where it is new
abbrev pub name_in_place : List ℕ → List (List ℕ) → List (List ℕ)
name_in_place n [] = n ∷ []
name_in_place n (m ∷ ms) = cond (is_below n m) (n ∷ m ∷ ms) (m ∷ name_in_place n ms)

abbrev pub with_name : List ℕ → List (List ℕ) → List (List ℕ)
with_name n names = cond (list_any (same_bytes n) names) names (name_in_place n names)

-- the families of cells, in byte order
abbrev pub families_in : List Cell → List (List ℕ)
families_in [] = []
families_in (c ∷ cs) = with_name c.family (families_in cs)

-- the file of a family's frozen cells
pub record IsFlushed (a : ℕ) (r : RegionKey) (s : Parts) (family : List ℕ) (b : Base) : Type 0 where
  pub waits : Waits a r family b s
  -- it is no bulk file
  pub unnumbered : seq_of b.name ≡ None
  pub made : s.made b ≡ Some (sorted (of_family family (frozen_cells s.plain r)))

-- the list gains one own file for each family with frozen cells
pub record Flushes (a : ℕ) (r : RegionKey) (l : RegionFiles) (cells : List Cell) (planned : List (List ℕ × Entry)) (s : Parts) : Type 0 where
  pub region : IsRegion s.plain.tables r
  pub added : List Base
  pub files : AllZip (IsFlushed a r s) (families_in (frozen_cells s.plain r)) added
  pub entries : l.entries ≡ (s.lists r).entries ++ map Own added
  pub seq : l.seq ≡ greatest (s.plain.kept r) (frozen_cells s.plain r)
  pub none : cells ≡ []
  -- the halves that a split builds of them
  pub halves : planned ≡ more_entries (job_of s.plain.live a) (s.plans a).regions r (map Own added)

-- a snapshot's flush, which is its capture too
pub record Captures (a : ℕ) (r : RegionKey) (l : RegionFiles) (cells : List Cell) (planned : List (List ℕ × Entry)) (s : Parts) : Type 0 where
  pub snapshot : List ℕ
  pub take : HasHold s.plain.live a (holds.Take snapshot r.table)
  pub is_open : InSet s.plain.tables r false
  pub new : s.captures a r ≡ None
  pub flushes : Flushes a r l cells planned s

-- ---- a compaction

-- entries of one family that one file replaces, or none where no cell is left
pub record Merge : Type 0 where
  pub family : List ℕ
  pub inputs : List Entry
  pub output : List Base

-- the entries without some, and with others at the place of the first of these
abbrev pub without : List Entry → List Entry → List Entry
without inputs es = filter (λ e. not (is_in inputs e)) es

abbrev pub replaced : List Entry → List Entry → List Entry → List Entry
replaced inputs output [] = []
replaced inputs output (e ∷ es) = cond (is_in inputs e) (output ++ without inputs es) (e ∷ replaced inputs output es)

abbrev pub merged_entries : List Merge → List Entry → List Entry
merged_entries merges es = fold (λ es (m : Merge). replaced m.inputs (map Own m.output) es) es merges

-- the entries of a family
abbrev pub in_family : List ℕ → List Entry → List Entry
in_family family es = filter (λ e. same_bytes (base_of e).family family) es

-- the file of a merge holds its cells, and there is one exactly where there are cells
abbrev pub IsOutput : List Base → ℕ → RegionKey → List ℕ → List Cell → Parts → Type 0
IsOutput [] a r family cells s = cells ≡ []
IsOutput (b ∷ []) a r family cells s = (cells ≢ []) × Waits a r family b s × (seq_of b.name ≡ None) × (s.made b ≡ Some cells)
IsOutput (b ∷ c ∷ bs) a r family cells s = ⊥

-- which entries of a family a merge takes: of a major one all that were pinned, of a minor one the selected range
abbrev pub Takes : Bool → Merge → List Entry → Parts → Type 0
Takes true m pinned s = m.inputs ≡ in_family m.family pinned
Takes false m pinned s = IsSelected m.inputs (in_family m.family pinned) s

pub record IsMerge (a : ℕ) (r : RegionKey) (major : Bool) (pinned : List Entry) (s : Parts) (m : Merge) : Type 0 where
  pub takes : Takes major m pinned s
  pub some : m.inputs ≢ []
  -- they stand in the list once each, in their order
  pub stand : filter (is_in m.inputs) (s.lists r).entries ≡ m.inputs
  pub output : IsOutput m.output a r m.family (merged major (families_of s.plain r.table) (cells_in s.made m.inputs)) s

-- each family has at most one merge
abbrev pub HasOther : List ℕ → List Merge → Type 0
HasOther family merges = AllByRecursion (λ (m : Merge). m.family ≢ family) merges

abbrev pub AreOfDistinctFamilies : List Merge → Type 0
AreOfDistinctFamilies [] = Unit {0}
AreOfDistinctFamilies (m ∷ ms) = HasOther m.family ms × AreOfDistinctFamilies ms

-- a major commit merges each family with a pinned entry
abbrev pub CoversAll : Bool → List Merge → List Entry → Type 0
CoversAll true merges pinned = (e : Entry) → Member e pinned → (m : Merge) × Member m merges × (m.family ≡ (base_of e).family)
CoversAll false merges pinned = Unit {0}

-- a major commit is that of a major compaction
abbrev pub MayMajor : Bool → ℕ → Plain → Type 0
MayMajor true a p = (t : List ℕ) × HasJob p.live a (jobs.Compact t true)
MayMajor false a p = Unit {0}

pub record Compacts (a : ℕ) (r : RegionKey) (major : Bool) (l : RegionFiles) (cells : List Cell) (planned : List (List ℕ × Entry)) (s : Parts) : Type 0 where
  pub region : IsRegion s.plain.tables r
  pub held : HasHold s.plain.live a (holds.Compact r)
  pub job : MayMajor major a s.plain
  pub pinned : Pinned
  pub pin : last_pin (s.pins a) r ≡ Some pinned
  -- a major commit is the first since the pin
  pub fresh : major ≡ true → pinned.fresh ≡ true
  pub merges : List Merge
  pub each : AllByRecursion (IsMerge a r major pinned.entries s) merges
  pub distinct : AreOfDistinctFamilies merges
  pub covers : CoversAll major merges pinned.entries
  pub entries : l.entries ≡ merged_entries merges (s.lists r).entries
  pub seq : l.seq ≡ s.plain.kept r
  pub none : cells ≡ []
  pub unplanned : planned ≡ []

-- ---- a bulk load

-- the cells of a base are of its family
abbrev pub FitsFamily : Made → Base → Type 0
FitsFamily made b = (c : Cell) → Member c (unwrap_or (made b) []) → c.family ≡ b.family

-- its family is one of these
abbrev pub HasKnownFamily : List (List ℕ × ℕ) → Base → Type 0
HasKnownFamily families b = (versions : ℕ) × Member (b.family, versions) families

-- no two of its cells are equal: they have one number, so they differ in more than number and value
abbrev pub HasNoDouble : Made → Base → Type 0
HasNoDouble made b = (c : Cell) → count_by (eq_by_cmp key_cmp c) (cells_of made (Own b)) ≤ 1

pub record Loads (a : ℕ) (r : RegionKey) (l : RegionFiles) (cells : List Cell) (planned : List (List ℕ × Entry)) (s : Parts) : Type 0 where
  pub folder : List ℕ
  pub job : HasJob s.plain.live a (jobs.Bulk r.table folder)
  pub held : HasHold s.plain.live a (holds.Load r.table)
  pub is_open : InSet s.plain.tables r false
  pub added : List Base
  -- one file for each part of the region's group, placed and not listed yet
  pub files : AllZip (λ f b. IsPartFile a folder is_open.info f b s × (s.waiting b ≡ Some a)) (parts_of s.staged folder is_open.info (s.loads a)) added
  pub some : added ≢ []
  -- a load is refused where a file has a family that is not the table's, cells of another family, or two that are equal but for number
  -- and value
  pub known : AllByRecursion (HasKnownFamily is_open.table.schema.families) added
  pub fits : AllByRecursion (FitsFamily s.made) added
  pub once : AllByRecursion (HasNoDouble s.made) added
  pub entries : l.entries ≡ (s.lists r).entries ++ map Own added
  pub joins : cells ≡ cells_in s.made (map Own added)
  pub seq : l.seq ≡ greatest (s.plain.kept r) (cells_in s.made (map Own added))
  pub unplanned : planned ≡ []

-- ---- a region that is built

-- the number that the region would begin with, if its set were committed next
abbrev pub number_of_copies : List RegionInfo → List RegionCopy → RegionKey → Option ℕ
number_of_copies (i ∷ is) (c ∷ cs) r = cond (same_key (key_of i) r) (Some c.number) (number_of_copies is cs r)
number_of_copies _ _ r = None

abbrev pub copies_of : Option PlainSnapshot → List RegionCopy
copies_of None = []
copies_of (Some s) = s.regions

abbrev pub HasNumber : Option Job → RegionKey → ℕ → ℕ → Parts → Type 0
HasNumber (Some (jobs.Clone name t)) r a seq s = number_of_copies (s.plans a).regions (copies_of (get s.plain.snapshots name)) r ≡ Some seq
HasNumber (Some (jobs.Restore name)) r a seq s = number_of_copies (s.plans a).regions (copies_of (get s.plain.snapshots name)) r ≡ Some seq
HasNumber (Some (jobs.Split t row)) r a seq s = (parent : RegionKey) → HasHold s.plain.live a (holds.Region parent) → seq ≡ s.plain.kept parent
HasNumber (Some (jobs.Create t families versions splits)) r a seq s = seq ≡ 0
HasNumber _ r a seq s = ⊥

-- the entry's own file stands
pub record HasFile (r : RegionKey) (s : Parts) (e : Entry) : Type 0 where
  pub refers : is_own e ≡ false
  pub names : IsEntryIn r e
  pub file : FileState
  pub stands : live_of s.disk (file_of r e) ≡ Some file

pub record BuildsList (a : ℕ) (r : RegionKey) (l : RegionFiles) (cells : List Cell) (planned : List (List ℕ × Entry)) (s : Parts) : Type 0 where
  pub info : RegionInfo
  pub region : Member info (s.plans a).regions
  pub key : key_of info ≡ r
  pub names : IsKey r
  pub out : IsRegion s.plain.tables r → ⊥
  pub first : (s.lists r).number ≡ 0
  pub entries : l.entries ≡ planned_for (s.plans a).entries r
  pub files : AllByRecursion (HasFile r s) l.entries
  pub seq : HasNumber (job_of s.plain.live a) r a l.seq s
  pub none : cells ≡ []
  pub unplanned : planned ≡ []

-- ---- all of them

abbrev pub AllowsList : Why → ℕ → RegionKey → RegionFiles → List Cell → List (List ℕ × Entry) → Parts → Type 0
AllowsList why.Flush a r l cells planned s = MayFlush s.plain.live a r × Flushes a r l cells planned s
AllowsList why.Capture a r l cells planned s = Captures a r l cells planned s
AllowsList (why.Compact major) a r l cells planned s = Compacts a r major l cells planned s
AllowsList why.Bulk a r l cells planned s = Loads a r l cells planned s
AllowsList why.Build a r l cells planned s = BuildsList a r l cells planned s

pub record CanCommitList (a : ℕ) (r : RegionKey) (n : ℕ) (name : List ℕ) (reason : Why) (l : RegionFiles) (cells : List Cell) (planned : List (List ℕ × Entry)) (s : Parts) : Type 0 where
  pub next : IsNext a r n name l s
  pub allowed : AllowsList reason a r l cells planned s
