-- The snapshots of a store, and how they are listed (HBase Reference Guide, Snapshots).
use Rattle.std.specs.Prelude.{◌≡◌, ◌==◌, ◌<◌, ℕ, List, ◌++◌, ◌↔◌, Bool, false, length, codes, decimal, IsTrue, Contains, Option, IfSome}
use Rattle.std.specs.List.{AllByRecursion, flat_map, list_any}
use Rattle.std.specs.List.Sorted.{IsStrictlySortedBy}
use Rattle.std.specs.FinMap.{contains_key}
use Rattle.std.specs.Ordering.{nat_cmp}
use Rattle.std.specs.Cmp.Lexicographic.{slice_cmp}
use Rattle.hb_names.specs.SnapName.{IsSnapName}
use Rattle.plain_model.specs.declared.job.Job.TheVariants as job
use Rattle.shell_script.specs.declared.session.NumberedJob.{NumberedJob}
use Rattle.ns_tree.specs.Places.{is_below}
use Rattle.ns_tree.specs.Tree.{Tree}
use Rattle.hbase_shell.specs.Script.{line}

-- the directory of a snapshot's files
abbrev pub snapshot_directory : List ℕ → List ℕ
snapshot_directory name = codes ".hbase-snapshot/" ++ name

-- a place lies in the directory of a snapshot
pub record IsInSnapshot (name place : List ℕ) : Type 0 where
  pub named : IsSnapName name
  pub below : IsTrue (is_below (snapshot_directory name) place)

-- whether a byte is the slash that ends a component
abbrev pub is_slash : ℕ → Bool
is_slash byte = byte == 47

-- a place lies in a directory of this name, which is one component, below the snapshots' directory
pub record IsInDirectory (name place : List ℕ) : Type 0 where
  pub one : list_any is_slash name ≡ false
  pub below : IsTrue (is_below (snapshot_directory name) place)

-- a snapshot of a tree: a snapshot name in whose directory a file stands
abbrev pub IsSnapshotOf : Tree → List ℕ → Type 0
IsSnapshotOf tree name = (place : List ℕ) × IsTrue (contains_key tree place) × IsInSnapshot name place

-- a line for each name, and a last line with their number
abbrev pub listing_text : List (List ℕ) → List ℕ
listing_text names = flat_map line names ++ line (decimal (length names) ++ codes " snapshots")

-- the text lists snapshot names, each once, in byte order; where the store tells its tree they are the tree's snapshots
pub record IsListing (told : Option Tree) (text : List ℕ) : Type 0 where
  pub names : List (List ℕ)
  pub whole : text ≡ listing_text names
  pub in_order : IsStrictlySortedBy (slice_cmp nat_cmp) names
  pub snapshots : IfSome told (λ tree. (name : List ℕ) → Contains names name ↔ IsSnapshotOf tree name)

-- each of the lines asks for the snapshots
abbrev pub AskForSnapshots : List NumberedJob → Type 0
AskForSnapshots lines = AllByRecursion (λ (line : NumberedJob). line.job ≡ job.ListSnapshots) lines

-- the text is one listing for each of the lines
pub record AreAnswered (told : Option Tree) (lines : List NumberedJob) (text : List ℕ) : Type 0 where
  pub listing : List ℕ
  pub whole : text ≡ flat_map (λ (line : NumberedJob). listing) lines
  pub listed : 0 < length lines → IsListing told listing
