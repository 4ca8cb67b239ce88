-- When the tree of a store is valid: rule by rule.
use Rattle.std.specs.Prelude.{◌≡◌, ℕ, Bool, true, false, List, [], Some}
use Rattle.std.specs.FinMap.{contains_key}
use Rattle.hb_layout.specs.declared.base.Base.{Base}
use Rattle.hb_layout.specs.Lawful.{IsLawful}
use Rattle.ns_tree.specs.declared.file.FileState.{FileState}
use Rattle.ns_tree.specs.Tree.{Tree}
use Rattle.plain_model.specs.declared.region_key.RegionKey.{RegionKey}
use Rattle.region_set.specs.declared.region_set.RegionSet.{RegionSet}
use Rattle.core_model.specs.declared.entry.Entry.{Entry}
use Rattle.core_model.specs.declared.entry.Entry.TheVariants.{Link}
use Rattle.core_model.specs.declared.snapshot.Snapshot.{Snapshot}
use Rattle.core_model.specs.Disk.{Disk, Bases, HasPlace, disk_of, live_of, archived_of, backs_of}
use Rattle.core_model.specs.Entries.{base_of, file_of, is_own, IsKey, IsEntryIn}
use Rattle.core_model.specs.FileFacts.{HasOnePlace, HasBackRefs}
use Rattle.core_model.specs.Site.{Site, Epoch, BackRefTo, spot_of, site_text}
use Rattle.core_bytes.specs.Written.{HasReferences}
use Rattle.core_recovers.specs.Reading.{Reading, IsIn, IsReading}
use Rattle.core_opens.specs.Fits.{FitsSet, FitsEntries, FitsSnapshot}

-- a place that the layout has, with the epochs in its names within their limit
pub record HasRow (place : List ℕ) : Type 0 where
  pub site : Site
  pub lawful : IsLawful (spot_of site)
  pub text : site_text site ≡ place

-- files of the epoch, links and back references have no bytes
pub record HasEmptyFiles (d : Disk) : Type 0 where
  pub epoch : (n : ℕ) (f : FileState) → d (Epoch n) ≡ Some f → f.bytes ≡ []
  pub link : (r : RegionKey) (b : Base) (f : FileState) → IsEntryIn r (Link b) → live_of d (file_of r (Link b)) ≡ Some f → f.bytes ≡ []
  pub back : (b : Base) (text : List ℕ) (f : FileState) → d (BackRefTo b text) ≡ Some f → f.bytes ≡ []

-- the base of a link or a half that stands has a place
pub record HasPointed (live archived : Bases) : Type 0 where
  pub at : (r : RegionKey) (e : Entry) (f : FileState) → IsKey r → IsEntryIn r e → is_own e ≡ false → live (file_of r e) ≡ Some f → HasPlace live archived (base_of e)

-- newest sets, newest lists of their regions, and manifests fit
pub record Fit (x : Reading) : Type 0 where
  pub sets : (table : List ℕ) (s : RegionSet) → x.sets table ≡ Some s → FitsSet s.state s
  pub lists : (r : RegionKey) (split : Bool) (i : IsIn x.sets r split) → FitsEntries x.made i.info i.table.schema.families (x.lists r).seq (x.lists r).entries
  pub snapshots : (name : List ℕ) (s : Snapshot) → x.snapshots name ≡ Some s → FitsSnapshot x.made s

-- every place has a row; sets, lists, both files of snapshots and files with cells are in their grammars, with all that they name
-- (IsReading); no base is both live and archived; links and halves have their back references and their bases
pub record IsComplete (tree : Tree) : Type 0 where
  pub rows : (place : List ℕ) → contains_key tree place ≡ true → HasRow place
  pub empties : HasEmptyFiles (disk_of tree)
  pub references : HasReferences (live_of (disk_of tree))
  pub one_place : HasOnePlace (live_of (disk_of tree)) (archived_of (disk_of tree))
  pub back_refs : HasBackRefs (live_of (disk_of tree)) (backs_of (disk_of tree))
  pub pointed : HasPointed (live_of (disk_of tree)) (archived_of (disk_of tree))
  pub says : Reading
  pub reading : IsReading (disk_of tree) says

-- and what is read fits
pub record IsValid (tree : Tree) : Type 0 where
  pub complete : IsComplete tree
  pub fit : Fit complete.says
