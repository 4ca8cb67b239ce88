-- What stands where, and what an operation makes of it.
use Rattle.std.specs.Prelude.{◌≡◌, ℕ, Bool, false, not, cond, ◌==◌, ◌&&◌, List, codes, Option, Some, None, option_map, nat_lt}
use Rattle.std.specs.FinMap.{get}
use Rattle.std.specs.List.{list_any}
use Rattle.ns_tree.specs.declared.file.FileState.{FileState}
use Rattle.ns_tree.specs.Tree.{Tree}
use Rattle.ns_tree.specs.Step as ns
use Rattle.hb_layout.specs.declared.base.Base.{Base}
use Rattle.hb_layout.specs.Spot.{base_path}
use Rattle.core_model.specs.Site.{site_path, Site, Epoch, Tmp, RegionSet, StoreList, Live, Archived, BackRefTo, Info, Manifest, WorkInfo, WorkManifest, Staged, site_text}
use Rattle.hb_file_names.specs.BackRef.{back_text}
use Rattle.plain_model.specs.declared.region_key.RegionKey.{RegionKey}
use Rattle.hb_cell.specs.Order.{same_bytes}
use Rattle.core_model.specs.Keys.{same_base}

abbrev pub same_site : Site → Site → Bool
same_site (Epoch m) (Epoch n) = m == n
same_site (Tmp m) (Tmp n) = same_bytes m n
same_site (RegionSet t m) (RegionSet u n) = same_bytes t u && (m == n)
same_site (StoreList t r m) (StoreList u q n) = same_bytes t u && (same_bytes r q && (m == n))
same_site (Live b) (Live c) = same_base b c
same_site (Archived b) (Archived c) = same_base b c
same_site (BackRefTo b m) (BackRefTo c n) = same_base b c && same_bytes m n
same_site (Info m) (Info n) = same_bytes m n
same_site (Manifest m) (Manifest n) = same_bytes m n
same_site (WorkInfo m) (WorkInfo n) = same_bytes m n
same_site (WorkManifest m) (WorkManifest n) = same_bytes m n
same_site (Staged d f n) (Staged e g m) = same_bytes d e && (same_bytes f g && same_bytes n m)
same_site _ _ = false

-- what stands where
abbrev pub Disk : Type 0
Disk = Site → Option FileState

-- whether the texts of a spot are components: so no two such spots share a place
abbrev pub has_slash : List ℕ → Bool
has_slash text = list_any (λ byte. byte == 47) text

abbrev pub no_slash : List (List ℕ) → Bool
no_slash texts = not (list_any has_slash texts)

abbrev pub is_regular : Site → Bool
is_regular (Epoch n) = nat_lt n 18446744073709551616
-- texts of numbers have at most 64 digits: greater numbers have the texts of smaller ones
is_regular (RegionSet table n) = no_slash (site_path (RegionSet table n)) && nat_lt n 18446744073709551616
is_regular (StoreList table region n) = no_slash (site_path (StoreList table region n)) && nat_lt n 18446744073709551616
is_regular (Live b) = no_slash (base_path b) && not (same_bytes b.family (codes ".filelist"))
-- no snapshot is .tmp: its manifest would stand where the working directory of a snapshot data.manifest does
is_regular (Info name) = no_slash (site_path (Info name)) && not (same_bytes name (codes ".tmp"))
is_regular (Manifest name) = no_slash (site_path (Manifest name)) && not (same_bytes name (codes ".tmp"))
is_regular p = no_slash (site_path p)

-- the files of a tree, by what they are
abbrev pub disk_of : Tree → Disk
disk_of t = λ p. cond (is_regular p) (get t (site_text p)) None

-- what an entry does with the files
pub data Op : Type 0 where
  Nothing : Op
  Create : Site → List ℕ → Op
  Rename : Site → Site → Op
  Remove : Site → Op
  Touch : Site → ℕ → Op
  -- the working directory of a snapshot becomes the snapshot's, and back
  Publish : List ℕ → Op
  Withdraw : List ℕ → Op

-- the two files of a snapshot, moved
abbrev pub published : List ℕ → Disk → Disk
published n d (Info m) = cond (same_bytes m n) (d (WorkInfo n)) (d (Info m))
published n d (Manifest m) = cond (same_bytes m n) (d (WorkManifest n)) (d (Manifest m))
published n d (WorkInfo m) = cond (same_bytes m n) None (d (WorkInfo m))
published n d (WorkManifest m) = cond (same_bytes m n) None (d (WorkManifest m))
published n d p = d p

abbrev pub withdrawn : List ℕ → Disk → Disk
withdrawn n d (Info m) = cond (same_bytes m n) None (d (Info m))
withdrawn n d (Manifest m) = cond (same_bytes m n) None (d (Manifest m))
withdrawn n d (WorkInfo m) = cond (same_bytes m n) (d (Info n)) (d (WorkInfo m))
withdrawn n d (WorkManifest m) = cond (same_bytes m n) (d (Manifest n)) (d (WorkManifest m))
withdrawn n d p = d p

abbrev pub disk_after : Op → Disk → Disk
disk_after Nothing d = d
disk_after (Create p bytes) d = λ q. cond (same_site q p) (Some (record { bytes = bytes; moment = 0 })) (d q)
disk_after (Rename p r) d = λ q. cond (same_site q r) (d p) (cond (same_site q p) None (d q))
disk_after (Remove p) d = λ q. cond (same_site q p) None (d q)
disk_after (Touch p moment) d = λ q. cond (same_site q p) (option_map (ns.with_moment moment) (d p)) (d q)
disk_after (Publish name) d = published name d
disk_after (Withdraw name) d = withdrawn name d

-- the parts of a disk that a fact may read
abbrev pub Bases : Type 0
Bases = Base → Option FileState

abbrev pub tmps_of : Disk → List ℕ → Option FileState
tmps_of d = λ n. d (Tmp n)

-- files, links and halves in the directories of families
abbrev pub live_of : Disk → Bases
live_of d = λ b. d (Live b)

abbrev pub archived_of : Disk → Bases
archived_of d = λ b. d (Archived b)

-- the back reference of a base from a region
abbrev pub Backs : Type 0
Backs = Base → RegionKey → Option FileState

abbrev pub back_site : Base → RegionKey → Site
back_site b r = BackRefTo b (back_text r.region r.table)

abbrev pub backs_of : Disk → Backs
backs_of d = λ b r. d (back_site b r)

abbrev pub lists_of : Disk → RegionKey → ℕ → Option FileState
lists_of d = λ r n. d (StoreList r.table r.region n)

abbrev pub sets_of : Disk → List ℕ → ℕ → Option FileState
sets_of d = λ t n. d (RegionSet t n)

abbrev pub infos_of : Disk → List ℕ → Option FileState
infos_of d = λ n. d (Info n)

abbrev pub manifests_of : Disk → List ℕ → Option FileState
manifests_of d = λ n. d (Manifest n)

abbrev pub work_infos_of : Disk → List ℕ → Option FileState
work_infos_of d = λ n. d (WorkInfo n)

abbrev pub work_manifests_of : Disk → List ℕ → Option FileState
work_manifests_of d = λ n. d (WorkManifest n)

-- the place of a base: live where it stands there, else archived
abbrev pub or_else : {A : Type 0} → Option A → Option A → Option A
or_else (Some a) o = Some a
or_else None o = o

abbrev pub at_place : Bases → Bases → Bases
at_place live archived b = or_else (live b) (archived b)

pub data HasPlace (live archived : Bases) (b : Base) : Type 0 where
  is_live : (f : FileState) → live b ≡ Some f → HasPlace live archived b
  is_archived : (f : FileState) → archived b ≡ Some f → HasPlace live archived b
