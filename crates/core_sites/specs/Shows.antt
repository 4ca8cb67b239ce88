-- That a tree and what the core has of it agree, and when an operation may be done there.
use Rattle.std.specs.Prelude.{◌≡◌, ℕ, true, List, Some, None}
use Rattle.std.specs.FinMap.{contains_key}
use Rattle.hb_layout.specs.Lawful.{IsSpelled}
use Rattle.hb_names.specs.SnapName.{IsSnapName}
use Rattle.ns_tree.specs.declared.file.FileState.{FileState}
use Rattle.ns_tree.specs.Tree.{Tree, IsTree}
use Rattle.core_model.specs.Disk.{Disk, disk_of, Op, Create, Rename, Remove, Touch, Publish, Withdraw}
use Rattle.core_model.specs.Site.{Site, Info, Manifest, WorkInfo, WorkManifest, spot_of, site_text}

-- each name of the site is in its grammar, and its numbers within their limits
abbrev pub IsSpelledSite : Site → Type 0
IsSpelledSite p = IsSpelled (spot_of p)

-- the place is that of such a site
pub record HasSite (place : List ℕ) : Type 0 where
  pub site : Site
  pub spelled : IsSpelledSite site
  pub text : site_text site ≡ place

-- the files of a tree are those of a disk: each stands at the place of a site, and what stands at a site is what the disk has
pub record Shows (tree : Tree) (disk : Disk) : Type 0 where
  pub files : IsTree tree
  pub sites : (place : List ℕ) → contains_key tree place ≡ true → HasSite place
  pub at : (p : Site) → disk_of tree p ≡ disk p

-- a file stands there
abbrev pub StandsAt : Disk → Site → Type 0
StandsAt disk p = (f : FileState) × (disk p ≡ Some f)

-- what an operation makes has its names in their grammars
abbrev pub MakesSpelled : Op → Type 0
MakesSpelled (Create p bytes) = IsSpelledSite p
MakesSpelled (Rename p q) = IsSpelledSite q
MakesSpelled (Publish name) = IsSnapName name
MakesSpelled (Withdraw name) = IsSnapName name
MakesSpelled _ = Unit {0}

-- what it works on stands
abbrev pub WorksOn : Op → Disk → Type 0
WorksOn (Rename p q) disk = StandsAt disk p
WorksOn (Remove p) disk = StandsAt disk p
WorksOn (Touch p moment) disk = StandsAt disk p
WorksOn (Publish name) disk = StandsAt disk (WorkInfo name)
WorksOn (Withdraw name) disk = StandsAt disk (Info name)
WorksOn _ disk = Unit {0}

-- what it makes does not stand
abbrev pub MakesNew : Op → Disk → Type 0
MakesNew (Create p bytes) disk = disk p ≡ None
MakesNew (Rename p q) disk = disk q ≡ None
MakesNew (Publish name) disk = (disk (Info name) ≡ None) × (disk (Manifest name) ≡ None)
MakesNew (Withdraw name) disk = (disk (WorkInfo name) ≡ None) × (disk (WorkManifest name) ≡ None)
MakesNew _ disk = Unit {0}

-- an operation can be done
pub record CanDo (o : Op) (disk : Disk) : Type 0 where
  pub spelled : MakesSpelled o
  pub works : WorksOn o disk
  pub new : MakesNew o disk
