use Rattle.std.specs.Prelude.{◌≡◌, ℕ, ◌≤◌, ◌⊎◌, List}
use Rattle.hb_names.specs.Component.{IsComponent}
use Rattle.hb_names.specs.TableName.{IsTableName}
use Rattle.hb_names.specs.FamilyName.{IsFamilyName}
use Rattle.hb_names.specs.SnapName.{IsSnapName}
use Rattle.hb_names.specs.Encoded.{IsEncoded}
use Rattle.hb_file_names.specs.declared.file_parts.FileParts.{FileParts}
use Rattle.hb_file_names.specs.FileName.{IsFileName}
use Rattle.hb_file_names.specs.FileParts.{file_text}
use Rattle.hb_file_names.specs.LinkName.{IsLinkName}
use Rattle.hb_file_names.specs.LinkParts.{link_text}
use Rattle.hb_file_names.specs.RefName.{IsRefName, ref_text}
use Rattle.hb_file_names.specs.BackRef.{IsBackRef}
use Rattle.hb_layout.specs.declared.base.Base.{Base}
use Rattle.hb_layout.specs.declared.spots.TheConstants.{MAX_EPOCH, MAX_LIST_NUMBER}
use Rattle.hb_layout.specs.Spot.{Pointer, Spot, Epoch, Tmp, RegionSet, StoreList, Live, Pointing, Archived, BackRefTo, Info, Manifest, WorkInfo, WorkManifest, Staged}

-- the table, region and family of a base are in their grammars
pub record HasNames (base : Base) : Type 0 where
  pub table : IsTableName base.table
  pub region : IsEncoded base.region
  pub family : IsFamilyName base.family

-- so are those of a link or a reference, and its name is that of either
pub record IsPointer (pointer : Pointer) : Type 0 where
  pub table : IsTableName pointer.table
  pub region : IsEncoded pointer.region
  pub family : IsFamilyName pointer.family
  pub name : IsLinkName pointer.name ⊎ IsRefName pointer.name

-- the number of a list or set: 1 to 2 ^ 63 - 1
abbrev pub IsListNumber : ℕ → Type 0
IsListNumber number = (1 ≤ number) × (number ≤ MAX_LIST_NUMBER)

-- the number of an epoch: at most 2 ^ 31 - 1
abbrev pub IsEpoch : ℕ → Type 0
IsEpoch number = number ≤ MAX_EPOCH

-- each name of the spot is in its grammar, and the numbers of epochs, lists and sets are within their limits
abbrev pub IsSpelled : Spot → Type 0
IsSpelled (Epoch number) = IsEpoch number
IsSpelled (Tmp name) = IsFileName name
IsSpelled (RegionSet table number) = IsTableName table × IsListNumber number
IsSpelled (StoreList table region number) = IsTableName table × IsEncoded region × IsListNumber number
IsSpelled (Live base) = HasNames base × IsFileName base.name
IsSpelled (Pointing pointer) = IsPointer pointer
IsSpelled (Archived base) = HasNames base × IsFileName base.name
IsSpelled (BackRefTo base text) = HasNames base × IsFileName base.name × IsBackRef text
IsSpelled (Info name) = IsSnapName name
IsSpelled (Manifest name) = IsSnapName name
IsSpelled (WorkInfo name) = IsSnapName name
IsSpelled (WorkManifest name) = IsSnapName name
IsSpelled (Staged folder family name) = IsComponent folder × IsFamilyName family × IsComponent name

-- the epoch in a file name is within its limit
pub record HasEpoch (name : List ℕ) : Type 0 where
  pub parts : FileParts
  pub text : name ≡ file_text parts
  pub limit : IsEpoch parts.epoch

-- what a link or a reference is named after: a file, by its name
pub data IsNamedAfter (file name : List ℕ) : Type 0 where
  -- a link to the file
  link : (table region : List ℕ) → IsTableName table → IsEncoded region → name ≡ link_text table region file → IsNamedAfter file name
  -- a reference to a half of it
  half : (parent : List ℕ) → IsEncoded parent → name ≡ ref_text file parent → IsNamedAfter file name
  -- a reference to a half of a link to it
  half_link : (table region parent : List ℕ) → IsTableName table → IsEncoded region → IsEncoded parent →
      name ≡ ref_text (link_text table region file) parent → IsNamedAfter file name

-- the epoch in a spot's file name, or in the file name that its link or reference is named after, is within its limit
abbrev pub HasEpochs : Spot → Type 0
HasEpochs (Tmp name) = HasEpoch name
HasEpochs (Live base) = HasEpoch base.name
HasEpochs (Pointing pointer) = (file : List ℕ) × IsFileName file × IsNamedAfter file pointer.name × HasEpoch file
HasEpochs (Archived base) = HasEpoch base.name
HasEpochs (BackRefTo base text) = HasEpoch base.name
HasEpochs _ = Unit {0}

-- a spot that the layout has: its names are in their grammars, and all numbers in them within their limits
abbrev pub IsLawful : Spot → Type 0
IsLawful spot = IsSpelled spot × HasEpochs spot
