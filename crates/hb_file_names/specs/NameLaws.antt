use Rattle.std.specs.Prelude.{◌≡◌, ℕ, List, ◌++◌, take}
use Rattle.hb_names.specs.Encoded.{IsEncoded}
use Rattle.hb_names.specs.TableName.{IsTableName}
use Rattle.hb_file_names.specs.declared.file_parts.FileParts.{FileParts}
use Rattle.hb_file_names.specs.FileName.{IsFileName}
use Rattle.hb_file_names.specs.FileParts.{file_text, sixteen_digits}
use Rattle.hb_file_names.specs.LinkParts.{link_text}
use Rattle.hb_file_names.specs.RefName.{ref_text}
use Rattle.hb_file_names.specs.BackRef.{back_text}

-- the first 32 bytes of a file name are the digits of its epoch and its counter
abbrev pub HasDigitsFirst : FileParts → Type 0
HasDigitsFirst parts = take 32 (file_text parts) ≡ sixteen_digits parts.epoch ++ sixteen_digits parts.counter

-- links of one name are to one file of one region
abbrev pub LinksAreTold : Type 0
LinksAreTold = (t u r s f g : List ℕ) → IsTableName t → IsTableName u → IsEncoded r → IsEncoded s → link_text t r f ≡ link_text u s g →
    (t ≡ u) × (r ≡ s) × (f ≡ g)

-- references of one name are to halves of one file or link, of one region
abbrev pub ReferencesAreTold : Type 0
ReferencesAreTold = (n m p q : List ℕ) → IsEncoded p → IsEncoded q → ref_text n p ≡ ref_text m q → (n ≡ m) × (p ≡ q)

-- back references of one name are one region's
abbrev pub BackReferencesAreTold : Type 0
BackReferencesAreTold = (r s t u : List ℕ) → IsEncoded r → IsEncoded s → back_text r t ≡ back_text s u → (r ≡ s) × (t ≡ u)

-- a half of a region's own file is named as no link and no half of a link is
abbrev pub HalvesAreNoLinks : Type 0
HalvesAreNoLinks = (f p t r g : List ℕ) → IsFileName f → IsEncoded p → ref_text f p ≡ link_text t r g → ⊥
