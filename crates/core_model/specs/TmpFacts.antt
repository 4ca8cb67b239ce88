-- What holds of the names of temporary and of archived files.
use Rattle.std.specs.Prelude.{◌≡◌, ℕ, true, List, Option, Some, None}
use Rattle.hb_layout.specs.declared.base.Base.{Base}
use Rattle.ns_tree.specs.declared.file.FileState.{FileState}
use Rattle.core_model.specs.Disk.{Bases}
use Rattle.core_model.specs.Entries.{stem, IsBase}
use Rattle.core_model.specs.Site.{is_store_name}
use Rattle.core_model.specs.FileGuards.{next_name}
use Rattle.core_model.specs.State.{Written}

-- the name of what was written is one that this opening drew
pub record HasDrawn (epoch : ℕ) (written : List ℕ → Option Written) : Type 0 where
  pub at : (name : List ℕ) (w : Written) → written name ≡ Some w → (k : ℕ) × (name ≡ next_name epoch k None)

-- no base's file has the digits of a temporary file
pub record TmpsApart (tmps : List ℕ → Option FileState) (live archived : Bases) : Type 0 where
  pub from_live : (name : List ℕ) (f : FileState) → tmps name ≡ Some f → (b : Base) (g : FileState) → live b ≡ Some g → is_store_name b.name ≡ true → stem b.name ≡ name → ⊥
  pub from_archived : (name : List ℕ) (f : FileState) → tmps name ≡ Some f → (b : Base) (g : FileState) → archived b ≡ Some g → stem b.name ≡ name → ⊥

-- what is archived has its names in their grammars
pub record ArchivedAreLawful (archived : Bases) : Type 0 where
  pub at : (b : Base) (f : FileState) → archived b ≡ Some f → IsBase b
