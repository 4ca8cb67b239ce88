use Rattle.std.specs.Prelude.{ℕ, List, ◌++◌, codes}
use Rattle.hb_names.specs.FamilyName.{IsFamilyName}
use Rattle.hb_file_names.specs.FileName.{IsFileName}
use Rattle.hb_file_names.specs.LinkName.{IsLinkName}
use Rattle.hb_file_names.specs.RefName.{IsRefName}
use Rattle.commit_list.specs.declared.list_entry.EntryKind.{EntryKind}
use Rattle.commit_list.specs.declared.list_entry.EntryKind.TheVariants.{Own, Link, Half}
use Rattle.commit_list.specs.declared.list_entry.ListEntry.{ListEntry}
use Rattle.commit_line.specs.Line.{field, ended}

-- the word of a kind of entry
abbrev pub kind_word : EntryKind → List ℕ
kind_word Own = codes "own"
kind_word Link = codes "link"
kind_word Half = codes "half"

-- each kind is one of an entry
abbrev pub IsKind : EntryKind → Type 0
IsKind kind = Unit {0}

-- the names of entries of a kind
abbrev pub IsNameOf : EntryKind → List ℕ → Type 0
IsNameOf Own = IsFileName
IsNameOf Link = IsLinkName
IsNameOf Half = IsRefName

-- an entry whose family and name are names of their kinds
pub record IsEntry (entry : ListEntry) : Type 0 where
  pub family : IsFamilyName entry.family
  pub name : IsNameOf entry.kind entry.name

-- the line of an entry
abbrev pub entry_text : ListEntry → List ℕ
entry_text entry = field (kind_word entry.kind) ++ (field entry.family ++ ended entry.name)
