use Rattle.std.proofs.Common.{ℕ, List, [], ◌∷◌, ◌++◌, refl, arith, inl}
use Rattle.hb_grammar.specs.declared.class.Class.TheVariants.{LowerHex, Name, NameStart, FamilyStart}
use Rattle.hb_grammar.specs.Grammar.{IsLive}
use Rattle.hb_grammar.specs.Run.{IsExactly, IsRun}
use Rattle.hb_grammar.specs.RunLaws.{IsLive-IsExactly, IsLive-IsRun}
use Rattle.hb_grammar.specs.Joined.{Joined}
use Rattle.hb_grammar.specs.JoinedLaws.{IsLive-Joined}
use Rattle.hb_grammar.specs.Marked.{Marked}
use Rattle.hb_names.specs.Encoded.{IsEncoded}
use Rattle.hb_names.specs.TableName.{IsTableName}
use Rattle.hb_names.specs.FamilyName.{IsFamilyName}
use Rattle.hb_file_names.specs.FileName.{IsSuffix, IsFileName}
use Rattle.hb_file_names.specs.LinkName.{IsLinkName}
use Rattle.hb_file_names.specs.HalfName.{IsHalfName}
use Rattle.hb_file_names.specs.RefName.{IsRefName}
use Rattle.commit_list.specs.declared.list_entry.EntryKind.{EntryKind}
use Rattle.commit_list.specs.declared.list_entry.EntryKind.TheVariants.{Own, Link, Half}
use Rattle.commit_list.specs.ListEntry.{IsNameOf}

-- a grammar that has a string has one with a mark behind it
IsLive-Marked : (inner : List ℕ → Type 0) (mark : ℕ) → IsLive inner → IsLive (Marked inner mark)
IsLive-Marked inner mark live = (live.0 ++ mark ∷ [], record { front = live.0; whole = refl; in_inner = live.1 })

-- there is a family's name
pub IsLive-IsFamilyName : IsLive IsFamilyName
IsLive-IsFamilyName =
    IsLive-Joined (IsExactly FamilyStart 1) (IsRun Name 0 126) (IsLive-IsExactly FamilyStart 1) (IsLive-IsRun Name 0 126 (omega arith))

-- there is a file's name
IsLive-IsFileName : IsLive IsFileName
IsLive-IsFileName =
    let digits = IsLive-IsExactly LowerHex 16 in
    let none : IsLive IsSuffix = ([], inl refl) in
    IsLive-Joined (IsExactly LowerHex 16) (Joined (IsExactly LowerHex 16) IsSuffix) digits (IsLive-Joined (IsExactly LowerHex 16) IsSuffix digits none)

-- there is a link's name
IsLive-IsLinkName : IsLive IsLinkName
IsLive-IsLinkName =
    let table : IsLive IsTableName =
    IsLive-Joined (IsExactly NameStart 1) (IsRun Name 0 99) (IsLive-IsExactly NameStart 1) (IsLive-IsRun Name 0 99 (omega arith)) in
    IsLive-Joined (Marked IsTableName 61) (Joined (Marked IsEncoded 45) IsFileName) (IsLive-Marked IsTableName 61 table)
    (IsLive-Joined (Marked IsEncoded 45) IsFileName (IsLive-Marked IsEncoded 45 (IsLive-IsExactly LowerHex 32)) IsLive-IsFileName)

-- there is a reference's name
IsLive-IsRefName : IsLive IsRefName
IsLive-IsRefName =
    let half : IsLive IsHalfName =
    IsLive-Joined (Marked IsFileName 46) IsEncoded (IsLive-Marked IsFileName 46 IsLive-IsFileName) (IsLive-IsExactly LowerHex 32) in
    (half.0, inl half.1)

-- there is a name of each kind
pub IsLive-IsNameOf : (kind : EntryKind) → IsLive (IsNameOf kind)
IsLive-IsNameOf Own = IsLive-IsFileName
IsLive-IsNameOf Link = IsLive-IsLinkName
IsLive-IsNameOf Half = IsLive-IsRefName
