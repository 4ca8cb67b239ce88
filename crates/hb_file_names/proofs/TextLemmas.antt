use Rattle.std.proofs.Common.{ℕ, List, [], ◌∷◌, ◌++◌, refl, sym, inl, inr}
use Rattle.std.proofs.lemmas.List.{append_assoc}
use Rattle.hb_grammar.specs.Joined.{Joined}
use Rattle.hb_grammar.specs.Marked.{Marked}
use Rattle.hb_names.specs.Encoded.{IsEncoded}
use Rattle.hb_names.specs.TableName.{IsTableName}
use Rattle.hb_file_names.specs.FileName.{IsFileName}
use Rattle.hb_file_names.specs.LinkName.{IsLinkName}
use Rattle.hb_file_names.specs.LinkParts.{link_text}
use Rattle.hb_file_names.specs.RefName.{IsRefName, ref_text}
use Rattle.hb_file_names.specs.BackRef.{IsBackRef, back_text}

-- strings of two grammars with a mark between them
Joined-Marked : (inner second : List ℕ → Type 0) (mark : ℕ) (front back : List ℕ) → inner front → second back → Joined (Marked inner mark) second (front ++ mark ∷ back)
Joined-Marked inner second mark front back a b = record {
  front = front ++ mark ∷ [];
  back = back;
  whole = sym (append_assoc front (mark ∷ []) back);
  in_first = record { front = front; whole = refl; in_inner = a };
  in_second = b;
}

-- the text of a table, a region and a file is a link's name
pub IsLinkName-link_text : (table region file : List ℕ) → IsTableName table → IsEncoded region → IsFileName file → IsLinkName (link_text table region file)
IsLinkName-link_text table region file a b c =
    Joined-Marked IsTableName (Joined (Marked IsEncoded 45) IsFileName) 61 table (region ++ 45 ∷ file) a
    (Joined-Marked IsEncoded IsFileName 45 region file b c)

-- the text of a file and a region is a reference's name
pub IsRefName-file : (file parent : List ℕ) → IsFileName file → IsEncoded parent → IsRefName (ref_text file parent)
IsRefName-file file parent a b = inl (Joined-Marked IsFileName IsEncoded 46 file parent a b)

-- and so is that of a link and a region
pub IsRefName-link : (link parent : List ℕ) → IsLinkName link → IsEncoded parent → IsRefName (ref_text link parent)
IsRefName-link link parent a b = inr (Joined-Marked IsLinkName IsEncoded 46 link parent a b)

-- the text of a region and a table is a back reference
pub IsBackRef-back_text : (region table : List ℕ) → IsEncoded region → IsTableName table → IsBackRef (back_text region table)
IsBackRef-back_text region table a b = Joined-Marked IsEncoded IsTableName 46 region table a b
