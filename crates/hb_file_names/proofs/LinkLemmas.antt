use Rattle.std.proofs.Common.{ℕ, List}
use Rattle.hb_grammar.specs.Grammar.{Same}
use Rattle.hb_grammar.specs.Joined.{Joined}
use Rattle.hb_grammar.specs.Marked.{Marked}
use Rattle.hb_grammar.proofs.SameLemmas.{Same_refl, Same_trans, Same-Joined}
use Rattle.hb_names.specs.TableName.{IsTableName}
use Rattle.hb_names.specs.Encoded.{IsEncoded}
use Rattle.hb_file_names.specs.FileName.{IsFileName}
use Rattle.hb_file_names.specs.HalfName.{IsHalfName}
use Rattle.hb_file_names.specs.LinkName.{IsLinkName}
use Rattle.hb_file_names.proofs.RegroupLemmas.{Same-Joined_assoc, Same-Marked_Joined}

-- a reference to a half of a link's file, read from the left: its table, its region, and a half of the file
pub Same-IsLinkName : Same (Joined (Marked IsTableName 61) (Joined (Marked IsEncoded 45) IsHalfName)) (Joined (Marked IsLinkName 46) IsEncoded)
Same-IsLinkName =
    let table : List ℕ → Type 0 = Marked IsTableName 61 in
    let region : List ℕ → Type 0 = Marked IsEncoded 45 in
    let file : List ℕ → Type 0 = Marked IsFileName 46 in
    let inner = Same_trans _ _ _ (Same-Joined _ _ _ _ (Same_refl table) (Same-Joined_assoc region file IsEncoded)) (Same-Joined_assoc table (Joined region file) IsEncoded) in
    let marked = Same_trans _ _ _ (Same-Joined _ _ _ _ (Same_refl table) (Same-Marked_Joined region IsFileName 46)) (Same-Marked_Joined table (Joined region IsFileName) 46) in
    Same_trans _ _ _ inner (Same-Joined _ _ _ _ marked (Same_refl IsEncoded))
