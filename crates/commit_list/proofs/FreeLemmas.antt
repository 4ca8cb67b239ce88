use Rattle.std.proofs.Common.{◌≡◌, ℕ, List, refl, sym, subst}
use Rattle.hb_grammar.specs.Class.{has}
use Rattle.hb_grammar.specs.Joined.{Joined}
use Rattle.hb_grammar.specs.Marked.{Marked, Avoids}
use Rattle.hb_grammar.specs.TextOf.{IsTextOf}
use Rattle.hb_grammar.proofs.AvoidsLemmas.{Lacks, Free, Avoids-Free, Free-Joined, Free-EitherOf, Free-Marked}
use Rattle.hb_names.specs.Encoded.{IsEncoded}
use Rattle.hb_names.specs.TableName.{IsTableName}
use Rattle.hb_names.proofs.FreeLemmas.{Free-IsTableName, Free-IsEncoded}
use Rattle.hb_file_names.specs.FileName.{IsFileName}
use Rattle.hb_file_names.specs.LinkName.{IsLinkName}
use Rattle.hb_file_names.specs.HalfName.{IsHalfName}
use Rattle.hb_file_names.specs.RefName.{IsRefName}
use Rattle.hb_file_names.proofs.FreeLemmas.{Free-IsFileName}
use Rattle.commit_list.specs.declared.list_entry.EntryKind.{EntryKind}
use Rattle.commit_list.specs.declared.list_entry.EntryKind.TheVariants.{Own, Link, Half}
use Rattle.commit_list.specs.ListEntry.{IsKind, kind_word, IsNameOf}

-- no kind's word has a blank
Lacks-kind_word : (kind : EntryKind) → Lacks 32 (kind_word kind)
Lacks-kind_word Own = (refl, (refl, (refl, tt)))
Lacks-kind_word Link = (refl, (refl, (refl, (refl, tt))))
Lacks-kind_word Half = (refl, (refl, (refl, (refl, tt))))

-- the words of the kinds avoid it
pub Avoids-kind_word : Avoids (IsTextOf IsKind kind_word) 32
Avoids-kind_word =
    Avoids-Free (IsTextOf IsKind kind_word) 32 (λ bytes spelled. subst (Lacks 32) (sym spelled.2) (Lacks-kind_word spelled.0))

-- no table's name has a line feed
Free-table : Free IsTableName 10
unfolding has
Free-table = Free-IsTableName 10 refl refl

-- nor has an encoded one
Free-region : Free IsEncoded 10
unfolding has
Free-region = Free-IsEncoded 10 refl

-- nor a file's name
Free-file : Free IsFileName 10
unfolding has
Free-file = Free-IsFileName 10 refl refl (refl, (refl, (refl, (refl, (refl, (refl, (refl, tt))))))) refl

-- nor a link's
Free-IsLinkName : Free IsLinkName 10
Free-IsLinkName =
    Free-Joined (Marked IsTableName 61) (Joined (Marked IsEncoded 45) IsFileName) 10 (Free-Marked IsTableName 61 10 Free-table refl)
    (Free-Joined (Marked IsEncoded 45) IsFileName 10 (Free-Marked IsEncoded 45 10 Free-region refl) Free-file)

-- nor a reference's
Free-IsRefName : Free IsRefName 10
Free-IsRefName =
    Free-EitherOf IsHalfName (Joined (Marked IsLinkName 46) IsEncoded) 10
    (Free-Joined (Marked IsFileName 46) IsEncoded 10 (Free-Marked IsFileName 46 10 Free-file refl) Free-region)
    (Free-Joined (Marked IsLinkName 46) IsEncoded 10 (Free-Marked IsLinkName 46 10 Free-IsLinkName refl) Free-region)

-- the names of no kind have a line feed
pub Avoids-IsNameOf : (kind : EntryKind) → Avoids (IsNameOf kind) 10
Avoids-IsNameOf Own = Avoids-Free IsFileName 10 Free-file
Avoids-IsNameOf Link = Avoids-Free IsLinkName 10 Free-IsLinkName
Avoids-IsNameOf Half = Avoids-Free IsRefName 10 Free-IsRefName
