use Rattle.std.proofs.Common.{◌≡◌, ℕ, false}
use Rattle.hb_grammar.specs.declared.class.Class.TheVariants.{LowerHex, Name, NameStart, FamilyStart}
use Rattle.hb_grammar.specs.Class.{has}
use Rattle.hb_grammar.specs.Run.{IsExactly, IsRun}
use Rattle.hb_grammar.proofs.AvoidsLemmas.{Free, Free-IsRun, Free-IsExactly, Free-Joined}
use Rattle.hb_names.specs.TableName.{IsTableName}
use Rattle.hb_names.specs.FamilyName.{IsFamilyName}
use Rattle.hb_names.specs.Encoded.{IsEncoded}

-- no table's name has a byte that is in none of its classes
pub Free-IsTableName : (mark : ℕ) → has NameStart mark ≡ false → has Name mark ≡ false → Free IsTableName mark
Free-IsTableName mark first other =
    Free-Joined (IsExactly NameStart 1) (IsRun Name 0 99) mark (Free-IsExactly NameStart 1 mark first) (Free-IsRun Name 0 99 mark other)

-- nor has a family's
pub Free-IsFamilyName : (mark : ℕ) → has FamilyStart mark ≡ false → has Name mark ≡ false → Free IsFamilyName mark
Free-IsFamilyName mark first other =
    Free-Joined (IsExactly FamilyStart 1) (IsRun Name 0 126) mark (Free-IsExactly FamilyStart 1 mark first) (Free-IsRun Name 0 126 mark other)

-- nor an encoded one
pub Free-IsEncoded : (mark : ℕ) → has LowerHex mark ≡ false → Free IsEncoded mark
Free-IsEncoded mark outside = Free-IsExactly LowerHex 32 mark outside
