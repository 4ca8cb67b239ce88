use Rattle.std.proofs.Common.{◌≡◌, ℕ, ◌<◌, ◌^◌, List, Bool, true, false, IfSome, IsSome, ap, ◌∙◌, arith, inl, inr}
use Rattle.hb_grammar.specs.Joined.{Joined}
use Rattle.hb_grammar.specs.declared.class.Class.TheVariants.{FamilyStart}
use Rattle.hb_names.specs.FamilyName.{IsFamilyName}
use Rattle.shell_text.specs.declared.argument.Argument.{Argument}
use Rattle.shell_text.specs.declared.text.Place.TheVariants.{Between}
use Rattle.shell_text.specs.Blanks.{BlanksFrom}
use Rattle.shell_text.specs.Text.{IsText, meaning}
use Rattle.shell_line.specs.Table.{IsDelete, IsDeleted, IsItem, IsPut, IsStamp, IsTwo, IsVersionStamp, cell_value, column, family, name, row}
use Rattle.shell_value.specs.Cut.{before, has_mark}
use Rattle.shell_value.specs.Quotes.{meant, number_of, rest_of, text_of, value_of}
use Rattle.shell_value.proofs.ColumnLemmas.{IsColumn-Means, Lacks-IsFamilyName, before-IsColumn, has_mark-middle, no_mark}
use Rattle.shell_value.proofs.FitsLemmas.{HasOne, HasOne-IsStamp, HasOne-IsVersionStamp, number_of-fits}
use Rattle.shell_value.proofs.NameLemmas.{Means-Named}
use Rattle.shell_value.proofs.PieceLemmas.{IsCut-IsItem, IsCut-IsQuoted}
use Rattle.shell_value.proofs.UnescapeLemmas.{IsSome-IsText, Means-meant}

-- the texts of a line of two arguments
pub record TwoTexts (first second : Argument) (bytes : List ℕ) : Type 0 where
  pub one : IsText first (text_of bytes)
  pub two : IsText second (text_of (rest_of bytes))

pub TwoTexts-IsTwo : (first second : Argument) (bytes : List ℕ) → IsTwo first second bytes → TwoTexts first second bytes
TwoTexts-IsTwo first second bytes line =
    let front = IsCut-IsQuoted true first (Joined (IsItem second) (BlanksFrom false)) bytes line in
    let back = IsCut-IsItem second (BlanksFrom false) (rest_of bytes) front.in_rest in
    record { one = front.means; two = back.means }

-- the texts of a line that puts, and its timestamp
pub record PutTexts (bytes : List ℕ) : Type 0 where
  pub in_table : IsText name (text_of bytes)
  pub in_row : IsText row (text_of (rest_of bytes))
  pub in_column : IsText column (text_of (rest_of (rest_of bytes)))
  pub in_value : IsText cell_value (text_of (rest_of (rest_of (rest_of bytes))))
  pub stamp : IsStamp (rest_of (rest_of (rest_of (rest_of bytes))))

pub PutTexts-IsPut : (bytes : List ℕ) → IsPut bytes → PutTexts bytes
PutTexts-IsPut bytes line =
    let table = IsCut-IsQuoted true name (Joined (IsItem row) (Joined (IsItem column) (Joined (IsItem cell_value) IsStamp))) bytes line in
    let rows = IsCut-IsItem row (Joined (IsItem column) (Joined (IsItem cell_value) IsStamp)) (rest_of bytes) table.in_rest in
    let columns = IsCut-IsItem column (Joined (IsItem cell_value) IsStamp) (rest_of (rest_of bytes)) rows.in_rest in
    let values = IsCut-IsItem cell_value IsStamp (rest_of (rest_of (rest_of bytes))) columns.in_rest in
    record { in_table = table.means; in_row = rows.means; in_column = columns.means; in_value = values.means; stamp = values.in_rest }

-- the family of a column
pub family-column : (text : List ℕ) → IsText column text → IsFamilyName (before 58 (meant text))
family-column text h = before-IsColumn (meant text) (IsColumn-Means (meant text) (Means-meant column text h))

pub fits-HasOne : (bytes : List ℕ) → HasOne 9223372036854775807 bytes → IfSome (number_of bytes) (λ n. n < 2 ^ 64)
fits-HasOne bytes one = number_of-fits 9223372036854775807 (2 ^ 64) bytes (omega arith) (omega arith) one

-- what is deleted, and the number behind it
pub record DeletedTexts (bytes : List ℕ) : Type 0 where
  pub some : IsSome (meaning Between (text_of bytes))
  pub family : has_mark 58 (value_of bytes) ≡ false → IsFamilyName (value_of bytes)
  pub column : has_mark 58 (value_of bytes) ≡ true → IsFamilyName (before 58 (value_of bytes))
  pub one : HasOne 9223372036854775807 (rest_of bytes)

true_false : (b : Bool) → b ≡ true → b ≡ false → ⊥
true_false true e f = absurd (cc)
true_false false e f = absurd (cc)

of_column : (bytes : List ℕ) → Joined (IsItem column) IsVersionStamp bytes → DeletedTexts bytes
of_column bytes line =
    let cut = IsCut-IsItem column IsVersionStamp bytes line in
    let read = IsColumn-Means (value_of bytes) (Means-meant column (text_of bytes) cut.means) in
    let marked : has_mark 58 (value_of bytes) ≡ true = ap (has_mark 58) read.whole ∙ has_mark-middle 58 read.family read.qualifier in
    record {
      some = IsSome-IsText column (text_of bytes) cut.means;
      family = λ none. absurd (true_false (has_mark 58 (value_of bytes)) marked none);
      column = λ _. before-IsColumn (value_of bytes) read;
      one = HasOne-IsVersionStamp (rest_of bytes) cut.in_rest;
    }

of_family : (bytes : List ℕ) → Joined (IsItem family) IsStamp bytes → DeletedTexts bytes
of_family bytes line =
    let cut = IsCut-IsItem family IsStamp bytes line in
    let named : IsFamilyName (value_of bytes) = (Means-Named FamilyStart 126 (value_of bytes)).0 (Means-meant family (text_of bytes) cut.means) in
    let none : has_mark 58 (value_of bytes) ≡ false = no_mark 58 (value_of bytes) (Lacks-IsFamilyName (value_of bytes) named) in
    record {
      some = IsSome-IsText family (text_of bytes) cut.means;
      family = λ _. named;
      column = λ marked. absurd (true_false (has_mark 58 (value_of bytes)) marked none);
      one = HasOne-IsStamp (rest_of bytes) cut.in_rest;
    }

deleted_texts : (bytes : List ℕ) → IsDeleted bytes → DeletedTexts bytes
deleted_texts bytes (inl line) = of_column bytes line
deleted_texts bytes (inr line) = of_family bytes line

pub record DeleteTexts (bytes : List ℕ) : Type 0 where
  pub in_table : IsText name (text_of bytes)
  pub in_row : IsText row (text_of (rest_of bytes))
  pub deleted : DeletedTexts (rest_of (rest_of bytes))

pub DeleteTexts-IsDelete : (bytes : List ℕ) → IsDelete bytes → DeleteTexts bytes
DeleteTexts-IsDelete bytes line =
    let table = IsCut-IsQuoted true name (Joined (IsItem row) IsDeleted) bytes line in
    let rows = IsCut-IsItem row IsDeleted (rest_of bytes) table.in_rest in
    record { in_table = table.means; in_row = rows.means; deleted = deleted_texts (rest_of (rest_of bytes)) rows.in_rest }
