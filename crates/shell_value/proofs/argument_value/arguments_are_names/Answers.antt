use Rattle.hb_grammar.specs.declared.class.Class.TheVariants.{FamilyStart, NameStart}
use Rattle.shell_value.proofs.ColumnLemmas.{IsColumn-Means, Means-IsColumn}
use Rattle.shell_value.proofs.NameLemmas.{Means-Named, Means-any, Means-cell}
use Rattle.shell_value.proofs.argument_value.arguments_are_names.Goals as goal

pub returns-clause-table : goal.returns-clause-table
returns-clause-table c = Means-Named NameStart 99

pub returns-clause-snapshot : goal.returns-clause-snapshot
returns-clause-snapshot c = Means-Named NameStart 99

pub returns-clause-family : goal.returns-clause-family
returns-clause-family c = Means-Named FamilyStart 126

pub returns-clause-row : goal.returns-clause-row
returns-clause-row c = Means-any 1 32766

pub returns-clause-cell : goal.returns-clause-cell
returns-clause-cell c = Means-cell

pub returns-clause-column : goal.returns-clause-column
returns-clause-column c = λ bytes. (IsColumn-Means bytes, Means-IsColumn bytes)
