-- The line of a cause.
use Rattle.std.specs.Prelude.{ℕ, List, ◌++◌, codes}
use Rattle.std.specs.Fmt.{decimal}
use Rattle.shell_print.specs.declared.cause.PrintCause.{PrintCause}
use Rattle.shell_print.specs.declared.cause.PrintCause.TheVariants as cause
use Rattle.shell_print.specs.ReplyText.{refused_line, refused_with}

-- the line of a cause
abbrev pub cause_text : PrintCause → List ℕ
cause_text cause.NoMemory = refused_line (codes "NoMemory")
cause_text (cause.Closed by) = refused_with (codes "Closed") (decimal by)
cause_text cause.JournalFull = refused_line (codes "JournalFull")
cause_text cause.Spent = refused_line (codes "Spent")
cause_text cause.NsFault = refused_line (codes "NsFault")
cause_text cause.Damaged = refused_line (codes "Damaged")
