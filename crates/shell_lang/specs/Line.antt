-- A line that asks for a job.
use Rattle.std.specs.Prelude.{◌≡◌, ℕ, List, Contains}
use Rattle.hb_grammar.specs.Grammar.{IsFault}
use Rattle.plain_model.specs.declared.job.Job.{Job}
use Rattle.shell_line.specs.declared.line_kind.LineKind.{LineKind}
use Rattle.shell_line.specs.Line.{IsLine, IsLineOf, behind_word}
use Rattle.shell_lang.specs.declared.line.LineError.{LineError}
use Rattle.shell_lang.specs.declared.line.LineError.TheVariants.{Bad, NoMemory}
use Rattle.shell_lang.specs.Jobs.{job_of}

-- a line of one of the kinds, and the job that it asks for
pub record Asks (kinds : List LineKind) (line : List ℕ) (job : Job) : Type 0 where
  pub kind : LineKind
  pub listed : Contains kinds kind
  pub is : IsLineOf kind line
  pub asked : job ≡ job_of kind (behind_word kind line)

-- a line leaves the grammar behind its longest prefix that a line begins with; or it is one, and there is no memory for its job
abbrev pub IsLineError : List LineKind → List ℕ → LineError → Type 0
IsLineError kinds line (Bad fault) = IsFault (IsLine kinds) line fault.0
IsLineError kinds line NoMemory = IsLine kinds line
