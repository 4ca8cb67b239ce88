-- The options of a command line that names none.
use Rattle.std.specs.Prelude.{None}
use Rattle.shell_words.specs.declared.options.Options.{Options}

-- archived files are kept for 300,000 milliseconds, each moment is the clock's, each chore does one round
abbrev pub default_options : Options
default_options = record { ttl = 300000; tick = None; rounds = 1 }
