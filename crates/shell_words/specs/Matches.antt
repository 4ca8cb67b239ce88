-- What the matches of the command say.
use Rattle.std.specs.Prelude.{ℕ, List, Option, Some, None, option_and_then, unwrap_or, if◌then◌else◌}
use Rattle.std.specs.Str.Parse.{digits_value, without_leading_plus}
use Rattle.clap.specs.ValueTests.{is_unsigned_in}
use Rattle.clap.specs.Words.{Row, Text, one_of}
use Rattle.shell_words.specs.declared.options.Options.{Options}
use Rattle.shell_words.specs.Command.{Knob, knob_id, ttl, tick, rounds}
use Rattle.shell_words.specs.Options.{default_options}

-- the number up to a limit that a text spells, with or without a plus sign
abbrev pub number_of : ℕ → Text → Option ℕ
number_of limit t = if is_unsigned_in 0 limit t then Some (digits_value 10 (without_leading_plus t)) else None

-- the number of an option, where it is given
abbrev pub number_in : ℕ → Text → List Row → Option ℕ
number_in limit id rows = option_and_then (number_of limit) (one_of id rows)

abbrev pub long_in : Knob → List Row → Option ℕ
long_in k = number_in 18446744073709551615 (knob_id k)

-- the options that are given, and the defaults of the others
abbrev pub options_of : List Row → Options
options_of rows = record {
  ttl = unwrap_or (long_in ttl rows) default_options.ttl;
  tick = long_in tick rows;
  rounds = unwrap_or (number_in 4294967295 (knob_id rounds) rows) default_options.rounds;
}
