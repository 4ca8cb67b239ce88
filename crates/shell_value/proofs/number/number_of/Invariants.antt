use Rattle.std.proofs.Common.{◌≡◌, drop, filter}
use Rattle.hb_grammar.specs.Class.{is_digit}
use Rattle.shell_value.specs.Quotes.{number_after, number_of}
use Rattle.shell_value.proofs.number.number_of.Given as goal

-- the digits that are left go on with the number so far
abbrev pub invariant-loop-byte : goal.invariant-loop-byte
invariant-loop-byte l = number_after l.number (filter is_digit (drop l.byte-index l.bytes)) ≡ number_of l.bytes
