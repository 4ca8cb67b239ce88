use Rattle.std.proofs.Common.{◌≡◌, true, drop}
use Rattle.shell_text.specs.Text.{is_small}
use Rattle.shell_value.proofs.UnescapeLemmas.{IsReading}
use Rattle.shell_value.proofs.argument_value.unescaped.Given as goal

-- what was read and what is left mean together what the text means
abbrev pub invariant-loop-byte : goal.invariant-loop-byte
invariant-loop-byte l = record { small : is_small l.place ≡ true; reading : IsReading l.text l.out.items l.place (drop l.byte-index l.text) }
