-- The command by which the words are read: `hbase STORE COMMAND [--ttl N] [--tick N] [--rounds N]`, in clap's terms.
use Rattle.std.specs.Prelude.{◌≡◌, ℕ, ℤ, pos, negsuc, ⊤, true, List, [], ◌∷◌, map, Some, codes}
use Rattle.std.specs.Borrow.{Bor}
use Rattle.clap.specs.Words.{App, Rule, Text, new_app, new_rule, with_rule}
use Rattle.clap.specs.declared.builder.action.ArgAction.TheVariants.{Set}
use Rattle.clap.specs.declared.builder.value_parser.ValueParser.{ValueParser}
use Rattle.clap.specs.declared.builder.value_parser.ValueParser.TheVariants as vp

-- the names that an argument takes
abbrev pub Names : Type 0
Names = Bor (List (Bor Text))

-- an argument that is named by its place and has to be given
abbrev pub word_rule : Text → ValueParser → Rule
word_rule id parser = record (new_rule id) {
  action = Some Set;
  required = true;
  parser = Some parser;
}

-- an option of one value
abbrev pub option_rule : Text → ValueParser → Rule
option_rule id parser = record (new_rule id) {
  long = Some id;
  action = Some Set;
  parser = Some parser;
}

-- numbers between two ends
abbrev pub IsBetween : ℕ → ℤ → ValueParser → Type 0
IsBetween low (pos high) p = p ≡ vp.Unsigned low high
IsBetween low (negsuc high) p = ⊤

-- the options, each of one number
pub data Knob : Type 0 where
  ttl : Knob
  tick : Knob
  rounds : Knob

abbrev pub knob_id : Knob → Text
knob_id ttl = codes "ttl"
knob_id tick = codes "tick"
knob_id rounds = codes "rounds"

-- the least number of each
abbrev pub low_of : Knob → ℕ
low_of tick = 1
low_of _ = 0

-- the greatest number of each
abbrev pub high_of : Knob → ℕ
high_of ttl = 9223372036854775807
high_of tick = 1000000
high_of rounds = 1000

abbrev pub knob_rule : Knob → Rule
knob_rule k = option_rule (knob_id k) (vp.Unsigned (low_of k) (high_of k))

-- the command without its arguments: no name of the program before the words, and no `--help`
abbrev pub bare_app : App
bare_app = record (new_app (codes "hbase")) {
  top = record ((new_app (codes "hbase")).top) { no_binary_name = true; disable_help_flag = true };
}

abbrev pub app_over : Names → Names → App
app_over stores commands = with_rule (with_rule (with_rule (with_rule (with_rule bare_app
    (word_rule (codes "STORE") (vp.Names stores)))
    (word_rule (codes "COMMAND") (vp.Names commands)))
    (knob_rule ttl)) (knob_rule tick)) (knob_rule rounds)

-- the stores that there are: `mem`, a store in memory
abbrev pub store_names : List Text
store_names = codes "mem" ∷ []

-- the commands that there are: `script`, which runs a script
abbrev pub command_names : List Text
command_names = codes "script" ∷ []

abbrev pub IsCommand : App → Type 0
IsCommand a = (stores : Names) × (commands : Names) × (map (λ s. s.now) stores.now ≡ store_names)
    × (map (λ s. s.now) commands.now ≡ command_names) × (a ≡ app_over stores commands)
