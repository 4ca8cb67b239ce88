-- A plain line of words: the store, the command, and then any of the options, each at most once and as two words.
use Rattle.std.specs.Prelude.{◌≡◌, ◌≤◌, ℕ, ⊤, Bool, true, false, List, [], ◌∷◌, Option, Some, None, codes, option_map, unwrap_or, if◌then◌else◌}
use Rattle.std.specs.Str.Parse.{IsNumeral, digits_value}
use Rattle.clap.specs.Words.{Text}
use Rattle.shell_words.specs.declared.options.Options.{Options}
use Rattle.shell_words.specs.Command.{Knob, knob_id, low_of, high_of, ttl, tick, rounds}
use Rattle.shell_words.specs.Options.{default_options}

-- the word of an option: two hyphens and its name
abbrev pub flag_of : Knob → Text
flag_of k = 45 ∷ 45 ∷ knob_id k

abbrev pub same_knob : Knob → Knob → Bool
same_knob ttl ttl = true
same_knob tick tick = true
same_knob rounds rounds = true
same_knob _ _ = false

-- an option with the text of its number
abbrev pub Setting : Type 0
Setting = Knob × Text

abbrev pub setting_words : List Setting → List Text
setting_words [] = []
setting_words (g ∷ gs) = flag_of g.0 ∷ g.1 ∷ setting_words gs

-- the text that the settings give an option
abbrev pub given_of : Knob → List Setting → Option Text
given_of k [] = None
given_of k (g ∷ gs) = if same_knob g.0 k then Some g.1 else given_of k gs

-- digits, with a value in the option's range
abbrev pub IsInRange : Setting → Type 0
IsInRange g = IsNumeral 10 g.1 × (low_of g.0 ≤ digits_value 10 g.1) × (digits_value 10 g.1 ≤ high_of g.0)

-- each number is in its range, and no option comes twice
abbrev pub IsProper : List Setting → Type 0
IsProper [] = ⊤
IsProper (g ∷ gs) = IsInRange g × (given_of g.0 gs ≡ None) × IsProper gs

abbrev pub value_given : Knob → List Setting → Option ℕ
value_given k gs = option_map (digits_value 10) (given_of k gs)

-- the numbers of the settings, and the defaults of the options that are not set
abbrev pub options_given : List Setting → Options
options_given gs = record {
  ttl = unwrap_or (value_given ttl gs) default_options.ttl;
  tick = value_given tick gs;
  rounds = unwrap_or (value_given rounds gs) default_options.rounds;
}

-- the words are a plain line that chooses these options
abbrev pub IsPlainLine : List Text → Options → Type 0
IsPlainLine ws options = (gs : List Setting) × (ws ≡ codes "mem" ∷ codes "script" ∷ setting_words gs)
    × IsProper gs × (options ≡ options_given gs)
