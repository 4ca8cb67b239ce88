-- The command is simple, and no argument has a rule on another.
use Rattle.std.proofs.Common.{◌≡◌, ◌∙◌, ap, refl, true}
use Rattle.clap.specs.Words.{App, is_simple, is_simple_and_free}
use Rattle.clap.proofs.OnLiterals.{clap_on_literals}
use Rattle.shell_words.specs.Command.{IsCommand, Names, app_over}

simple_over : (s c : Names) → is_simple (app_over s c) ≡ true
unfolding clap_on_literals
simple_over s c = refl

free_over : (s c : Names) → is_simple_and_free (app_over s c) ≡ true
unfolding clap_on_literals
free_over s c = refl

pub is_simple-command : (a : App) → IsCommand a → is_simple a ≡ true
is_simple-command a h = ap is_simple h.4 ∙ simple_over h.0 h.1

pub is_free-command : (a : App) → IsCommand a → is_simple_and_free a ≡ true
is_free-command a h = ap is_simple_and_free h.4 ∙ free_over h.0 h.1
