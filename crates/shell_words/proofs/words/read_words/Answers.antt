use Rattle.std.proofs.Common.{◌≢◌, ◌∙◌, List, ap, map, sym, inl, inr, []}
use Rattle.std.specs.String.{string_bytes}
use Rattle.clap.specs.Words.{Text, app_of, fault_of}
use Rattle.shell_words.specs.Matches.{options_of}
use Rattle.shell_words.proofs.CommandLemmas.{is_free-command, is_simple-command}
use Rattle.shell_words.proofs.LineLemmas.{takes-plain}
use Rattle.shell_words.proofs.words.read_words.Goals as goal

pub returns-in-Ok-try_get_matches_from : goal.returns-in-Ok-try_get_matches_from
returns-in-Ok-try_get_matches_from c =
    let shape = c.in-Ok.ensures in
    let parse = c.in-Ok-try_get_matches_from.ensures in
    let rows = (parse.matches (is_simple-command _ shape)).0 in
    let says = c.options_given.ensures ∙ ap options_of rows in
    let app = app_of c.in-Ok.command in
    let ws : List Text = map string_bytes c.args.words.now in
    record {
      reads = (app, shape, parse.kinds (is_free-command _ shape), sym says);
      plain = λ options line. says ∙ (takes-plain app ws options shape line).1;
    }

pub returns : goal.returns
returns c =
    let shape = c.in-Ok.ensures in
    let kinds = c.in-Err.ensures.kinds (is_free-command _ shape) in
    let refused : fault_of (app_of c.in-Ok.command) (map string_bytes c.args.words.now) ≢ [] = λ none. elim kinds [
      | inl m ↦ absurd (c.in_default-kind.not-OutOfMemory (c.kind.ensures ∙ m))
      | inr k ↦ rw none at k
    ] in
    record {
      reads = (app_of c.in-Ok.command, shape, refused);
      plain = λ options line. refused (takes-plain _ _ options shape line).0;
    }
