use Rattle.std.proofs.Common.{◌≡◌, ◌∙◌, ap, sym, refl, Option, Some, None}
use Rattle.std.specs.Prelude.{option_and_then}
use Rattle.std.specs.Str.Parse.{ParsesUnsigned, ExplainsUnsignedError, HasUnsignedDigitsIfOk}
use Rattle.clap.specs.Words.{Text, found_of, one_text}
use Rattle.clap.proofs.WalkLemmas.{one_text-rows}
use Rattle.shell_words.specs.Matches.{number_of}
use Rattle.shell_words.proofs.NumberLemmas.{number_of-count}
use Rattle.shell_words.proofs.words.count_given.Goals as goal

pub returns : goal.returns
returns c =
    let f = found_of c.args.matches.now in
    let id = c.args.id.now in
    go (one_text f id) refl ∙ ap (option_and_then (number_of 4294967295)) (one_text-rows f id)
  where
    go : (o : Option Text) → one_text (found_of c.args.matches.now) c.args.id.now ≡ o
        → c.get_one.result ≡ option_and_then (number_of 4294967295) (one_text (found_of c.args.matches.now) c.args.id.now)
    go None e = c.get_one.ensures.none e ∙ ap (option_and_then (number_of 4294967295)) (sym e)
    go (Some t) e = number_of-count (λ bs r. ParsesUnsigned 32 10 bs r × ExplainsUnsignedError 10 bs r × HasUnsignedDigitsIfOk bs r) t c.get_one.result (λ r h. h.0) (c.get_one.ensures.value t e) ∙ ap (option_and_then (number_of 4294967295)) (sym e)
