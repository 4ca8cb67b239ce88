use Rattle.std.proofs.Common.{ap, ap₂, codes, true, map, ◌≡◌, ◌∙◌}
use Rattle.std.proofs.lemmas.Result.{IfOk-weaker}
use Rattle.clap.specs.Words.{app_of, rule_of, with_rule}
use Rattle.clap.specs.Simple.{app_of_fields, on_top}
use Rattle.clap.specs.declared.builder.value_parser.ValueParser.TheVariants as parser
use Rattle.shell_words.specs.Command.{bare_app, command_names, knob_rule, option_rule, rounds, store_names, tick, ttl, word_rule}
use Rattle.shell_words.proofs.command.hbase_command.Goals as goal

pub returns : goal.returns
returns c =
    let stores = c.stores.result in
    let commands = c.commands.result in
    let stores_are : map (λ s. s.now) stores.now ≡ store_names = c.stores.ensures in
    let commands_are : map (λ s. s.now) commands.now ≡ command_names = c.commands.ensures in
    let store_is : rule_of c.word_arg-store.result ≡ word_rule (codes "STORE") (parser.Names stores) = c.word_arg-store.ensures.rule in
    let command_is : rule_of c.word_arg-command.result ≡ word_rule (codes "COMMAND") (parser.Names commands) = c.word_arg-command.ensures.rule in
    let ttl_is : rule_of c.value_arg-ttl.result ≡ knob_rule ttl = c.value_arg-ttl.ensures.rule ∙ ap (option_rule (codes "ttl")) c.number.ensures in
    let tick_is : rule_of c.value_arg-tick.result ≡ knob_rule tick = c.value_arg-tick.ensures.rule ∙ ap (option_rule (codes "tick")) c.number-2.ensures in
    let rounds_is : rule_of c.value_arg-rounds.result ≡ knob_rule rounds = c.value_arg-rounds.ensures.rule ∙ ap (option_rule (codes "rounds")) c.number-3.ensures in
    let named : app_of c.no_binary_name.result ≡ on_top (λ s. record s { no_binary_name = true }) (app_of c.new.result) = ap app_of_fields c.no_binary_name.ensures in
    let helpless : app_of c.disable_help_flag.result ≡ on_top (λ s. record s { disable_help_flag = true }) (app_of c.no_binary_name.result) = ap app_of_fields c.disable_help_flag.ensures in
    let bare : app_of c.disable_help_flag.result ≡ bare_app = helpless ∙ ap (on_top (λ s. record s { disable_help_flag = true })) (named ∙ ap (on_top (λ s. record s { no_binary_name = true })) c.new.ensures.app) in
    let one = c.in_ok-arg.ensures.shape c.word_arg-store.ensures.local ∙ ap₂ with_rule bare store_is in
    let two = c.in_ok-arg-2.ensures.shape c.word_arg-command.ensures.local ∙ ap₂ with_rule one command_is in
    let three = c.in_ok-arg-3.ensures.shape c.value_arg-ttl.ensures.local ∙ ap₂ with_rule two ttl_is in
    let four = c.in_ok-arg-4.ensures.shape c.value_arg-tick.ensures.local ∙ ap₂ with_rule three tick_is in
    IfOk-weaker c.arg-5.result _ _ (λ r h. (stores, commands, stores_are, commands_are, h.shape c.value_arg-rounds.ensures.local ∙ ap₂ with_rule four rounds_is)) c.arg-5.ensures
