use Rattle.std.proofs.Common.{◌≡◌, List, get_or, ap, ◌∙◌}
use Rattle.shell_script.specs.declared.session.Session.{Session}
use Rattle.hbase_shell.proofs.AnswerLemmas.{ask_for_all}
use Rattle.hbase_shell.proofs.answer.lines_of.Goals as goal

pub returns-in-len1-up : goal.returns-in-len1-up
returns-in-len1-up c lines parsed =
    let session = c.session-item.result in
    let one : session ≡ parsed.0 = c.session-item.is ∙ ap (λ (l : List Session). get_or l 0 session) (c.as_slice.ensures ∙ parsed.1) in
    ask_for_all lines session parsed.0 c.as_slice-in-len1-up.result.now c.as_slice-in-len1-up.ensures one parsed.3
