use Rattle.std.proofs.Common.{◌≡◌, ◌+◌, ◌∷◌, ◌++◌, [], List, false, map, take, sym, ap, ◌∙◌, subst}
use Rattle.std.proofs.lemmas.List.{take_more}
use Rattle.shell_script.specs.declared.session.Session.{Session}
use Rattle.shell_script.specs.Block.{is_used}
use Rattle.shell_script.specs.Session.{name_of}
use Rattle.shell_script.proofs.AddLemmas.{is_used-at, is_used-push}
use Rattle.shell_script.proofs.add.is_used.Goals as goal

pub returns-then-has_name : goal.returns-then-has_name
returns-then-has_name c =
    sym (is_used-at c.args.sessions.now c.loop-session.session-index c.session-item.result c.args.name.now c.loop-session-test.true c.session-item.is
    (sym c.has_name.ensures ∙ c.if-has_name.true))

pub loop-session-preserved : goal.loop-session-preserved
loop-session-preserved c =
    let sessions = c.args.sessions.now in
    let i = c.loop-session.session-index in
    let session = c.session-item.result in
    let more : take (i + 1) sessions ≡ take i sessions ++ session ∷ [] =
    take_more sessions i session c.loop-session-test.true ∙ ap (λ (s : Session). take i sessions ++ s ∷ []) (sym c.session-item.is) in
    subst (λ (l : List Session). is_used (map name_of l) c.args.name.now ≡ false) (sym more)
    (is_used-push (take i sessions) session c.args.name.now c.loop-session.invariant (sym c.has_name.ensures ∙ c.if-has_name.false))
