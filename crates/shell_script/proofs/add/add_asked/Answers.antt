use Rattle.std.proofs.Common.{ℕ, List, inl, subst}
use Rattle.hb_grammar.specs.Grammar.{IsFault}
use Rattle.shell_script.specs.Session.{IsAllowed, names_begun}
use Rattle.shell_script.proofs.AddLemmas.{allowed_begun}
use Rattle.shell_script.proofs.add.add_asked.Goals as goal

pub returns-in-Err-Bad-clause-refused : goal.returns-in-Err-Bad-clause-refused
returns-in-Err-Bad-clause-refused c =
    let kinds = c.args.kinds.now in
    let blocks = c.args.blocks in
    let old = c.args.sessions.now.items in
    let at = c.bad_behind.result in
    let refused = (rw c.in-Err-Bad.field-0-is at c.in-Err-Bad.ensures.refused) in
    inl (subst (λ (l : List ℕ). IsFault (IsAllowed kinds blocks (names_begun blocks old)) l at) c.text-text.ensures
    (allowed_begun kinds blocks old c.text-text.result.now at c.requires.begun (λ name names. c.bad_behind.ensures kinds name names refused)))
