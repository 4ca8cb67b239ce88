use Rattle.std.proofs.Common.{Bool, ◌∷◌, sym, subst}
use Rattle.hb_grammar.specs.Grammar.{IsFault}
use Rattle.shell_script.specs.Session.{IsAllowed}
use Rattle.shell_script.proofs.BlockLemmas.{IsFault-later}
use Rattle.shell_script.proofs.add.bad_behind.Goals as goal

pub returns : goal.returns
returns c kinds name names fault =
    subst (λ (b : Bool). IsFault (IsAllowed kinds b (name ∷ names)) c.args.line.now c.later.result) (sym c.if-not-blocks.false)
    (IsFault-later kinds name names c.args.line.now c.args.fault.0 c.in-Err.other.0 c.later.result fault c.in-Err.ensures.fault c.later.ensures)
