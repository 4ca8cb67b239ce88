use Rattle.std.proofs.Common.{ℕ, ◌≤◌, List, Bool, count_by, sym, subst, arith}
use Rattle.shell_script.specs.declared.script.TheConstants.{MAX_SESSIONS}
use Rattle.shell_script.specs.Block.{begins}
use Rattle.shell_script.proofs.AddLemmas.{no_begins}
use Rattle.shell_script.proofs.script.are_too_many.Goals as goal

pub returns-else-blocks-clause-no : goal.returns-else-blocks-clause-no
returns-else-blocks-clause-no c _ =
    let lines = c.args.lines.now in
    subst (λ (b : Bool). count_by (λ (line : ℕ × List ℕ). begins b line.1) lines ≤ MAX_SESSIONS) (sym c.if-blocks.false) (omega (arith, no_begins lines))
