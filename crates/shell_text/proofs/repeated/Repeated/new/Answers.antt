use Rattle.shell_text.proofs.RepeatedLemmas.{Parts-not_nil}
use Rattle.shell_text.proofs.repeated.Repeated.new.Goals as goal

pub returns-clause-begun : goal.returns-clause-begun
returns-clause-begun g c =
    Parts-not_nil (g.A.Grammar.spells c.args.item) (g.B.Grammar.spells c.args.tail) c.requires (g.B.Grammar.completes c.args.tail)
