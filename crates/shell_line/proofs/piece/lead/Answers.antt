use Rattle.shell_line.proofs.PieceLemmas.{Avoids-BlanksFrom}
use Rattle.shell_line.proofs.piece.lead.Goals as goal

pub new-requires : goal.new-requires
new-requires c = Avoids-BlanksFrom c.args.some c.args.mark c.requires
