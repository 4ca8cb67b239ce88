use Rattle.shell_line.proofs.FrontLemmas.{HasFront-Same}
use Rattle.shell_line.proofs.put_line.behind_lead.Goals as goal

pub returns-in-Ok : goal.returns-in-Ok
returns-in-Ok c = HasFront-Same _ _ c.lead-front.ensures _ _ _ c.in-Ok.ensures.whole c.in-Ok.ensures.front
