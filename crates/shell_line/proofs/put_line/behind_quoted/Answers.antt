use Rattle.shell_line.proofs.FrontLemmas.{HasFront-Joined}
use Rattle.shell_line.proofs.put_line.behind_quoted.Goals as goal

pub returns-in-Some : goal.returns-in-Some
returns-in-Some c = HasFront-Joined _ _ _ _ _ c.in_ok-text.ensures c.in-Some.ensures
