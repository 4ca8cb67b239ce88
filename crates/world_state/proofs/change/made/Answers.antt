use Rattle.std.proofs.Common.{◌∙◌, sym}
use Rattle.world_state.proofs.Ends.{ends_change}
use Rattle.world_state.proofs.change.made.Goals as goal

pub returns-in-Some : goal.returns-in-Some
returns-in-Some c = c.end.ensures ∙ ends_change c.args.step.now c.in-Some.actor (sym c.ending.ensures ∙ c.in-Some.is)

pub returns : goal.returns
returns c = c.requires (sym c.ending.ensures ∙ c.in_default.is)
