use Rattle.hb_grammar.proofs.JoinedLemmas.{Follows-Joined_first, Refuses-Joined_first}
use Rattle.hb_grammar.proofs.then.Then.step_first.Goals as goal

pub returns-in-Some-clause-goes_on : goal.returns-in-Some-clause-goes_on
returns-in-Some-clause-goes_on g c = Follows-Joined_first _ _ _ _ c.requires c.in-Some.ensures.goes_on

pub returns-in-None-clause-stops : goal.returns-in-None-clause-stops
returns-in-None-clause-stops g c = Refuses-Joined_first _ _ _ c.requires c.in-None.ensures.stops
