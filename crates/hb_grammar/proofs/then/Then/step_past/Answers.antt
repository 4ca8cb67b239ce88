use Rattle.hb_grammar.specs.JoinedLaws.{Refuses-Joined_second}
use Rattle.hb_grammar.proofs.JoinedLemmas.{Follows-Joined_second}
use Rattle.hb_grammar.proofs.then.Then.step_past.Goals as goal

pub returns-in-Some-clause-goes_on : goal.returns-in-Some-clause-goes_on
returns-in-Some-clause-goes_on g c =
    Follows-Joined_second _ _ _ _ c.requires (g.met.A.Closed.closed c.args.first c.requires) c.in-Some.ensures.goes_on

pub returns-in-None-clause-stops : goal.returns-in-None-clause-stops
returns-in-None-clause-stops g c =
    Refuses-Joined_second _ _ _ (g.met.A.Closed.closed c.args.first c.requires) c.in-None.ensures.stops
