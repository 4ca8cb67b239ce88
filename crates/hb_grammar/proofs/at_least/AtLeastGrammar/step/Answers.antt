use Rattle.hb_grammar.proofs.at_least.AtLeastGrammar.step.Goals as goal

pub returns-in-Some-clause-stops : goal.returns-in-Some-clause-stops
returns-in-Some-clause-stops g c = rw c.in-Some.is c.step_bound.ensures.stops
