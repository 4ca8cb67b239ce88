use Rattle.hb_grammar.proofs.then.ThenGrammar.step.Goals as goal

pub returns-in-None-clause-stops : goal.returns-in-None-clause-stops
returns-in-None-clause-stops g c = rw c.in-None.is c.step_second.ensures.stops

pub returns-then-is_whole-clause-goes_on : goal.returns-then-is_whole-clause-goes_on
returns-then-is_whole-clause-goes_on g c = rw c.in-Some.is c.step_past.ensures.goes_on

pub returns-then-is_whole-clause-stops : goal.returns-then-is_whole-clause-stops
returns-then-is_whole-clause-stops g c = rw c.in-Some.is c.step_past.ensures.stops

pub returns-else-is_whole-clause-stops : goal.returns-else-is_whole-clause-stops
returns-else-is_whole-clause-stops g c = rw c.in-Some.is c.step_first.ensures.stops
