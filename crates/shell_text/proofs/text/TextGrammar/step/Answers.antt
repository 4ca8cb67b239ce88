use Rattle.shell_text.proofs.text.TextGrammar.step.Goals as goal

pub returns-then-is_plain-clause-stops : goal.returns-then-is_plain-clause-stops
returns-then-is_plain-clause-stops c = rw c.in-Between.is c.step_plain.ensures.stops

pub returns-else-is_plain-clause-stops : goal.returns-else-is_plain-clause-stops
returns-else-is_plain-clause-stops c = rw c.in-Between.is c.step_escape.ensures.stops

pub returns-in-First-clause-stops : goal.returns-in-First-clause-stops
returns-in-First-clause-stops c = rw c.in-First.is c.step_first.ensures.stops

pub returns-in-Second-clause-stops : goal.returns-in-Second-clause-stops
returns-in-Second-clause-stops c = rw c.in-Second.is c.step_second.ensures.stops
