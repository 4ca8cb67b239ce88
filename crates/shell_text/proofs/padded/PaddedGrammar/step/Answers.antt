use Rattle.shell_text.proofs.padded.PaddedGrammar.step.Goals as goal

pub returns-then-self-clause-stops : goal.returns-then-self-clause-stops
returns-then-self-clause-stops g c = rw c.if-self.true c.step_padded.ensures.stops

pub returns-else-self-clause-stops : goal.returns-else-self-clause-stops
returns-else-self-clause-stops g c = rw c.if-self.false c.step_inner.ensures.stops
