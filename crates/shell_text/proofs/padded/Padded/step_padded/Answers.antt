use Rattle.shell_text.proofs.BlanksLemmas.{Follows-blank, Follows-unpadded, Refuses-unpadded}
use Rattle.shell_text.proofs.padded.Padded.step_padded.Goals as goal

pub returns-then-byte-eq32-clause-goes_on : goal.returns-then-byte-eq32-clause-goes_on
returns-then-byte-eq32-clause-goes_on g c = Follows-blank (g.A.Grammar.spells c.args.inner) c.args.byte c.if-byte-eq32.true c.requires

pub returns-in-Some-clause-goes_on : goal.returns-in-Some-clause-goes_on
returns-in-Some-clause-goes_on g c =
    Follows-unpadded (g.A.Grammar.spells c.args.inner) (g.A.Grammar.spells c.in-Some.inner) c.args.byte c.if-byte-eq32.false c.in-Some.ensures.goes_on

pub returns-in-None-clause-stops : goal.returns-in-None-clause-stops
returns-in-None-clause-stops g c = Refuses-unpadded (g.A.Grammar.spells c.args.inner) c.args.byte c.if-byte-eq32.false c.in-None.ensures.stops
