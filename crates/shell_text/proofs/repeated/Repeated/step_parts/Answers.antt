use Rattle.std.proofs.Common.{Some, None}
use Rattle.hb_grammar.specs.Either.{IfLeft}
use Rattle.shell_text.specs.Repeated.{ItemsThen}
use Rattle.shell_text.proofs.RepeatedLemmas.{Follows-parts, PartsLeft-next, Refuses-parts}
use Rattle.shell_text.proofs.repeated.Repeated.step_parts.Goals as goal

pub invariant_of-result-clause-apart : goal.invariant_of-result-clause-apart
invariant_of-result-clause-apart g c =
    PartsLeft-next g.A.Grammar.spells g.B.Grammar.spells c.args.self.item (Some c.in-Some.item) c.args.self.tail c.step_left-tail.result c.args.byte c.args.self.apart c.in-Some.ensures c.step_left-tail.ensures

pub returns-in-Some-clause-goes_on : goal.returns-in-Some-clause-goes_on
returns-in-Some-clause-goes_on g c =
    let r = c.args.self in
    Follows-parts (IfLeft g.A.Grammar.spells r.item) (g.A.Grammar.spells c.in-Some.item) (IfLeft g.B.Grammar.spells r.tail) (IfLeft g.B.Grammar.spells c.step_left-tail.result)
    (ItemsThen (g.A.Grammar.spells r.fresh_item) (g.B.Grammar.spells r.fresh_tail) r.more) c.args.byte c.requires c.in-Some.ensures c.step_left-tail.ensures

pub returns-in-Some-tail-clause-goes_on : goal.returns-in-Some-tail-clause-goes_on
returns-in-Some-tail-clause-goes_on g c =
    let r = c.args.self in
    Follows-parts (IfLeft g.A.Grammar.spells r.item) (IfLeft g.A.Grammar.spells None) (IfLeft g.B.Grammar.spells r.tail) (g.B.Grammar.spells c.in-Some-tail.tail)
    (ItemsThen (g.A.Grammar.spells r.fresh_item) (g.B.Grammar.spells r.fresh_tail) r.more) c.args.byte c.requires c.in-None.ensures c.in-Some-tail.ensures

pub returns-in-None-tail-clause-stops : goal.returns-in-None-tail-clause-stops
returns-in-None-tail-clause-stops g c =
    let r = c.args.self in
    Refuses-parts g.A.Grammar.spells g.B.Grammar.spells r.item r.tail
    (ItemsThen (g.A.Grammar.spells r.fresh_item) (g.B.Grammar.spells r.fresh_tail) r.more) c.args.byte c.requires c.in-None.ensures c.in-None-tail.ensures
