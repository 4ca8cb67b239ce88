use Rattle.hb_grammar.proofs.TestLemmas.{refused}
use Rattle.hb_grammar.specs.Either.{IfLeft}
use Rattle.shell_text.specs.Repeated.{ItemsThen}
use Rattle.shell_text.proofs.RepeatedLemmas.{Parts-not_nil, Repeated-not_item, Repeated-not_tail}
use Rattle.shell_text.proofs.repeated.Repeated.may_end.Goals as goal

pub returns-then-is_whole_left-2-clause-no : goal.returns-then-is_whole_left-2-clause-no
returns-then-is_whole_left-2-clause-no g c not_whole =
    let r = c.args.self in
    Repeated-not_tail (IfLeft g.B.Grammar.spells r.tail) (IfLeft g.A.Grammar.spells r.item) (g.A.Grammar.spells r.fresh_item) (g.B.Grammar.spells r.fresh_tail) r.more
    (c.is_whole_left.ensures.no c.if-is_whole_left.false)
    (Parts-not_nil (g.A.Grammar.spells r.fresh_item) (g.B.Grammar.spells r.fresh_tail) r.fresh_apart (g.B.Grammar.completes r.fresh_tail))
    (λ whole. refused c.is_whole.ensures not_whole whole)

pub returns-else-is_whole_left-2-clause-no : goal.returns-else-is_whole_left-2-clause-no
returns-else-is_whole_left-2-clause-no g c not_whole =
    let r = c.args.self in
    Repeated-not_item (IfLeft g.B.Grammar.spells r.tail) (IfLeft g.A.Grammar.spells r.item)
    (ItemsThen (g.A.Grammar.spells r.fresh_item) (g.B.Grammar.spells r.fresh_tail) r.more)
    (c.is_whole_left.ensures.no c.if-is_whole_left.false) (c.is_whole_left-else-is_whole_left.ensures.no not_whole)
