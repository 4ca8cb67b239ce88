use Rattle.std.proofs.Common.{ℕ, List}
use Rattle.shell_text.specs.Repeated.{ItemsThen}
use Rattle.shell_text.proofs.RepeatedLemmas.{Follows-Same, Refuses-Same, Same-sym, Same-whole}
use Rattle.shell_text.proofs.repeated.Repeated.step_whole.Goals as goal

pub returns-in-Some-clause-goes_on : goal.returns-in-Some-clause-goes_on
returns-in-Some-clause-goes_on g c =
    let r = c.args.self in
    let behind : List ℕ → Type 0 = ItemsThen (g.A.Grammar.spells r.fresh_item) (g.B.Grammar.spells r.fresh_tail) r.more in
    Follows-Same _ behind _ c.args.byte (Same-whole g.A.Grammar.spells g.B.Grammar.spells g.met.A.Closed.closed r.item r.tail behind r.apart c.requires)
    (Follows-Same behind _ _ c.args.byte (Same-sym _ _ c.new-fresh.ensures.same) c.in-Some.ensures.goes_on)

pub returns-in-None-clause-stops : goal.returns-in-None-clause-stops
returns-in-None-clause-stops g c =
    let r = c.args.self in
    let behind : List ℕ → Type 0 = ItemsThen (g.A.Grammar.spells r.fresh_item) (g.B.Grammar.spells r.fresh_tail) r.more in
    Refuses-Same _ behind c.args.byte (Same-whole g.A.Grammar.spells g.B.Grammar.spells g.met.A.Closed.closed r.item r.tail behind r.apart c.requires)
    (Refuses-Same behind _ c.args.byte (Same-sym _ _ c.new-fresh.ensures.same) c.in-None.ensures.stops)
