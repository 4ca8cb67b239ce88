use Rattle.std.proofs.Common.{arith, List, ℕ}
use Rattle.hb_grammar.proofs.MarkedLemmas.{Avoids-Follows}
use Rattle.hb_grammar.proofs.SeparatedLemmas.{Follows-SeparatedFrom_mark, Refuses-SeparatedFrom_mark, Refuses-SeparatedFrom_last, Follows-SeparatedFrom, Refuses-SeparatedFrom}
use Rattle.hb_grammar.proofs.TestLemmas.{refused}
use Rattle.hb_grammar.proofs.separated.SeparatedGrammar.step.Goals as goal

pub returns-then-self-eq0-clause-stops : goal.returns-then-self-eq0-clause-stops
returns-then-self-eq0-clause-stops g c =
    let row = c.args.self in
    let fresh : List ℕ → Type 0 = g.A.Grammar.spells row.fresh in
    Refuses-SeparatedFrom_last (g.A.Grammar.spells row.current) fresh row.mark c.args.byte row.more
    c.if-byte-self.true row.apart c.if-self-eq0.true

pub returns-then-not-is_whole-clause-stops : goal.returns-then-not-is_whole-clause-stops
returns-then-not-is_whole-clause-stops g c =
    let row = c.args.self in
    let fresh : List ℕ → Type 0 = g.A.Grammar.spells row.fresh in
    Refuses-SeparatedFrom_mark (g.A.Grammar.spells row.current) fresh row.mark c.args.byte row.more
    c.if-byte-self.true row.apart (refused c.is_whole.ensures c.if-not-is_whole.true)

pub returns-then-byte-self-clause-goes_on : goal.returns-then-byte-self-clause-goes_on
returns-then-byte-self-clause-goes_on g c =
    let row = c.args.self in
    let fresh : List ℕ → Type 0 = g.A.Grammar.spells row.fresh in
    Follows-SeparatedFrom_mark (g.A.Grammar.spells row.current) fresh row.mark c.args.byte row.more
    c.if-byte-self.true (omega arith) row.apart (c.is_whole.ensures.0 c.if-not-is_whole.false)

pub invariant_of-result-in-Some : goal.invariant_of-result-in-Some
invariant_of-result-in-Some g c = record {
  apart = Avoids-Follows _ _ _ _ c.args.self.apart c.in-Some.ensures.goes_on;
  fresh_apart = c.args.self.fresh_apart;
}

pub returns-in-Some-clause-goes_on : goal.returns-in-Some-clause-goes_on
returns-in-Some-clause-goes_on g c =
    let row = c.args.self in
    let fresh : List ℕ → Type 0 = g.A.Grammar.spells row.fresh in
    Follows-SeparatedFrom (g.A.Grammar.spells row.current) (g.A.Grammar.spells c.in-Some.next) fresh row.mark c.args.byte row.more
    c.if-byte-self.false c.in-Some.ensures.goes_on

pub returns-in-None-clause-stops : goal.returns-in-None-clause-stops
returns-in-None-clause-stops g c =
    let row = c.args.self in
    let fresh : List ℕ → Type 0 = g.A.Grammar.spells row.fresh in
    Refuses-SeparatedFrom (g.A.Grammar.spells row.current) fresh row.mark c.args.byte row.more
    c.if-byte-self.false c.in-None.ensures.stops
