use Rattle.std.proofs.Common.{◌≡◌, ℕ, List, subst}
use Rattle.hb_grammar.specs.Marked.{Avoids}
use Rattle.hb_grammar.proofs.MarkedLemmas.{Avoids-Follows, Follows-Marked_end, Refuses-Marked_end, Follows-Marked, Refuses-Marked}
use Rattle.hb_grammar.proofs.TestLemmas.{refused}
use Rattle.hb_grammar.proofs.until.Until.step_inner.Goals as goal

pub returns-then-is_whole-clause-goes_on : goal.returns-then-is_whole-clause-goes_on
returns-then-is_whole-clause-goes_on g c =
    Follows-Marked_end _ _ _ c.if-byte-mark.true c.requires (c.is_whole.ensures.0 c.if-is_whole.true)

pub returns-else-is_whole-clause-stops : goal.returns-else-is_whole-clause-stops
returns-else-is_whole-clause-stops g c =
    Refuses-Marked_end _ _ _ c.if-byte-mark.true c.requires (refused c.is_whole.ensures c.if-is_whole.false)

pub invariant_of-result-in-Some : goal.invariant_of-result-in-Some
invariant_of-result-in-Some g c = record {
  apart = λ a e. let same : c.in-Some.next ≡ a = cc in
      subst (λ x. Avoids (g.A.Grammar.spells x) c.args.mark) same (Avoids-Follows _ _ _ _ c.requires c.in-Some.ensures.goes_on);
}

pub returns-in-Some-clause-goes_on : goal.returns-in-Some-clause-goes_on
returns-in-Some-clause-goes_on g c = Follows-Marked _ _ _ _ c.if-byte-mark.false c.in-Some.ensures.goes_on

pub returns-in-None-clause-stops : goal.returns-in-None-clause-stops
returns-in-None-clause-stops g c =
    let inner : List ℕ → Type 0 = g.A.Grammar.spells c.args.inner in
    Refuses-Marked inner c.args.mark c.args.byte c.if-byte-mark.false c.in-None.ensures.stops
