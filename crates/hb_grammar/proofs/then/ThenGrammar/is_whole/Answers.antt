use Rattle.std.proofs.Common.{true≢false, sym, ◌∙◌}
use Rattle.hb_grammar.specs.JoinedLaws.{Joined-nil_first, Joined-nil_second}
use Rattle.hb_grammar.proofs.JoinedLemmas.{Joined-nil}
use Rattle.hb_grammar.proofs.TestLemmas.{refused}
use Rattle.hb_grammar.proofs.then.ThenGrammar.is_whole.Goals as goal

pub returns-then-is_whole : goal.returns-then-is_whole
returns-then-is_whole g c = rw c.in-Some.is (
  λ whole. Joined-nil _ _ (c.is_whole-in-Some.ensures.0 c.if-is_whole.true) (c.is_whole-then-is_whole.ensures.0 whole),
  λ pair. c.is_whole-then-is_whole.ensures.1 (Joined-nil_second _ _ pair),
)

pub returns-else-is_whole : goal.returns-else-is_whole
returns-else-is_whole g c = rw c.in-Some.is (
  λ e. absurd (true≢false (sym e ∙ c.if-is_whole.false)),
  λ pair. absurd (refused c.is_whole-in-Some.ensures c.if-is_whole.false (Joined-nil_first _ _ pair)),
)
