use Rattle.std.proofs.lemmas.Result.{err_from_is_err_and}
use Rattle.hb_grammar.specs.Marked.{Marked, UntilMark}
use Rattle.hb_grammar.proofs.FrontLemmas.{IsFrontFault-Same}
use Rattle.hb_grammar.proofs.front.split_marked.Goals as goal

pub returns-in_err-marked-clause-fault : goal.returns-in_err-marked-clause-fault
returns-in_err-marked-clause-fault g c =
    let p = err_from_is_err_and c.from_residual.result c.from_residual.ensures.1 in
    rw (p.1, p.2)
    (IsFrontFault-Same (UntilMark g.G.Grammar.spells c.new.result.inner c.new.result.mark) (Marked (g.G.Grammar.spells c.args.grammar) c.args.mark)
    c.new.ensures c.args.bytes.now c.in_err-marked.field-0.0.0 c.in_err-marked.ensures.fault)
