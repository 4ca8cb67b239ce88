use Rattle.std.proofs.lemmas.Result.{err_from_is_err_and}
use Rattle.hb_grammar.proofs.SameLemmas.{Same_trans, Same-Marked, Avoids-Same}
use Rattle.hb_grammar.proofs.MarkedTextLemmas.{Same-marked}
use Rattle.commit_line.proofs.ReadLemmas.{IsFrontRefusal-Same}
use Rattle.region_set.specs.SetState.{IsState, state_word}
use Rattle.commit_line.specs.declared.error.ListError.TheVariants.{BadList}
use Rattle.region_set.proofs.StateLemmas.{Avoids-state_word}
use Rattle.region_set.proofs.set_state.read_state.Goals as goal

pub word_end-requires-clause-avoids : goal.word_end-requires-clause-avoids
word_end-requires-clause-avoids c = Avoids-Same _ _ 10 c.state_grammar.ensures Avoids-state_word

pub returns-in_err-end : goal.returns-in_err-end
returns-in_err-end c =
    let p = err_from_is_err_and c.from_residual.result c.from_residual.ensures.1 in
    rw (p.1, p.2)
    (IsFrontRefusal-Same _ _ (Same_trans _ _ _ (Same-Marked _ _ 10 c.state_grammar.ensures) (Same-marked IsState state_word 10))
    c.args.bytes.now c.args.at (BadList c.in_err-end.field-0.0.0) c.in_err-end.ensures)
