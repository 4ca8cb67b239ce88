use Rattle.std.proofs.lemmas.Result.{err_from_is_err_and}
use Rattle.commit_line.specs.declared.error.ListError.TheVariants.{BadList}
use Rattle.region_set.proofs.SetLemmas.{IsRefusal-number, IsRefusal-state, IsRefusal-body}
use Rattle.region_set.proofs.region_set.set_of.Goals as goal

pub returns-in_err-number-clause-fault : goal.returns-in_err-number-clause-fault
returns-in_err-number-clause-fault c =
    let p = err_from_is_err_and c.from_residual.result c.from_residual.ensures.1 in
    rw (p.1, p.2) (IsRefusal-number c.args.table.now c.args.bytes.now (BadList c.in_err-number.field-0.0.0) c.in_err-number.ensures)

pub returns-in_err-state-clause-fault : goal.returns-in_err-state-clause-fault
returns-in_err-state-clause-fault c =
    let p = err_from_is_err_and c.from_residual-in_err-state.result c.from_residual-in_err-state.ensures.1 in
    rw (p.1, p.2) (IsRefusal-state c.args.table.now c.args.bytes.now c.in_ok-number.state_at c.in_ok-number.number c.in_ok-number.ensures
    (BadList c.in_err-state.field-0.0.0) c.in_err-state.ensures)

pub returns-in_err-families-clause-fault : goal.returns-in_err-families-clause-fault
returns-in_err-families-clause-fault c =
    let p = err_from_is_err_and c.from_residual-in_err-families.result c.from_residual-in_err-families.ensures.1 in
    rw (p.1, p.2) (IsRefusal-body c.args.table.now c.args.bytes.now c.in_ok-number.state_at c.in_ok-state.body_at c.in_ok-number.number c.in_ok-state.state
    c.in_ok-number.ensures c.in_ok-state.ensures c.in_err-families.field-0.0 c.in_err-families.ensures)
