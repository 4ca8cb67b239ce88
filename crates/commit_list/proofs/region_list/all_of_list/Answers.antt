use Rattle.std.proofs.lemmas.Result.{err_from_is_err_and}
use Rattle.commit_line.specs.declared.error.ListError.TheVariants.{BadList}
use Rattle.commit_list.proofs.ListLemmas.{IsRefusal-number, IsRefusal-seq, IsRefusal-entries}
use Rattle.commit_list.proofs.region_list.all_of_list.Goals as goal

pub returns-in_err-number-clause-fault : goal.returns-in_err-number-clause-fault
returns-in_err-number-clause-fault c =
    let p = err_from_is_err_and c.from_residual.result c.from_residual.ensures.1 in
    rw (p.1, p.2) (IsRefusal-number c.args.bytes.now (BadList c.in_err-number.field-0.0.0) c.in_err-number.ensures)

pub returns-in_err-seq-clause-fault : goal.returns-in_err-seq-clause-fault
returns-in_err-seq-clause-fault c =
    let p = err_from_is_err_and c.from_residual-in_err-seq.result c.from_residual-in_err-seq.ensures.1 in
    rw (p.1, p.2) (IsRefusal-seq c.args.bytes.now c.in_ok-number.seq_at c.in_ok-number.number c.in_ok-number.ensures (BadList c.in_err-seq.field-0.0.0) c.in_err-seq.ensures)

pub returns-in_err-entries-clause-fault : goal.returns-in_err-entries-clause-fault
returns-in_err-entries-clause-fault c =
    let p = err_from_is_err_and c.from_residual-in_err-entries.result c.from_residual-in_err-entries.ensures.1 in
    rw (p.1, p.2) (IsRefusal-entries c.args.bytes.now c.in_ok-number.seq_at c.in_ok-seq.entries_at c.in_ok-number.number c.in_ok-seq.seq c.in_ok-number.ensures c.in_ok-seq.ensures
    c.in_err-entries.field-0.0 c.in_err-entries.ensures.fault)
