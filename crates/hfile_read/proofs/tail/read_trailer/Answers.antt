use Rattle.std.proofs.Common.{sym, subst, Ok, Err, arith}
use Rattle.hfile_form.specs.File.{IsTrailerFault}
use Rattle.hfile_read.proofs.Trailers.{IsTrailerAnswer-from}
use Rattle.hfile_read.proofs.tail.read_trailer.Goals as goal

pub returns-in-Ok-clause-found : goal.returns-in-Ok-clause-found
returns-in-Ok-clause-found c =
    let answer = IsTrailerAnswer-from c.args.bytes.now (Ok c.in-Ok.trailer) (λ i. omega (arith, c.type_inv.bytes i)) c.in-Ok.ensures.short c.in-Ok.ensures.version c.in-Ok.ensures.trailer c.in-Ok.ensures.none in
    answer.0

pub returns-in-Err-clause-fault : goal.returns-in-Err-clause-fault
returns-in-Err-clause-fault c =
    let answer = IsTrailerAnswer-from c.args.bytes.now (Err c.in-Err.fault) (λ i. omega (arith, c.type_inv.bytes i)) c.in-Err.ensures.short c.in-Err.ensures.version c.in-Err.ensures.trailer c.in-Err.ensures.none in
    subst (IsTrailerFault c.args.bytes.now) (sym c.as_fault.ensures) answer.1
