use Rattle.hfile_meta.proofs.WrittenTrailers.{read_back}
use Rattle.hfile_meta.proofs.trailer.read_trailer.Goals as goal

pub returns-clause-written : goal.returns-clause-written
returns-clause-written c = λ front trailer fits e.
    read_back c.args.bytes.now c.trailer_in.result (λ message parts zeros minor long is of. c.trailer_in.ensures.trailer message parts zeros minor long is of) front trailer fits e
