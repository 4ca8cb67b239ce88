use Rattle.hfile_meta.proofs.WrittenTrailers.{written_by, delimited_short}
use Rattle.hfile_meta.proofs.written.message_of.Goals as goal

exact : goal.returns-clause-exact
exact c = written_by c.in_ok-message.message c.put_first.new.message c.put_others.new.message c.args.trailer.now c.in_ok-message.ensures c.in_ok-put_first.ensures c.in_ok-put_others.ensures

pub returns-clause-exact : goal.returns-clause-exact
returns-clause-exact c = exact c

pub returns-clause-short : goal.returns-clause-short
returns-clause-short c = delimited_short c.put_others.new.message c.args.trailer.now (exact c)
