use Rattle.shell_line.proofs.FrontLemmas.{IsStamp-number}
use Rattle.shell_line.proofs.put_line.is_short_stamp.Goals as goal

pub returns-in-Some : goal.returns-in-Some
returns-in-Some c e = IsStamp-number c.args.bytes.now c.in-Some.number.now c.in-Some.ensures (c.is_number.ensures e)
