use Rattle.hfile_write.proofs.Told.{told-none}
use Rattle.hfile_write.proofs.writer.HFileWriter.new.Goals as goal

pub invariant_of-result : goal.invariant_of-result
invariant_of-result c = told-none c.new.result c.new-2.result c.new.ensures c.new-2.ensures
