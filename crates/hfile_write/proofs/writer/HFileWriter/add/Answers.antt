use Rattle.std.proofs.Common.{Some, ap}
use Rattle.hb_cell.specs.declared.cell.Cell.{Cell}
use Rattle.hfile_write.proofs.Told.{told-push}
use Rattle.hfile_write.proofs.writer.HFileWriter.add.Goals as goal

pub invariant_of-self-2 : goal.invariant_of-self-2
invariant_of-self-2 c =
    told-push c.self.inside.blocks c.put.new.self c.self.inside.summary c.in_ok-summary.summary c.self.inside.last (Some c.in_ok-last.last) c.args.cell.now c.self.invariant c.requires
    c.in_ok-put.ensures.ok c.in_ok-summary.ensures (ap (λ (x : Cell). Some x) c.in_ok-last.ensures)
