use Rattle.hfile_write.specs.Blocks.{cut_of}
use Rattle.hfile_write.proofs.FirstKeys.{first_key-push, stored_small}
use Rattle.hfile_write.proofs.Cuts.{written-push}
use Rattle.hfile_write.proofs.data.DataBlocks.put.Goals as goal

pub end_full-requires-clause-small : goal.end_full-requires-clause-small
end_full-requires-clause-small c = stored_small c.args.cell.now c.self.inside.block c.encode_cell.new.out c.requires c.self.invariant.low c.in_ok-encode_cell.ensures.ok

pub end_full-requires-clause-first : goal.end_full-requires-clause-first
end_full-requires-clause-first c =
    (first_key-push (cut_of c.self.inside.cells).held c.args.cell.now c.self.inside.block c.encode_cell.new.out c.self.invariant.fit c.requires c.self.invariant.block_is c.in_ok-encode_cell.ensures.ok).has

pub invariant_of-self-in-Ok : goal.invariant_of-self-in-Ok
invariant_of-self-in-Ok c =
    written-push c.self.inside.cells c.with_one.result c.args.cell.now c.self.inside.ended c.end_full.new.ended c.self.inside.block c.encode_cell.new.out c.end_full.new.block
    c.self.invariant c.requires c.in_ok-encode_cell.ensures.ok c.in-Ok.ensures.ok c.with_one.ensures
