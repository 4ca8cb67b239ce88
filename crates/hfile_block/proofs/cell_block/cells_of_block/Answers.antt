use Rattle.hfile_block.proofs.CellLists.{GivesCells-from}
use Rattle.hfile_block.proofs.cell_block.cells_of_block.Goals as goal

pub returns-clause-only : goal.returns-clause-only
returns-clause-only c = GivesCells-from c.args.with_seq c.args.content.now c.args.at c.all_cells.result c.all_cells.ensures.found c.all_cells.ensures.fault
