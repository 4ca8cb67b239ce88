use Rattle.std.proofs.Common.{ap, subst, ◌∙◌, arith}
use Rattle.hb_cell.specs.Reading.{Gives, cell_at}
use Rattle.hb_cell.proofs.Cells.{cell_at-stored, within_cell, spelled_cell}
use Rattle.hb_cell.proofs.Refusals.{refused_cell}
use Rattle.hb_cell.proofs.coding.decode_cell.Goals as goal

pub returns-clause-within : goal.returns-clause-within
returns-clause-within c = within_cell c.args.with_seq c.args.bytes.now c.args.at c.split_at.result.1.now c.cell_at.result (λ i. omega (arith, c.type_inv.bytes i)) c.requires c.split_at.ensures.back c.cell_at.ensures

pub returns-clause-found : goal.returns-clause-found
returns-clause-found c = spelled_cell c.args.with_seq c.args.bytes.now c.args.at c.split_at.result.1.now c.cell_at.result (λ i. omega (arith, c.type_inv.bytes i)) c.split_at.ensures.back c.cell_at.ensures

pub returns-clause-only : goal.returns-clause-only
returns-clause-only c = λ cell rest is numbered e.
    subst (Gives (λ x. x) c.cell_at.result) (ap (cell_at c.args.with_seq) (c.split_at.ensures.back ∙ e) ∙ cell_at-stored c.args.with_seq cell rest is numbered) c.cell_at.ensures

pub returns-clause-refused : goal.returns-clause-refused
returns-clause-refused c = refused_cell c.args.with_seq c.args.bytes.now c.args.at c.split_at.result.1.now c.cell_at.result (λ i. omega (arith, c.type_inv.bytes i)) c.split_at.ensures.back c.cell_at.ensures
