use Rattle.hb_row_text.proofs.tests.row_of.Goals as goal

pub read_row-requires : goal.read_row-requires
read_row-requires c = c.row_grammar.ensures.forth c.args.text.now c.in-Ok.ensures.found
