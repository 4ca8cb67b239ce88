use Rattle.commit_list.proofs.list_entry.is_name_of.Goals as goal

pub returns-in-Own : goal.returns-in-Own
returns-in-Own c = rw c.in-Own.is
    (λ e. c.file_grammar.ensures.forth c.args.name.now (c.is_spelled.ensures.0 e), λ name. c.is_spelled.ensures.1 (c.file_grammar.ensures.back c.args.name.now name))

pub returns-in-Link : goal.returns-in-Link
returns-in-Link c = rw c.in-Link.is
    (λ e. c.link_grammar.ensures.forth c.args.name.now (c.is_spelled-in-Link.ensures.0 e), λ name. c.is_spelled-in-Link.ensures.1 (c.link_grammar.ensures.back c.args.name.now name))

pub returns-in-Half : goal.returns-in-Half
returns-in-Half c = rw c.in-Half.is
    (λ e. c.reference_grammar.ensures.forth c.args.name.now (c.is_spelled-in-Half.ensures.0 e), λ name. c.is_spelled-in-Half.ensures.1 (c.reference_grammar.ensures.back c.args.name.now name))
