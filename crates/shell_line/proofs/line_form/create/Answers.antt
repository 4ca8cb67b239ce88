use Rattle.hb_grammar.proofs.SameLemmas.{Same_trans, Same-Joined}
use Rattle.shell_line.specs.Table.{IsCreateEnd, IsItem, family}
use Rattle.shell_line.proofs.PieceLemmas.{Parts-Same, Parts-families, Same-ItemsThen}
use Rattle.shell_line.proofs.line_form.create.Goals as goal

pub new-families-requires : goal.new-families-requires
new-families-requires c = Parts-Same _ _ (IsItem family) IsCreateEnd c.item-further.ensures c.create_end-end.ensures Parts-families

pub returns : goal.returns
returns c =
    let families = Same_trans _ _ _ c.new-families.ensures.same (Same-ItemsThen _ _ (IsItem family) IsCreateEnd 15 c.item-further.ensures c.create_end-end.ensures) in
    let rest = Same_trans _ _ _ c.new-rest.ensures (Same-Joined _ _ _ _ c.item-first.ensures families) in
    Same_trans _ _ _ c.new.ensures (Same-Joined _ _ _ _ c.quoted-table.ensures rest)
