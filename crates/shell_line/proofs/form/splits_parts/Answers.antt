use Rattle.std.proofs.Common.{false}
use Rattle.hb_grammar.proofs.SameLemmas.{Same_refl, Same_trans, Same-Joined}
use Rattle.shell_text.specs.Blanks.{BlanksFrom}
use Rattle.shell_line.specs.Table.{IsItem, row}
use Rattle.shell_line.proofs.PieceLemmas.{Parts-Same, Parts-rows, Same-ItemsThen}
use Rattle.shell_line.proofs.form.splits_parts.Goals as goal

pub new-rows-requires : goal.new-rows-requires
new-rows-requires c = Parts-Same _ _ (IsItem row) (BlanksFrom false) c.item-further.ensures (Same_refl _) Parts-rows

pub returns : goal.returns
returns c =
    let rows = Same_trans _ _ _ c.new-rows.ensures.same (Same-ItemsThen _ _ (IsItem row) (BlanksFrom false) 998 c.item-further.ensures (Same_refl _)) in
    let list = Same_trans _ _ _ c.new-list.ensures (Same-Joined _ _ _ _ c.quoted-first.ensures rows) in
    let word = Same_trans _ _ _ c.new-word.ensures (Same-Joined _ _ _ _ (Same_refl _) list) in
    Same_trans _ _ _ c.new.ensures (Same-Joined _ _ _ _ c.lead-front.ensures word)
