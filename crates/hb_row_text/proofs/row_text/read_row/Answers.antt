use Rattle.std.proofs.Common.{◌≡◌, [], ap, ◌∙◌}
use Rattle.hb_row_text.specs.RowText.{row_text}
use Rattle.hb_row_text.proofs.RowTextLemmas.{IsRowOf-decode_of, row_text-one}
use Rattle.hb_row_text.proofs.row_text.read_row.Goals as goal

pub returns-then-text-eq1-clause-text : goal.returns-then-text-eq1-clause-text
returns-then-text-eq1-clause-text c =
    let none : c.from_vec.result ≡ [] = c.from_vec.ensures ∙ c.new.ensures.items in
    ap row_text none ∙ row_text-one c.args.text.now c.requires c.if-text-eq1.true

pub returns-in-Ok-clause-text : goal.returns-in-Ok-clause-text
returns-in-Ok-clause-text c =
    let row = IsRowOf-decode_of c.args.text.now _ c.requires c.if-text-eq1.false c.in-Ok.ensures.ok in
    ap row_text c.from_vec-in-Ok.ensures ∙ row.whole

pub returns-in-Ok-clause-small : goal.returns-in-Ok-clause-small
returns-in-Ok-clause-small c =
    let row = IsRowOf-decode_of c.args.text.now _ c.requires c.if-text-eq1.false c.in-Ok.ensures.ok in
    rw c.from_vec-in-Ok.ensures row.small

pub returns-in-Ok-clause-limit : goal.returns-in-Ok-clause-limit
returns-in-Ok-clause-limit c =
    let row = IsRowOf-decode_of c.args.text.now _ c.requires c.if-text-eq1.false c.in-Ok.ensures.ok in
    rw c.from_vec-in-Ok.ensures row.limit
