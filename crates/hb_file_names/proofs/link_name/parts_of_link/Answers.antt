use Rattle.std.proofs.Common.{sym, subst, ◌∙◌}
use Rattle.hb_grammar.specs.Joined.{Joined}
use Rattle.hb_grammar.specs.Marked.{Marked}
use Rattle.hb_names.specs.Encoded.{IsEncoded}
use Rattle.hb_names.specs.TableName.{IsTableName}
use Rattle.hb_file_names.specs.FileName.{IsFileName}
use Rattle.hb_file_names.proofs.FreeLemmas.{Free-IsTableName_equals}
use Rattle.hb_file_names.proofs.MarkLemmas.{IsMarkedSplit-Joined, IsMarkedSplit_first, length-Free, text-IsMarkedSplit}
use Rattle.hb_file_names.proofs.link_name.parts_of_link.Goals as goal

pub split_mark-requires : goal.split_mark-requires
split_mark-requires c =
    let table = IsMarkedSplit-Joined IsTableName (Joined (Marked IsEncoded 45) IsFileName) 61 c.mark_at.result c.args.bytes.now c.requires
    (length-Free IsTableName (Joined (Marked IsEncoded 45) IsFileName) 61 c.mark_at.result c.args.bytes.now c.requires Free-IsTableName_equals c.mark_at.ensures.before c.mark_at.ensures.at) in
    table.within

pub split_mark-requires-2 : goal.split_mark-requires-2
split_mark-requires-2 c =
    let table = IsMarkedSplit-Joined IsTableName (Joined (Marked IsEncoded 45) IsFileName) 61 c.mark_at.result c.args.bytes.now c.requires
    (length-Free IsTableName (Joined (Marked IsEncoded 45) IsFileName) 61 c.mark_at.result c.args.bytes.now c.requires Free-IsTableName_equals c.mark_at.ensures.before c.mark_at.ensures.at) in
    let rest = subst (Joined (Marked IsEncoded 45) IsFileName) (sym c.split_mark.ensures.back) table.back in
    let region = IsMarkedSplit_first IsEncoded IsFileName 45 32 c.split_mark.result.1.now (λ _ encoded. encoded.long) rest in
    region.within

pub parts_of-requires : goal.parts_of-requires
parts_of-requires c =
    let table = IsMarkedSplit-Joined IsTableName (Joined (Marked IsEncoded 45) IsFileName) 61 c.mark_at.result c.args.bytes.now c.requires
    (length-Free IsTableName (Joined (Marked IsEncoded 45) IsFileName) 61 c.mark_at.result c.args.bytes.now c.requires Free-IsTableName_equals c.mark_at.ensures.before c.mark_at.ensures.at) in
    let rest = subst (Joined (Marked IsEncoded 45) IsFileName) (sym c.split_mark.ensures.back) table.back in
    let region = IsMarkedSplit_first IsEncoded IsFileName 45 32 c.split_mark.result.1.now (λ _ encoded. encoded.long) rest in
    subst IsFileName (sym c.split_mark-2.ensures.back) region.back

pub returns-clause-text : goal.returns-clause-text
returns-clause-text c =
    let table = IsMarkedSplit-Joined IsTableName (Joined (Marked IsEncoded 45) IsFileName) 61 c.mark_at.result c.args.bytes.now c.requires
    (length-Free IsTableName (Joined (Marked IsEncoded 45) IsFileName) 61 c.mark_at.result c.args.bytes.now c.requires Free-IsTableName_equals c.mark_at.ensures.before c.mark_at.ensures.at) in
    let rest = subst (Joined (Marked IsEncoded 45) IsFileName) (sym c.split_mark.ensures.back) table.back in
    let region = IsMarkedSplit_first IsEncoded IsFileName 45 32 c.split_mark.result.1.now (λ _ encoded. encoded.long) rest in
    text-IsMarkedSplit _ _ _ _ c.args.bytes.now c.mark_at.result 32 61 45 c.split_mark.ensures.front c.split_mark.ensures.back
    c.split_mark-2.ensures.front (c.parts_of.ensures.text ∙ c.split_mark-2.ensures.back) table.whole region.whole

pub returns-clause-table : goal.returns-clause-table
returns-clause-table c =
    let table = IsMarkedSplit-Joined IsTableName (Joined (Marked IsEncoded 45) IsFileName) 61 c.mark_at.result c.args.bytes.now c.requires
    (length-Free IsTableName (Joined (Marked IsEncoded 45) IsFileName) 61 c.mark_at.result c.args.bytes.now c.requires Free-IsTableName_equals c.mark_at.ensures.before c.mark_at.ensures.at) in
    subst IsTableName (sym c.split_mark.ensures.front) table.front

pub returns-clause-region : goal.returns-clause-region
returns-clause-region c =
    let table = IsMarkedSplit-Joined IsTableName (Joined (Marked IsEncoded 45) IsFileName) 61 c.mark_at.result c.args.bytes.now c.requires
    (length-Free IsTableName (Joined (Marked IsEncoded 45) IsFileName) 61 c.mark_at.result c.args.bytes.now c.requires Free-IsTableName_equals c.mark_at.ensures.before c.mark_at.ensures.at) in
    let rest = subst (Joined (Marked IsEncoded 45) IsFileName) (sym c.split_mark.ensures.back) table.back in
    let region = IsMarkedSplit_first IsEncoded IsFileName 45 32 c.split_mark.result.1.now (λ _ encoded. encoded.long) rest in
    subst IsEncoded (sym c.split_mark-2.ensures.front) region.front
