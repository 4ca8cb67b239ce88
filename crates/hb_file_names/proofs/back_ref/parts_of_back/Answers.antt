use Rattle.std.proofs.Common.{sym, subst}
use Rattle.hb_names.specs.Encoded.{IsEncoded}
use Rattle.hb_names.specs.TableName.{IsTableName}
use Rattle.hb_file_names.proofs.MarkLemmas.{IsMarkedSplit_first, text_split}
use Rattle.hb_file_names.proofs.back_ref.parts_of_back.Goals as goal

pub returns-clause-text : goal.returns-clause-text
returns-clause-text c =
    let split = IsMarkedSplit_first IsEncoded IsTableName 46 32 c.args.bytes.now (λ _ encoded. encoded.long) c.requires in
    text_split _ _ c.args.bytes.now 32 46 c.split_mark.ensures.front c.split_mark.ensures.back split.whole

pub returns-clause-region : goal.returns-clause-region
returns-clause-region c =
    let split = IsMarkedSplit_first IsEncoded IsTableName 46 32 c.args.bytes.now (λ _ encoded. encoded.long) c.requires in
    subst IsEncoded (sym c.split_mark.ensures.front) split.front

pub returns-clause-table : goal.returns-clause-table
returns-clause-table c =
    let split = IsMarkedSplit_first IsEncoded IsTableName 46 32 c.args.bytes.now (λ _ encoded. encoded.long) c.requires in
    subst IsTableName (sym c.split_mark.ensures.back) split.back
