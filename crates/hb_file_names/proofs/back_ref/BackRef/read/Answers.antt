use Rattle.std.proofs.Common.{sym, subst, ◌∙◌}
use Rattle.hb_names.specs.Encoded.{IsEncoded}
use Rattle.hb_names.specs.TableName.{IsTableName}
use Rattle.hb_file_names.proofs.MarkLemmas.{IsMarkedSplit_first, text_split}
use Rattle.hb_grammar.proofs.SameLemmas.{IsFault-Same}
use Rattle.hb_file_names.proofs.back_ref.BackRef.read.Goals as goal

pub copy_of-requires : goal.copy_of-requires
copy_of-requires c =
    let split = IsMarkedSplit_first IsEncoded IsTableName 46 32 c.args.bytes.now (λ _ encoded. encoded.long) (c.back_grammar.ensures.forth _ c.in-Ok.ensures.found) in
    subst IsEncoded (sym c.split_mark.ensures.front) split.front

pub copy_of-requires-in-Ok : goal.copy_of-requires-in-Ok
copy_of-requires-in-Ok c =
    let split = IsMarkedSplit_first IsEncoded IsTableName 46 32 c.args.bytes.now (λ _ encoded. encoded.long) (c.back_grammar.ensures.forth _ c.in-Ok.ensures.found) in
    subst IsTableName (sym c.split_mark.ensures.back) split.back

pub returns-in_ok-copy_of-in-Ok-2-clause-same : goal.returns-in_ok-copy_of-in-Ok-2-clause-same
returns-in_ok-copy_of-in-Ok-2-clause-same c =
    let split = IsMarkedSplit_first IsEncoded IsTableName 46 32 c.args.bytes.now (λ _ encoded. encoded.long) (c.back_grammar.ensures.forth _ c.in-Ok.ensures.found) in
    text_split _ _ c.args.bytes.now 32 46 (c.in_ok-copy_of-in-Ok.ensures ∙ c.split_mark.ensures.front) (c.in_ok-copy_of-in-Ok-2.ensures ∙ c.split_mark.ensures.back) split.whole

pub returns-in-Err-clause-refused : goal.returns-in-Err-clause-refused
returns-in-Err-clause-refused c = IsFault-Same _ _ c.back_grammar.ensures _ _ c.in-Err.ensures.fault
