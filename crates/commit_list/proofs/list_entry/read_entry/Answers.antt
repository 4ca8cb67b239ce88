use Rattle.std.proofs.lemmas.Result.{err_from_is_err_and}
use Rattle.hb_grammar.proofs.SameLemmas.{Same_refl, Avoids-Same}
use Rattle.hb_names.specs.FamilyName.{IsFamilyName}
use Rattle.commit_line.specs.declared.error.ListError.TheVariants.{BadList}
use Rattle.commit_list.specs.ListEntry.{IsNameOf}
use Rattle.commit_list.proofs.FreeLemmas.{Avoids-kind_word}
use Rattle.region_set.proofs.FamilyLineLemmas.{Avoids-IsFamilyName}
use Rattle.commit_list.proofs.EntryLemmas.{IsValueAt-kind, IsValueAt-word, IsValueAt-IsEntry, IsFrontRefusal-kind, IsFrontRefusal-family, IsFrontRefusal-name}
use Rattle.commit_list.proofs.list_entry.read_entry.Goals as goal

pub word_end-requires-clause-avoids : goal.word_end-requires-clause-avoids
word_end-requires-clause-avoids c = Avoids-Same _ _ 32 c.kind_grammar.ensures Avoids-kind_word

pub returns-in_err-family_at : goal.returns-in_err-family_at
returns-in_err-family_at c =
    let p = err_from_is_err_and c.from_residual.result c.from_residual.ensures.1 in
    rw (p.1, p.2) (IsFrontRefusal-kind _ c.kind_grammar.ensures c.args.bytes.now c.args.at (BadList c.in_err-family_at.field-0.0.0) c.in_err-family_at.ensures)

pub word_end-requires-2-clause-avoids : goal.word_end-requires-2-clause-avoids
word_end-requires-2-clause-avoids c = Avoids-Same _ _ 32 c.family_grammar.ensures Avoids-IsFamilyName

pub returns-in_err-name_at : goal.returns-in_err-name_at
returns-in_err-name_at c =
    let p = err_from_is_err_and c.from_residual-in_err-name_at.result c.from_residual-in_err-name_at.ensures.1 in
    let kind = IsValueAt-kind _ c.args.bytes.now c.args.at c.in_ok-family_at.family_at c.requires c.in_ok-family_at.ensures c.kind_of-kind.result c.kind_of-kind.ensures in
    rw (p.1, p.2) (IsFrontRefusal-family _ c.family_grammar.ensures c.args.bytes.now c.args.at c.in_ok-family_at.family_at c.kind_of-kind.result kind
    (BadList c.in_err-name_at.field-0.0.0) c.in_err-name_at.ensures)

pub returns-in_err-end : goal.returns-in_err-end
returns-in_err-end c =
    let p = err_from_is_err_and c.from_residual-in_err-end.result c.from_residual-in_err-end.ensures.1 in
    let bytes = c.args.bytes.now in
    let family_at = c.in_ok-family_at.family_at in
    let name_at = c.in_ok-name_at.name_at in
    let kind = IsValueAt-kind _ bytes c.args.at family_at c.requires c.in_ok-family_at.ensures c.kind_of-kind.result c.kind_of-kind.ensures in
    let family = IsValueAt-word _ IsFamilyName 32 c.family_grammar.ensures bytes family_at name_at kind.within c.in_ok-name_at.ensures in
    rw (p.1, p.2) (IsFrontRefusal-name (IsNameOf c.kind_of-kind.result) bytes c.args.at family_at name_at c.kind_of-kind.result _ (Same_refl _) kind family
    (BadList c.in_err-end.field-0.0.0) c.in_err-end.ensures)

pub returns : goal.returns
returns c =
    let bytes = c.args.bytes.now in
    let family_at = c.in_ok-family_at.family_at in
    let name_at = c.in_ok-name_at.name_at in
    let end = c.in_ok-end.end in
    let kind = IsValueAt-kind _ bytes c.args.at family_at c.requires c.in_ok-family_at.ensures c.kind_of-kind.result c.kind_of-kind.ensures in
    let family = IsValueAt-word _ IsFamilyName 32 c.family_grammar.ensures bytes family_at name_at kind.within c.in_ok-name_at.ensures in
    let name = IsValueAt-word _ (IsNameOf c.kind_of-kind.result) 10 (Same_refl _) bytes name_at end family.within c.in_ok-end.ensures in
    rw (c.in_ok-copy_of.ensures, c.in_ok-copy_of-2.ensures) (IsValueAt-IsEntry bytes c.args.at family_at name_at end c.kind_of-kind.result _ _ kind family name)
