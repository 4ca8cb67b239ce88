use Rattle.std.proofs.Common.{codes, refl}
use Rattle.std.specs.Option.{option_copied}
use Rattle.hb_grammar.proofs.AvoidsLemmas.{Avoids-Free, Free-text}
use Rattle.hb_grammar.proofs.SameLemmas.{Avoids-Same, Same-Marked}
use Rattle.commit_line.proofs.ReadLemmas.{IsFrontRefusal-Same}
use Rattle.region_set.specs.FamilyLine.{IsFamilyBehind, family_text}
use Rattle.commit_line.specs.declared.error.ListError.TheVariants.{BadList}
use Rattle.region_set.proofs.FamilyLineLemmas.{Avoids-IsNameBehind}
use Rattle.commit_line.proofs.WordLemmas.{IsWord-Same}
use Rattle.region_set.proofs.FieldLemmas.{IsRead-Err}
use Rattle.region_set.proofs.FamilyReadLemmas.{IsFrontRefusal-word, IsFrontRefusal-name, IsFrontRefusal-versions, IsValueAt-family}
use Rattle.region_set.proofs.family_line.read_family.Goals as goal

pub word_end-requires-clause-avoids : goal.word_end-requires-clause-avoids
word_end-requires-clause-avoids c = Avoids-Free _ 32 (Free-text (codes "family") 32 (refl, (refl, (refl, (refl, (refl, (refl, tt)))))))

pub word_end-requires-2-clause-avoids : goal.word_end-requires-2-clause-avoids
word_end-requires-2-clause-avoids c = Avoids-Same _ _ 32 c.name_grammar-names.ensures.names (Avoids-IsNameBehind (option_copied c.args.last))

pub returns-in_err-name_at : goal.returns-in_err-name_at
returns-in_err-name_at c =
    IsRead-Err (IsFamilyBehind (option_copied c.args.last)) family_text c.args.bytes.now c.args.at c.from_residual.result (BadList c.in_err-name_at.field-0.0.0) c.from_residual.ensures.1
    (IsFrontRefusal-word (option_copied c.args.last) c.name_grammar-names.ensures.live c.args.bytes.now c.args.at (BadList c.in_err-name_at.field-0.0.0) c.in_err-name_at.ensures)

pub returns-in_err-versions_at : goal.returns-in_err-versions_at
returns-in_err-versions_at c =
    let last = option_copied c.args.last in
    let error = (BadList c.in_err-versions_at.field-0.0.0) in
    let given = c.from_residual-in_err-versions_at.ensures in
    IsRead-Err (IsFamilyBehind last) family_text c.args.bytes.now c.args.at c.from_residual-in_err-versions_at.result error given.1
    (IsFrontRefusal-name last c.args.bytes.now c.args.at c.in_ok-name_at.name_at c.requires c.in_ok-name_at.ensures error
    (IsFrontRefusal-Same _ _ (Same-Marked _ _ 32 c.name_grammar-names.ensures.names) c.args.bytes.now c.in_ok-name_at.name_at error c.in_err-versions_at.ensures))

pub returns-in_err-versions : goal.returns-in_err-versions
returns-in_err-versions c =
    let last = option_copied c.args.last in
    let error = (BadList c.in_err-versions.field-0.0.0) in
    let given = c.from_residual-in_err-versions.ensures in
    IsRead-Err (IsFamilyBehind last) family_text c.args.bytes.now c.args.at c.from_residual-in_err-versions.result error given.1
    (IsFrontRefusal-versions last c.args.bytes.now c.args.at c.in_ok-name_at.name_at c.in_ok-versions_at.versions_at c.requires c.in_ok-name_at.ensures
    (IsWord-Same _ _ c.name_grammar-names.ensures.names 32 c.args.bytes.now c.in_ok-name_at.name_at c.in_ok-versions_at.versions_at c.in_ok-versions_at.ensures)
    error c.in_err-versions.ensures)

pub returns : goal.returns
returns c =
    IsValueAt-family (option_copied c.args.last) c.args.bytes.now c.args.at c.in_ok-name_at.name_at c.in_ok-versions_at.versions_at c.in_ok-versions.end c.in_ok-name.name c.in_ok-versions.versions
    c.requires c.in_ok-name_at.ensures
    (IsWord-Same _ _ c.name_grammar-names.ensures.names 32 c.args.bytes.now c.in_ok-name_at.name_at c.in_ok-versions_at.versions_at c.in_ok-versions_at.ensures)
    c.in_ok-name.ensures c.in_ok-versions.ensures
