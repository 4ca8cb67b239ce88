use Rattle.std.proofs.Common.{◌≡◌, ℕ, List, IfOk, sym, ◌∙◌, subst}
use Rattle.hb_grammar.specs.declared.class.Class.TheVariants.{FamilyStart}
use Rattle.hb_names.specs.FamilyName.{IsFamilyName}
use Rattle.shell_line.specs.Table.{family}
use Rattle.shell_value.proofs.NameLemmas.{Means-Named}
use Rattle.shell_value.proofs.UnescapeLemmas.{Means-meant, meant-text}
use Rattle.shell_value.proofs.argument_value.family_name.Goals as goal

pub copy_of-requires : goal.copy_of-requires
copy_of-requires c =
    let text = c.args.text.now in
    subst IsFamilyName (sym (c.as_slice.ensures ∙ c.in_ok-value.ensures)) ((Means-Named FamilyStart 126 _).0 (Means-meant family text c.requires))

pub copy_of-requires-else-has_escape : goal.copy_of-requires-else-has_escape
copy_of-requires-else-has_escape c =
    let text = c.args.text.now in
    subst IsFamilyName (meant-text family text c.has_escape.result c.has_escape.ensures c.if-has_escape.false c.requires)
    ((Means-Named FamilyStart 126 _).0 (Means-meant family text c.requires))

pub returns-else-has_escape : goal.returns-else-has_escape
returns-else-has_escape c =
    let text = c.args.text.now in
    subst (λ (bytes : List ℕ). IfOk c.copy_of-else-has_escape.result (λ value. value ≡ bytes))
    (sym (meant-text family text c.has_escape.result c.has_escape.ensures c.if-has_escape.false c.requires)) c.copy_of-else-has_escape.ensures
