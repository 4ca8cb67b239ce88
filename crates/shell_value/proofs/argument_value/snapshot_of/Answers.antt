use Rattle.std.proofs.Common.{◌≡◌, ℕ, List, IfOk, sym, ◌∙◌, subst}
use Rattle.hb_grammar.specs.declared.class.Class.TheVariants.{NameStart}
use Rattle.hb_names.specs.SnapName.{IsSnapName}
use Rattle.shell_line.specs.Table.{name}
use Rattle.shell_value.proofs.NameLemmas.{Means-Named}
use Rattle.shell_value.proofs.UnescapeLemmas.{Means-meant, meant-text}
use Rattle.shell_value.proofs.argument_value.snapshot_of.Goals as goal

pub snapshot_named-requires : goal.snapshot_named-requires
snapshot_named-requires c =
    let text = c.args.text.now in
    subst IsSnapName (sym (c.as_slice.ensures ∙ c.in_ok-value.ensures)) ((Means-Named NameStart 99 _).0 (Means-meant name text c.requires))

pub snapshot_named-requires-else-has_escape : goal.snapshot_named-requires-else-has_escape
snapshot_named-requires-else-has_escape c =
    let text = c.args.text.now in
    subst IsSnapName (meant-text name text c.has_escape.result c.has_escape.ensures c.if-has_escape.false c.requires)
    ((Means-Named NameStart 99 _).0 (Means-meant name text c.requires))

pub returns-else-has_escape : goal.returns-else-has_escape
returns-else-has_escape c =
    let text = c.args.text.now in
    subst (λ (bytes : List ℕ). IfOk c.snapshot_named-else-has_escape.result (λ value. value ≡ bytes))
    (sym (meant-text name text c.has_escape.result c.has_escape.ensures c.if-has_escape.false c.requires)) c.snapshot_named-else-has_escape.ensures
