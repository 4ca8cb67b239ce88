use Rattle.std.proofs.Common.{sym, ◌∙◌}
use Rattle.hb_cell.proofs.SameKeys.{key_cmp-same, key_cmp-itself}
use Rattle.hb_cell.proofs.cell.cmp_key.Goals as goal

pub returns-clause-equal : goal.returns-clause-equal
returns-clause-equal c = (
  λ e. key_cmp-same c.args.a.now c.args.b.now (sym c.cmp_parts.ensures ∙ e),
  λ e. c.cmp_parts.ensures ∙ key_cmp-itself c.args.a.now c.args.b.now e,
)
