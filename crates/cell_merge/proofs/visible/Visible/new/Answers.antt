use Rattle.std.proofs.Common.{ap, ◌∙◌}
use Rattle.cell_sight.specs.Visible.{visible}
use Rattle.cell_merge.proofs.Runs.{run_all}
use Rattle.cell_merge.proofs.visible.Visible.new.Goals as goal

pub returns : goal.returns
returns c = c.new.ensures ∙ run_all c.in_ok-families.families c.args.merge c.is_in_order.ensures ∙ ap (λ families. visible families c.args.merge) c.in_ok-families.ensures
