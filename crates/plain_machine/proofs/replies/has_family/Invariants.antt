use Rattle.std.proofs.Common.{◌≡◌, drop}
use Rattle.std.specs.List.{list_any}
use Rattle.hb_cell.specs.Order.{same_bytes}
use Rattle.plain_machine.proofs.replies.has_family.Given as goal

abbrev pub invariant-loop-line : goal.invariant-loop-line
invariant-loop-line l = list_any (λ f. same_bytes f.0 l.family) (drop l.line-index l.families) ≡ list_any (λ f. same_bytes f.0 l.family) l.families
