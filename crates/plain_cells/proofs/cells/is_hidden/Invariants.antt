use Rattle.std.proofs.Common.{◌≡◌, drop}
use Rattle.std.specs.List.{list_any}
use Rattle.hb_cell.specs.Hiding.{hides}
use Rattle.plain_cells.proofs.cells.is_hidden.Given as goal

-- the cells passed don't hide it
abbrev pub invariant-loop-marker : goal.invariant-loop-marker
invariant-loop-marker l = list_any (λ marker. hides marker l.cell) (drop l.marker-index l.cells) ≡ list_any (λ marker. hides marker l.cell) l.cells
