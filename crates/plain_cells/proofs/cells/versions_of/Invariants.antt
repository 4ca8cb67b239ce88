use Rattle.std.proofs.Common.{◌≡◌, drop}
use Rattle.cell_sight.specs.Visible.{versions_of}
use Rattle.plain_cells.proofs.cells.versions_of.Given as goal

-- the lines passed are of other families
abbrev pub invariant-loop-line : goal.invariant-loop-line
invariant-loop-line l = versions_of (drop l.line-index l.families) l.family ≡ versions_of l.families l.family
