-- What the steps of `Visible` do. No public clause speaks of it.
use Rattle.std.specs.Prelude.{◌≡◌, ℕ, ◌+◌, ◌*◌, ◌<◌, List, [], ◌∷◌, ◌++◌, length, Some}
use Rattle.std.specs.Option.{option_to_list}
use Rattle.hb_cell.specs.declared.cell.Cell.{Cell}
use Rattle.cell_merge.specs.declared.machine.Machine.{Machine}
use Rattle.cell_merge.specs.declared.machine.Step.{Step}
use Rattle.cell_merge.specs.declared.machine.Step.TheVariants.{Shown, Moved, End}
use Rattle.cell_merge.specs.Kept.{alive, run}

-- what is still to be shown: the puts of a row and family that is over, and what shows of the rest
abbrev pub left : Machine → List Cell
left machine = alive machine.over machine.ready.items ++ run machine.families machine.group (option_to_list machine.ahead ++ machine.merge)

-- how far all cells have still to go
abbrev pub way : Machine → ℕ
way machine = 4 * length machine.merge + 3 * length (option_to_list machine.ahead) + 2 * length machine.group.held + length machine.ready.items

-- the machine with its next cell in hand
abbrev pub with_next : Machine → Cell → Machine
with_next machine c = record machine { ahead = Some c }

-- a step shows the next cell, or changes nothing that is to be shown, or there is none
abbrev pub IsStep : Step → Machine → Machine → Type 0
IsStep (Shown c) old new = (left old ≡ c ∷ left new) × (way new < way old)
IsStep Moved old new = (left new ≡ left old) × (way new < way old)
IsStep End old new = (left old ≡ []) × (left new ≡ [])
