use Rattle.cell_sight.proofs.SeenParts.{seen_by_row, seen_by_family}
use Rattle.cell_sight.proofs.SeenAmong.{seen_among}
use Rattle.cell_sight.proofs.laws.shows_by_part.Goals as goal

pub returns-clause-rows : goal.returns-clause-rows
returns-clause-rows c = seen_by_row

pub returns-clause-families : goal.returns-clause-families
returns-clause-families c = seen_by_family

pub returns-clause-among : goal.returns-clause-among
returns-clause-among c = seen_among
