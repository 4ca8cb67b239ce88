-- Which holds exclude each other.
use Rattle.std.specs.Prelude.{Bool, true, false, not, ◌&&◌, ◌||◌}
use Rattle.plain_model.specs.declared.hold.Hold.{Hold}
use Rattle.plain_model.specs.declared.hold.Hold.TheVariants.{Table, Region, Flush, Compact, Load, Take, Use, Erase, Pass}
use Rattle.hb_cell.specs.Order.{same_bytes}
use Rattle.plain_model.specs.Keys.{same_key}

-- each pair of kinds that exclude each other, once
abbrev pub excludes : Hold → Hold → Bool
-- the table, against whatever is done to it
excludes (Table t) (Table u) = same_bytes t u
excludes (Table t) (Region k) = same_bytes t k.table
excludes (Table t) (Flush k) = same_bytes t k.table
excludes (Table t) (Compact k) = same_bytes t k.table
excludes (Table t) (Load u) = same_bytes t u
excludes (Table t) (Take s u) = same_bytes t u
-- the region, against whatever changes it
excludes (Region k) (Region l) = same_key k l
excludes (Region k) (Flush l) = same_key k l
excludes (Region k) (Compact l) = same_key k l
excludes (Region k) (Load t) = same_bytes k.table t
excludes (Region k) (Take s t) = same_bytes k.table t
-- flushes of a region, and the flushes of a snapshot of its table
excludes (Flush k) (Flush l) = same_key k l
excludes (Flush k) (Take s t) = same_bytes k.table t
-- compactions of a region
excludes (Compact k) (Compact l) = same_key k l
-- snapshots of one name or of one table
excludes (Take s t) (Take r u) = same_bytes s r || same_bytes t u
-- deleting a snapshot, against whatever names it
excludes (Erase s) (Erase r) = same_bytes s r
excludes (Erase s) (Use r) = same_bytes s r
excludes (Erase s) (Take r t) = same_bytes s r
-- passes of the cleaner
excludes Pass Pass = true
excludes _ _ = false

-- a pass that is asked for is excluded by a snapshot being taken; a snapshot that is asked for isn't by a pass
abbrev pub waits_for_take : Hold → Hold → Bool
waits_for_take Pass (Take s t) = true
waits_for_take _ _ = false

-- a hold that is asked for conflicts with one that a live actor has
abbrev pub conflicts : Hold → Hold → Bool
conflicts asked live = excludes asked live || excludes live asked || waits_for_take asked live

-- the conflicts that a reply of their own answers: a cleaner's pass with a snapshot being taken, and the deletion of a
-- snapshot with its use
abbrev pub is_answered : Hold → Hold → Bool
is_answered Pass (Take s t) = true
is_answered (Erase s) (Use r) = true
is_answered _ _ = false

-- the conflicts for which a start is held
abbrev pub blocks : Hold → Hold → Bool
blocks asked live = conflicts asked live && not (is_answered asked live)
