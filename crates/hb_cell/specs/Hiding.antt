-- Which puts a marker hides. The sequence number doesn't matter. Source: HBase Reference Guide, Deletes.
use Rattle.std.specs.Prelude.{nat_le, ◌==◌, ◌&&◌, Bool, false}
use Rattle.hb_cell.specs.declared.cell.Cell.{Cell}
use Rattle.hb_cell.specs.declared.kind.Kind.{Kind}
use Rattle.hb_cell.specs.declared.kind.Kind.TheVariants.{Put, Delete, DeleteColumn, DeleteFamily}
use Rattle.hb_cell.specs.Order.{same_bytes}

-- of one row and family
abbrev pub same_family : Cell → Cell → Bool
same_family a b = same_bytes a.row b.row && same_bytes a.family b.family

-- of one row, family and qualifier
abbrev pub same_column : Cell → Cell → Bool
same_column a b = same_family a b && same_bytes a.qualifier b.qualifier

-- a marker of this kind hides a put: a Delete its column's puts of its timestamp, a DeleteColumn its column's
-- up to its timestamp, a DeleteFamily its family's up to its timestamp
abbrev pub hides_as : Kind → Cell → Cell → Bool
hides_as Put marker put = false
hides_as Delete marker put = same_column marker put && put.ts == marker.ts
hides_as DeleteColumn marker put = same_column marker put && nat_le put.ts marker.ts
hides_as DeleteFamily marker put = same_family marker put && nat_le put.ts marker.ts

-- the marker hides the put
abbrev pub hides : Cell → Cell → Bool
hides marker put = hides_as marker.kind marker put
