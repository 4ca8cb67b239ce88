-- What stands above entries, as it is built.
use Rattle.hfile_index.specs.declared.level.Upper.{Upper}
use Rattle.hfile_index.specs.Written.{Above}

abbrev pub upper_view : Upper → Above
upper_view u = record { nodes = u.nodes.items; root = u.root.items; below = u.below }
