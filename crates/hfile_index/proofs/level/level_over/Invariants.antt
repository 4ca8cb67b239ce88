use Rattle.std.proofs.Common.{◌≡◌, ◌++◌, map}
use Rattle.std.specs.Simd.{first_chunks}
use Rattle.hfile_index.specs.Short.{HaveShortKeys}
use Rattle.hfile_index.specs.Written.{node_bytes, nodes_of, named, end_of}
use Rattle.hfile_index.proofs.level.level_over.Given as goal

-- the nodes so far, and those that are left, are all
abbrev pub invariant-loop-left : goal.invariant-loop-left
invariant-loop-left l = record {
  nodes : l.level.nodes.items ++ map node_bytes (first_chunks 128 l.left l.rest) ≡ map node_bytes (nodes_of l.entries);
  names : l.level.names.items ++ named l.level.end (first_chunks 128 l.left l.rest) ≡ named l.at (nodes_of l.entries);
  end : end_of l.level.end (first_chunks 128 l.left l.rest) ≡ end_of l.at (nodes_of l.entries);
  short : HaveShortKeys l.rest;
}

abbrev pub decreases-loop-left : goal.decreases-loop-left
decreases-loop-left l = l.left
