use Rattle.ns_tree.proofs.Trees.{HasNoFileAbove}
use Rattle.ns_tree.proofs.files.Files.is_below_file.Given as goal

-- no file stands at a directory above that is shorter than the index
abbrev pub invariant-loop-i : goal.invariant-loop-i
invariant-loop-i l = HasNoFileAbove l.self l.place l.i
