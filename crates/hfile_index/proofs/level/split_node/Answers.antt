use Rattle.std.proofs.Common.{sym}
use Rattle.std.proofs.lemmas.List.{take_all, drop_all}
use Rattle.hfile_index.proofs.level.split_node.Goals as goal

pub returns-then-entries-le-NODE_ENTRIES-clause-node : goal.returns-then-entries-le-NODE_ENTRIES-clause-node
returns-then-entries-le-NODE_ENTRIES-clause-node c = sym (take_all 128 c.args.entries.now c.if-entries-le-NODE_ENTRIES.true)

pub returns-then-entries-le-NODE_ENTRIES-clause-others : goal.returns-then-entries-le-NODE_ENTRIES-clause-others
returns-then-entries-le-NODE_ENTRIES-clause-others c = sym (drop_all 128 c.args.entries.now c.if-entries-le-NODE_ENTRIES.true)
