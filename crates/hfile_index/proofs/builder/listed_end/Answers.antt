use Rattle.std.proofs.Common.{◌∙◌, sym, arith}
use Rattle.hfile_index.proofs.Building.{end_from-last}
use Rattle.hfile_index.proofs.builder.listed_end.Goals as goal

pub returns-in-len1-up : goal.returns-in-len1-up
returns-in-len1-up c = c.behind.ensures ∙ sym (end_from-last 0 c.args.entries.now c.last-item.result (omega arith) c.last-item.is)
