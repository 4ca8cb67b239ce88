use Rattle.std.proofs.Common.{◌∙◌}
use Rattle.hfile_meta.proofs.WrittenTrailers.{zeros_behind}
use Rattle.hfile_meta.proofs.written.zeros.Goals as goal

pub returns : goal.returns
returns c = c.split_at.ensures.front ∙ zeros_behind c.args.len c.requires
