use Rattle.shell_line.proofs.LineLemmas.{IsBegun-nil}
use Rattle.shell_line.proofs.line.word_end.Goals as goal

pub loop-i-init : goal.loop-i-init
loop-i-init c = IsBegun-nil c.args.kinds.now c.requires
