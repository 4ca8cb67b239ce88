use Rattle.std.proofs.Common.{length}
use Rattle.merge_bench.proofs.count_visible.Given as goal

abbrev pub decreases-loop-shown : goal.decreases-loop-shown
decreases-loop-shown l = length l.shown
