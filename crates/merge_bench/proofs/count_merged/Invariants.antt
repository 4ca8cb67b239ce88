use Rattle.std.proofs.Common.{length}
use Rattle.merge_bench.proofs.count_merged.Given as goal

abbrev pub decreases-loop-merge : goal.decreases-loop-merge
decreases-loop-merge l = length l.merge
