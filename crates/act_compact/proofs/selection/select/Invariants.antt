use Rattle.std.proofs.Common.{◌≡◌, ℕ, ◌≤◌, ◌<◌, ◌-◌, length, false}
use Rattle.std.specs.Prelude.{◌||◌, not}
use Rattle.act_compact.specs.Selection.{is_too_large, are_too_few}
use Rattle.act_compact.proofs.selection.select.Given as goal

abbrev pub invariant-loop-start : goal.invariant-loop-start
invariant-loop-start l = record {
  within : l.start ≤ length l.sizes;
  earlier : (at : ℕ) → at < l.start → are_too_few l.params l.sizes at || not (is_too_large l.params l.sizes at) ≡ false;
}

abbrev pub decreases-loop-start : goal.decreases-loop-start
decreases-loop-start l = length l.sizes - l.start
