use Rattle.std.proofs.Common.{◌≡◌, ◌≤◌, ℕ, List, count_by, take}
use Rattle.shell_script.specs.Block.{is_block}
use Rattle.shell_script.proofs.block.count_blocks.Given as goal

-- the block lines so far were counted
abbrev pub invariant-loop-line : goal.invariant-loop-line
invariant-loop-line l = record {
  counted : l.count ≡ count_by (λ (line : ℕ × List ℕ). is_block line.1) (take l.line-index l.lines);
  few : l.count ≤ l.line-index;
}
