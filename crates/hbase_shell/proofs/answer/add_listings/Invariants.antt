use Rattle.std.proofs.Common.{◌≡◌, ◌++◌, take}
use Rattle.std.specs.List.{flat_map}
use Rattle.shell_script.specs.declared.session.NumberedJob.{NumberedJob}
use Rattle.hbase_shell.proofs.answer.add_listings.Given as goal

-- the listing stands for each line so far
abbrev pub invariant-loop-line : goal.invariant-loop-line
invariant-loop-line l = l.text ≡ l.fn.text ++ flat_map (λ (line : NumberedJob). l.listing) (take l.line-index l.lines)
