use Rattle.std.proofs.Common.{◌≡◌, ◌∙◌}
use Rattle.std.proofs.lemmas.List.{append_assoc}
use Rattle.hbase_shell.proofs.run_error.BadLine.new.Goals as goal

pub returns-clause-text : goal.returns-clause-text
returns-clause-text c = simp append_assoc (c.in_ok-text-2.ensures ∙ c.as_bytes.ensures.value ∙ c.in_ok-text.ensures.ok)
