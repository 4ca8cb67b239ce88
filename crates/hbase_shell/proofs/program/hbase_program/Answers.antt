use Rattle.std.proofs.Common.{◌≡◌, drop, ◌∙◌, ap}
use Rattle.hbase_shell.proofs.program.hbase_program.Goals as goal

pub returns-in-Ok-clause-run : goal.returns-in-Ok-clause-run
returns-in-Ok-clause-run g c =
    let words : c.behind_first-words.result.now ≡ drop 1 c.in-Ok.all.items = c.behind_first-words.ensures ∙ ap (drop 1) c.as_slice.ensures.value in
    rw (c.in-Ok.is, ← words) c.hbase.ensures.run
