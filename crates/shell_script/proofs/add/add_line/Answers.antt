use Rattle.shell_script.proofs.AddLemmas.{OnOk-line}
use Rattle.shell_script.proofs.add.add_line.Goals as goal

pub returns-else-blocks-clause-good : goal.returns-else-blocks-clause-good
returns-else-blocks-clause-good c =
    OnOk-line c.args.kinds.now c.args.blocks c.args.sessions.now.items c.args.line.now.1 c.add_asked.result c.if-blocks.false c.add_asked.ensures.good
