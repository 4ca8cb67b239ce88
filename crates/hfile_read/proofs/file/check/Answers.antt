use Rattle.hfile_form.proofs.FileLaws.{GivesCells-answer}
use Rattle.hfile_read.proofs.file.check.Goals as goal

pub returns-clause-only : goal.returns-clause-only
returns-clause-only c = GivesCells-answer c.args.bytes.now c.read_file.result c.read_file.ensures
