use Rattle.hfile_form.proofs.FileLaws.{GivesCells-answer}
use Rattle.hfile_form.proofs.laws.right_answers.Goals as goal

pub returns : goal.returns
returns c = GivesCells-answer
