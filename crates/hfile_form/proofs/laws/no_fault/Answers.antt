use Rattle.hfile_form.proofs.FileLaws.{no_fault}
use Rattle.hfile_form.proofs.laws.no_fault.Goals as goal

pub returns : goal.returns
returns c = λ bytes fault cells is wrong. no_fault bytes cells fault is wrong
