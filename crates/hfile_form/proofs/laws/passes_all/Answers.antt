use Rattle.hfile_form.proofs.FileLaws.{found_file, passes_file}
use Rattle.hfile_form.proofs.laws.passes_all.Goals as goal

pub returns : goal.returns
returns c = λ bytes cells fits. (λ passes. found_file bytes cells fits passes, λ is. passes_file bytes cells is)
