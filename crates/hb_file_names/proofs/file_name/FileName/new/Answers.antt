use Rattle.std.proofs.Common.{sym, subst}
use Rattle.hb_file_names.specs.FileName.{IsFileName}
use Rattle.hb_file_names.proofs.FileLemmas.{IsFileName-file_text}
use Rattle.hb_file_names.proofs.file_name.FileName.new.Goals as goal

pub invariant_of-result : goal.invariant_of-result
invariant_of-result c = subst IsFileName (sym c.in_ok-text.ensures) (IsFileName-file_text c.args.parts c.requires)
