use Rattle.std.proofs.Common.{rules, arith}
use Rattle.std.proofs.lemmas.Grind.{common_steps}
use Rattle.manifest_writers.specs.Written.{file_of, file_bytes}
use Rattle.manifest_writers.proofs.Repeats.{bytes_repeated_of}
use Rattle.manifest_writers.proofs.file.family_message.Goals as goal

pub returns : goal.returns
returns c = rw (bytes_repeated_of file_bytes file_of 2 c.args.files.now) (first_of (search rules, grind (arith, common_steps)))
