use Rattle.std.proofs.Common.{rules, arith}
use Rattle.std.proofs.lemmas.Grind.{common_steps}
use Rattle.manifest_writers.specs.Written.{region_manifest_bytes}
use Rattle.manifest_writers.proofs.Repeats.{bytes_repeated}
use Rattle.manifest_writers.proofs.manifest.manifest_message.Goals as goal

pub returns : goal.returns
returns c = rw (bytes_repeated region_manifest_bytes 2 c.args.manifest.now.regions) (first_of (search rules, grind (arith, common_steps)))
