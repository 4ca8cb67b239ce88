use Rattle.std.proofs.Common.{rules, arith}
use Rattle.std.proofs.lemmas.Grind.{common_steps}
use Rattle.manifest_writers.specs.Written.{family_schema_bytes}
use Rattle.manifest_writers.proofs.Repeats.{bytes_repeated}
use Rattle.manifest_writers.proofs.schema.schema_message.Goals as goal

pub returns : goal.returns
returns c = rw (bytes_repeated family_schema_bytes 3 c.args.schema.now.families) (first_of (search rules, grind (arith, common_steps)))
