use Rattle.world_steps.proofs.NamesTaken.{has_key-Member}
use Rattle.world_steps.proofs.taken.has_key.Goals as goal

pub returns : goal.returns
returns c = has_key-Member c.contains.result c.args.keys.now c.args.key.now c.contains.ensures.value
