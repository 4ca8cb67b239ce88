use Rattle.manifest_messages.proofs.Rising.{Rising-none}
use Rattle.manifest_messages.proofs.families.FamiliesFields.start.Goals as goal

pub returns : goal.returns
returns c = rw c.new.ensures Rising-none
