use Rattle.wire_fields.proofs.Messages.{only_split}
use Rattle.wire_fields.proofs.message.split_fields.Goals as goal

pub returns-clause-only : goal.returns-clause-only
returns-clause-only c = only_split c.args.bytes.now c.all_fields.result c.all_fields.ensures
