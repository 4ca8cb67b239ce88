use Rattle.std.proofs.Common.{◌≡◌, drop}
use Rattle.wire_fields.specs.Message.{later}
use Rattle.snapshot_records.specs.Schema.{latest}
use Rattle.manifest_messages.proofs.schema.latest.Given as goal

abbrev pub invariant-loop-count : goal.invariant-loop-count
invariant-loop-count l = later l.last (latest (drop l.count-index l.counts)) ≡ latest l.counts
