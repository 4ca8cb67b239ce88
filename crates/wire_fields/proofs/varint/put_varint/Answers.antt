use Rattle.std.proofs.Common.{refl}
use Rattle.wire_fields.specs.Varint.{varint}
use Rattle.wire_fields.proofs.Varints.{IsPut-none, IsPut-set}
use Rattle.wire_fields.proofs.varint.put_varint.Goals as goal

pub loop-rest-init : goal.loop-rest-init
loop-rest-init c = IsPut-none _ c.args.value refl c.ranges.value.fits

pub loop-rest-preserved : goal.loop-rest-preserved
loop-rest-preserved c = IsPut-set c.loop-rest.len c.loop-rest.rest c.loop-rest.bytes (varint c.args.value) c.loop-rest-test.true c.loop-rest.invariant
