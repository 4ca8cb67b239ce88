use Rattle.manifest_writers.specs.Writable.{IsWritableFamily}
use Rattle.manifest_writers.proofs.Repeats.{All-take_more}
use Rattle.manifest_writers.proofs.schema.are_writable_families.Goals as goal

pub loop-family-preserved : goal.loop-family-preserved
loop-family-preserved c =
    All-take_more IsWritableFamily c.args.families.now c.loop-family.family-index c.family-item.result c.loop-family-test.true c.family-item.is c.loop-family.invariant (c.is_writable_family.ensures.0 c.if-not-is_writable_family.false)
