use Rattle.manifest_writers.specs.Writable.{IsWritableRegionManifest}
use Rattle.manifest_writers.proofs.Repeats.{All-take_more}
use Rattle.manifest_writers.proofs.manifest.are_writable_regions.Goals as goal

pub loop-region-preserved : goal.loop-region-preserved
loop-region-preserved c =
    All-take_more IsWritableRegionManifest c.args.regions.now c.loop-region.region-index c.region-item.result c.loop-region-test.true c.region-item.is c.loop-region.invariant (c.is_writable_region_manifest.ensures.0 c.if-not-is_writable_region_manifest.false)
