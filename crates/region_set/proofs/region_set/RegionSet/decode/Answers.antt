use Rattle.region_set.proofs.SetLemmas.{GivesSet-from}
use Rattle.region_set.proofs.region_set.RegionSet.decode.Goals as goal

pub returns-clause-only : goal.returns-clause-only
returns-clause-only c = GivesSet-from c.args.table.now c.args.bytes.now c.set_of.result c.set_of.ensures.found c.set_of.ensures.fault
