use Rattle.commit_list.proofs.ListLemmas.{GivesList-from}
use Rattle.commit_list.proofs.region_list.RegionList.decode.Goals as goal

pub returns-clause-only : goal.returns-clause-only
returns-clause-only c = GivesList-from c.args.bytes.now c.all_of_list.result c.all_of_list.ensures.found c.all_of_list.ensures.fault
