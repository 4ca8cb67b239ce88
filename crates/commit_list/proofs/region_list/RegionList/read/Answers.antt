use Rattle.std.proofs.Common.{codes}
use Rattle.commit_line.proofs.NumberedLemmas.{IfErr-numbered}
use Rattle.commit_list.specs.RegionList.{IsListFile}
use Rattle.commit_list.proofs.ListLemmas.{GivesList-from, number_only-list, number_told-list}
use Rattle.commit_list.proofs.region_list.RegionList.read.Goals as goal

pub returns-in_err-check_number-clause-only : goal.returns-in_err-check_number-clause-only
returns-in_err-check_number-clause-only c list ok e same =
    absurd (number_only-list c.args.bytes.now c.args.number list ok e same c.in_err-check_number.ensures.0)

pub returns-clause-number : goal.returns-clause-number
returns-clause-number c =
    number_told-list c.args.bytes.now c.args.number c.all_of_list.result c.in_ok-check_number.ensures c.all_of_list.ensures.found

pub returns-clause-only : goal.returns-clause-only
returns-clause-only c list ok e same =
    GivesList-from c.args.bytes.now c.all_of_list.result c.all_of_list.ensures.found c.all_of_list.ensures.fault list ok e

pub returns-clause-fault : goal.returns-clause-fault
returns-clause-fault c =
    IfErr-numbered (codes "list ") IsListFile c.args.number c.args.bytes.now c.all_of_list.result c.in_ok-check_number.ensures c.all_of_list.ensures.fault
