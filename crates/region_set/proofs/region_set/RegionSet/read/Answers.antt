use Rattle.std.proofs.Common.{codes}
use Rattle.commit_line.proofs.NumberedLemmas.{IfErr-numbered}
use Rattle.region_set.specs.RegionSet.{IsSetFile}
use Rattle.region_set.proofs.SetLemmas.{GivesSet-from, number_only-set, number_told-set}
use Rattle.region_set.proofs.region_set.RegionSet.read.Goals as goal

pub returns-in_err-check_number-clause-only : goal.returns-in_err-check_number-clause-only
returns-in_err-check_number-clause-only c set ok e same =
    absurd (number_only-set c.args.table.now c.args.bytes.now c.args.number set ok e same c.in_err-check_number.ensures.0)

pub returns-clause-number : goal.returns-clause-number
returns-clause-number c =
    number_told-set c.args.table.now c.args.bytes.now c.args.number c.set_of.result c.in_ok-check_number.ensures c.set_of.ensures.found

pub returns-clause-only : goal.returns-clause-only
returns-clause-only c set ok e same =
    GivesSet-from c.args.table.now c.args.bytes.now c.set_of.result c.set_of.ensures.found c.set_of.ensures.fault set ok e

pub returns-clause-fault : goal.returns-clause-fault
returns-clause-fault c =
    IfErr-numbered (codes "set ") (IsSetFile c.args.table.now) c.args.number c.args.bytes.now c.set_of.result c.in_ok-check_number.ensures c.set_of.ensures.fault
