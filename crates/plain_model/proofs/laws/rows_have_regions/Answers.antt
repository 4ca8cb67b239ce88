use Rattle.plain_model.proofs.PlainLaws.{has_one_region, splits_rows}
use Rattle.plain_model.proofs.laws.rows_have_regions.Goals as goal

pub returns-clause-one : goal.returns-clause-one
returns-clause-one c = has_one_region

pub returns-clause-split : goal.returns-clause-split
returns-clause-split c = splits_rows
