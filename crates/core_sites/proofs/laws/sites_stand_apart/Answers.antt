use Rattle.core_sites.proofs.Nested.{nested}
use Rattle.core_sites.proofs.Regular.{regular_apart, spelled_regular}
use Rattle.core_sites.proofs.laws.sites_stand_apart.Goals as goal

pub returns-clause-regular : goal.returns-clause-regular
returns-clause-regular c = spelled_regular

pub returns-clause-apart : goal.returns-clause-apart
returns-clause-apart c = regular_apart

pub returns-clause-nested : goal.returns-clause-nested
returns-clause-nested c = nested
