use Rattle.core_contents.proofs.Bare.{bare_faithful}
use Rattle.core_contents.proofs.Journals.{faithful_replay}
use Rattle.core_contents.proofs.Kept.{faithful_kept}
use Rattle.core_contents.proofs.LawFacts.{cells_after}
use Rattle.core_contents.proofs.laws.steps_keep_contents.Goals as goal

pub returns-clause-steps : goal.returns-clause-steps
returns-clause-steps c = faithful_kept

pub returns-clause-journals : goal.returns-clause-journals
returns-clause-journals c = λ o es k h f a. faithful_replay o es h f a k

pub returns-clause-bare : goal.returns-clause-bare
returns-clause-bare c = bare_faithful

pub returns-clause-cells : goal.returns-clause-cells
returns-clause-cells c = cells_after
