use Rattle.print_laws.proofs.AnswerLemmas.{answer_told, answers_told}
use Rattle.print_laws.proofs.laws.answers_are_told.Goals as goal

pub returns-clause-all : goal.returns-clause-all
returns-clause-all c = answers_told

pub returns-clause-one : goal.returns-clause-one
returns-clause-one c = answer_told
