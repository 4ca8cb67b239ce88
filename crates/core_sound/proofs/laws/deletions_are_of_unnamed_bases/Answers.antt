use Rattle.core_sound.proofs.Deleted.{deleted_unnamed}
use Rattle.core_sound.proofs.laws.deletions_are_of_unnamed_bases.Goals as goal

pub returns : goal.returns
returns c = λ actor b s a h. deleted_unnamed s actor.0 b a h
