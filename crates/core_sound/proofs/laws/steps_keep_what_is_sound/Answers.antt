use Rattle.core_sound.proofs.Bare.{bare_sound}
use Rattle.core_sound.proofs.Journals.{sound_replay}
use Rattle.core_sound.proofs.Kept.{sound_kept}
use Rattle.core_sound.proofs.laws.steps_keep_what_is_sound.Goals as goal

pub returns-clause-steps : goal.returns-clause-steps
returns-clause-steps c = sound_kept

pub returns-clause-journals : goal.returns-clause-journals
returns-clause-journals c = λ o es k h a. sound_replay o es h a k

pub returns-clause-bare : goal.returns-clause-bare
returns-clause-bare c = bare_sound
