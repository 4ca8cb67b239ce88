-- In a world each state is sound.
use Rattle.std.proofs.Common.{◌≡◌, List}
use Rattle.std.specs.FinMap.{keys}
use Rattle.core_model.specs.declared.journal.JournalEntry.{JournalEntry}
use Rattle.core_model.specs.declared.opening.Opening.{Opening}
use Rattle.core_model.specs.Replay.{begun, replay}
use Rattle.core_model.specs.Sound.{IsSoundState}
use Rattle.core_sound.proofs.Journals.{few-begun, sound-begun, sound_from}
use Rattle.world_steps.specs.World.{IsWorld}
use Rattle.world_steps.proofs.NamesAlike.{keys-alike}

pub sound_in : {told : _} (o : Opening) (es : List JournalEntry) → IsWorld told o es → IsSoundState (replay o es)
unfolding replay
sound_in o es w = sound_from 0 es (begun o) (few-begun o) w.lawful.allowed (sound-begun o w.opened.sound)

-- the names of the core's snapshots are those of the plain state
pub names-plain : {told : _} (o : Opening) (es : List JournalEntry) → IsWorld told o es → keys (replay o es).now.snapshots ≡ keys (replay o es).now.plain.snapshots
names-plain o es w = keys-alike (replay o es).now.snapshots (replay o es).now.plain.snapshots (sound_in o es w).now.alike.at
