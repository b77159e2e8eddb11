use Rattle.edits_law.proofs.SoundEdits.{stays_sound}
use Rattle.edits_law.proofs.sound_laws.edits_stay_sound.Goals as goal

pub returns : goal.returns
returns c = stays_sound
