use Rattle.edits_law.proofs.SoundEdits.{made_short}
use Rattle.edits_law.proofs.sound_laws.made_items_are_short.Goals as goal

pub returns : goal.returns
returns c = made_short
