use Rattle.edits_law.proofs.EditShown.{edit_shows}
use Rattle.edits_law.proofs.laws.accepted_edits_show.Goals as goal

pub returns : goal.returns
returns c = edit_shows
