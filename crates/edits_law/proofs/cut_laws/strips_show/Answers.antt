use Rattle.edits_law.proofs.Outside.{strip_shows}
use Rattle.edits_law.proofs.Pieces.{strip_looks}
use Rattle.edits_law.proofs.cut_laws.strips_show.Goals as goal

pub returns : goal.returns
returns c = record { looks = strip_looks; outside = strip_shows }
