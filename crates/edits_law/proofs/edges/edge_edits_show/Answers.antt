use Rattle.edits_law.proofs.EdgeLaws.{ripple_shows}
use Rattle.edits_law.proofs.SlideLaw.{slide_shows, slip_shows}
use Rattle.edits_law.proofs.RollLaws.{roll_shows}
use Rattle.edits_law.proofs.TrimLaw.{trim_shows}
use Rattle.edits_law.proofs.edges.edge_edits_show.Goals as goal

pub returns : goal.returns
returns c = record { slip = slip_shows; slide = slide_shows; ripple = ripple_shows; trim = trim_shows; roll = roll_shows }
