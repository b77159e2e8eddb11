use Rattle.flat_law.proofs.Straight.{straight_shows}
use Rattle.flat_law.proofs.laws.straight_shows.Goals as goal

pub returns : goal.returns
returns c = straight_shows
