use Rattle.flat_law.proofs.Fit.{joined}
use Rattle.flat_law.proofs.Covered.{covered}
use Rattle.flat_law.proofs.laws.joined_shows.Goals as goal

pub returns : goal.returns
returns c = record { tracks = covered; shows = joined }
