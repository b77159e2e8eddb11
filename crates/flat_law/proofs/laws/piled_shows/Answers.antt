use Rattle.flat_law.proofs.Piled.{piled}
use Rattle.flat_law.proofs.laws.piled_shows.Goals as goal

pub returns : goal.returns
returns c = piled
