use Rattle.json_law.proofs.UpgradedTwice.{read_stays}
use Rattle.json_law.proofs.upgraded_stays.Goals as goal

pub returns : goal.returns
returns c = read_stays
