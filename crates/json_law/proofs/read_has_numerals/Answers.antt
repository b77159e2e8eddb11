use Rattle.json_law.proofs.UpgradedNumerals.{read_numerals, upgraded_numerals}
use Rattle.json_law.proofs.read_has_numerals.Goals as goal

pub returns : goal.returns
returns c = record { read = read_numerals; upgraded = upgraded_numerals }
