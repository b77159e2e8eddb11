use Rattle.command_words.proofs.Drilling.{drill_once}
use Rattle.command_words.proofs.requests.one_drill.Goals as goal

pub returns : goal.returns
returns c = drill_once
