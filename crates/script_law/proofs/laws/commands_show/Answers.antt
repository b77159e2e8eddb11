use Rattle.script_law.proofs.Steps.{commands_follow}
use Rattle.script_law.proofs.laws.commands_show.Goals as goal

pub returns : goal.returns
returns c = commands_follow
