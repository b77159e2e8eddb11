use Rattle.edit_plans.proofs.Shown.{shows_through}
use Rattle.edit_plans.proofs.laws.edits_are_shown.Goals as goal

pub returns : goal.returns
returns c = shows_through
