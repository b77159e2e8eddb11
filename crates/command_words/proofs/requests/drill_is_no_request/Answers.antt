use Rattle.command_words.proofs.Drilling.{not_both}
use Rattle.command_words.proofs.requests.drill_is_no_request.Goals as goal

pub returns : goal.returns
returns c = not_both
