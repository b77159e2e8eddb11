use Rattle.command_words.proofs.Asking.{ask_once}
use Rattle.command_words.proofs.requests.one_request.Goals as goal

pub returns : goal.returns
returns c = ask_once
