use Rattle.command_words.specs.Given.{given_by}
use Rattle.command_words.proofs.Drilling.{no_drill}
use Rattle.command_words.proofs.requests.task_in.Goals as goal

pub returns-in-Drill : goal.returns-in-Drill
returns-in-Drill c = no_drill c.args.verb (given_by c.args.line) c.in-Drill.is c.in-None.ensures
