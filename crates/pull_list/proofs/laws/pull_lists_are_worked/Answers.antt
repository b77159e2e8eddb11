use Rattle.pull_list.proofs.WorkedLines.{pull_lines-are_worked}
use Rattle.pull_list.proofs.laws.pull_lists_are_worked.Goals as goal

pub returns : goal.returns
returns c = pull_lines-are_worked
