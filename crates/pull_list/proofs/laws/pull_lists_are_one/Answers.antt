use Rattle.pull_list.proofs.OnePullList.{one_pull_list}
use Rattle.pull_list.proofs.SpareLemmas.{pull_list_bare, too_many_bare}
use Rattle.pull_list.proofs.laws.pull_lists_are_one.Goals as goal

pub returns-clause-list : goal.returns-clause-list
returns-clause-list c = one_pull_list

pub returns-clause-spare : goal.returns-clause-spare
returns-clause-spare c = pull_list_bare

pub returns-clause-many : goal.returns-clause-many
returns-clause-many c = too_many_bare
