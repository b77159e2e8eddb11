use Rattle.std.proofs.Common.{rules}
use Rattle.std.proofs.lemmas.List.Sorted.{answers_always}
use Rattle.pull_list.specs.Runs.{IsRun, IsWithin}
use Rattle.pull_list.proofs.RunLists.{same_each, same_has}
use Rattle.pull_list.proofs.RunOrder.{sorted_stand}
use Rattle.pull_list.proofs.runs.sorted.Goals as goal

pub returns-clause-sorted : goal.returns-clause-sorted
returns-clause-sorted c =
    sorted_stand _
    (c.sort_unstable_by_key.ensures.sorted (λ r. (r.group, r.first))
    (answers_always _ _ _ (λ f a r g h. search rules)))

pub returns-clause-has : goal.returns-clause-has
returns-clause-has c =
    same_has c.args.runs.items c.sort_unstable_by_key.new.self.items
    c.sort_unstable_by_key.ensures.permutation

pub returns-clause-runs : goal.returns-clause-runs
returns-clause-runs c = λ h.
    same_each IsRun c.args.runs.items c.sort_unstable_by_key.new.self.items
    c.sort_unstable_by_key.ensures.permutation h

pub returns-clause-within : goal.returns-clause-within
returns-clause-within c = λ n h.
    same_each (IsWithin n) c.args.runs.items c.sort_unstable_by_key.new.self.items
    c.sort_unstable_by_key.ensures.permutation h
