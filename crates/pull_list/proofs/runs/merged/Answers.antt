use Rattle.std.proofs.Common.{sym, subst, ◌∙◌}
use Rattle.pull_list.specs.Runs.{Each, IsWithin}
use Rattle.pull_list.proofs.runs.merged.Goals as goal

pub returns-in-Some-clause-within : goal.returns-in-Some-clause-within
returns-in-Some-clause-within c = λ n h.
    let same = sym c.as_slice-2.ensures.value ∙ c.in-Some.ensures.cases.0 in
    c.merged_from.ensures.within n
    (subst (Each (IsWithin n)) same (c.sorted-runs.ensures.within n h))
