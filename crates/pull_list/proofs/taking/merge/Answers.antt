use Rattle.std.proofs.Common.{sym, subst}
use Rattle.pull_list.specs.Runs.{Each, IsWithin}
use Rattle.pull_list.proofs.Nearness.{apart_runs}
use Rattle.pull_list.proofs.taking.merge.Goals as goal

pub returns-clause-runs : goal.returns-clause-runs
returns-clause-runs c = apart_runs c.in_ok-runs.field-0.items c.in_ok-runs.ensures.apart

pub returns-clause-within : goal.returns-clause-within
returns-clause-within c = λ n h. c.in_ok-runs.ensures.within n
    (subst (λ x. Each (IsWithin n) x.items) (sym c.replace-all.ensures.value) h)
