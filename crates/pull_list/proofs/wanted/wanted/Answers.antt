use Rattle.std.proofs.Common.{sym, subst}
use Rattle.pull_list.specs.Runs.{Each, IsWithin, far}
use Rattle.pull_list.proofs.Nearness.{further_each}
use Rattle.pull_list.proofs.wanted.wanted.Goals as goal

pub returns-then-handles-eq0-clause-within : goal.returns-then-handles-eq0-clause-within
returns-then-handles-eq0-clause-within c =
    further_each c.in_ok-used.used.items (c.in_ok-used.ensures.within far c.requires.within)

pub with_handles-requires-clause-within : goal.with_handles-requires-clause-within
with_handles-requires-clause-within c =
    subst (Each (IsWithin far)) (sym c.as_slice.ensures.value)
    (c.in_ok-used.ensures.within far c.requires.within)
