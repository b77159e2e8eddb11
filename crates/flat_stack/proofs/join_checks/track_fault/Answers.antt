use Rattle.std.proofs.Common.{sym, ◌∙◌}
use Rattle.flat_stack.proofs.BlockLemmas.{not_plain_first}
use Rattle.flat_stack.proofs.join_checks.track_fault.Goals as goal

pub returns-then-not-is_plain-clause-some : goal.returns-then-not-is_plain-clause-some
returns-then-not-is_plain-clause-some c = rw c.nested.ensures
    (λ l e. not_plain_first c.args.is_first c.args.is_last l c.args.track c.args.item.now e (sym c.is_plain.ensures ∙ c.if-not-is_plain.true))
