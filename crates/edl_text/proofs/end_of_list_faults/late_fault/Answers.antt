use Rattle.std.proofs.Common.{sym, subst, MatchOption, Option}
use Rattle.edl_text.specs.declared.faults.EdlFault.{EdlFault}
use Rattle.edl_text.specs.Late.{AreFine, IsLateFault}
use Rattle.edl_text.proofs.Lateness.{late_is}
use Rattle.edl_text.proofs.end_of_list_faults.late_fault.Goals as goal

pub returns-clause-fine : goal.returns-clause-fine
returns-clause-fine c = λ read.
    subst (λ (o : Option EdlFault). MatchOption o (AreFine c.args.events.now) (IsLateFault c.args.events.now)) (sym c.late_of.ensures)
    (late_is c.args.events.now c.first_unequal.result c.in_ok-overlap.overlap read c.first_unequal.ensures (c.in_ok-overlap.ensures.overlap read))
