use Rattle.std.proofs.Common.{sym, subst, ap, ◌∙◌}
use Rattle.std.specs.Option.{option_copied}
use Rattle.std.specs.Prelude.{All}
use Rattle.edl_frames.specs.Refused.{first_fault}
use Rattle.edl_law.specs.Fits.{FitsEvent}
use Rattle.edl_law.proofs.EventRanges.{all_fit}
use Rattle.edl_conform.proofs.LoopSteps.{list_fault}
use Rattle.edl_conform.proofs.conforming.conform.Goals as goal

pub first_fault-requires : goal.first_fault-requires
first_fault-requires c =
    subst (All (FitsEvent c.args.list.now.rate)) (sym c.as_slice.ensures)
    (all_fit c.args.list.now c.requires.formed)

pub returns-in-Some-clause-refused : goal.returns-in-Some-clause-refused
returns-in-Some-clause-refused c =
    let list = c.args.list.now in
    let media = option_copied c.args.media in
    list_fault list media c.in-Some.fault
    (ap (first_fault list.rate media) (sym c.as_slice.ensures) ∙ sym c.first_fault.ensures
    ∙ c.in-Some.is)
