use Rattle.std.proofs.Common.{arith, of_z, to_z}
use mir.Syntax.{w128}
use Rattle.std.proofs.lemmas.Int.{ints}
use Rattle.edit_plans.proofs.FillLemmas.{fit_as, misfit_in}
use Rattle.otio_model.specs.declared.edit_types.FillMode.TheVariants as M
use Rattle.edit_plans.proofs.gap_fill.fit_to.Goals as goal

pub returns-in-Err-clause-fault : goal.returns-in-Err-clause-fault
returns-in-Err-clause-fault c =
    misfit_in M.Fit c.args.item (to_z w128 (of_z w128 c.args.room)) c.args.room c.in-Err.fault
    (omega (arith, ints, c.ranges.room)) c.in-Err.ensures.fault

pub returns-in-Ok-made-clause-made : goal.returns-in-Ok-made-clause-made
returns-in-Ok-made-clause-made c =
    fit_as c.args.item c.in-Ok.fast c.in-Ok-made.made c.args.room
    (to_z w128 (of_z w128 c.args.room)) (to_z w128 (of_z w128 c.args.room))
    (to_z w128 (of_z w128 c.start_ticks-start.result)) c.args.rate c.in-Ok.ensures.right
    c.in-Ok.ensures.made (omega (arith, ints, c.ranges.room)) (omega (arith, ints, c.ranges.room))
    (omega (arith, ints, c.start_ticks-start.ensures.value)) c.in-Ok-made.ensures
