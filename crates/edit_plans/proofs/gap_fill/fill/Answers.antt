use Rattle.std.proofs.Common.{arith, of_z, to_z}
use mir.Syntax.{w128}
use Rattle.std.proofs.lemmas.Int.{ints}
use Rattle.otio_model.specs.declared.edit_types.FillMode.TheVariants as M
use Rattle.pieces.proofs.Results.{ok_then, err_then}
use Rattle.edit_plans.proofs.FillLemmas.{filling_as, misfit_as, source_as}
use Rattle.edit_plans.proofs.gap_fill.fill.Goals as goal

pub returns-in-Source-clause-made : goal.returns-in-Source-clause-made
returns-in-Source-clause-made c = source_as c.args.mode c.args.item c.args.room c.args.rate
    c.in-Source.is

pub returns-in-Sequence-clause-made : goal.returns-in-Sequence-clause-made
returns-in-Sequence-clause-made c = ok_then c.cut_to.result c.cut_to.ensures.made (λ piece h.
    filling_as c.args.mode M.Sequence c.args.item piece (to_z w128 (of_z w128 c.args.room))
    c.args.room c.args.rate c.in-Sequence.is (omega (arith, ints, c.ranges.room)) h)

pub returns-in-Sequence-clause-fault : goal.returns-in-Sequence-clause-fault
returns-in-Sequence-clause-fault c = err_then c.cut_to.result c.cut_to.ensures.fault (λ fault h.
    misfit_as c.args.mode M.Sequence c.args.item (to_z w128 (of_z w128 c.args.room)) c.args.room
    fault c.in-Sequence.is (omega (arith, ints, c.ranges.room)) h)

pub returns-in-Fit-clause-made : goal.returns-in-Fit-clause-made
returns-in-Fit-clause-made c = ok_then c.fit_to.result c.fit_to.ensures.made (λ fast h.
    filling_as c.args.mode M.Fit c.args.item fast (to_z w128 (of_z w128 c.args.room)) c.args.room
    c.args.rate c.in-Fit.is (omega (arith, ints, c.ranges.room)) h)

pub returns-in-Fit-clause-fault : goal.returns-in-Fit-clause-fault
returns-in-Fit-clause-fault c = err_then c.fit_to.result c.fit_to.ensures.fault (λ fault h.
    misfit_as c.args.mode M.Fit c.args.item (to_z w128 (of_z w128 c.args.room)) c.args.room fault
    c.in-Fit.is (omega (arith, ints, c.ranges.room)) h)
