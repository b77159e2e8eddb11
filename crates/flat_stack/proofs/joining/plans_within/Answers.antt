use Rattle.std.proofs.Common.{sym, subst, ap, ◌∙◌}
use Rattle.flat_stack.specs.Inputs.{AreParts, slots_of}
use Rattle.flat_stack.proofs.JoinLemmas.{all_kept, within_none}
use Rattle.flat_stack.proofs.PortionLemmas.{plans_join}
use Rattle.flat_stack.proofs.joining.plans_within.Goals as goal

pub all_seats-requires : goal.all_seats-requires
all_seats-requires c = record { parts = c.in-Ok-givers_of.ensures.givers.parts }

pub givers_of-requires : goal.givers_of-requires
givers_of-requires c = subst AreParts (sym c.as_slice.ensures.value) c.in-Ok.ensures.parts

pub returns-then-not-are_few : goal.returns-then-not-are_few
returns-then-not-are_few c =
    let parts = c.in-Ok-givers_of.givers.parts.now in
    let seats = slots_of c.as_slice-seats.result.now in
    within_none c.args.inputs.now c.input_at-first.result.now c.flat_rate-rate.result parts seats c.args.most
    (all_kept c.args.inputs.now c.input_at-first.result.now c.flat_rate-rate.result parts c.in-Ok.kept.items seats
    c.requires.free c.input_at-first.ensures c.flat_rate-rate.ensures c.in-Ok-givers_of.ensures.givers.parts
    (c.in-Ok-givers_of.ensures.parts ∙ c.as_slice.ensures.value) c.in-Ok.ensures.inputs c.in-Ok.ensures.stretched
    (ap slots_of c.as_slice-seats.ensures.value ∙ c.in-Ok-all_seats.ensures))
    (c.are_few.ensures.many c.if-not-are_few.true)

pub returns-in-Ok-planned_tracks : goal.returns-in-Ok-planned_tracks
returns-in-Ok-planned_tracks c = λ r planned.
    let parts = c.in-Ok-givers_of.givers.parts.now in
    let seats = slots_of c.as_slice-seats.result.now in
    plans_join c.args.inputs.now c.input_at-first.result.now c.flat_rate-rate.result parts seats
    c.in-Ok-planned_tracks.plans.items c.args.most r
    (all_kept c.args.inputs.now c.input_at-first.result.now c.flat_rate-rate.result parts c.in-Ok.kept.items seats
    c.requires.free c.input_at-first.ensures c.flat_rate-rate.ensures c.in-Ok-givers_of.ensures.givers.parts
    (c.in-Ok-givers_of.ensures.parts ∙ c.as_slice.ensures.value) c.in-Ok.ensures.inputs c.in-Ok.ensures.stretched
    (ap slots_of c.as_slice-seats.ensures.value ∙ c.in-Ok-all_seats.ensures))
    c.in-Ok-planned_tracks.ensures (c.are_few.ensures.few c.if-not-are_few.false) planned
