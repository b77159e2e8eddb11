use Rattle.std.proofs.Common.{arith, ap, ◌∙◌}
use Rattle.std.proofs.lemmas.List.{take_all}
use Rattle.flat_stack.specs.Inputs.{list_of, slots_of}
use Rattle.flat_stack.proofs.MostLemmas.{seat_known, seats_long}
use Rattle.flat_stack.proofs.OwnerLemmas.{owned_all, owned_first, owned_more}
use Rattle.flat_stack.proofs.owners.add_input.Goals as goal

pub seats-init : goal.seats-init
seats-init c = owned_first c.args.owners.now c.args.parts.now c.args.at c.requires.owners

pub seats-preserved : goal.seats-preserved
seats-preserved c =
    let part = c.part_at.result.now in
    let known = c.requires.parts c.args.at part c.part_at.ensures in
    let here = seat_known c.as_slice-seats.result.now (list_of part) c.seats.index c.seat_at.result
    known.plain (ap slots_of c.as_slice-seats.ensures.value ∙ known.seats) c.seat_at.ensures in
    owned_more c.seats.owners c.add_owner.new.owners c.args.parts.now c.args.at c.seats.index part
    c.seat_at.result c.seats.invariant c.part_at.ensures here c.in_ok-add_owner.ensures

pub returns : goal.returns
returns c =
    let part = c.part_at.result.now in
    let known = c.requires.parts c.args.at part c.part_at.ensures in
    let long = seats_long c.as_slice-seats.result.now (list_of part)
    (ap slots_of c.as_slice-seats.ensures.value ∙ known.seats) in
    owned_all c.seats.owners c.args.parts.now c.args.at c.seats.index part c.seats.invariant
    c.part_at.ensures (take_all c.seats.index (list_of part) (omega (arith, long)))
