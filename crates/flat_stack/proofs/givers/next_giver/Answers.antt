use Rattle.std.proofs.Common.{arith, sym, subst, length, ap, ◌∙◌}
use Rattle.std.specs.List.Sorted.{IsNonDecreasing}
use Rattle.coord.specs.Programs.{kind_of}
use Rattle.flat_stack.specs.Givers.{first_from, is_long, owns}
use Rattle.flat_stack.specs.Inputs.{slot_of}
use Rattle.flat_stack.proofs.GiverLemmas.{first_low, passed, places_rise}
use Rattle.flat_stack.proofs.givers.next_giver.Goals as goal

pub place_from-own-requires : goal.place_from-own-requires
place_from-own-requires c =
    let parts = c.args.givers.now.parts.now in
    let kind = kind_of c.args.seat.first.now in
    subst IsNonDecreasing
    (sym (c.owning.ensures ∙ c.requires.givers.owners kind c.args.seat.index))
    (places_rise (owns kind c.args.seat.index) 0 parts)

pub place_from-long-requires : goal.place_from-long-requires
place_from-long-requires c =
    subst IsNonDecreasing (sym (c.as_slice.ensures.value ∙ c.requires.givers.longs))
    (places_rise is_long 0 c.args.givers.now.parts.now)

pub returns-clause-low : goal.returns-clause-low
returns-clause-low c =
    let at = c.args.at in
    let all = length c.args.givers.now.parts.now in
    let own = first_low at all c.owning.result.now c.requires.there in
    let long = first_low at all c.as_slice.result.now c.requires.there in
    omega (arith, own, long, c.place_from-own.ensures, c.place_from-long.ensures, c.min.ensures)

pub returns-clause-same : goal.returns-clause-same
returns-clause-same c =
    let at = c.args.at in
    let all = length c.args.givers.now.parts.now in
    let parts = c.args.givers.now.parts.now in
    let kind = kind_of c.args.seat.first.now in
    let own = first_low at all c.owning.result.now c.requires.there in
    let long = first_low at all c.as_slice.result.now c.requires.there in
    passed (slot_of c.args.seat) parts at c.place_from-own.result c.place_from-long.result c.min.result
    (omega (arith, own, long, c.place_from-own.ensures, c.place_from-long.ensures, c.min.ensures))
    (omega (arith, c.min.ensures)) (omega (arith, c.min.ensures))
    (c.place_from-own.ensures
    ∙ ap (first_from at all) (c.owning.ensures ∙ c.requires.givers.owners kind c.args.seat.index))
    (c.place_from-long.ensures
    ∙ ap (first_from at all) (c.as_slice.ensures.value ∙ c.requires.givers.longs))
