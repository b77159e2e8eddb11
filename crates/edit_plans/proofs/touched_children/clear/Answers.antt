use Rattle.std.proofs.Common.{arith, to_z, of_z}
use mir.Syntax.{w128}
use Rattle.std.proofs.lemmas.Int.{ints}
use Rattle.edit_plans.proofs.Clearing.{clear_all, clear_seat, is_beyond}
use Rattle.edit_plans.proofs.touched_children.clear.Goals as goal

pub returns-in-Some : goal.returns-in-Some
returns-in-Some c =
    let past = is_beyond (to_z w128 (of_z w128 c.args.from))
    (to_z w128 (of_z w128 c.reach-reach.result)) c.if-from-reach.false in
    let reach = c.reach-reach.ensures.value in
    let short = c.reach-reach.ensures.high in
    let starts = c.in-Some.ensures.found.starts in
    let after = c.in-Some.ensures.found.not_before in
    clear_seat c.args.children.now _ c.args.from _ c.in-Some.seat c.in-Some.ensures.found
    (omega (arith, ints, c.ranges.from, past, reach, short))
    (omega (arith, ints, c.ranges.from, past, reach, short, starts, after))

pub returns-in-None : goal.returns-in-None
returns-in-None c =
    let past = is_beyond (to_z w128 (of_z w128 c.args.from))
    (to_z w128 (of_z w128 c.reach-reach.result)) c.if-from-reach.false in
    let reach = c.reach-reach.ensures.value in
    let short = c.reach-reach.ensures.high in
    clear_all c.args.children.now _ c.args.from _ c.len.result c.in-None.ensures.none
    (omega (arith, ints, c.ranges.from, past, reach, short))
    (omega (arith, ints, c.ranges.from, past, reach, short)) c.len.ensures
    (omega (
      arith,
      ints,
      c.added_ticks.ensures,
      c.in-None.ensures.none (omega (arith, ints, c.ranges.from, past, reach, short)),
      c.ranges.from,
      past,
      reach,
      short,
    ))
