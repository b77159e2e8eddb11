use Rattle.std.proofs.Common.{arith, of_z, to_z, ◌∙◌}
use mir.Syntax.{w128}
use Rattle.std.proofs.lemmas.Int.{ints}
use Rattle.pieces.proofs.Results.{ok_then}
use Rattle.edit_plans.proofs.FillLemmas.{faults_both, misfit_still}
use Rattle.edit_plans.proofs.FitLemmas.{fault_fast, fault_still, fits_fast, made_fast}
use Rattle.edit_plans.proofs.gap_fill.fitted.Goals as goal

pub returns-then-speed-gt-MOST_SPEED-clause-fault :
    goal.returns-then-speed-gt-MOST_SPEED-clause-fault
returns-then-speed-gt-MOST_SPEED-clause-fault c =
    fault_fast c.args.item c.args.room (to_z w128 (of_z w128 c.ticks_of-ticks.result))
    (to_z w128 (of_z w128 c.args.room))
    c.fit_speed-speed.result (omega (arith, ints, c.ticks_of-ticks.ensures.value))
    (omega (arith, ints, c.ranges.room)) c.fit_speed-speed.ensures (omega arith)

pub returns-in-Ok-clause-made : goal.returns-in-Ok-clause-made
returns-in-Ok-clause-made c = ok_then c.moving.result c.moving.ensures.same (λ made e.
    e ∙ made_fast c.args.item c.in-Ok.fast c.args.room
    (to_z w128 (of_z w128 c.ticks_of-ticks.result)) (to_z w128 (of_z w128 c.args.room))
    c.fit_speed-speed.result (omega (arith, ints, c.ticks_of-ticks.ensures.value))
    (omega (arith, ints, c.ranges.room)) c.fit_speed-speed.ensures c.in-Ok.ensures)

pub returns-in-Ok-clause-right : goal.returns-in-Ok-clause-right
returns-in-Ok-clause-right c = ok_then c.moving.result c.moving.ensures.moves (λ made moves.
    fits_fast c.args.item c.in-Ok.fast c.args.room
    (to_z w128 (of_z w128 c.ticks_of-ticks.result)) (to_z w128 (of_z w128 c.args.room))
    c.fit_speed-speed.result c.requires.item
    (omega (arith, ints, c.ticks_of-ticks.ensures.value)) (omega (arith, ints, c.ranges.room))
    c.fit_speed-speed.ensures (omega arith) c.in-Ok.ensures moves)

pub returns-in-Ok-clause-fault : goal.returns-in-Ok-clause-fault
returns-in-Ok-clause-fault c =
    faults_both c.moving.result c.moving.ensures.speed c.moving.ensures.still (λ fault speed still.
    misfit_still c.args.item c.args.room fault speed
    (fault_still c.args.item c.in-Ok.fast c.args.room
    (to_z w128 (of_z w128 c.ticks_of-ticks.result)) (to_z w128 (of_z w128 c.args.room))
    c.fit_speed-speed.result c.requires.item
    (omega (arith, ints, c.ticks_of-ticks.ensures.value)) (omega (arith, ints, c.ranges.room))
    c.fit_speed-speed.ensures c.in-Ok.ensures still))
