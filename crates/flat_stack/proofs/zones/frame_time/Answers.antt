use Rattle.std.proofs.Common.{arith, FitsSigned}
use mir.Syntax.{w64}
use Rattle.std.proofs.lemmas.Int.{to_z-of_z, ints}
use Rattle.flat_stack.proofs.ZoneLemmas.{far_frame, early_frame, frame_out}
use Rattle.flat_stack.proofs.zones.frame_time.Goals as goal

pub returns-then-number-gt1000000000000000000-clause-none : goal.returns-then-number-gt1000000000000000000-clause-none
returns-then-number-gt1000000000000000000-clause-none c = far_frame c.args.number c.args.rate (omega (arith, ints))

pub returns-then-number-ltminus1000000000000000000-clause-none : goal.returns-then-number-ltminus1000000000000000000-clause-none
returns-then-number-ltminus1000000000000000000-clause-none c = early_frame c.args.number c.args.rate (omega (arith, ints))

pub returns-in-Ok-clause-ticks : goal.returns-in-Ok-clause-ticks
returns-in-Ok-clause-ticks c =
    let fits = c.ranges.number in
    let narrow : FitsSigned w64 c.args.number = omega (arith, ints) in
    simp to_z-of_z at c.in-Ok.ensures.ticks

pub returns-in-Err-clause-none : goal.returns-in-Err-clause-none
returns-in-Err-clause-none c =
    let fits = c.ranges.number in
    let narrow : FitsSigned w64 c.args.number = omega (arith, ints) in
    let fault = simp to_z-of_z at c.in-Err.ensures.fault in
    frame_out c.args.number c.args.rate fault.1
