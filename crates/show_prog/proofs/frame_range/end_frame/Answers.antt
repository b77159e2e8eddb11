use Rattle.std.proofs.Common.{◌∙◌, ap₂, pos, ◌+ℤ◌, arith, rules, subst, sym, FitsSigned}
use Rattle.std.specs.Int.{w128}
use Rattle.std.proofs.lemmas.Int.{ints, to_z-of_z}
use Rattle.show_prog.proofs.Starts.{IsNear, start_near}
use Rattle.show_prog.proofs.frame_range.end_frame.Goals as goal

pub frames_after-requires-clause-low : goal.frames_after-requires-clause-low
frames_after-requires-clause-low c =
    let near = subst IsNear (sym c.start_frame.ensures) (start_near c.args.timeline.now) in
    omega (arith, ints, near.low, near.high)

pub frames_after-requires-clause-high : goal.frames_after-requires-clause-high
frames_after-requires-clause-high c =
    let near = subst IsNear (sym c.start_frame.ensures) (start_near c.args.timeline.now) in
    omega (arith, ints, near.low, near.high)

pub returns-clause-value : goal.returns-clause-value
returns-clause-value c =
    let fits : FitsSigned w128 c.start_frame.result = search rules in
    let wide : FitsSigned w128 c.frames_after.result = search rules in
    let sum = simp to_z-of_z at c.frames_after.ensures in
    simp to_z-of_z (sum ∙ ap₂ (λ first more. first +ℤ pos more) c.start_frame.ensures
    c.whole_frames.ensures.value)

pub returns-clause-low : goal.returns-clause-low
returns-clause-low c =
    let near = subst IsNear (sym c.start_frame.ensures) (start_near c.args.timeline.now) in
    let sum = c.frames_after.ensures in
    omega (arith, ints, near.low, near.high, sum)

pub returns-clause-high : goal.returns-clause-high
returns-clause-high c =
    let near = subst IsNear (sym c.start_frame.ensures) (start_near c.args.timeline.now) in
    let sum = c.frames_after.ensures in
    omega (arith, ints, near.low, near.high, sum, c.whole_frames.ensures.few)
