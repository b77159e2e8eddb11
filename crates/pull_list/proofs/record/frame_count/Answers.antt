use Rattle.std.proofs.Common.{◌≡◌, ◌∙◌, ◌+◌, arith}
use Rattle.otio_model.specs.Falls.{child_counts}
use Rattle.pull_list.proofs.Recording.{frames_all, frames_fit, frames_next, frames_from}
use Rattle.pull_list.proofs.record.frame_count.Goals as goal

pub frames_of-sum-requires-clause-few : goal.frames_of-sum-requires-clause-few
frames_of-sum-requires-clause-few c =
    let fewer = child_counts c.args.timeline.now.tracks.children c.children.index c.child.result.now
    c.child.ensures in omega (arith, fewer, c.requires)

pub children-init : goal.children-init
children-init c =
    let a = frames_all c.frame_ticks-ticks.result c.args.timeline.now.tracks.children in
    omega (arith, a)

pub overflow_add-sum : goal.overflow_add-sum
overflow_add-sum c =
    let l = c.args.timeline.now.tracks.children in let ticks = c.frame_ticks-ticks.result in
    let a = c.children.invariant in
    let b = frames_next ticks l c.children.index c.child.result.now c.child.ensures in
    let d = frames_fit ticks l c.requires in let e = c.frames_of-sum.ensures in
    omega (arith, a, b, d, e)

pub children-preserved : goal.children-preserved
children-preserved c =
    let l = c.args.timeline.now.tracks.children in let ticks = c.frame_ticks-ticks.result in
    let a = c.children.invariant in
    let b = frames_next ticks l c.children.index c.child.result.now c.child.ensures in
    let e = c.frames_of-sum.ensures in
    let f : c.children.sum + c.frames_of-sum.result + frames_from ticks l (c.children.index + 1)
    ≡ c.children.sum + frames_from ticks l c.children.index = omega (arith, b, e) in
    f ∙ a
