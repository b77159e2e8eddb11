use Rattle.std.proofs.Common.{arith, ◌∙◌}
use Rattle.otio_model.specs.Falls.{child_counts}
use Rattle.otio_model.proofs.LightLemmas.{clip_within}
use Rattle.coord.proofs.Clips.{clip_here, clip_nowhere}
use Rattle.coord.proofs.timing.+clip.Goals as goal

pub first_clip-child-requires : goal.first_clip-child-requires
first_clip-child-requires t c = record { there = clip_within c.in-Some.ensures.found }

pub first_clip-clip_in-requires : goal.first_clip-clip_in-requires
first_clip-clip_in-requires t c =
    let k = child_counts c.args.children.now c.in-Some.index c.child.result.now c.child.ensures in
    (omega (arith, k, c.decreases), tt)

pub first_clip-returns-in-Some : goal.first_clip-returns-in-Some
first_clip-returns-in-Some t c = c.clip_in.ensures
    ∙ clip_here c.args.children.now c.in-Some.index c.child.result.now c.child.ensures
    c.in-Some.ensures.found

pub first_clip-returns-in-None : goal.first_clip-returns-in-None
first_clip-returns-in-None t c = clip_nowhere c.args.children.now c.in-None.ensures.none
