-- To the root child.
use Rattle.std.proofs.Common.{arith, sym}
use Rattle.coord.proofs.JudgingLemmas.{sound_child}
use Rattle.otio_model.specs.Falls.{child_counts}
use Rattle.edit_plans.proofs.descent.down.Goals as goal

pub down_in-requires-clause-few : goal.down_in-requires-clause-few
down_in-requires-clause-few c =
    omega (
      arith,
      c.requires.few,
      child_counts c.args.timeline.now.tracks.children
          c.in-Some.first c.in-Some-item.item.now (sym c.in-Some-item.ensures),
    )

pub down_in-requires-clause-sound : goal.down_in-requires-clause-sound
down_in-requires-clause-sound c =
    sound_child c.args.timeline.now.tracks.children c.in-Some.first c.in-Some-item.item.now
    (sym c.in-Some-item.ensures) c.requires.sound.items
