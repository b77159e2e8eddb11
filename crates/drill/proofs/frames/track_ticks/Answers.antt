use Rattle.std.proofs.Common.{sym}
use Rattle.coord.proofs.Members.{child_few}
use Rattle.drill.proofs.frames.track_ticks.Goals as goal

pub length_or_zero-requires : goal.length_or_zero-requires
length_or_zero-requires c = record {
  few =
      child_few c.args.timeline.now.tracks.children 0 c.in-Some.item.now (sym c.in-Some.ensures)
      c.requires.few;
}
