use Rattle.std.proofs.Common.{arith}
use Rattle.show_prog.proofs.FrameCounts.{frames_few}
use Rattle.show_prog.proofs.frame_range.frames_of.Goals as goal

pub returns-clause-few : goal.returns-clause-few
returns-clause-few c =
    frames_few c.args.length c.args.ticks _ c.requires (omega arith) c.div_ceil.ensures
